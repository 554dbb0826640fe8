-- The lines that `ask` writes (document 01, "The program").
use Rattle.std.specs.Prelude.{Bool, true, false, cond, List, [], ◌∷◌, ◌++◌, ℕ, zero, suc, ◌/◌, eqb, take, drop}
use Rattle.words.specs.Fields.{kind_of}
use Rattle.text.specs.Quoted.{bytes}
use Rattle.text.specs.Digits.{decimal_text, spaced_text}

-- line 1 is decimal
unfoldable pub summary_text : ℕ → ℕ → ℕ → List ℕ
summary_text status place tries =
    bytes "status " ++ decimal_text status ++ (bytes " place " ++ decimal_text place) ++ (bytes " tries " ++ decimal_text tries) ++ bytes "\n"

-- a line of words after a name, each in 8 upper-case hex digits; every line ends in a line feed
unfoldable pub line_text : List ℕ → List ℕ → List ℕ
line_text name ws = name ++ spaced_text ws ++ bytes "\n"

abbrev pub is_literal : ℕ → Bool
is_literal w = eqb (kind_of w) 2

abbrev pub counting : Bool → ℕ → ℕ
counting true n = suc n
counting false n = n

unfoldable pub literals_in : List ℕ → ℕ
literals_in [] = 0
literals_in (w ∷ ws) = counting (is_literal w) (literals_in ws)

-- a disjunct ends before the literal that comes after so many literals, or where the words end
abbrev pub passing : Bool → ℕ → (ℕ → ℕ) → ℕ
passing false literals rest = suc (rest literals)
passing true zero rest = 0
passing true (suc literals) rest = suc (rest literals)

unfoldable pub disjunct_length : List ℕ → ℕ → ℕ
disjunct_length [] literals = 0
disjunct_length (w ∷ ws) literals = passing (is_literal w) literals (disjunct_length ws)

-- so many disjuncts, every one of so many literals
unfoldable pub cut_into : ℕ → ℕ → List ℕ → List (List ℕ)
cut_into zero literals ws = []
cut_into (suc count) literals ws = take (disjunct_length ws literals) ws ∷ cut_into count literals (drop (disjunct_length ws literals) ws)

-- a line per disjunct
abbrev pub disjunct_text : List ℕ → List ℕ
disjunct_text ws = line_text (bytes "or") ws

unfoldable pub lines_of : List (List ℕ) → List ℕ
lines_of [] = []
lines_of (d ∷ ds) = disjunct_text d ++ lines_of ds

unfoldable pub disjuncts_text : ℕ → ℕ → List ℕ → List ℕ
disjuncts_text count literals ws = lines_of (cut_into count literals ws)

-- then the steps; then the disjuncts, which have as many literals each
unfoldable pub answer_text : ℕ → List ℕ → List ℕ → List ℕ
answer_text disjuncts steps ws = line_text (bytes "proof") steps ++ disjuncts_text disjuncts (literals_in ws / disjuncts) ws

-- without an answer only line 1 appears
unfoldable pub report_text : ℕ → ℕ → ℕ → ℕ → List ℕ → List ℕ → List ℕ
report_text status place tries disjuncts steps ws =
    summary_text status place tries ++ cond (eqb status 0) (answer_text disjuncts steps ws) []
