-- Reading a clause from left to right (document 01, "Words of the question file" and "What comes back"): the place of its first fault, if there is one.
-- A place is counted from the clause's own word.
use Rattle.std.specs.Prelude.{Bool, cond, ◌&&◌, List, [], ◌∷◌, ℕ, zero, suc, ◌+◌, leb, ltb, length, take}
use Rattle.std.proofs.Math.Option.{Option, none, some}
use Rattle.words.specs.Fields.{number_of, arity_of, literals_of, variables_of, following_of, variable_shaped, function_shaped, literal_shaped, clause_shaped}

-- What a clause still owes at a word: so many literals after the present one, and so many terms before them.
pub record Owed : Type 0 where
  pub literals : ℕ
  pub terms : ℕ

-- in a clause each variable number is below its variable count
abbrev pub variable_fits : ℕ → ℕ → Bool
variable_fits variables w = variable_shaped w && ltb (number_of w) variables

-- a term is its word and then its arguments, each of them a term: the number of arguments of a term's word, none for any other word
unfoldable pub term_arity : ℕ → ℕ → Option ℕ
term_arity variables w = cond (variable_fits variables w) (some 0) (cond (function_shaped w) (some (arity_of w)) none)

-- what is owed after a term's word; after a literal's word; none after a wrong word
unfoldable pub after_term : ℕ → ℕ → Option ℕ → Option Owed
after_term literals terms none = none
after_term literals terms (some arity) = some (record { literals = literals; terms = arity + terms })

unfoldable pub after_literal : ℕ → ℕ → Option Owed
after_literal literals w = cond (literal_shaped w) (some (record { literals = literals; terms = arity_of w })) none

-- a term's word where terms are owed, else a literal's word where literals are; where nothing is owed, every word is left over
unfoldable pub after : ℕ → ℕ → ℕ → ℕ → Option Owed
after variables literals (suc terms) w = after_term literals terms (term_arity variables w)
after variables (suc literals) zero w = after_literal literals w
after variables zero zero w = none

-- the clause stops before its last literal is complete
unfoldable pub stops_short : ℕ → ℕ → ℕ → Option ℕ
stops_short literals (suc terms) place = some place
stops_short (suc literals) zero place = some place
stops_short zero zero place = none

unfoldable pub onward : Option Owed → ℕ → (ℕ → ℕ → Option ℕ) → Option ℕ
onward none place further = some place
onward (some owed) place further = further owed.literals owed.terms

-- The first fault from a place on, where so many literals and terms are owed: the first wrong word, the word just after, the first word left over.
unfoldable pub fault : ℕ → ℕ → ℕ → ℕ → List ℕ → Option ℕ
fault variables literals terms place [] = stops_short literals terms place
fault variables literals terms place (w ∷ ws) =
    onward (after variables literals terms w) place (λ l t. fault variables l t (place + 1) ws)

-- the clause's own word: its kind, its fields, its length (under 1, or past the body)
abbrev pub clause_fits : ℕ → List ℕ → Bool
clause_fits w ws = clause_shaped w && leb (following_of w) (length ws)

-- A clause is judged from the part of the body that starts at its own word: that word, then the words after it in the body.
unfoldable pub clause_fault : ℕ → List ℕ → Option ℕ
clause_fault w ws =
    cond (clause_fits w ws) (fault (variables_of w) (literals_of w) 0 1 (take (following_of w) ws)) (some 0)
