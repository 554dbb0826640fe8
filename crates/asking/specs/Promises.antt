-- What is promised of the program's text. Nothing is proved here; proofs/Fitting and proofs/Disjuncts prove it.
use Rattle.std.specs.Prelude.{List, ◌++◌, map, ◌≡◌, ℕ, ◌≤◌, length}
use Rattle.table.specs.Encode.{literals_words}
use Rattle.table.specs.File.{table_in}
use Rattle.table.specs.Syntax.{Literal}
use Rattle.rules.specs.Answer.{disjuncts_in}
use Rattle.text.specs.Quoted.{bytes}
use Rattle.asking.specs.Report.{summary_text, line_text, lines_of}
use Rattle.asking.specs.Program.{asked, given_text, ask_text}

-- The text always fits a buffer of 65,536 bytes.
abbrev pub TextFits : Type 0
TextFits = (input : List ℕ) → length (ask_text input) ≤ 65536

-- the disjuncts of the answer that was found
abbrev pub disjuncts_found : List ℕ → ℕ → ℕ → List (List (Literal ℕ))
disjuncts_found file bound budget = disjuncts_in (table_in file).question (asked file bound budget).answer

-- After the steps comes a line for each disjunct of the answer, with the words of that disjunct, and nothing else.
abbrev pub LinesAreDisjuncts : Type 0
LinesAreDisjuncts =
    (file : List ℕ) (bound budget : ℕ) → (asked file bound budget).outcome.status ≡ 0
    → given_text (asked file bound budget)
    ≡ summary_text 0 0 (asked file bound budget).outcome.tries
    ++ (line_text (bytes "proof") (asked file bound budget).proof ++ lines_of (map literals_words (disjuncts_found file bound budget)))

-- There are as many as the outcome counts.
abbrev pub AsManyLines : Type 0
AsManyLines =
    (file : List ℕ) (bound budget : ℕ) → (asked file bound budget).outcome.status ≡ 0
    → length (disjuncts_found file bound budget) ≡ (asked file bound budget).outcome.disjuncts
