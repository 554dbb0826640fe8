-- A text cut after each `.` outside comments, so that a clause is read alone whatever stands in the others; and a text without its questions.
use Rattle.std.specs.Prelude.{Bool, true, false, not, cond, List, [], ◌∷◌, ◌++◌, ℕ, suc, eqb}
use Rattle.clausetext.specs.Judging.{start}
use Rattle.clausetext.specs.Stuck.{stuck_in}

-- A byte of a clause: `%` begins a comment, the end of the line ends it, and `.` ends the clause.
abbrev pub by_byte : {A : Type 0} → Bool → ℕ → A → (Bool → A) → A
by_byte true c over more = more (not (eqb c 10))
by_byte false c over more = cond (eqb c 46) over (more (eqb c 37))

-- how many bytes the first clause has; the flag says whether they begin within a comment
unfoldable pub clause_length : Bool → List ℕ → ℕ
clause_length remark [] = 0
clause_length remark (c ∷ text) = by_byte remark c 1 (λ b. suc (clause_length b text))

abbrev pub onto : ℕ → List (List ℕ) → List (List ℕ)
onto c [] = (c ∷ []) ∷ []
onto c (p ∷ ps) = (c ∷ p) ∷ ps

-- all clauses, each with the blanks and comments before it; what stands after the last is one more
unfoldable pub clauses_from : Bool → List ℕ → List (List ℕ)
clauses_from remark [] = []
clauses_from remark (c ∷ text) = by_byte remark c ((c ∷ []) ∷ clauses_from false text) (λ b. onto c (clauses_from b text))

-- a clause that is no question
unfoldable pub stated_part : List ℕ → List ℕ
stated_part clause = cond (eqb (stuck_in start clause).questions 0) clause []

unfoldable pub all_stated : List (List ℕ) → List ℕ
all_stated [] = []
all_stated (clause ∷ clauses) = stated_part clause ++ all_stated clauses

abbrev pub stated_text : List ℕ → List ℕ
stated_text text = all_stated (clauses_from false text)
