-- Document 01's limits on a table, and a body that is read without refusal.
use Rattle.std.specs.Prelude.{true, false, List, [], ◌∷◌, ◌≡◌, ℕ, ◌+◌, ◌^◌, ◌≤◌, ◌<◌, length}
use Rattle.std.proofs.Math.Option.{none}
use Rattle.table.specs.Syntax.{Term, var, app, Terms, nil, ◌then◌, arity, Literal, Clause, Table, all_clauses}
use Rattle.table.specs.Encode.{literals_words, body_words}
use Rattle.table.specs.Body.{body_fault, starts}

-- in a clause each variable number is below its variable count; a symbol has 12 bits and arity 0–4
unfoldable mutual
  pub TermWithin : Term ℕ → ℕ → Type 0
  TermWithin (var x) variables = x < variables
  TermWithin (app f ts) variables = (f < 2 ^ 12) × (arity ts ≤ 4) × TermsWithin ts variables

  pub TermsWithin : Terms ℕ → ℕ → Type 0
  TermsWithin nil variables = Unit {0}
  TermsWithin (t then ts) variables = TermWithin t variables × TermsWithin ts variables

pub record LiteralWithin (variables : ℕ) (l : Literal ℕ) : Type 0 where
  pub predicate : l.predicate < 2 ^ 12
  pub arity : arity l.arguments ≤ 4
  pub arguments : TermsWithin l.arguments variables

-- what holds of every member of a list
unfoldable pub Each : {A : Type 0} → (A → Type 0) → List A → Type 0
Each P [] = Unit {0}
Each P (x ∷ xs) = P x × Each P xs

-- literal count 1–7, variable count 0–16, at most 255 words that follow (there is one at least, since there is a literal)
pub record ClauseWithin (c : Clause) : Type 0 where
  pub some : 1 ≤ length c.literals
  pub few : length c.literals ≤ 7
  pub variables : c.variables ≤ 16
  pub follow : length (literals_words c.literals) ≤ 255
  pub literals : Each (LiteralWithin c.variables) c.literals

-- at most 512 clauses (there is one at least, the question)
pub record Within (t : Table) : Type 0 where
  pub few : length (all_clauses t) ≤ 512
  pub clauses : Each ClauseWithin (all_clauses t)

-- a table that a file can hold: within the limits, all literals of the question negative, the question not restricted, at most 16,000 words with
-- the trailer
pub record FileWithin (t : Table) : Type 0 where
  pub table : Within t
  pub question : Each (λ l. l.negative ≡ true) t.question.literals
  pub unmarked : t.question.restricted ≡ false
  pub short : length (body_words t) + 4 ≤ 16000

-- words have 32 bits
abbrev pub Words : List ℕ → Type 0
Words ws = Each (λ w. w < 2 ^ 32) ws

-- a body of 1 to 512 clauses in which no word is malformed
pub record Readable (body : List ℕ) : Type 0 where
  pub sound : body_fault 0 0 body ≡ none
  pub some : 1 ≤ length (starts 0 0 body)
  pub few : length (starts 0 0 body) ≤ 512
