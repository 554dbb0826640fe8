-- Permitted texts (document 02, order 1), what they say, and what can become one.
use Rattle.std.specs.Prelude.{Result, Ok, Err, ◌≡◌, Bool, true, ◌&&◌, List, [], ◌∷◌, ◌++◌, ℕ, ◌+◌, ◌≤◌, ◌<◌, ltb, length, take}
use Rattle.clausetext.specs.declared.judge.Counts.{Counts}
use Rattle.clausetext.specs.Syntax.{Clause, question}
use Rattle.clausetext.specs.Tokens.{Token, Spelt}
use Rattle.clausetext.specs.Grammar.{Clauses}

-- a text says clauses: its tokens are those of the clauses
pub record Says (text : List ℕ) (cs : List Clause) : Type 0 where
  pub tokens : List Token
  pub spelt : Spelt tokens text
  pub clauses : Clauses cs tokens

pub record Permitted (text : List ℕ) : Type 0 where
  pub said : List Clause
  pub says : Says text said

-- some permitted text begins so
pub record CanGoOn (begun : List ℕ) : Type 0 where
  pub further : List ℕ
  pub permitted : Permitted (begun ++ further)

-- numbers that are bytes
unfoldable pub all_bytes : List ℕ → Bool
all_bytes [] = true
all_bytes (c ∷ text) = ltb c 256 && all_bytes text

-- the place of a wrong text: the first byte after which no permitted text can go on, or the text's length where it stops short
pub record WrongAt (text : List ℕ) (place : ℕ) : Type 0 where
  pub within : place ≤ length text
  pub begun : CanGoOn (take place text)
  pub first : place < length text → CanGoOn (take (place + 1) text) → ⊥
  pub short : place ≡ length text → Permitted text → ⊥

-- the questions of a text: its clauses with the role negated_conjecture
unfoldable pub questions : List Clause → ℕ
questions [] = 0
questions (c ∷ cs) = question c.role + questions cs

-- The numbers of clauses and of questions in a permitted text, or the place where another is wrong.
abbrev pub Verdict : Type 0
Verdict = Result Counts ℕ

abbrev pub counts : ℕ → ℕ → Verdict
counts clauses questions = Ok (record { clauses = clauses; questions = questions })

-- The verdict on a text: a text over 65,536 bytes is wrong at 65,536; any other is wrong at its place, or it is permitted and has so many clauses and questions.
pub data Verdicts (text : List ℕ) : Verdict → Type 0 where
  long : 65536 < length text → Verdicts text (Err 65536)
  wrong : {place : ℕ} → length text ≤ 65536 → WrongAt text place → Verdicts text (Err place)
  fine : {cs : List Clause} → length text ≤ 65536 → Says text cs → Verdicts text (counts (length cs) (questions cs))
