-- Limits judged by the items of a text in memory: machinery.
use Rattle.std.specs.Prelude.{Bool, cond, List, [], ◌∷◌, ◌≡◌, ℕ, ◌+◌, ◌*◌, ◌/◌, ◌%◌, ◌^◌, ◌<◌, max, ltb, length, get_or, Option, Some, None}
use Rattle.clausetext.specs.Syntax.{Literal, Clause}
use Rattle.clausetext.specs.Texts.{Says}
use Rattle.names.specs.Numbers.{first_uses}
use Rattle.names.specs.Noting.{names_at, uses_of}
use Rattle.naming.specs.Clauses.{names_of}
use Rattle.tptp.specs.Sketch.{literals_items, clauses_items}
use Rattle.tptp.specs.Shapes.{sort_kind}
use Rattle.tptp.specs.Memory.{items_of}
use Rattle.tptp.specs.Body.{part}
use Rattle.limits.specs.declared.find.Limit.{Limit}
use Rattle.limits.specs.declared.find.Passed.{Passed}
use Rattle.limits.specs.Over.{own_limit, shared_limit, or_else, first_over}

-- the most parts of marks
unfoldable pub most_in : List ℕ → ℕ
most_in [] = 0
most_in (m ∷ ms) = max (m / 8) (most_in ms)

-- words that have only a kind, that of their mark
unfoldable pub kind_words : List ℕ → List ℕ
kind_words [] = []
kind_words (m ∷ ms) = sort_kind (m % 8) * 2 ^ 30 ∷ kind_words ms

-- more different names of a kind than a limit
abbrev pub more_than : List ℕ → List ℕ → List ℕ → ℕ → ℕ → Bool
more_than text marks places kind limit = ltb limit (length (first_uses (uses_of kind (kind_words marks) (names_at text places))))

-- the limits of a clause by its mark and the items after it, and those of clauses by their items
pub record OwnLimit (text : List ℕ) (clause : ℕ) (marks places : List ℕ) (r : Option Limit) : Type 0 where
  pub is : (ls : List Literal) → items_of text marks places ≡ literals_items ls → clause / 8 ≡ length ls → r ≡ own_limit ls

pub record SharedLimit (text marks places : List ℕ) (clauses : ℕ) (r : Option Limit) : Type 0 where
  pub is : (cs : List Clause) → items_of text marks places ≡ clauses_items cs → clauses ≡ length cs → r ≡ shared_limit cs

pub record LimitAt (text marks places : List ℕ) (at end clauses : ℕ) (r : Option Limit) : Type 0 where
  pub is : (ls : List Literal) (cs : List Clause) → items_of text (part (at + 1) end marks) (part (at + 1) end places) ≡ literals_items ls
      → get_or marks at 0 / 8 ≡ length ls → items_of text (part 0 end marks) (part 0 end places) ≡ clauses_items cs → clauses ≡ length cs
      → r ≡ or_else (own_limit ls) (shared_limit cs)

abbrev pub passed_by : Limit → Bool → ℕ → ℕ → Passed
passed_by limit question stated asked = record { limit = limit; asked = question; number = cond question asked stated }

-- a limit that a text passes; the clause is a question or not, and the so-many-th of its sort
pub record Found (text : List ℕ) (p : Passed) : Type 0 where
  pub limit : (cs : List Clause) → Says text cs → (first_over [] cs).limit ≡ Some p.limit
  pub name : (cs : List Clause) → Says text cs → get_or (names_of p.asked cs) p.number [] ≡ (first_over [] cs).name
  pub there : (cs : List Clause) → Says text cs → p.number < length (names_of p.asked cs)
  pub few : p.number < 65536

-- the limit that a text passes, or that it passes none
abbrev pub Finds : List ℕ → Option Passed → Type 0
Finds text None = (cs : List Clause) → Says text cs → (first_over [] cs).limit ≡ None
Finds text (Some p) = Found text p
