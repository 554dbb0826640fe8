-- What is promised of the tuples: of a disjunct that is the question's literals under a substitution, they tell what the substitution has for each
-- variable at its first use, and the next disjunct begins after it. Proved in proofs/Promises.
use Rattle.std.specs.Prelude.{false, cond, List, [], ◌∷◌, ◌++◌, map, ◌≡◌, ℕ, suc, eqb}
use Rattle.table.specs.Syntax.{Term, var, app, Terms, nil, ◌then◌, Literal, unders}
use Rattle.table.specs.Encode.{term_words, literals_words}
use Rattle.table.specs.Limits.{LiteralWithin, Each}
use Rattle.tuples.specs.Tuples.{values_in, after_in}

-- the uses of variables, in order
unfoldable mutual
  pub uses_of : Term ℕ → List ℕ
  uses_of (var x) = x ∷ []
  uses_of (app f ts) = uses_in ts

  pub uses_in : Terms ℕ → List ℕ
  uses_in nil = []
  uses_in (t then ts) = uses_of t ++ uses_in ts

unfoldable pub uses_all : List (Literal ℕ) → List ℕ
uses_all [] = []
uses_all (l ∷ ls) = uses_in l.arguments ++ uses_all ls

-- the first uses among them, where so many variables are known: variables are numbered by first use, so the next has that number
unfoldable pub first_ones : ℕ → List ℕ → List ℕ
first_ones count [] = []
first_ones count (x ∷ xs) = cond (eqb x count) (x ∷ first_ones (suc count) xs) (first_ones count xs)

-- a disjunct: the question's literals, asserted, under a substitution
unfoldable pub disjunct_of : (ℕ → Term ℕ) → List (Literal ℕ) → List (Literal ℕ)
disjunct_of σ [] = []
disjunct_of σ (l ∷ ls) = record { negative = false; predicate = l.predicate; arguments = unders σ l.arguments } ∷ disjunct_of σ ls

unfoldable pub TuplesTell : Type 0
TuplesTell =
    (ls : List (Literal ℕ)) (σ : ℕ → Term ℕ) (rest : List ℕ) → Each (LiteralWithin 1024) ls → Each (LiteralWithin 1024) (disjunct_of σ ls)
    → values_in (literals_words ls) 0 (literals_words (disjunct_of σ ls) ++ rest) ≡ map (λ (x : ℕ). term_words (σ x)) (first_ones 0 (uses_all ls))

unfoldable pub NextBegins : Type 0
NextBegins =
    (ls : List (Literal ℕ)) (σ : ℕ → Term ℕ) (rest : List ℕ) → Each (LiteralWithin 1024) ls → Each (LiteralWithin 1024) (disjunct_of σ ls)
    → after_in (literals_words ls) (literals_words (disjunct_of σ ls) ++ rest) ≡ rest
