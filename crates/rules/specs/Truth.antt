-- Truth (document 01, "Tableau rules"): a domain of n ≥ 1 elements, a table for each function and predicate (number with arity).
use Rattle.std.specs.Prelude.{Bool, true, false, not, ◌&&◌, ◌||◌, cond, List, [], ◌∷◌, ◌≡◌, ℕ, ◌<◌}
use Rattle.table.specs.Syntax.{Term, var, app, Terms, nil, ◌then◌, Literal, Clause}
use Rattle.rules.specs.Answer.{disjuncts_in, Reads}

-- The elements are the numbers below n. A table takes the values of a symbol's arguments, as many as its arity.
pub record Interpretation : Type 0 where
  pub size : ℕ
  pub function : ℕ → List ℕ → ℕ
  pub predicate : ℕ → List ℕ → Bool
  pub not_empty : 0 < size
  pub within : (f : ℕ) (values : List ℕ) → function f values < size

-- an assignment gives each variable an element
pub record Assignment (I : Interpretation) (X : Type 0) : Type 0 where
  pub element : X → ℕ
  pub within : (x : X) → element x < I.size

-- the question has negative literals only: it denies G1 and … and Gn
unfoldable pub AllNegative : {X : Type 0} → List (Literal X) → Type 0
AllNegative [] = Unit {0}
AllNegative (l ∷ ls) = (l.negative ≡ true) × AllNegative ls

module _ (I : Interpretation) where
  unfoldable mutual
    pub value : {X : Type 0} → (X → ℕ) → Term X → ℕ
    value a (var x) = a x
    value a (app f ts) = I.function f (values a ts)

    pub values : {X : Type 0} → (X → ℕ) → Terms X → List ℕ
    values a nil = []
    values a (t then ts) = value a t ∷ values a ts

  -- an atom is true where its predicate's table says so, a negative literal where its atom is not
  unfoldable pub atom_true : {X : Type 0} → (X → ℕ) → Literal X → Bool
  atom_true a l = I.predicate l.predicate (values a l.arguments)

  unfoldable pub literal_true : {X : Type 0} → (X → ℕ) → Literal X → Bool
  literal_true a l = cond l.negative (not (atom_true a l)) (atom_true a l)

  unfoldable pub some_true : {X : Type 0} → (X → ℕ) → List (Literal X) → Bool
  some_true a [] = false
  some_true a (l ∷ ls) = literal_true a l || some_true a ls

  unfoldable pub all_true : {X : Type 0} → (X → ℕ) → List (Literal X) → Bool
  all_true a [] = true
  all_true a (l ∷ ls) = atom_true a l && all_true a ls

  unfoldable pub some_all_true : {X : Type 0} → (X → ℕ) → List (List (Literal X)) → Bool
  some_all_true a [] = false
  some_all_true a (d ∷ ds) = all_true a d || some_all_true a ds

  -- a clause holds if under every assignment some literal is true
  unfoldable pub Holds : Clause → Type 0
  Holds c = (a : Assignment I ℕ) → some_true a.element c.literals ≡ true

  unfoldable pub AllHold : List Clause → Type 0
  AllHold [] = Unit {0}
  AllHold (c ∷ cs) = Holds c × AllHold cs

  -- an answer holds if under every assignment some disjunct has all its atoms true
  unfoldable pub AnswerHolds : {X : Type 0} → List (List (Literal X)) → Type 0
  AnswerHolds {X} ds = (a : Assignment I X) → some_all_true a.element ds ≡ true

-- An answer's words are true: what is read in them, so many disjuncts with as many literals each as the question, holds.
pub record TrueAnswer (I : Interpretation) (question : Clause) (count : ℕ) (words : List ℕ) : Type 0 where
  pub read : Reads question words count (disjuncts_in question words)
  pub holds : AnswerHolds I (disjuncts_in question words)
