-- What a question file says (document 01, "Words of the question file"): terms, literals, clauses, and a table whose last clause is the question.
use Rattle.std.specs.Prelude.{Bool, List, [], ◌∷◌, ◌++◌, ℕ, zero, suc}

-- A term over variables of X is a variable, or a function or constant with its arguments, each of them a term.
mutual
  pub data Term (X : Type 0) : Type 0 where
    var : X → Term X
    app : ℕ → Terms X → Term X

  pub data Terms (X : Type 0) : Type 0 where
    nil : Terms X
    ◌then◌ : Term X → Terms X → Terms X

infixr 50 ◌then◌
-- Number and arity together name a symbol; the arity is the number of arguments.
unfoldable pub arity : {X : Type 0} → Terms X → ℕ
arity nil = zero
arity (t then ts) = suc (arity ts)

-- A literal is an atom, a predicate with its arguments, and a sign.
pub record Literal (X : Type 0) : Type 0 where
  pub negative : Bool
  pub predicate : ℕ
  pub arguments : Terms X

-- A clause has literals over variables 0, 1, … below its variable count. It may be marked as restricted (document 02, order 8).
pub record Clause : Type 0 where
  pub restricted : Bool
  pub variables : ℕ
  pub literals : List (Literal ℕ)

-- The last clause is the question.
pub record Table : Type 0 where
  pub clauses : List Clause
  pub question : Clause

-- all clauses in the order of their numbers
unfoldable pub all_clauses : Table → List Clause
all_clauses t = t.clauses ++ (t.question ∷ [])

-- A term under a substitution: every variable is replaced by its term.
unfoldable mutual
  pub under : {X Y : Type 0} → (X → Term Y) → Term X → Term Y
  under σ (var x) = σ x
  under σ (app f ts) = app f (unders σ ts)

  pub unders : {X Y : Type 0} → (X → Term Y) → Terms X → Terms Y
  unders σ nil = nil
  unders σ (t then ts) = under σ t then unders σ ts

-- A literal under a substitution.
unfoldable pub literal_under : {X Y : Type 0} → (X → Term Y) → Literal X → Literal Y
literal_under σ l = record { negative = l.negative; predicate = l.predicate; arguments = unders σ l.arguments }
