-- The same table in another order: of the clauses before the question, and of the literals within each clause.
use Rattle.std.specs.Prelude.{List, [], ◌∷◌, ◌≡◌}
use Rattle.table.specs.Syntax.{Clause, Table}

-- the same elements in another order, where R says which elements are the same
pub data Reordered {A : Type 0} (R : A → A → Type 0) : List A → List A → Type 0 where
  empty : Reordered R [] []
  next : {x y : A} {xs ys : List A} → R x y → Reordered R xs ys → Reordered R (x ∷ xs) (y ∷ ys)
  swapped : {x y : A} {xs : List A} → Reordered R (x ∷ y ∷ xs) (y ∷ x ∷ xs)
  in_turn : {xs ys zs : List A} → Reordered R xs ys → Reordered R ys zs → Reordered R xs zs

pub record SameClause (c d : Clause) : Type 0 where
  pub variables : c.variables ≡ d.variables
  pub literals : Reordered ◌≡◌ c.literals d.literals

pub record SameTable (t u : Table) : Type 0 where
  pub clauses : Reordered SameClause t.clauses u.clauses
  pub question : SameClause t.question u.question
