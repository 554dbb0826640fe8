-- Substitutions, and what it means that pairs of terms are made equal (document 01, "Tableau rules").
use Rattle.std.specs.Prelude.{eqb, Bool, ◌&&◌, List, [], ◌∷◌, ◌≡◌, ℕ}
use Rattle.table.specs.Syntax.{Term, under}

-- A variable of a tableau is a variable of one copy of a clause. Copies have fresh variables: no two copies share one.
pub record Variable : Type 0 where
  pub copy : ℕ
  pub number : ℕ

abbrev pub same_variable : Variable → Variable → Bool
same_variable x y = eqb x.copy y.copy && eqb x.number y.number

-- a substitution gives each variable a finite term
abbrev pub Substitution : Type 0
Substitution = Variable → Term Variable

-- two terms that are to be made equal
pub record Pair : Type 0 where
  pub left : Term Variable
  pub right : Term Variable

-- one substitution makes all pairs equal
unfoldable pub Solves : Substitution → List Pair → Type 0
Solves σ [] = Unit {0}
Solves σ (p ∷ ps) = (under σ p.left ≡ under σ p.right) × Solves σ ps

pub record Unifiable (ps : List Pair) : Type 0 where
  pub by : Substitution
  pub solves : Solves by ps

-- a solution of which every other solution is an instance
pub record MostGeneral (σ : Substitution) (ps : List Pair) : Type 0 where
  pub solves : Solves σ ps
  pub general : (τ : Substitution) → Solves τ ps → (ρ : Substitution) × ((x : Variable) → τ x ≡ under ρ (σ x))
