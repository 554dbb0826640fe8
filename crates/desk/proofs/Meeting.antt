-- When two atoms at(day,house,slot) can be made equal.
use mathlib.Core.Bool.{Bool}
use mathlib.Core.List.{List, ◌∷◌}
use mathlib.Core.Path.{◌≡◌}
use native.Mathlib.Omega.{arith}
use Prim.Native.Nat.{ℕ, ◌+◌}
use Rattle.table.specs.Syntax.{Term, under}
use Rattle.rules.specs.Substitution.{Variable, Substitution, Pair, Solves}
use Rattle.rules.specs.Tableau.{atom, closing}
use Rattle.desk.specs.Clauses.{constant, at_literal}

-- one substitution makes two of them equal exactly where day and house are the same and the slots are made equal
pub record Meets (σ : Substitution) (d h : ℕ) (s : Term Variable) (e k : ℕ) (u : Term Variable) : Type 0 where
  pub days : d ≡ e
  pub houses : h ≡ k
  pub slots : under σ s ≡ under σ u

module _ (σ : Substitution) (b c : Bool) (d h : ℕ) (s : Term Variable) (e k : ℕ) (u : Term Variable) (ps : List Pair) where
  pub meets : Solves σ (closing (at_literal b d h s) (at_literal c e k u) ∷ ps) → Meets σ d h s e k u
  unfolding Solves closing atom under
  meets z =
      let both = z.0 in
      let g : 1000 + h ≡ 1000 + k = cc in
      record { days = cc; houses = omega arith; slots = cc }

  pub meeting : Meets σ d h s e k u → Solves σ ps → Solves σ (closing (at_literal b d h s) (at_literal c e k u) ∷ ps)
  unfolding Solves closing atom under
  meeting m z = (rw (m.days, m.houses, m.slots), z)

-- two constants are made equal only where they are one
pub same_constant : (σ : Substitution) (m n : ℕ) → under σ (constant m) ≡ under σ (constant n) → m ≡ n
unfolding under
same_constant σ m n e = cc
