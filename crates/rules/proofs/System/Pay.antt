-- Paying for so many tries out of a budget before going on with what is left of it.
use mathlib.Core.Path.{◌≡◌, refl, sym}
use mathlib.Core.Logic.{◌≢◌}
use mathlib.Core.List.{List, ◌∷◌}
use Prim.Native.Nat.{ℕ, zero, suc, ◌+◌, ◌-◌, ◌≤◌, ◌<◌}
use native.Mathlib.Nat.{zero-add, suc-add, sub-zero, suc-sub-suc, not-suc-le-zero}
use native.Mathlib.Omega.{arith}
use Rattle.rules.specs.System.{Ending, found, nothing}
use Rattle.rules.specs.Machinery.Run.{Result, way, no_way, ran_out, verdict, put, after}
use Rattle.rules.proofs.System.Clash.{clash}

module _ {M : Type 0} where
  pub pay : ℕ → ℕ → (ℕ → Result M) → Result M
  pay zero budget rest = rest budget
  pay (suc n) zero rest = ran_out
  pay (suc n) (suc left) rest = pay n left rest

  pub pay_zero : (budget : ℕ) (rest : ℕ → Result M) → pay 0 budget rest ≡ rest budget
  unfolding pay
  pay_zero budget rest = refl

  pub pay_broke : (n : ℕ) (rest : ℕ → Result M) → pay (suc n) 0 rest ≡ ran_out
  unfolding pay
  pay_broke n rest = refl

  pub pay_one : (n left : ℕ) (rest : ℕ → Result M) → pay (suc n) (suc left) rest ≡ pay n left rest
  unfolding pay
  pay_one n left rest = refl

  pub pay_within : (n budget : ℕ) (rest : ℕ → Result M) → n ≤ budget → pay n budget rest ≡ rest (budget - n)
  unfolding pay
  pay_within zero budget rest h = rw sub-zero
  pay_within (suc n) zero rest h = absurd (not-suc-le-zero h)
  pay_within (suc n) (suc left) rest h = rw suc-sub-suc (pay_within n left rest (omega arith))

  pub pay_beyond : (n budget : ℕ) (rest : ℕ → Result M) → budget < n → pay n budget rest ≡ ran_out
  unfolding pay
  pay_beyond zero budget rest h = absurd (not-suc-le-zero h)
  pay_beyond (suc n) zero rest h = refl
  pay_beyond (suc n) (suc left) rest h = pay_beyond n left rest (omega arith)

  pub pay_add : (n k budget : ℕ) (rest : ℕ → Result M) → pay (n + k) budget rest ≡ pay n budget (λ left. pay k left rest)
  unfolding pay
  pay_add zero k budget rest = rw zero-add
  pay_add (suc n) k zero rest = rw suc-add
  pay_add (suc n) k (suc left) rest = rw suc-add (pay_add n k left rest)

  pub pay_alike : (n budget : ℕ) (f g : ℕ → Result M) → ((left : ℕ) → f left ≡ g left) → pay n budget f ≡ pay n budget g
  unfolding pay
  pay_alike zero budget f g h = h budget
  pay_alike (suc n) zero f g h = refl
  pay_alike (suc n) (suc left) f g h = pay_alike n left f g h

  -- what comes of a move that was tried, when the search from the next state pays for n tries
  pub after_found : (n budget : ℕ) (m : M) (p : List M) (rest : ℕ → Result M)
      → after (put m (pay n budget (verdict (found p)))) rest ≡ pay n budget (verdict (found (m ∷ p)))
  unfolding pay put after
  after_found zero budget m p rest = refl
  after_found (suc n) zero m p rest = refl
  after_found (suc n) (suc left) m p rest = after_found n left m p rest

  pub after_none : (n budget : ℕ) (m : M) (rest : ℕ → Result M) → after (put m (pay n budget (verdict nothing))) rest ≡ pay n budget rest
  unfolding pay put after
  after_none zero budget m rest = refl
  after_none (suc n) zero m rest = refl
  after_none (suc n) (suc left) m rest = after_none n left m rest

  -- an outcome tells what was paid, and a budget that ran out was less
  same-verdict : (o x : Ending M) (budget left : ℕ) → verdict o budget ≡ verdict x left → (o ≡ x) × (budget ≡ left)
  same-verdict (found p) (found q) budget left e = (cc, cc)
  same-verdict (found p) nothing budget left e = (cc, cc)
  same-verdict nothing (found q) budget left e = (cc, cc)
  same-verdict nothing nothing budget left e = (refl, cc)

  not-ran-out : {A : Type 0} (o : Ending M) (left : ℕ) → verdict o left ≡ ran_out → A
  not-ran-out (found p) left e = clash cc
  not-ran-out nothing left e = clash cc

  pub paid : (n budget : ℕ) (o x : Ending M) (left : ℕ) → pay n budget (verdict o) ≡ verdict x left → (o ≡ x) × (budget ≡ n + left)
  unfolding pay
  paid zero budget o x left e = let same = same-verdict o x budget left e in (same.0, omega (arith, same.1))
  paid (suc n) zero o x left e = not-ran-out x left (sym e)
  paid (suc n) (suc budget) o x left e = let same = paid n budget o x left e in (same.0, omega (arith, same.1))

  pub unpaid : (n budget : ℕ) (o : Ending M) → pay n budget (verdict o) ≡ ran_out → budget < n
  unfolding pay
  unpaid zero budget o e = not-ran-out o budget e
  unpaid (suc n) zero o e = omega arith
  unpaid (suc n) (suc budget) o e = let h = unpaid n budget o e in omega arith

  pub decided : (r : Result M) → r ≢ ran_out → (o : Ending M) × (left : ℕ) × (r ≡ verdict o left)
  decided (way p left) h = (found p, left, refl)
  decided (no_way left) h = (nothing, left, refl)
  decided ran_out h = absurd (h refl)
