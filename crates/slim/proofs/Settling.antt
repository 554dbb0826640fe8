-- Rounds until one drops nothing, one law for each outcome.
use lib.ListN.{length}
use mathlib.Core.Bool.{Bool, true, not}
use mathlib.Core.List.{List}
use mathlib.Core.Path.{◌≡◌, refl, sym, ap, ◌∙◌}
use native.Mathlib.Omega.{arith}
use borrow.Author.Tests.{not-true}
use Prim.Native.Nat.{ℕ, zero, suc, ◌-◌, ◌≤◌, ◌<◌}
use Rattle.table.specs.Syntax.{Table}
use Rattle.slim.specs.Rounds.{unrepeated, round, rounds, kept_flags}
use Rattle.slim.specs.Walking.{Swept}
use Rattle.slim.proofs.Flags.{flags_length}

-- so many rounds from here on give the whole
pub record Settling (t : Table) (left : ℕ) (present : List Bool) : Type 0 where
  pub long : length present ≡ length t.clauses
  pub whole : rounds t left present ≡ kept_flags t

pub unrepeated_length : (t : Table) → length (unrepeated t) ≡ length t.clauses
unfolding unrepeated
unrepeated_length t = flags_length (length t.clauses) _

pub round_length : (t : Table) (present : List Bool) → length (round t present) ≡ length t.clauses
unfolding round
round_length t present = flags_length (length t.clauses) _

-- a round that drops nothing is the last
pub rounds_still : (t : Table) (left : ℕ) (present : List Bool) → round t present ≡ present → rounds t left present ≡ present
unfolding rounds
rounds_still t zero present e = refl
rounds_still t (suc left) present e = ap (λ (p : List Bool). rounds t left p) e ∙ rounds_still t left present e

one_round : (t : Table) (left : ℕ) (present : List Bool) → 0 < left → rounds t left present ≡ rounds t (left - 1) (round t present)
unfolding rounds
one_round t zero present h = absurd (omega arith)
one_round t (suc left) present h = let z : suc left - 1 ≡ left = omega arith in rw z

module _ (t : Table) where
  pub settle_begin : (present : List Bool) {left : ℕ} → left ≡ length present → present ≡ unrepeated t → Settling t left present
  unfolding kept_flags
  settle_begin present z e =
      let l : length present ≡ length t.clauses = ap length e ∙ unrepeated_length t in
      record { long = l; whole = rw (z, l, e) }

  module _ (left : ℕ) (present after : List Bool) (dropped : Bool) (g : Settling t left present) (s : Swept t present after dropped) where
    pub settle_length : length after ≡ length t.clauses
    settle_length = ap length s.made ∙ round_length t present

    pub settle_next : 0 < left → {fewer : ℕ} → fewer ≡ left - 1 → Settling t fewer after
    settle_next h z =
        record { long = settle_length; whole = rw (z, s.made) (sym (one_round t left present h) ∙ g.whole) }

    pub settle_still : not dropped ≡ true → after ≡ kept_flags t
    settle_still n =
        let still = s.still (not-true dropped n) in
        still ∙ sym (rounds_still t left present (sym s.made ∙ still)) ∙ g.whole

  pub settle_done : (left : ℕ) (present : List Bool) → Settling t left present → left ≤ 0 → present ≡ kept_flags t
  unfolding rounds
  settle_done left present g h = let z : left ≡ 0 = omega arith in rw z at g.whole

pub ruleset settle_laws = (settle_begin, settle_length, settle_next, settle_still, settle_done)
