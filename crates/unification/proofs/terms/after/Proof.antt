-- The terms owed are walked over. The measure is how many references are left.
use native.Mathlib.Omega.{arith}
use Prim.Native.Nat.{◌-◌}
use Rattle.unification.specs.Places.{most_references}
use Rattle.unification.proofs.Walk.{Walked, walk_begin, walk_done, walk_inside, walk_few, walk_small, walk_on}
use Rattle.unification.proofs.terms.after.Statement.{statement}
use Rattle.unification.proofs.terms.after.Tie as tie

abbrev invariant-loop : tie.invariant-loop-owed
invariant-loop file work reference at₀ owed₀ at owed = Walked file work reference at owed

abbrev decreases-loop : tie.decreases-loop-owed
decreases-loop file work reference at₀ owed₀ at owed = most_references - at

pub after_spec : {M : Type 1} → statement M
after_spec =
    tie.close
    (tie.spec
    invariant-loop
    decreases-loop
    (λ c. walk_begin)
    (λ c κs. walk_inside c.loop-owed.invariant c.requires.0 c.loop-owed-test.true c.requires.1)
    (λ c κs. (omega arith, walk_few c.loop-owed.invariant c.requires.0 c.loop-owed-test.true c.requires.1))
    (λ c. omega (arith, walk_small c.loop-owed.invariant c.requires.0 c.loop-owed-test.true c.requires.1))
    (λ c. omega (arith, walk_small c.loop-owed.invariant c.requires.0 c.loop-owed-test.true c.requires.1))
    (λ c. walk_on c.loop-owed.invariant c.requires.0 c.loop-owed-test.true c.word_at.ensures c.owed_after-owed.ensures)
    (λ c. walk_done c.loop-owed.invariant c.loop-owed-test.false))
