-- Pair by pair: symbols alike are passed, free variables of the newest copy are bound, and with any other pair the rest is made equal in full.
use borrow.Author.Rules.{rules}
use borrow.Author.Tests.{not-false}
use mathlib.Core.Path.{sym, ◌∙◌}
use native.Mathlib.Omega.{arith}
use Prim.Native.Nat.{◌-◌}
use Rattle.unification.specs.Places.{most_references}
use Rattle.unification.proofs.Atoms.{atoms_inside}
use Rattle.unification.proofs.Push.{bind_small, bind_room, bind_reference}
use Rattle.unification.proofs.ThoroughAtoms.{literal_met, brief_met}
use Rattle.unification.proofs.MeetAll.{all_none, all_left, all_left_small, all_right_small, all_left_inside, all_right_inside, all_few}
use Rattle.unification.proofs.Newest.{Joining, join_begin, join_remaining, join_small, join_in_place, join_binds, join_last, join_still, join_on}
use Rattle.unification.proofs.unify.meet_entered.Statement.{statement}
use Rattle.unification.proofs.unify.meet_entered.Tie as tie

abbrev Inv : tie.invariant-loop-more
Inv file work₀ leaf entered kept l₀ r₀ more₀ work l r more = Joining file work₀ leaf entered work l r more

abbrev μ : tie.decreases-loop-more
μ file work₀ leaf entered kept l₀ r₀ more₀ work l r more = most_references - l

pub meet_entered_spec : {M : Type 1} → statement M
meet_entered_spec =
    tie.close
    (tie.spec
    Inv
    μ
    (λ c. search rules)
    (λ c. omega (arith, c.requires.1.left.made, c.requires.0.copies))
    (λ c. omega (arith, c.requires.1.right.made, c.requires.0.copies))
    (λ c κs. atoms_inside c.requires.0 c.requires.1)
    (λ c κs. search rules)
    (λ c. join_begin c.requires.0 c.requires.1 c.requires.2 c.word_at.ensures c.arity-more.ensures)
    (λ c κs. all_left_inside c.loop-more.invariant.going c.loop-more-test.true)
    (λ c κs. all_right_inside c.loop-more.invariant.going c.loop-more-test.true)
    (λ c κs. search rules)
    (λ c κs. (omega (arith, c.loop-more-test.true), all_few c.loop-more.invariant.going c.loop-more-test.true))
    (λ c. omega (arith, all_left_small c.loop-more.invariant.going c.loop-more-test.true))
    (λ c. omega (arith, all_right_small c.loop-more.invariant.going c.loop-more-test.true))
    (λ c. omega (arith, all_left_small c.loop-more.invariant.going c.loop-more-test.true))
    (λ c. let same = c.same_function.ensures c.if-same_function.true in join_in_place c.loop-more.invariant c.loop-more-test.true c.word_at-word.ensures c.word_at-other.ensures same.0 same.1 c.owed_after-more.ensures)
    (λ c κs. (c.loop-more.invariant.going.grown.good.size, λ k. join_small c.loop-more.invariant c.loop-more-test.true c.word_at-other.ensures k))
    (λ c κs. (c.args.work.now, join_remaining c.loop-more.invariant c.requires.0 c.requires.1))
    (λ c. c.meet_rest.auto.work ∙ c.loop-more.invariant.going.grown.good.size ∙ sym c.requires.0.size)
    (λ c. c.meet_rest.ensures c.args.work.now (join_remaining c.loop-more.invariant c.requires.0 c.requires.1))
    (λ c κs. (c.loop-more.invariant.going.grown.good, all_left c.loop-more.invariant.going c.loop-more-test.true))
    (λ c κs. search rules)
    (λ c κs. let h = c.loop-more.invariant.going.grown.good in let b = join_binds c.loop-more.invariant c.loop-more-test.true c.word_at-other.ensures (c.is_free.ensures c.if-not-is_free.false) c.follow-value.ensures c.variable_at.ensures in (h.size, bind_room h b, bind_small h b, bind_reference h b))
    (λ c. omega arith)
    (λ c. c.push.auto.work ∙ c.loop-more.invariant.going.grown.good.size ∙ sym c.requires.0.size)
    (λ c. literal_met c.requires.0 c.requires.1 (brief_met (join_last c.loop-more.invariant c.loop-more-test.true c.word_at-other.ensures (c.is_free.ensures c.if-not-is_free.false) c.follow-value.ensures c.variable_at.ensures c.push.ensures c.if-more-eq0.true) (λ e. omega arith)))
    (λ c κs. join_still c.loop-more.invariant c.loop-more-test.true c.word_at-other.ensures (c.is_free.ensures c.if-not-is_free.false) c.follow-value.ensures c.variable_at.ensures c.push.ensures)
    (λ c. omega (arith, all_right_small c.loop-more.invariant.going c.loop-more-test.true))
    (λ c. omega (arith, all_left_small c.loop-more.invariant.going c.loop-more-test.true, c.after-l.ensures.later))
    (λ c. join_on c.loop-more.invariant c.loop-more-test.true c.word_at-other.ensures (c.is_free.ensures c.if-not-is_free.false) c.follow-value.ensures c.variable_at.ensures c.push.ensures c.if-more-eq0.false c.after-l.ensures)
    (λ c. c.loop-more.invariant.going.grown.good.size ∙ sym c.requires.0.size)
    (λ c. literal_met c.requires.0 c.requires.1 (brief_met (all_none c.loop-more.invariant.going c.loop-more-test.false) (λ e. omega arith))))
