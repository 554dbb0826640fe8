-- Two terms are followed and compared; where both are applications of one symbol, their arguments are, pair by pair, unless they are known to be equal.
use Rattle.std.proofs.Common.{arith}
use Rattle.std.proofs.lemmas.Result.{err_from_is_err_and}
use Rattle.unification.proofs.Walk.{inside}
use Rattle.unification.proofs.Meet.{met_same, met_variable, right_binds, right_apart, met_right, left_binds, left_apart, met_left, met_clash, both_applied, met_falls, met_applied}
use Rattle.unification.proofs.MeetAll.{all_none, all_left, all_right, all_falls, all_left_inside, all_right_inside, all_few, all_in_place, all_stops, all_last, all_left_still, all_right_still, all_on}
use Rattle.unification.proofs.MeetApplied.{applied_lefts, applied_rights, applied_falls, applied_known, applied_tired, applied_quiet, applied_met, applied_up, applied_down}
use Rattle.unification.proofs.unify.+meet_meet_all_meet_applied.Goals as goal

pub meet-returns-then-l-r : goal.meet-returns-then-l-r
meet-returns-then-l-r t c = met_same c.requires.0 c.requires.1 c.follow-l.ensures c.follow-r.ensures c.if-l-r.true

pub meet-word_at-v-requires : goal.meet-word_at-v-requires
meet-word_at-v-requires t c = inside c.requires.0 c.follow-l.ensures.points

pub meet-word_at-w-requires : goal.meet-word_at-w-requires
meet-word_at-w-requires t c = inside c.requires.0 c.follow-r.ensures.points

pub meet-returns-then-same_variable : goal.meet-returns-then-same_variable
meet-returns-then-same_variable t c = met_variable c.requires.0 c.requires.1 c.follow-l.ensures c.follow-r.ensures c.word_at-v.ensures c.word_at-w.ensures c.kind.ensures c.if-kind-eq0.true c.variable_at-y.ensures c.same_variable.ensures c.if-same_variable.true

pub meet-bind-requires : goal.meet-bind-requires
meet-bind-requires t c = (c.requires.0, c.requires.1, right_binds c.requires.0 c.requires.1 c.follow-l.ensures c.follow-r.ensures c.word_at-v.ensures c.word_at-w.ensures c.kind.ensures c.if-kind-eq0.true c.variable_at-y.ensures c.same_variable.ensures c.if-same_variable.false, right_apart c.requires.0 c.requires.1 c.follow-l.ensures c.follow-r.ensures c.word_at-v.ensures c.word_at-w.ensures c.kind.ensures c.if-kind-eq0.true c.variable_at-y.ensures c.same_variable.ensures c.if-same_variable.false)

pub meet-returns-then-kind-eq0 : goal.meet-returns-then-kind-eq0
meet-returns-then-kind-eq0 t c = met_right c.requires.0 c.requires.1 c.follow-l.ensures c.follow-r.ensures c.word_at-v.ensures c.word_at-w.ensures c.kind.ensures c.if-kind-eq0.true c.variable_at-y.ensures c.same_variable.ensures c.if-same_variable.false c.bind.ensures

pub meet-bind-requires-then-kind-eq0-2 : goal.meet-bind-requires-then-kind-eq0-2
meet-bind-requires-then-kind-eq0-2 t c = (c.requires.0, c.requires.1, left_binds c.requires.0 c.requires.1 c.follow-l.ensures c.follow-r.ensures c.word_at-v.ensures c.word_at-w.ensures c.kind.ensures c.if-kind-eq0.false c.kind-2.ensures c.if-kind-eq0-2.true c.variable_at.ensures, left_apart c.requires.0 c.requires.1 c.follow-l.ensures c.follow-r.ensures c.word_at-v.ensures c.word_at-w.ensures c.kind.ensures c.if-kind-eq0.false c.kind-2.ensures c.if-kind-eq0-2.true c.variable_at.ensures)

pub meet-returns-then-kind-eq0-2 : goal.meet-returns-then-kind-eq0-2
meet-returns-then-kind-eq0-2 t c = met_left c.requires.0 c.requires.1 c.follow-l.ensures c.follow-r.ensures c.word_at-v.ensures c.word_at-w.ensures c.kind.ensures c.if-kind-eq0.false c.kind-2.ensures c.if-kind-eq0-2.true c.variable_at.ensures c.bind-then-kind-eq0-2.ensures

pub meet-returns-then-v-w : goal.meet-returns-then-v-w
meet-returns-then-v-w t c = met_clash c.requires.0 c.requires.1 c.follow-l.ensures c.follow-r.ensures c.word_at-v.ensures c.word_at-w.ensures c.kind.ensures c.if-kind-eq0.false c.kind-2.ensures c.if-kind-eq0-2.false c.word_at-v.type_inv c.word_at-w.type_inv c.if-v-w.true

pub meet-meet_applied-requires : goal.meet-meet_applied-requires
meet-meet_applied-requires t c = (omega (arith, met_falls c.requires.0 c.requires.1 c.follow-l.ensures c.follow-r.ensures c.word_at-v.ensures c.word_at-w.ensures c.kind.ensures c.if-kind-eq0.false c.kind-2.ensures c.if-kind-eq0-2.false c.if-v-w.false, c.decreases), (c.requires.0, c.requires.1, both_applied c.requires.0 c.requires.1 c.follow-l.ensures c.follow-r.ensures c.word_at-v.ensures c.word_at-w.ensures c.kind.ensures c.if-kind-eq0.false c.kind-2.ensures c.if-kind-eq0-2.false c.if-v-w.false))

pub meet-returns : goal.meet-returns
meet-returns t c = met_applied c.requires.0 c.requires.1 c.follow-l.ensures c.follow-r.ensures c.word_at-v.ensures c.word_at-w.ensures c.kind.ensures c.if-kind-eq0.false c.kind-2.ensures c.if-kind-eq0-2.false c.if-v-w.false c.meet_applied.ensures

pub meet_all-word_at-word-requires : goal.meet_all-word_at-word-requires
meet_all-word_at-word-requires t c = all_left_inside c.loop-more.invariant c.loop-more-test.true

pub meet_all-word_at-requires : goal.meet_all-word_at-requires
meet_all-word_at-requires t c = all_right_inside c.loop-more.invariant c.loop-more-test.true

pub meet_all-owed_after-more-requires : goal.meet_all-owed_after-more-requires
meet_all-owed_after-more-requires t c = (omega (arith, c.loop-more-test.true), all_few c.loop-more.invariant c.loop-more-test.true)

pub meet_all-loop-more-preserved-then-same_function : goal.meet_all-loop-more-preserved-then-same_function
meet_all-loop-more-preserved-then-same_function t c =
    let same = c.same_function.ensures c.if-same_function.true in
    all_in_place c.loop-more.invariant c.loop-more-test.true c.word_at-word.ensures c.word_at.ensures same.0 same.1 c.owed_after-more.ensures

pub meet_all-meet-requires : goal.meet_all-meet-requires
meet_all-meet-requires t c =
    let i = c.loop-more.invariant in
    let l = c.loop-more-test.true in
    (omega (arith, all_falls i l, c.decreases), (i.grown.good, i.quiet, all_left i l, all_right i l))

pub meet_all-returns-in_err-meet : goal.meet_all-returns-in_err-meet
meet_all-returns-in_err-meet t c =
    let p = err_from_is_err_and c.from_residual.result c.from_residual.ensures.1 in
    rw (p.1, p.2) (all_stops c.loop-more.invariant c.loop-more-test.true c.in_err-meet.ensures)

pub meet_all-returns-then-more-eq0 : goal.meet_all-returns-then-more-eq0
meet_all-returns-then-more-eq0 t c = all_last c.loop-more.invariant c.loop-more-test.true c.meet.ensures c.in_ok-meet.was c.if-more-eq0.true

pub meet_all-after-l-requires : goal.meet_all-after-l-requires
meet_all-after-l-requires t c = (c.meet.ensures.grown.good, all_left_still c.loop-more.invariant c.loop-more-test.true c.meet.ensures c.in_ok-meet.was)

pub meet_all-after-r-requires : goal.meet_all-after-r-requires
meet_all-after-r-requires t c = (c.meet.ensures.grown.good, all_right_still c.loop-more.invariant c.loop-more-test.true c.meet.ensures c.in_ok-meet.was)

pub meet_all-loop-more-preserved : goal.meet_all-loop-more-preserved
meet_all-loop-more-preserved t c = all_on c.loop-more.invariant c.loop-more-test.true c.meet.ensures c.in_ok-meet.was c.if-more-eq0.false c.after-l.ensures c.after-r.ensures

pub meet_all-returns : goal.meet_all-returns
meet_all-returns t c = all_none c.loop-more.invariant c.loop-more-test.false

pub meet_applied-returns-then-l-r : goal.meet_applied-returns-then-l-r
meet_applied-returns-then-l-r t c = applied_known c.requires.0 c.requires.1 c.requires.2 c.root-l.ensures c.root-r.ensures c.if-l-r.true

pub meet_applied-returns-then-spend : goal.meet_applied-returns-then-spend
meet_applied-returns-then-spend t c = applied_tired c.requires.0 c.requires.1 c.requires.2 c.root-l.ensures c.root-r.ensures c.spend.ensures c.if-spend.true

pub meet_applied-meet_all-requires : goal.meet_applied-meet_all-requires
meet_applied-meet_all-requires t c = (omega (arith, applied_falls c.requires.0 c.requires.1 c.requires.2 c.word_at.ensures c.arity-count.ensures, c.decreases), (c.requires.0, applied_quiet c.requires.0 c.requires.1 c.requires.2 c.root-l.ensures c.root-r.ensures c.spend.ensures c.if-spend.false, applied_lefts c.requires.0 c.requires.1 c.requires.2 c.word_at.ensures c.arity-count.ensures, applied_rights c.requires.0 c.requires.1 c.requires.2 c.word_at.ensures c.arity-count.ensures))

pub meet_applied-returns-then-l-r-2 : goal.meet_applied-returns-then-l-r-2
meet_applied-returns-then-l-r-2 t c = applied_up c.requires.0 c.requires.1 c.requires.2 c.root-l.ensures c.root-r.ensures c.spend.ensures c.word_at.ensures c.arity-count.ensures c.meet_all.ensures c.in_ok-meet_all.was c.if-l-r-2.true c.link.ensures

pub meet_applied-returns : goal.meet_applied-returns
meet_applied-returns t c = applied_down c.requires.0 c.requires.1 c.requires.2 c.root-l.ensures c.root-r.ensures c.spend.ensures c.word_at.ensures c.arity-count.ensures c.meet_all.ensures c.in_ok-meet_all.was c.if-l-r.false c.if-l-r-2.false c.link-2.ensures
