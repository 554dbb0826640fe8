use Rattle.std.proofs.Common.{◌≡◌, arith}
use Rattle.unification.proofs.Walk.{inside, small}
use Rattle.answers.proofs.Counting.{counting_begin, counting_done, counting_over, counting_on, room_none, room_fixed, room_free, room_ahead, room_function, owed_inside, owed_few, owed_small, owed_stands, word_points}
use Rattle.answers.proofs.answer.+room_after_terms_room_after_word.Goals as goal

pub room_after_terms-word_at-word-requires : goal.room_after_terms-word_at-word-requires
room_after_terms-word_at-word-requires t c = owed_inside c.requires.0 c.loop-owed.invariant.ahead c.loop-owed-test.true

pub room_after_terms-room_after_word-requires : goal.room_after_terms-room_after_word-requires
room_after_terms-room_after_word-requires t c =
    (omega (arith, c.loop-owed.invariant.less), (c.requires.0, owed_stands c.requires.0 c.loop-owed.invariant.ahead c.loop-owed-test.true c.word_at-word.ensures))

pub room_after_terms-returns-in_err-left : goal.room_after_terms-returns-in_err-left
room_after_terms-returns-in_err-left t c =
    rw c.from_residual.ensures
    (counting_over c.requires.0 c.loop-owed.invariant c.loop-owed-test.true c.word_at-word.ensures _ c.room_after_word.ensures c.in_err-left.was)

pub room_after_terms-owed_after-owed-requires : goal.room_after_terms-owed_after-owed-requires
room_after_terms-owed_after-owed-requires t c = (omega arith, owed_few c.requires.0 c.loop-owed.invariant.ahead c.loop-owed-test.true)

pub room_after_terms-loop-owed-preserved : goal.room_after_terms-loop-owed-preserved
room_after_terms-loop-owed-preserved t c =
    counting_on c.requires.0 c.loop-owed.invariant c.loop-owed-test.true c.word_at-word.ensures _ c.room_after_word.ensures c.in_ok-left.was c.owed_after-owed.ensures

pub room_after_terms-returns : goal.room_after_terms-returns
room_after_terms-returns t c = counting_done c.requires.0 c.loop-owed.invariant c.loop-owed-test.false

pub room_after_word-returns-in_err-left : goal.room_after_word-returns-in_err-left
room_after_word-returns-in_err-left t c =
    let none : c.args.room ≡ 0 = omega (arith, c.in_err-left.ensures) in rw c.from_residual.ensures (room_none c.requires.0 c.requires.1 none)

pub room_after_word-returns-then-kind-ne0 : goal.room_after_word-returns-then-kind-ne0
room_after_word-returns-then-kind-ne0 t c =
    rw (c.in_ok-left.ensures.1) (room_fixed c.requires.0 c.requires.1 (λ z. omega (arith, c.in_ok-left.ensures.0)) c.kind.ensures c.if-kind-ne0.true)

pub room_after_word-word_at-met-requires : goal.room_after_word-word_at-met-requires
room_after_word-word_at-met-requires t c = inside c.requires.0 c.follow-r.ensures.points

pub room_after_word-returns-then-kind-eq0 : goal.room_after_word-returns-then-kind-eq0
room_after_word-returns-then-kind-eq0 t c =
    rw (c.in_ok-left.ensures.1)
    (room_free c.requires.0 c.requires.1 (λ z. omega (arith, c.in_ok-left.ensures.0)) c.kind.ensures c.if-kind-ne0.false c.follow-r.ensures c.word_at-met.ensures c.kind-2.ensures c.if-kind-eq0.true)

pub room_after_word-room_after_terms-requires : goal.room_after_word-room_after_terms-requires
room_after_word-room_after_terms-requires t c =
    (omega (arith, c.in_ok-left.ensures.0, c.in_ok-left.ensures.1), (c.requires.0, room_ahead c.requires.0 c.requires.1 (λ (z : c.args.room ≡ 0). omega (arith, c.in_ok-left.ensures.0)) c.kind.ensures c.if-kind-ne0.false c.follow-r.ensures c.word_at-met.ensures c.kind-2.ensures c.if-kind-eq0.false c.arity.ensures))

pub room_after_word-returns : goal.room_after_word-returns
room_after_word-returns t c =
    room_function c.requires.0 c.requires.1 (λ z. omega (arith, c.in_ok-left.ensures.0)) c.kind.ensures c.if-kind-ne0.false c.follow-r.ensures c.word_at-met.ensures c.kind-2.ensures c.if-kind-eq0.false c.arity.ensures _
    (rw (c.in_ok-left.ensures.1) at c.room_after_terms.ensures)
