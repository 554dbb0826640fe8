use Rattle.std.proofs.Common.{arith, rules}
use Rattle.clauselines.proofs.Terms.{term_in, next_fits, first_here, others_here, term_onward, going_here, going_next, going_done}
use Rattle.clauselines.proofs.line.+arguments_further_term.Goals as goal

pub arguments-term-first-requires : goal.arguments-term-first-requires
arguments-term-first-requires t c = (omega arith, first_here c.if-many-eq0.false c.requires)

pub arguments-further-requires : goal.arguments-further-requires
arguments-further-requires t c =
    let some = c.if-many-eq0.false in
    let first = c.term-first.ensures in
    (omega (arith, term_onward some first c.requires), others_here some first c.requires)

pub further-term-reached-requires : goal.further-term-reached-requires
further-term-reached-requires t c = (omega (arith, c.loop.invariant.onward), going_here c.loop.invariant (omega arith))

pub further-loop-preserved : goal.further-loop-preserved
further-loop-preserved t c = going_next c.loop.invariant (omega arith) (omega arith) c.byte-comma.ensures c.term-reached.ensures

pub further-returns : goal.further-returns
further-returns t c = going_done c.loop.invariant (omega arith) c.byte-closed.ensures

pub term-bounds-own-at : goal.term-bounds-own-at
term-bounds-own-at t c = term_in c.requires

pub term-overflow_add-result : goal.term-overflow_add-result
term-overflow_add-result t c = next_fits c.requires (search rules)
