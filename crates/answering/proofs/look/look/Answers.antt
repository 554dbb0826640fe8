use borrow.Author.Rules.{rules}
use native.Mathlib.Omega.{arith}
use Rattle.answering.proofs.Looking.{look_begin, bound_searchable, bound_spent, look_ends, look_over, look_next, look_through}
use Rattle.answering.proofs.look.look.Goals as goal

pub loop-bound-init : goal.loop-bound-init
loop-bound-init g c = search (rules, look_begin)

pub at_bound-last-requires : goal.at_bound-last-requires
at_bound-last-requires g c = (search (rules, bound_searchable), search (rules, bound_spent))

pub returns-then-last-ne-NONE_FOUND : goal.returns-then-last-ne-NONE_FOUND
returns-then-last-ne-NONE_FOUND g c = search (rules, look_ends)

pub loop-bound-preserved : goal.loop-bound-preserved
loop-bound-preserved g c = search (rules, look_next)

pub at_bound-requires : goal.at_bound-requires
at_bound-requires g c =
    let i = look_through c.loop-bound.invariant (omega arith) in
    (bound_searchable i, bound_spent i)

pub returns : goal.returns
returns g c = look_over (look_through c.loop-bound.invariant (omega arith)) c.at_bound.ensures (omega arith)
