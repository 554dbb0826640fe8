use borrow.Author.Rules.{rules}
use native.Mathlib.Omega.{arith}
use Rattle.text.proofs.Putting.{begin}
use Rattle.asking.proofs.Lines.{disjunct_laws, disjunct_in, disjunct_more, disjunct_last, disjunct_fits}
use Rattle.asking.proofs.report.disjuncts.Goals as goal

ruleset all = (rules, begin, disjunct_laws)

pub loop-init : goal.loop-init
loop-init c = search all

pub overflow_add-end : goal.overflow_add-end
overflow_add-end c = disjunct_fits c.args.answer.now c.args.literals c.loop.start c.disjunct_length.ensures c.loop.invariant.0 (search rules)

pub loop-preserved : goal.loop-preserved
loop-preserved c = (
  disjunct_in c.args.answer.now c.args.literals c.loop.start c.disjunct_length.ensures c.loop.invariant.0,
  disjunct_more c.args.answer.now c.args.literals c.loop.start c.disjunct_length.ensures (omega arith) c.loop.invariant.1 c.disjunct-at.ensures,
)

pub returns : goal.returns
returns c = disjunct_last c.args.answer.now c.args.literals _ c.loop.start c.loop.invariant.1 (omega arith)

pub slice_bounds-disjunct-end : goal.slice_bounds-disjunct-end
slice_bounds-disjunct-end c = disjunct_in c.args.answer.now c.args.literals c.loop.start c.disjunct_length.ensures c.loop.invariant.0
