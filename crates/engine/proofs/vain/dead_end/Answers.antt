use Rattle.std.proofs.Common.{rules}
use Rattle.engine.proofs.Nowhere.Seen.{end_laws, end_inside}
use Rattle.engine.proofs.vain.dead_end.Goals as goal

pub first_other-other-requires : goal.first_other-other-requires
first_other-other-requires c = search (rules, end_laws)

pub bounds-file-wide-2 : goal.bounds-file-wide-2
bounds-file-wide-2 c = end_inside c.requires c.wide.ensures c.literals.ensures c.if-literals-eq1.false c.first_other-other.ensures c.wide-2.ensures c.wide-3.ensures
