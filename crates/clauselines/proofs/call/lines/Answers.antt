use Rattle.std.proofs.Common.{rules}
use Rattle.clauselines.proofs.Walks.{walk_laws}
use Rattle.clauselines.proofs.call.lines.Goals as goal

ruleset all = (rules, walk_laws)

pub offset_bounds-file-at : goal.offset_bounds-file-at
offset_bounds-file-at c = search all

pub bounds-file-at : goal.bounds-file-at
bounds-file-at c = search all

pub slice_bounds-clause-end : goal.slice_bounds-clause-end
slice_bounds-clause-end c = search all

pub clause-end-requires : goal.clause-end-requires
clause-end-requires c = search all

pub overflow_add-number : goal.overflow_add-number
overflow_add-number c = search all

pub overflow_sub-stop : goal.overflow_sub-stop
overflow_sub-stop c = search all

pub offset_bounds-file-question : goal.offset_bounds-file-question
offset_bounds-file-question c = search all

pub slice_bounds-clause-count-2 : goal.slice_bounds-clause-count-2
slice_bounds-clause-count-2 c = search all

pub slice_bounds-clause-start-2 : goal.slice_bounds-clause-start-2
slice_bounds-clause-start-2 c = search all

pub clause-requires : goal.clause-requires
clause-requires c = search all

pub returns : goal.returns
returns c = search all
