use borrow.Author.Rules.{rules}
use Rattle.variable_names.proofs.Clauses.{part_laws}
use Rattle.variable_names.proofs.Named.{variable_said}
use Rattle.variable_names.proofs.own.in_clause.Goals as goal

ruleset all = (rules, part_laws, variable_said)

pub offset_bounds-marks-from : goal.offset_bounds-marks-from
offset_bounds-marks-from c = search all

pub slice_bounds-in_items-end : goal.slice_bounds-in_items-end
slice_bounds-in_items-end c = search all

pub offset_bounds-places-from : goal.offset_bounds-places-from
offset_bounds-places-from c = search all

pub slice_bounds-in_items-end-2 : goal.slice_bounds-in_items-end-2
slice_bounds-in_items-end-2 c = search all

pub returns : goal.returns
returns c = search all
