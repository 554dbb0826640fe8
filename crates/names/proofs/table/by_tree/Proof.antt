use borrow.Author.Rules.{rules}
use Rattle.names.proofs.Using.{empty_tree, no_marks}
use Rattle.names.proofs.table.by_tree.Statement.{statement}
use Rattle.names.proofs.table.by_tree.Tie as tie

ruleset all = (rules, empty_tree, no_marks)

slice-aggregate-number : tie.Need-slice_bounds-number-end
slice-aggregate-number c = search rules

number-requires : tie.Need-number-requires
number-requires c κs = search all

same_length : tie.Need-shape_of-words
same_length c = search rules

returns : tie.Need-returns
returns c = search rules

pub by_tree_spec : {M : Type 1} → statement M
by_tree_spec = tie.close (tie.spec slice-aggregate-number number-requires same_length returns)
