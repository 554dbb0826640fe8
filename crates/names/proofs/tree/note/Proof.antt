use borrow.Author.Rules.{rules}
use Rattle.names.proofs.Marking.{use_noted}
use Rattle.names.proofs.tree.note.Statement.{statement}
use Rattle.names.proofs.tree.note.Tie as tie

ruleset all = (rules, use_noted)

enter-requires : tie.Need-enter-entered-requires
enter-requires c κs = search rules

mark-requires : tie.Need-mark-requires
mark-requires c κs = search rules

same_length : tie.Need-shape_of-memory
same_length c = search rules

returns : tie.Need-returns
returns c = search all

pub note_spec : {M : Type 1} → statement M
note_spec = tie.close (tie.spec enter-requires mark-requires same_length returns)
