use borrow.Author.Rules.{rules}
use Rattle.leaves.proofs.Showing.{literal_laws}
use Rattle.leaves.proofs.shown.literal.Goals as goal

ruleset all = (rules, literal_laws)

pub returns : goal.returns
returns c = search all

pub words-requires : goal.words-requires
words-requires c = search all
