use borrow.Author.Rules.{rules}
use Rattle.leaves.proofs.Showing.{name_cut_is}
use Rattle.leaves.proofs.shown.name_cut.Goals as goal

ruleset all = (rules, name_cut_is)

pub returns : goal.returns
returns c = search all
