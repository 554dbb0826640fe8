use borrow.Author.Rules.{rules}
use Rattle.leaves.proofs.Showing.{literal_cut_is}
use Rattle.leaves.proofs.shown.literal_cut.Goals as goal

ruleset all = (rules, literal_cut_is)

pub returns : goal.returns
returns c = search all
