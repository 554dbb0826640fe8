use borrow.Author.Rules.{rules}
use Rattle.leaves.proofs.Showing.{cut_laws}
use Rattle.leaves.proofs.shown.cut.Goals as goal

ruleset all = (rules, cut_laws)

pub returns-then-own-most : goal.returns-then-own-most
returns-then-own-most c = search all

pub returns : goal.returns
returns c = search all
