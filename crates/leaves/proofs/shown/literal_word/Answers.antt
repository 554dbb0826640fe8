use borrow.Author.Rules.{rules}
use Rattle.leaves.proofs.Showing.{word_laws}
use Rattle.leaves.proofs.shown.literal_word.Goals as goal

ruleset all = (rules, word_laws)

pub returns-then-is_empty : goal.returns-then-is_empty
returns-then-is_empty c = search all

pub returns : goal.returns
returns c = search all
