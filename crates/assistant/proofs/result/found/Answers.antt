use borrow.Author.Rules.{rules}
use Rattle.assistant.proofs.Texts.{found_laws}
use Rattle.assistant.proofs.result.found.Goals as goal

ruleset all = (rules, found_laws)

pub returns-then-disjuncts-eq1 : goal.returns-then-disjuncts-eq1
returns-then-disjuncts-eq1 c = search all

pub returns : goal.returns
returns c = search all
