use borrow.Author.Rules.{rules}
use Rattle.tuples.proofs.Walking.{tuples_laws}
use Rattle.tuples.proofs.tuples.Goals as goal

ruleset all = (rules, tuples_laws)

pub returns-then-disjuncts-eq1 : goal.returns-then-disjuncts-eq1
returns-then-disjuncts-eq1 c = search all

pub returns : goal.returns
returns c = search all
