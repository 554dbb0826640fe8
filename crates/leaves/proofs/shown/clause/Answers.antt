use borrow.Author.Rules.{rules}
use Rattle.leaves.proofs.Showing.{clause_laws}
use Rattle.leaves.proofs.shown.clause.Goals as goal

ruleset all = (rules, clause_laws)

pub returns : goal.returns
returns c = record { result_value = search all; result_len_bound = search all }
