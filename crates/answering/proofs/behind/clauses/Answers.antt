use borrow.Author.Rules.{rules}
use Rattle.answering.proofs.Asked.{number_few, clauses_few}
use Rattle.answering.proofs.Used.{clauses_told}
use Rattle.answering.proofs.behind.clauses.Goals as goal

pub lines-requires : goal.lines-requires
lines-requires c = search (rules, number_few, clauses_few, clauses_told)

pub returns : goal.returns
returns c = search (rules, number_few, clauses_few, clauses_told)
