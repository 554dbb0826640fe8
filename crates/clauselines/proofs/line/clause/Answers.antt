use Rattle.clauselines.proofs.Clauses.{clause_written}
use Rattle.clauselines.proofs.line.clause.Goals as goal

pub returns : goal.returns
returns c =
    clause_written c.args.own.now c.args.number c.args.asked c.field-name.ensures c.role-opened.ensures c.literals-closed.ensures c.bytes.ensures
