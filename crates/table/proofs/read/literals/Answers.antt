use Rattle.std.proofs.Common.{◌≡◌, ◌+◌, ◌-◌, arith, rules}
use Rattle.std.proofs.lemmas.Result.{err_from_is_err_and}
use Rattle.table.proofs.Clauses.{literals_laws, literals_wrong, literals_next}
use Rattle.table.proofs.read.literals.Goals as goal

pub returns-in_err-reached : goal.returns-in_err-reached
returns-in_err-reached c =
    let p = err_from_is_err_and c.from_residual.result c.from_residual.ensures.1 in
    rw (p.1, p.2) (literals_wrong c.loop.invariant (omega arith) c.in_err-reached.ensures)

pub loop-preserved : goal.loop-preserved
loop-preserved c =
    let one : c.args.many - (c.loop.counter + 1) ≡ c.args.many - c.loop.counter - 1 = omega arith in
    rw one (literals_next c.loop.invariant (omega arith) c.in_ok-reached.ensures)

pub returns : goal.returns
returns c = search (rules, literals_laws)
