use Rattle.std.proofs.Common.{arith, rules}
use Rattle.std.proofs.lemmas.Result.{err_from_is_err_and}
use Rattle.table.proofs.Terms.{terms_laws, terms_wrong}
use Rattle.table.proofs.read.+arguments_term.Goals as goal

pub arguments-returns-then-own-reached : goal.arguments-returns-then-own-reached
arguments-returns-then-own-reached t c = search (rules, terms_laws)

pub arguments-loop-left-preserved-then-variable_fits : goal.arguments-loop-left-preserved-then-variable_fits
arguments-loop-left-preserved-then-variable_fits t c = search (rules, terms_laws)

pub arguments-returns-then-not-function_shaped : goal.arguments-returns-then-not-function_shaped
arguments-returns-then-not-function_shaped t c = search (rules, terms_laws)

pub arguments-loop-left-preserved-then-in_place : goal.arguments-loop-left-preserved-then-in_place
arguments-loop-left-preserved-then-in_place t c = search (rules, terms_laws)

pub arguments-returns-in_err-reached : goal.arguments-returns-in_err-reached
arguments-returns-in_err-reached t c =
    let p = err_from_is_err_and c.from_residual.result c.from_residual.ensures.1 in
    rw (p.1, p.2) (terms_wrong c.loop-left.invariant (omega arith) c.in_err-reached.ensures)

pub term-returns-then-own-from : goal.term-returns-then-own-from
term-returns-then-own-from t c = search (rules, terms_laws)

pub term-returns-then-variable_fits : goal.term-returns-then-variable_fits
term-returns-then-variable_fits t c = search (rules, terms_laws)

pub term-returns-then-function_shaped : goal.term-returns-then-function_shaped
term-returns-then-function_shaped t c = search (rules, terms_laws)

pub term-returns : goal.term-returns
term-returns t c = search (rules, terms_laws)
