use Rattle.std.proofs.Common.{◌∙◌, ◌<◌, ◌^◌, length, arith, rules}
use Rattle.requests.specs.Pieces.{number_of}
use Rattle.requests.proofs.Numbers.{no_number, a_number, said_within, number_empty}
use Rattle.requests.proofs.piece.decimal.Goals as goal

pub returns-in_err-value : goal.returns-in_err-value
returns-in_err-value c = c.from_residual.ensures ∙ no_number c.args.mark 10 c.args.line.now c.args.at c.up_to-digits.ensures c.in_err-value.ensures

pub overflow_add-result : goal.overflow_add-result
overflow_add-result c =
    let line = c.args.line.now in
    let short : length line < 2 ^ 63 = search rules in
    record { fits = omega (arith, short, said_within (number_of 10) (number_empty 10) c.args.mark line c.args.at c.up_to-digits.ensures c.in_ok-value.ensures) }

pub overflow_add-result-2 : goal.overflow_add-result-2
overflow_add-result-2 c =
    let line = c.args.line.now in
    let short : length line < 2 ^ 63 = search rules in
    record { fits = omega (arith, short, said_within (number_of 10) (number_empty 10) c.args.mark line c.args.at c.up_to-digits.ensures c.in_ok-value.ensures) }

pub returns : goal.returns
returns c = a_number c.args.mark 10 c.args.line.now c.args.at c.up_to-digits.ensures c.in_ok-value.ensures
