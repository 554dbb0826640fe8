use Rattle.std.proofs.Common.{◌∙◌}
use Rattle.requests.proofs.Numbers.{nothing_said, number_over, no_digit, product_large, sum_large, digit_on}
use Rattle.requests.proofs.piece.value.Goals as goal

pub returns-then-is_empty : goal.returns-then-is_empty
returns-then-is_empty c = nothing_said c.args.base c.args.digits.now c.is_empty.ensures c.if-is_empty.true

pub returns-in_err-digit : goal.returns-in_err-digit
returns-in_err-digit c =
    c.from_residual.ensures
    ∙ no_digit c.args.base c.args.digits.now c.requires.1 c.is_empty.ensures c.if-is_empty.false c.loop-c.value c.loop-c.invariant c.loop-c-test.true c.from.ensures c.in_err-digit.ensures.value

pub returns-in_err-checked_mul : goal.returns-in_err-checked_mul
returns-in_err-checked_mul c =
    c.from_residual-in_err-checked_mul.ensures
    ∙ product_large c.args.base c.args.digits.now c.requires.1 c.is_empty.ensures c.if-is_empty.false c.loop-c.value c.loop-c.invariant c.loop-c-test.true c.from.ensures
    c.in_ok-digit.ensures.value c.in_err-checked_mul.ensures

pub returns-in_err-value : goal.returns-in_err-value
returns-in_err-value c =
    c.from_residual-in_err-value.ensures
    ∙ sum_large c.args.base c.args.digits.now c.requires.1 c.is_empty.ensures c.if-is_empty.false c.loop-c.value c.loop-c.invariant c.loop-c-test.true c.from.ensures
    c.in_ok-digit.ensures.value c.in_ok-checked_mul.ensures c.in_err-value.ensures

pub loop-c-preserved : goal.loop-c-preserved
loop-c-preserved c =
    digit_on c.args.base c.args.digits.now c.requires.1 c.is_empty.ensures c.if-is_empty.false c.loop-c.value c.loop-c.invariant c.loop-c-test.true c.from.ensures
    c.in_ok-digit.ensures.value c.in_ok-checked_mul.ensures c.in_ok-value.ensures

pub returns : goal.returns
returns c = number_over c.args.base c.args.digits.now c.requires.1 c.is_empty.ensures c.if-is_empty.false c.loop-c.value c.loop-c.invariant c.loop-c-test.false
