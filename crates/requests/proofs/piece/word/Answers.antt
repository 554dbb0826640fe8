use Rattle.std.proofs.Common.{◌∙◌, ◌<◌, ◌^◌, length, arith, rules}
use Rattle.requests.specs.Pieces.{word_of}
use Rattle.requests.proofs.Numbers.{no_word, a_word, said_within, word_empty}
use Rattle.requests.proofs.piece.word.Goals as goal

pub returns-in_err-value : goal.returns-in_err-value
returns-in_err-value c = c.from_residual.ensures ∙ no_word c.args.line.now c.args.at c.piece-digits.ensures c.in_err-value.ensures

pub overflow_add-result : goal.overflow_add-result
overflow_add-result c =
    let line = c.args.line.now in
    let short : length line < 2 ^ 63 = search rules in
    record { fits = omega (arith, short, said_within word_of word_empty 32 line c.args.at c.piece-digits.ensures c.in_ok-value.ensures) }

pub overflow_add-result-2 : goal.overflow_add-result-2
overflow_add-result-2 c =
    let line = c.args.line.now in
    let short : length line < 2 ^ 63 = search rules in
    record { fits = omega (arith, short, said_within word_of word_empty 32 line c.args.at c.piece-digits.ensures c.in_ok-value.ensures) }

pub returns : goal.returns
returns c = a_word c.args.line.now c.args.at c.piece-digits.ensures c.in_ok-value.ensures
