use Rattle.std.proofs.Common.{arith, length, take, drop, length-drop, length-take, ◌-◌}
use Rattle.clausetext.proofs.Lexing.{word_within}
use Rattle.clausetext.proofs.token.word_end.Goals as goal

pub overflow_add-result : goal.overflow_add-result
overflow_add-result c =
    let text = c.args.text.now in
    let rest = drop c.args.from text in
    omega (arith, c.word_length.ensures, word_within (take (length text - c.args.from) rest), length-take (length text - c.args.from) rest, length-drop c.args.from text)
