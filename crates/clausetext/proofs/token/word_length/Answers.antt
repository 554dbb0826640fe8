use Rattle.std.proofs.Common.{ap}
use mathlib.Core.Bool.{not}
use Rattle.clausetext.proofs.Lexing.{word_over, word_stops, word_on}
use Rattle.clausetext.proofs.token.word_length.Goals as goal

pub returns-then-not-goes_on : goal.returns-then-not-goes_on
returns-then-not-goes_on c =
    word_stops c.args.text.now c.loop-at.invariant c.loop-at-test.true c.kind_of.ensures c.goes_on.ensures (ap not c.if-not-goes_on.true)

pub loop-at-preserved : goal.loop-at-preserved
loop-at-preserved c =
    word_on c.args.text.now c.loop-at.invariant c.loop-at-test.true c.kind_of.ensures c.goes_on.ensures (ap not c.if-not-goes_on.false)

pub returns : goal.returns
returns c = word_over c.args.text.now c.loop-at.invariant c.loop-at-test.false c.loop-at.auto.at-end
