use Rattle.written_proofs.proofs.Pieces.{verb_reduce, verb_extend, verb_wrong, verb_word}
use Rattle.written_proofs.proofs.read.verb.Goals as goal

pub returns-then-same : goal.returns-then-same
returns-then-same c = verb_reduce c.args.own.now c.same.ensures c.if-same.true

pub returns-then-same-2 : goal.returns-then-same-2
returns-then-same-2 c = verb_extend c.args.own.now c.same.ensures c.if-same.false c.same-2.ensures c.if-same-2.true

pub returns-in_default : goal.returns-in_default
returns-in_default c = verb_wrong c.args.own.now c.same.ensures c.if-same.false c.same-2.ensures c.if-same-2.false c.word.ensures c.in_default.is

pub returns : goal.returns
returns c = verb_word c.args.own.now c.same.ensures c.if-same.false c.same-2.ensures c.if-same-2.false c.word.ensures c.in-Some.is
