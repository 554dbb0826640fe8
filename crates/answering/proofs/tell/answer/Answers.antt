use Rattle.answering.proofs.Telling.{answer_is}
use Rattle.answering.proofs.tell.answer.Goals as goal

pub returns : goal.returns
returns c =
    answer_is c.args.text.now c.args.index.now c.args.file.now c.args.l.bound c.args.l.tries c.args.l.outcome.disjuncts c.args.words.now
    c.literals-literals.ensures c.front.ensures c.found-a.ensures c.words-b.ensures c.byte.ensures
