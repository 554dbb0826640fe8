use Rattle.answering.proofs.Telling.{answers_are}
use Rattle.answering.proofs.tell.answers.Goals as goal

pub returns : goal.returns
returns c =
    answers_are c.args.name.now c.args.text.now c.args.index.now c.args.file.now c.args.words.now c.wide.ensures c.words-own.ensures c.answers.ensures
