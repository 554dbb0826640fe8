use Rattle.answering.proofs.Telling.{found_told}
use Rattle.answering.proofs.tell.found_in.Goals as goal

pub returns : goal.returns
returns c =
    found_told c.args.wanted c.args.name.now c.args.file.now c.index.ensures c.args.l c.args.steps.now c.args.words.now c.found.ensures
