use Rattle.asking.proofs.Writes.{unreadable, read_words}
use Rattle.asking.proofs.program.answer.Goals as goal

pub returns-then-readable : goal.returns-then-readable
returns-then-readable c =
    read_words c.args.input.now c.readable.ensures c.if-readable.true c.filled-space.result c.filled-space.ensures.sized
    c.gather-n.ensures.value c.gather-n.ensures.out_after c.front.ensures c.words.ensures

pub returns : goal.returns
returns c = unreadable c.args.input.now c.readable.ensures c.if-readable.false c.refuse.ensures
