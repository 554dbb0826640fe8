use Rattle.seen.proofs.Seeing.{seen_words, seen_written}
use Rattle.seen.proofs.write_seen.Goals as goal

pub returns : goal.returns
returns c =
    (seen_words c.args.file.now c.flag_seen.ensures c.measure-size.ensures, seen_written c.args.file.now c.flag_seen.ensures c.args.copy.now c.write.ensures)
