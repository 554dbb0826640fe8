use Rattle.results.proofs.Lines.{byte_line_is}
use Rattle.results.proofs.textual.byte_line.Goals as goal

pub returns : goal.returns
returns c = byte_line_is c.args.status c.args.place c.args.count c.args.text.now c.args.intact c.counted-a.ensures c.wide.ensures c.front.ensures c.barred_bytes-b.ensures c.verdict.ensures
