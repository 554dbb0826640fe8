use Rattle.results.proofs.Lines.{written_is}
use Rattle.results.proofs.textual.written_text.Goals as goal

pub returns : goal.returns
returns c = written_is c.args.status c.args.place c.args.count c.args.text.now c.wide.ensures c.rest.ensures c.untouched_bytes-intact.ensures c.byte_line.ensures
