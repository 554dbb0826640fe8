use Rattle.results.proofs.Lines.{listed_is}
use Rattle.results.proofs.textual.listed_text.Goals as goal

pub returns : goal.returns
returns c = listed_is c.args.status c.args.place c.args.count c.args.text.now c.args.work.now c.wide.ensures c.rest.ensures c.text_kept-intact.ensures c.byte_line.ensures
