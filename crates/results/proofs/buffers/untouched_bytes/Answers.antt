use Rattle.std.proofs.Common.{◌∙◌}
use Rattle.results.proofs.Kept.{all_is}
use Rattle.results.proofs.buffers.untouched_bytes.Goals as goal

pub returns : goal.returns
returns c = c.all.ensures ∙ all_is 0xA5 c.args.list.now
