use Rattle.limits.proofs.Counting.{more_told}
use Rattle.limits.proofs.find.over_limit.Goals as goal

pub returns : goal.returns
returns c = let a = c.args in more_told a.text.now a.marks.now a.places.now a.kind a.limit c.put_kinds.ensures c.number.ensures
