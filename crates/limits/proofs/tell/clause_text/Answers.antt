use Rattle.limits.proofs.Telling.{clause_told}
use Rattle.limits.proofs.tell.clause_text.Goals as goal

pub returns : goal.returns
returns c = let a = c.args in clause_told a.file.now a.text.now c.bytes-a.ensures c.bytes-b.ensures c.put_name-c.ensures c.reason.ensures
