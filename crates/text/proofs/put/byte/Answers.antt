use Rattle.std.proofs.Common.{rules}
use Rattle.text.proofs.Putting.{stored}
use Rattle.text.proofs.put.byte.Goals as goal

pub returns : goal.returns
returns c = stored _ _ _ (search rules) (search rules) c.store.ensures.stored c.store.ensures.next
