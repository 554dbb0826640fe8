use Rattle.std.proofs.Common.{rules}
use Rattle.engine.proofs.Nowhere.Seen.{seen_laws}
use Rattle.engine.proofs.search.in_vain.Goals as goal

pub returns-then-clashes : goal.returns-then-clashes
returns-then-clashes c e = search (rules, seen_laws)
