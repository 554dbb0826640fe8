use Rattle.std.proofs.Common.{rules}
use Rattle.engine.proofs.Nowhere.Seen.{stuck_laws}
use Rattle.engine.proofs.vain.stuck.Goals as goal

pub word_at-word-requires : goal.word_at-word-requires
word_at-word-requires c = search (rules, stuck_laws)
