use Rattle.std.proofs.Common.{rules}
use Rattle.engine.proofs.Nowhere.Seen.{symbol_laws}
use Rattle.engine.proofs.vain.first_symbol.Goals as goal

pub word_at-requires : goal.word_at-requires
word_at-requires c = search (rules, symbol_laws)

pub follow-requires : goal.follow-requires
follow-requires c = search (rules, symbol_laws)

pub word_at-requires-2 : goal.word_at-requires-2
word_at-requires-2 c = search (rules, symbol_laws)
