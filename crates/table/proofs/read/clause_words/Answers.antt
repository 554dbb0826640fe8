use Rattle.std.proofs.Common.{arith}
use Rattle.table.proofs.Clauses.{words_whole}
use Rattle.table.proofs.read.clause_words.Goals as goal

pub returns : goal.returns
returns c = words_whole c.variables.ensures c.literals.ensures c.in_ok-reached.ensures (omega arith) c.requires c.mix_word-h.ensures
