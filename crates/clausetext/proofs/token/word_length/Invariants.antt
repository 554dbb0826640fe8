use Rattle.clausetext.proofs.Lexing.{Ending}
use Rattle.clausetext.proofs.token.word_length.Given as goal

abbrev pub invariant-loop-at : goal.invariant-loop-at
invariant-loop-at l = Ending l.text l.at
