use Rattle.clausetext.proofs.Lexing.{Passing}
use Rattle.clausetext.proofs.token.next.Given as goal

abbrev pub invariant-loop-at : goal.invariant-loop-at
invariant-loop-at l = Passing l.text l.from l.at l.remark
