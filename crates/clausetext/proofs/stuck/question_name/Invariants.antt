use Rattle.clausetext.proofs.StuckLoop.{Seeking}
use Rattle.clausetext.proofs.stuck.question_name.Given as goal

abbrev pub invariant-loop-at : goal.invariant-loop-at
invariant-loop-at l = Seeking l.text l.many l.s l.at l.name
