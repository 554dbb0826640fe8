use Rattle.clausetext.proofs.JudgeLoop.{Judging}
use Rattle.clausetext.proofs.judge.judge_text.Given as goal

abbrev pub invariant-loop-at : goal.invariant-loop-at
invariant-loop-at l = Judging l.text l.s l.at
