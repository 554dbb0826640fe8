use Rattle.clausetext.proofs.StuckLoop.{Following}
use Rattle.clausetext.proofs.stuck.stuck_in.Given as goal

abbrev pub invariant-loop-c : goal.invariant-loop-c
invariant-loop-c l = Following l.text l.s l.c-index
