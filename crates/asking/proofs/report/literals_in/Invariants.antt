use Rattle.asking.proofs.Lines.{Counting}
use Rattle.asking.proofs.report.literals_in.Given as goal

abbrev pub invariant-loop-word : goal.invariant-loop-word
invariant-loop-word l = Counting l.answer l.count l.word-index
