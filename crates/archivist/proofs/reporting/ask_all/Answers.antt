use borrow.Author.Rules.{rules}
use Rattle.reports.proofs.Cutting.{clause_falls}
use Rattle.archivist.proofs.reporting.ask_all.Goals as goal

pub loop-at-smaller : goal.loop-at-smaller
loop-at-smaller c = search (rules, clause_falls)
