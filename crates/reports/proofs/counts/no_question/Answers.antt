use Rattle.std.proofs.Common.{rules}
use Rattle.reports.proofs.Counting.{no_question_is}
use Rattle.reports.proofs.counts.no_question.Goals as goal

ruleset all = (rules, no_question_is)

pub returns : goal.returns
returns c = search all
