use borrow.Author.Rules.{rules}
use Rattle.limits.proofs.Limiting.{shared_laws}
use Rattle.limits.proofs.find.shared_limit.Goals as goal

ruleset all = (rules, shared_laws)

pub returns-then-clauses-gt512 : goal.returns-then-clauses-gt512
returns-then-clauses-gt512 c = search all

pub returns-then-more_than : goal.returns-then-more_than
returns-then-more_than c = search all

pub returns-then-more_than-2 : goal.returns-then-more_than-2
returns-then-more_than-2 c = search all

pub returns-then-marks-gt15996 : goal.returns-then-marks-gt15996
returns-then-marks-gt15996 c = search all

pub returns : goal.returns
returns c = search all
