use borrow.Author.Rules.{rules}
use Rattle.limits.proofs.Limiting.{own_laws}
use Rattle.limits.proofs.find.own_limit.Goals as goal

ruleset all = (rules, own_laws)

pub returns-then-clause-gt7 : goal.returns-then-clause-gt7
returns-then-clause-gt7 c = search all

pub returns-then-most_parts-gt4 : goal.returns-then-most_parts-gt4
returns-then-most_parts-gt4 c = search all

pub returns-then-more_than : goal.returns-then-more_than
returns-then-more_than c = search all

pub returns-then-marks-gt255 : goal.returns-then-marks-gt255
returns-then-marks-gt255 c = search all

pub returns : goal.returns
returns c = search all
