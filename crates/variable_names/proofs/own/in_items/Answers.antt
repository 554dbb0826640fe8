use borrow.Author.Rules.{rules}
use Rattle.variable_names.proofs.Named.{among_late}
use Rattle.variable_names.proofs.own.in_items.Goals as goal

ruleset all = (rules, among_late)

pub returns-then-wanted-ge16 : goal.returns-then-wanted-ge16
returns-then-wanted-ge16 c = search all
