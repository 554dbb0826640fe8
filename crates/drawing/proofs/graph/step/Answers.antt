use borrow.Author.Rules.{rules}
use Rattle.drawing.proofs.Graphs.{drawn_reduction, drawn_extension, drawn_restart, drawn_malformed}
use Rattle.drawing.proofs.graph.step.Goals as goal

ruleset all = (rules, drawn_restart, drawn_malformed)

pub returns-in-Reduction : goal.returns-in-Reduction
returns-in-Reduction c =
    drawn_reduction _ _ _ _ _ c.at.ensures c.decode.ensures c.leftmost-leaf.ensures c.in-Reduction.is c.ancestor.ensures c.reduction.ensures

pub returns-in-Extension : goal.returns-in-Extension
returns-in-Extension c =
    drawn_extension _ _ _ _ _ c.at.ensures c.decode.ensures c.leftmost-leaf.ensures c.in-Extension.is c.at-in-Extension.ensures c.copy_number.ensures
    c.extension.ensures

pub returns-in-Restart : goal.returns-in-Restart
returns-in-Restart c = search all

pub returns-in-Malformed : goal.returns-in-Malformed
returns-in-Malformed c = search all
