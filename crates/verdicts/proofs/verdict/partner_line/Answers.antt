use Rattle.verdicts.proofs.Saying.{label_reduction, label_extension, label_other}
use Rattle.verdicts.proofs.verdict.partner_line.Goals as goal

pub returns-in-Reduction : goal.returns-in-Reduction
returns-in-Reduction c = label_reduction _ _ _ _ c.decode.ensures c.in-Reduction.is c.leaf_line.ensures

pub returns-in-Extension : goal.returns-in-Extension
returns-in-Extension c = label_extension _ _ _ _ c.decode.ensures c.in-Extension.is c.leaf_line-in-Extension.ensures

pub returns-in-Restart : goal.returns-in-Restart
returns-in-Restart c = label_other _ _ _ _ c.decode.ensures c.in-Restart.is c.leaf_line-in-Restart.ensures
