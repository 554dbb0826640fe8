use Rattle.std.proofs.Common.{rules}
use Rattle.verdicts.proofs.Saying.{hung_text_laws}
use Rattle.verdicts.proofs.verdict.hung.Goals as goal

pub returns-then-number-eq0 : goal.returns-then-number-eq0
returns-then-number-eq0 c = search (rules, hung_text_laws)

pub returns : goal.returns
returns c = search (rules, hung_text_laws)
