use Rattle.std.proofs.Common.{rules}
use Rattle.limits.proofs.Telling.{wrong_untold}
use Rattle.naming.proofs.Indexing.{fine_short, fine_said}
use Rattle.limits.proofs.tell.over.Goals as goal

pub over_text-requires : goal.over_text-requires
over_text-requires c = search (rules, fine_short, fine_said)

pub returns-in-Err : goal.returns-in-Err
returns-in-Err c = wrong_untold c.args.file.now c.args.text.now c.judge_text.ensures c.in-Err.is
