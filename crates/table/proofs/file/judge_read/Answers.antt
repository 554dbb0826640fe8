use Rattle.std.proofs.Common.{rules}
use Rattle.table.proofs.Files.{read_laws}
use Rattle.table.proofs.file.judge_read.Goals as goal

pub returns-then-read-wide : goal.returns-then-read-wide
returns-then-read-wide c = search (rules, read_laws)

pub returns-then-read-wide-2 : goal.returns-then-read-wide-2
returns-then-read-wide-2 c = search (rules, read_laws)

pub returns-then-question_positive : goal.returns-then-question_positive
returns-then-question_positive c = search (rules, read_laws)

pub returns-then-question_restricted : goal.returns-then-question_restricted
returns-then-question_restricted c = search (rules, read_laws)
