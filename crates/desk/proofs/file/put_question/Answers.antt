use borrow.Author.Rules.{rules}
use Rattle.desk.proofs.Writing.{put_laws}
use Rattle.desk.proofs.file.put_question.Goals as goal

ruleset all = (rules, put_laws)

pub returns-in-Matinee : goal.returns-in-Matinee
returns-in-Matinee c = search all

pub returns-in-Evening : goal.returns-in-Evening
returns-in-Evening c = search all

pub returns-in-Either : goal.returns-in-Either
returns-in-Either c = search all
