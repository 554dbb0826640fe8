use borrow.Author.Rules.{rules}
use Rattle.assistant.specs.Expected.{expected_text}
use Rattle.assistant.proofs.Texts.{mode_laws}
use Rattle.assistant.proofs.expected.expected.Goals as goal

ruleset all = (rules, mode_laws)

pub returns-in-Between : goal.returns-in-Between
unfolding expected_text
returns-in-Between c = search all

pub returns-in-Owed : goal.returns-in-Owed
returns-in-Owed c = search all
