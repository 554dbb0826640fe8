use borrow.Author.Rules.{rules}
use Rattle.assistant.proofs.Bytes.{words_laws}
use Rattle.assistant.proofs.convert.words.Goals as goal

ruleset all = (rules, words_laws)

pub loop-w-init : goal.loop-w-init
loop-w-init c = search all

pub loop-w-preserved : goal.loop-w-preserved
loop-w-preserved c = search all

pub returns : goal.returns
returns c = search all
