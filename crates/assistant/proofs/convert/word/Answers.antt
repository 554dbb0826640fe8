use borrow.Author.Rules.{rules}
use Rattle.assistant.proofs.Bytes.{word_is}
use Rattle.assistant.proofs.convert.word.Goals as goal

ruleset all = (rules, word_is)

pub returns : goal.returns
returns c = search all
