use borrow.Author.Rules.{rules}
use Rattle.leaves.proofs.Binding.{words_are, words_few}
use Rattle.leaves.proofs.bound.words.Goals as goal

ruleset all = (rules, words_are, words_few)

pub returns : goal.returns
returns c = record { result_value = search all; result_len_bound = search all }
