use borrow.Author.Rules.{rules}
use Rattle.asking.proofs.Writes.{few_words, bound_and_budget}
use Rattle.asking.proofs.program.words.Statement.{statement}
use Rattle.asking.proofs.program.words.Tie as tie

ruleset all = (rules, few_words, bound_and_budget)

pub words_spec : {M : Type 1} → statement M
words_spec =
    tie.close
    (tie.spec
    (λ c κs. search all)
    (λ c. search all)
    (λ c. search all)
    (λ c. search all)
    (λ c. search all)
    (λ c. search all)
    (λ c. search all)
    (λ c. search all)
    (λ c κs. search all)
    (λ c. search all)
    (λ c. search all))
