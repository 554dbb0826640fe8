use borrow.Author.Rules.{rules}
use Rattle.engine.proofs.Checker.Steps.{leaf_reads}
use Rattle.engine.proofs.check.wanted.Statement.{statement}
use Rattle.engine.proofs.check.wanted.Tie as tie

ruleset all = (rules, leaf_reads)

pub wanted_spec : {M : Type 1} → statement M
wanted_spec =
    tie.close
    (tie.spec
    (λ c κs. search rules)
    (λ c κs. search all)
    (λ c κs. search rules)
    (λ c. cc))
