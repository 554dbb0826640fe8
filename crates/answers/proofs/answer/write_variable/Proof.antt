-- The variable has a number, or takes the next.
use borrow.Author.Rules.{rules}
use mathlib.Core.Path.{refl}
use Rattle.answers.proofs.Writing.{variable_known, variable_new}
use Rattle.answers.proofs.answer.write_variable.Statement.{statement}
use Rattle.answers.proofs.answer.write_variable.Tie as tie

pub write_variable_spec : {M : Type 1} → statement M
write_variable_spec =
    tie.close
    (tie.spec
    (λ c κs. search rules)
    (λ c. search rules)
    (λ c. search rules)
    (λ c. search rules)
    (λ c. search rules)
    (λ c. search rules)
    (λ c. search rules)
    (λ c. search rules)
    (λ c. search rules)
    (λ c. variable_known _ _ _ _ _ _ c.wide-place.ensures c.requires.1 refl c.if-known-ne0.true refl)
    (λ c. search rules)
    (λ c. search rules)
    (λ c. search rules)
    (λ c. search rules)
    (λ c. search rules)
    (λ c. search rules)
    (λ c. search rules)
    (λ c. search rules)
    (λ c. search rules)
    (λ c. variable_new _ _ _ _ _ _ c.wide-place.ensures c.requires.1 refl c.requires.0 c.if-known-ne0.false refl))
