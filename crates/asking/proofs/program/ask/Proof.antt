use borrow.Author.Rules.{rules}
use Rattle.asking.proofs.Writes.{whole_text}
use Rattle.asking.proofs.program.ask.Statement.{statement}
use Rattle.asking.proofs.program.ask.Tie as tie

pub ask_spec : {M : Type 1} → statement M
ask_spec =
    tie.close
    (tie.spec
    (λ c κs. search rules)
    (λ c. search rules)
    (λ c. (search rules, λ h. whole_text _ c.answer.ensures h)))
