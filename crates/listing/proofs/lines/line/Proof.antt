use borrow.Author.Rules.{rules}
use Rattle.listing.proofs.Writing.{line_is}
use Rattle.listing.proofs.lines.line.Statement.{statement}
use Rattle.listing.proofs.lines.line.Tie as tie

ruleset all = (rules, line_is)

pub line_spec : {M : Type 1} → statement M
line_spec =
    tie.close
    (tie.spec
    (λ c κs. search all)
    (λ c κs. search all)
    (λ c κs. search all)
    (λ c κs. search all)
    (λ c. search all)
    (λ c. search all))
