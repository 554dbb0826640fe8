use Rattle.index.proofs.Recorded.{entry_beyond, entry_over, entry_unpacks, entry_other, entry_is}
use borrow.Author.Rules.{rules}
use Rattle.index.proofs.notes.entry.Statement.{statement}
use Rattle.index.proofs.notes.entry.Tie as tie

pub entry_spec : {M : Type 1} → statement M
entry_spec =
    tie.close
    (tie.spec
    (λ c. search rules)
    (λ c κs. search rules)
    (λ c. search rules)
    (λ c. search rules)
    (λ c. search rules)
    (λ c f body g. entry_beyond g _ _ c.wide.ensures c.if-count-first.true)
    (λ c. search rules)
    (λ c f body g. entry_over g _ _ c.wide.ensures c.if-count-first.false c.if-count-first-2.true)
    (λ c. search rules)
    (λ c κs. let g = c.requires.0.2 in entry_unpacks g _ _ c.wide.ensures c.if-count-first.false c.if-count-first-2.false)
    (λ c. search rules)
    (λ c f body g. entry_other g _ _ c.wide.ensures c.if-count-first.false c.if-count-first-2.false c.unpacked-scan.ensures c.if-scan-clause.true)
    (λ c f body g. entry_is g _ _ c.wide.ensures c.if-count-first.false c.if-count-first-2.false c.unpacked-scan.ensures c.if-scan-clause.false))
