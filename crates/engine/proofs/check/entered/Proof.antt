use Rattle.engine.proofs.Checker.Walks.{walk_noted}
use Rattle.engine.proofs.check.entered.Statement.{statement}
use Rattle.engine.proofs.check.entered.Tie as tie

pub entered_spec : {M : Type 1} → statement M
entered_spec =
    tie.close
    (tie.spec
    (λ c κs. let s = c in ((_, _, s.requires.1 c.if-noted.true), s.requires.2))
    (λ c. let s = c in walk_noted s.args.file.now s.requires.0 s.args.clause s.args.literal c.entry.result (c.entry.ensures _ _ (s.requires.1 c.if-noted.true)))
    (λ c κs. let s = c in (s.requires.0, s.requires.2))
    (λ c. c.entry-2.ensures))
