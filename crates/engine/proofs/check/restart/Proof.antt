use borrow.Author.Rules.{rules}
use mathlib.Core.Path.{sym, ◌∙◌}
use Rattle.engine.proofs.Checker.Steps.{restart_unlet_judged, restart_over_judged, restart_openable, restart_judged}
use Rattle.engine.proofs.check.restart.Statement.{statement}
use Rattle.engine.proofs.check.restart.Tie as tie

pub restart_spec : {M : Type 1} → statement M
restart_spec =
    tie.close
    (tie.spec
    (λ c κs. search rules)
    (λ c. search rules)
    (λ c. restart_unlet_judged c.requires.0 c.args.conditions c.args.word c.requires.4 (sym c.restarts_leaf.ensures ∙ c.if-not-restarts_leaf.true))
    (λ c. search rules)
    (λ c. search rules)
    (λ c. let entry = c in restart_over_judged entry.requires.0 entry.args.conditions entry.args.word entry.requires.4 (sym c.restarts_leaf.ensures ∙ c.if-not-restarts_leaf.false) c.if-conditions-work.true)
    (λ c κs. let entry = c in restart_openable entry.requires.0 entry.args.conditions entry.args.word entry.requires.4 (sym c.restarts_leaf.ensures ∙ c.if-not-restarts_leaf.false) c.if-conditions-work.false entry.requires.1 entry.requires.3 entry.requires.2)
    (λ c. search rules)
    (λ c. let entry = c in restart_judged entry.requires.0 entry.args.conditions entry.args.word entry.requires.4 (sym c.restarts_leaf.ensures ∙ c.if-not-restarts_leaf.false) c.if-conditions-work.false entry.requires.1 entry.requires.3 c.restart.ensures))
