use borrow.Author.Rules.{rules}
use mathlib.Core.Path.{sym, ◌∙◌}
use Rattle.engine.proofs.Checker.Steps.{read_is, malformed_judged, extend_unlet}
use Rattle.engine.proofs.check.step_taken.Statement.{statement}
use Rattle.engine.proofs.check.step_taken.Tie as tie

pub step_taken_spec : {M : Type 1} → statement M
step_taken_spec =
    tie.close
    (tie.spec
    (λ c κs. search rules)
    (λ c. search rules)
    (λ c κs. c.requires.0)
    (λ c. search rules)
    (λ c κs. c.requires.0)
    (λ c. search rules)
    (λ c. let entry = c in extend_unlet entry.requires.0 entry.args.conditions entry.args.word (sym (read_is entry.args.conditions.restarts entry.args.word) ∙ sym c.decode_for-step.ensures ∙ c.in-Extension.is) (sym c.restarts_leaf.ensures ∙ c.if-restarts_leaf.true))
    (λ c κs. let entry = c in (entry.requires.0, entry.requires.1, entry.requires.2, sym (read_is entry.args.conditions.restarts entry.args.word) ∙ sym c.decode_for-step.ensures ∙ c.in-Extension.is, entry.requires.3, sym c.restarts_leaf.ensures ∙ c.if-restarts_leaf.false))
    (λ c. search rules)
    (λ c κs. (c.requires.0, c.requires.1, c.requires.2, c.requires.4, sym (read_is c.args.conditions.restarts c.args.word) ∙ sym c.decode_for-step.ensures ∙ c.in-Restart.is))
    (λ c. search rules)
    (λ c. search rules)
    (λ c. let entry = c in c.reduction.ensures _ (sym (read_is entry.args.conditions.restarts entry.args.word) ∙ sym c.decode_for-step.ensures ∙ c.in-Reduction.is))
    (λ c. search rules)
    (λ c. c.extension.ensures)
    (λ c. search rules)
    (λ c. c.restart.ensures)
    (λ c. malformed_judged c.args.conditions c.args.word (sym c.in-Malformed.is ∙ c.decode_for-step.ensures ∙ read_is c.args.conditions.restarts c.args.word)))
