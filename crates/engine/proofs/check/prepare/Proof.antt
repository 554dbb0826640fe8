use Rattle.engine.proofs.Checker.Run.{body_literals, noted_body}
use borrow.Author.Rules.{rules}
use Rattle.rules.proofs.Unify.Tests.{never}
use Rattle.engine.proofs.check.prepare.Statement.{statement}
use Rattle.engine.proofs.check.prepare.Tie as tie

pub prepare_spec : {M : Type 1} → statement M
prepare_spec = tie.close (tie.spec (λ c y. absurd (never y c.if-not-noted.true)) (λ c κs. search rules) (λ c κs. let body = body_literals c.args.file.now c.requires.1 c.body_of.ensures in (c.requires.0, body.0, body.1, body.2)) (λ c. search rules) (λ c y. noted_body c.body_of.ensures c.note.ensures))
