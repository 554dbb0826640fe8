use borrow.Author.Rules.{rules}
use mathlib.Core.Path.{sym, ◌∙◌, ap}
use native.Mathlib.Omega.{arith}
use lib.Seq.{length-take-le}
use Rattle.table.proofs.Accepted.{accepted}
use Rattle.restart.specs.Walking.{conclusions_of}
use Rattle.restart.proofs.Meaning.{judged_walk}
use Rattle.restart.proofs.conclusions.judge.Statement.{statement}
use Rattle.restart.proofs.conclusions.judge.Tie as tie

pub judge_spec : {M : Type 1} → statement M
judge_spec =
    tie.close
    (tie.spec
    (λ c. omega (arith, (accepted _ c.requires.0).least))
    (λ c. sym (length-take-le _ c.args.file.now (omega arith)))
    (λ c κs. search rules)
    (λ c. let a = c in c.missing.ensures ∙ ap conclusions_of (judged_walk a.args.file.now a.requires.0 a.requires.1)))
