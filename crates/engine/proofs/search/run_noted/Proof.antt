-- The literals noted and linked, and the search by them.
use borrow.Author.Rules.{rules}
use mathlib.Core.Path.{◌∙◌}
use native.Mathlib.Omega.{arith}
use Rattle.engine.proofs.Searching.Finding.{file_least, file_most, file_literals, noted_ends}
use Rattle.engine.proofs.search.run_noted.Statement.{statement}
use Rattle.engine.proofs.search.run_noted.Tie as tie

pub run_noted_spec : {M : Type 1} → statement M
run_noted_spec =
    tie.close
    (tie.spec
    (λ c. let s = c in omega (arith, file_least s.args.file.now s.requires.1 s.requires.2))
    (λ c. let s = c in omega (arith, file_most s.args.file.now s.requires.1 s.requires.2))
    (λ c κs. let s = c in (s.requires.0, omega arith, omega (arith, file_most s.args.file.now s.requires.1 s.requires.2), file_literals s.args.file.now s.requires.1 s.requires.2))
    (λ c κs. search rules)
    (λ c κs. let s = c in let n = c.note in let l = c.link in (l.auto.work ∙ n.auto.work ∙ s.requires.0, s.requires.1, s.requires.2, s.requires.3, λ y. l.ensures _ n.ensures))
    (λ c. search rules)
    (λ c. noted_ends (c.link.ensures _ c.note.ensures) c.run.ensures))
