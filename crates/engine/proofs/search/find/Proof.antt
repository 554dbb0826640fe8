-- The search of an accepted file: by scans, where the body is long and the search short; else by the notes of its literals.
use borrow.Author.Rules.{rules}
use mathlib.Core.Path.{sym, ◌∙◌}
use native.Mathlib.Omega.{arith}
use Prim.Native.Nat.{◌-◌}
use lib.ListN.{length, length-set}
use Rattle.index.specs.Places.{noted_place}
use Rattle.engine.proofs.Searching.Finding.{file_least, file_most, early_within, settled_ends, nothing_noted}
use Rattle.engine.proofs.search.find.Statement.{statement}
use Rattle.engine.proofs.search.find.Tie as tie

pub find_spec : {M : Type 1} → statement M
find_spec =
    tie.close
    (tie.spec
    (λ c. let s = c in omega (arith, file_least s.args.file.now s.requires.1 s.requires.2))
    (λ c. let s = c in omega (arith, file_most s.args.file.now s.requires.1 s.requires.2))
    (λ c κs. let s = c in (s.requires.0, s.requires.1, s.requires.2, s.requires.3))
    (λ c. search rules)
    (λ c. c.run_noted.ensures)
    (λ c κs. search rules)
    (λ c. let s = c in omega (arith, s.requires.0))
    (λ c κs. let s = c in (length-set s.args.work.now noted_place 4096 ∙ s.requires.0, s.requires.1, s.requires.2, s.requires.3, nothing_noted s.args.file.now s.args.work.now s.requires.0))
    (λ c κs. search rules)
    (λ c κs. let s = c in (c.run-first.auto.work ∙ length-set s.args.work.now noted_place 4096 ∙ s.requires.0, s.requires.1, s.requires.2, s.requires.3))
    (λ c. c.run_noted-then-not-settled.auto.work ∙ c.run-first.auto.work ∙ length-set c.args.work.now noted_place 4096)
    (λ c. c.run_noted-then-not-settled.ensures)
    (λ c. let s = c in omega (arith, early_within (length s.args.file.now - 4) s.args.budget c.early-most.ensures))
    (λ c. let s = c in omega (arith, early_within (length s.args.file.now - 4) s.args.budget c.early-most.ensures, c.run-first.ensures.within))
    (λ c. c.run-first.auto.work ∙ length-set c.args.work.now noted_place 4096)
    (λ c. let s = c in settled_ends c.run-first.ensures (early_within (length s.args.file.now - 4) s.args.budget c.early-most.ensures) (sym c.settled.ensures ∙ c.if-not-settled.false)))
