-- The search of an accepted file from its start.
use borrow.Author.Rules.{rules}
use native.Mathlib.Omega.{arith}
use Rattle.engine.proofs.Searching.Finding.{file_least, file_most, question_clause, run_treats, run_ends}
use Rattle.engine.proofs.search.run.Statement.{statement}
use Rattle.engine.proofs.search.run.Tie as tie

pub run_spec : {M : Type 1} → statement M
run_spec =
    tie.close
    (tie.spec
    (λ c. let s = c in omega (arith, file_least s.args.file.now s.requires.1 s.requires.2))
    (λ c. let s = c in omega (arith, file_most s.args.file.now s.requires.1 s.requires.2))
    (λ c κs. let s = c in (s.requires.0, question_clause s.args.file.now s.requires.1 s.requires.2))
    (λ c κs. let k = c in let s = k in run_treats s.args.file.now s.requires.1 s.requires.2 (λ i. (k.shared_slice_known-1.given i).fits) s.args.conditions s.requires.3 c.begin-place.ensures.0 s.requires.4 c.begin-place.ensures.1)
    (λ c. search rules)
    (λ c. let k = c in let s = k in run_ends s.args.file.now s.requires.1 s.requires.2 (λ i. (k.shared_slice_known-1.given i).fits) s.args.conditions s.requires.3 c.begin-place.ensures.0 c.begin-place.ensures.1 c.treat.ensures))
