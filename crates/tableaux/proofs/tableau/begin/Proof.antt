use lib.ListN.{length-set}
use mathlib.Core.Path.{◌∙◌}
use native.Mathlib.Omega.{arith}
use Rattle.tableaux.proofs.Beginning.{first_size, cleared_size, cleared_low, cleared_high, cleared_notes, begin_counts, notes_as, begun_as}
use borrow.Author.Rules.{rules}
use Rattle.tableaux.proofs.tableau.begin.Statement.{statement}
use Rattle.tableaux.proofs.tableau.begin.Tie as tie

pub begin_spec : {M : Type 1} → statement M
begin_spec =
    tie.close
    (tie.spec
    (λ c κs. search rules)
    (λ c. search rules)
    (λ c κs. let entry = c in omega (arith, first_size entry.args.work.now entry.requires.0 c.clear.ensures))
    (λ c. let entry = c in omega (arith, cleared_size entry.args.work.now entry.requires.0 c.clear.ensures c.clear-2.ensures))
    (λ c. let entry = c in simp length-set (omega (arith, cleared_size entry.args.work.now entry.requires.0 c.clear.ensures c.clear-2.ensures)))
    (λ c κs. search rules)
    (λ c κs. let counts = begin_counts c.clear-2.new.work (cleared_size c.args.work.now c.requires.0 c.clear.ensures c.clear-2.ensures) (cleared_low c.args.work.now c.requires.0 c.clear.ensures c.clear-2.ensures) (cleared_high c.args.work.now c.requires.0 c.clear.ensures c.clear-2.ensures) c.requires.1 c.literals_at-count.ensures in ((simp length-set (cleared_size c.args.work.now c.requires.0 c.clear.ensures c.clear-2.ensures), omega arith, counts.0), counts.1))
    (λ c. c.hang.auto.work ∙ (simp length-set (c.clear-2.auto.work ∙ c.clear.auto.work)))
    (λ c. let entry = c in (begun_as c.clear-2.new.work (cleared_size entry.args.work.now entry.requires.0 c.clear.ensures c.clear-2.ensures) (cleared_low entry.args.work.now entry.requires.0 c.clear.ensures c.clear-2.ensures) (cleared_high entry.args.work.now entry.requires.0 c.clear.ensures c.clear-2.ensures) entry.requires.1 c.literals_at-count.ensures c.hang.ensures, λ i a b. notes_as c.clear-2.new.work (cleared_size entry.args.work.now entry.requires.0 c.clear.ensures c.clear-2.ensures) (cleared_low entry.args.work.now entry.requires.0 c.clear.ensures c.clear-2.ensures) (cleared_high entry.args.work.now entry.requires.0 c.clear.ensures c.clear-2.ensures) entry.requires.1 c.literals_at-count.ensures c.hang.ensures i a b ∙ cleared_notes entry.args.work.now entry.requires.0 c.clear.ensures c.clear-2.ensures i a b)))
