use borrow.Author.Rules.{rules}
use mathlib.Core.Path.{sym, ◌∙◌}
use native.Mathlib.Omega.{arith}
use Prim.Native.Nat.{◌-◌}
use lib.ListN.{length-set}
use Rattle.index.proofs.Recorded.{Noting, noting_begin, noting_reads, noting_small, noting_less, noting_literal, noting_count, noting_on, noting_end}
use Rattle.index.proofs.Plain.{passed_asked, passed_less, passed_on}
use Rattle.index.proofs.notes.note.Statement.{statement}
use Rattle.index.proofs.notes.note.Tie as tie

abbrev invariant-loop : tie.invariant-loop-scan
invariant-loop file work₀ body scan₀ count₀ work scan count = Noting file body work scan count

abbrev decreases-loop : tie.decreases-loop-scan
decreases-loop file work₀ body scan₀ count₀ work scan count = body - scan.at

pub note_spec : {M : Type 1} → statement M
note_spec =
    tie.close
    (tie.spec
    invariant-loop
    decreases-loop
    (λ c κs. search rules)
    (λ c. noting_begin c.requires.0 c.requires.1 c.requires.2 c.requires.3 c.beginning-scan.ensures)
    (λ c κs. search rules)
    (λ c. search rules)
    (λ c. noting_reads c.loop-scan.invariant c.loop-scan-test.true c.wide.ensures)
    (λ c κs. noting_small c.loop-scan.invariant c.loop-scan-test.true)
    (λ c κs. search rules)
    (λ c κs. passed_asked c.loop-scan.invariant c.loop-scan-test.true c.wide.ensures c.past-scan.ensures)
    (λ c. passed_less c.loop-scan.invariant c.loop-scan-test.true c.wide.ensures c.past-scan.ensures c.past_plain-scan.ensures)
    (λ c. passed_on c.loop-scan.invariant c.loop-scan-test.true c.wide.ensures c.past-scan.ensures c.past_plain-scan.ensures c.kind.ensures c.if-kind-ne2.true)
    (λ c κs. noting_literal c.loop-scan.invariant c.loop-scan-test.true c.wide.ensures c.kind.ensures c.if-kind-ne2.false)
    (λ c. let low = noting_count c.loop-scan.invariant c.loop-scan-test.true c.wide.ensures c.kind.ensures c.if-kind-ne2.false in search rules)
    (λ c. noting_less c.loop-scan.invariant c.loop-scan-test.true c.wide.ensures c.past-scan.ensures)
    (λ c. noting_on c.loop-scan.invariant c.loop-scan-test.true c.wide.ensures c.kind.ensures c.if-kind-ne2.false c.past-scan.ensures c.note_literal.ensures)
    (λ c. omega (arith, c.loop-scan.invariant.size))
    (λ c. simp length-set (c.loop-scan.invariant.size ∙ sym c.requires.0))
    (λ c. noting_end c.loop-scan.invariant (omega (arith, c.loop-scan-test.false))))
