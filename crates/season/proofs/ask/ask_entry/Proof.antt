use Prim.Native.Nat.{◌+◌}
use native.Mathlib.Omega.{arith}
use lib.ListN.{length}
use borrow.Author.Rules.{rules}
use Rattle.season.specs.Asking.{entry_at}
use Rattle.season.proofs.Runs.{same_run, nothing_ran, past_list, in_list}
use Rattle.season.proofs.ask.ask_entry.Statement.{statement}
use Rattle.season.proofs.ask.ask_entry.Tie as tie

add-end : tie.Need-overflow_add-end
add-end c =
    let known = c.shared_slice_known-2-1.given in
    omega (arith, c.wide.ensures, c.wide-start.ensures, (known c.args.at).fits, (known (c.args.at + 1)).fits)

returns : tie.Need-returns-then-list-end
returns c =
    let a = c.args in
    (same_run (past_list a.table.now a.list.now (length a.answer.now) (entry_at a.entries.now a.at) (omega (arith, c.wide-start.ensures, c.wide.ensures, c.if-list-end.true))) (nothing_ran a.proof.now a.answer.now), c.requires.0)

returns-2 : tie.Need-returns
returns-2 c =
    let a = c.args in
    (same_run (in_list a.table.now a.list.now (length a.answer.now) (entry_at a.entries.now a.at) (omega (arith, c.wide-start.ensures, c.wide.ensures, c.if-list-end.false)) c.wide-start.ensures (omega (arith, c.wide-start.ensures, c.wide.ensures))) c.ask.ensures.0, c.ask.ensures.1)

pub ask_entry_spec : {M : Type 1} → statement M
ask_entry_spec =
    tie.close
    (tie.spec
    (λ c. search rules)
    (λ c. omega arith)
    (λ c κs. search rules)
    (λ c. search rules)
    (λ c. search rules)
    (λ c. omega arith)
    (λ c κs. search rules)
    add-end
    returns
    (λ c. search rules)
    (λ c. search rules)
    (λ c. omega arith)
    (λ c. omega arith)
    (λ c. search rules)
    (λ c. search rules)
    (λ c. omega arith)
    (λ c. search rules)
    (λ c. search rules)
    (λ c. omega arith)
    (λ c κs. search rules)
    (λ c. search rules)
    (λ c. search rules)
    (λ c. search rules)
    (λ c. search rules)
    returns-2)
