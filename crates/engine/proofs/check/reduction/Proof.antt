use borrow.Author.Rules.{rules}
use native.Mathlib.Omega.{arith}
use Rattle.engine.proofs.Performed.{Small}
use Rattle.engine.proofs.Checker.Steps.{ready_upward, reduce_closed, reduce_missing, reduce_reads, reduce_unfit, reduce_allowed, reduce_judged}
use Rattle.engine.proofs.check.reduction.Statement.{statement}
use Rattle.engine.proofs.check.reduction.Tie as tie

ruleset all = (rules, reduce_closed, reduce_missing, reduce_reads, reduce_unfit, reduce_allowed, reduce_judged)

returns : tie.Need-returns-then-head-eq0
returns c = search all

ancestor-requires : tie.Need-ancestor-above-requires
ancestor-requires c κs =
    let ready = c.requires in
    (ready.good.size, omega arith, omega (arith, ready.head, ready.room, ready.good.copies), ready_upward ready)

returns-2 : tie.Need-returns-in_default
returns-2 c = search all

word-at-requires : tie.Need-word_at-found-requires
word-at-requires c κs = reduce_reads c.requires c.args.word c.args.height c.if-head-eq0.false c.ancestor-above.ensures c.in-Some.is

returns-3 : tie.Need-returns-then-found-wanted
returns-3 c =
    let start = c in
    let small : Small start.args.file.now = λ i. (start.shared_slice_known-1.given i).fits in
    search all

reduce-requires : tie.Need-reduce-requires
reduce-requires c κs =
    let start = c in
    let small : Small start.args.file.now = λ i. (start.shared_slice_known-1.given i).fits in
    reduce_allowed start.requires start.args.word start.args.height c.if-head-eq0.false c.ancestor-above.ensures c.in-Some.is small c.word_at-found.ensures c.wanted.ensures c.if-found-wanted.false

returns-4 : tie.Need-returns
returns-4 c =
    let start = c in
    let small : Small start.args.file.now = λ i. (start.shared_slice_known-1.given i).fits in
    reduce_judged start.requires start.args.word start.args.height c.if-head-eq0.false c.ancestor-above.ensures c.in-Some.is small c.word_at-found.ensures c.wanted.ensures c.if-found-wanted.false c.reduce.ensures c.by_meeting.ensures

pub reduction_spec : {M : Type 1} → statement M
reduction_spec =
    tie.close
    (tie.spec
    returns
    ancestor-requires
    (λ c. search rules)
    (λ c. search rules)
    (λ c. search rules)
    returns-2
    word-at-requires
    (λ c κs. search rules)
    (λ c. search rules)
    returns-3
    reduce-requires
    (λ c κs. search rules)
    (λ c. search rules)
    returns-4)
