use Rattle.std.proofs.Common.{◌<◌, ◌≤◌, arith, rules}
use Rattle.slim.proofs.Copying.{count_laws}
use Rattle.slim.proofs.Walks.{walk_before, walk_ended}
use Rattle.slim.proofs.writing.measure.Goals as goal

ruleset all = (rules, count_laws)

pub loop-kept-preserved-then-not-kept : goal.loop-kept-preserved-then-not-kept
loop-kept-preserved-then-not-kept c =
    let h : c.loop-kept.next < c.args.question = walk_before c.args.file.now c.args.question c.requires.0 c.loop-kept.kept-index c.loop-kept.next c.loop-kept.invariant.passed (omega arith) in
    search all

pub loop-kept-preserved : goal.loop-kept-preserved
loop-kept-preserved c =
    let h : c.loop-kept.next < c.args.question = walk_before c.args.file.now c.args.question c.requires.0 c.loop-kept.kept-index c.loop-kept.next c.loop-kept.invariant.passed (omega arith) in
    search all

pub overflow_add-result : goal.overflow_add-result
overflow_add-result c =
    let h : c.args.question ≤ c.loop-kept.next = walk_ended c.args.file.now c.args.question c.requires.0 c.loop-kept.kept-index c.loop-kept.next c.loop-kept.invariant.passed (omega arith) in
    search all

pub returns : goal.returns
returns c =
    let h : c.args.question ≤ c.loop-kept.next = walk_ended c.args.file.now c.args.question c.requires.0 c.loop-kept.kept-index c.loop-kept.next c.loop-kept.invariant.passed (omega arith) in
    search all
