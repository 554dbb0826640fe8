use Rattle.std.proofs.Math.Seq.{set-get_or}
use Rattle.std.proofs.Common.{false, ◌<◌, ◌≤◌, arith, rules}
use Rattle.slim.proofs.Sweeping.{sweep_laws}
use Rattle.slim.proofs.Walks.{walk_before, walk_ended}
use Rattle.slim.proofs.dropping.sweep.Goals as goal

ruleset all = (rules, sweep_laws)

pub loop-kept-init : goal.loop-kept-init
loop-kept-init c = search all

pub after-next-requires : goal.after-next-requires
after-next-requires c =
    let h : c.loop-kept.next < c.args.asked.question = walk_before c.args.asked.file.now c.args.asked.question c.args.asked.ready c.loop-kept.kept-index c.loop-kept.next c.loop-kept.invariant.passed (omega arith) in
    search all

pub loop-kept-preserved-then-not-kept : goal.loop-kept-preserved-then-not-kept
loop-kept-preserved-then-not-kept c =
    let h : c.loop-kept.next < c.args.asked.question = walk_before c.args.asked.file.now c.args.asked.question c.args.asked.ready c.loop-kept.kept-index c.loop-kept.next c.loop-kept.invariant.passed (omega arith) in
    rw (set-get_or c.loop-kept.present c.loop-kept.kept-index false) (search all)

pub offset_bounds-asked-at : goal.offset_bounds-asked-at
offset_bounds-asked-at c =
    let h : c.loop-kept.next < c.args.asked.question = walk_before c.args.asked.file.now c.args.asked.question c.args.asked.ready c.loop-kept.kept-index c.loop-kept.next c.loop-kept.invariant.passed (omega arith) in
    search all

pub slice_bounds-lonely-end : goal.slice_bounds-lonely-end
slice_bounds-lonely-end c =
    let h : c.loop-kept.next < c.args.asked.question = walk_before c.args.asked.file.now c.args.asked.question c.args.asked.ready c.loop-kept.kept-index c.loop-kept.next c.loop-kept.invariant.passed (omega arith) in
    search all

pub loop-kept-preserved-then-not-lonely : goal.loop-kept-preserved-then-not-lonely
loop-kept-preserved-then-not-lonely c =
    let h : c.loop-kept.next < c.args.asked.question = walk_before c.args.asked.file.now c.args.asked.question c.args.asked.ready c.loop-kept.kept-index c.loop-kept.next c.loop-kept.invariant.passed (omega arith) in
    rw (set-get_or c.loop-kept.present c.loop-kept.kept-index false) (search all)

pub loop-kept-preserved : goal.loop-kept-preserved
loop-kept-preserved c =
    let h : c.loop-kept.next < c.args.asked.question = walk_before c.args.asked.file.now c.args.asked.question c.args.asked.ready c.loop-kept.kept-index c.loop-kept.next c.loop-kept.invariant.passed (omega arith) in
    search all

pub returns : goal.returns
returns c =
    let h : c.args.asked.question ≤ c.loop-kept.next = walk_ended c.args.asked.file.now c.args.asked.question c.args.asked.ready c.loop-kept.kept-index c.loop-kept.next c.loop-kept.invariant.passed (omega arith) in
    search all
