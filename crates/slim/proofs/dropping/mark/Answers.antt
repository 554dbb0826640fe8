use Rattle.std.proofs.Common.{◌<◌, ◌≤◌, arith, rules}
use Rattle.slim.proofs.Sweeping.{show_laws}
use Rattle.slim.proofs.Walks.{walk_before, walk_ended}
use Rattle.slim.proofs.dropping.mark.Goals as goal

ruleset all = (rules, show_laws)

pub loop-still-init : goal.loop-still-init
loop-still-init c = search all

pub after-next-requires : goal.after-next-requires
after-next-requires c =
    let h : c.loop-still.next < c.args.asked.question = walk_before c.args.asked.file.now c.args.asked.question c.args.asked.ready c.loop-still.still-index c.loop-still.next c.loop-still.invariant.passed (omega arith) in
    search all

pub loop-still-preserved-then-not-still : goal.loop-still-preserved-then-not-still
loop-still-preserved-then-not-still c =
    let h : c.loop-still.next < c.args.asked.question = walk_before c.args.asked.file.now c.args.asked.question c.args.asked.ready c.loop-still.still-index c.loop-still.next c.loop-still.invariant.passed (omega arith) in
    search all

pub offset_bounds-asked-at : goal.offset_bounds-asked-at
offset_bounds-asked-at c =
    let h : c.loop-still.next < c.args.asked.question = walk_before c.args.asked.file.now c.args.asked.question c.args.asked.ready c.loop-still.still-index c.loop-still.next c.loop-still.invariant.passed (omega arith) in
    search all

pub slice_bounds-mark_words-end : goal.slice_bounds-mark_words-end
slice_bounds-mark_words-end c =
    let h : c.loop-still.next < c.args.asked.question = walk_before c.args.asked.file.now c.args.asked.question c.args.asked.ready c.loop-still.still-index c.loop-still.next c.loop-still.invariant.passed (omega arith) in
    search all

pub loop-still-preserved : goal.loop-still-preserved
loop-still-preserved c =
    let h : c.loop-still.next < c.args.asked.question = walk_before c.args.asked.file.now c.args.asked.question c.args.asked.ready c.loop-still.still-index c.loop-still.next c.loop-still.invariant.passed (omega arith) in
    search all

pub after-end-requires : goal.after-end-requires
after-end-requires c = search all

pub offset_bounds-asked-asked : goal.offset_bounds-asked-asked
offset_bounds-asked-asked c = search all

pub slice_bounds-mark_words-end-2 : goal.slice_bounds-mark_words-end-2
slice_bounds-mark_words-end-2 c =
    let h : c.args.asked.question ≤ c.loop-still.next = walk_ended c.args.asked.file.now c.args.asked.question c.args.asked.ready c.loop-still.still-index c.loop-still.next c.loop-still.invariant.passed (omega arith) in
    search all

pub returns : goal.returns
returns c =
    let h : c.args.asked.question ≤ c.loop-still.next = walk_ended c.args.asked.file.now c.args.asked.question c.args.asked.ready c.loop-still.still-index c.loop-still.next c.loop-still.invariant.passed (omega arith) in
    search all
