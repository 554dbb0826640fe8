use Rattle.std.proofs.Common.{◌<◌, arith, rules}
use Rattle.slim.proofs.Copying.{copy_laws}
use Rattle.slim.proofs.Walks.{walk_before}
use Rattle.slim.proofs.writing.copy_clauses.Goals as goal

ruleset all = (rules, copy_laws)

pub loop-kept-init : goal.loop-kept-init
loop-kept-init c = search all

pub after-next-requires-clause-at_in_bounds : goal.after-next-requires-clause-at_in_bounds
after-next-requires-clause-at_in_bounds c =
    let h : c.loop-kept.next < c.args.question = walk_before c.args.file.now c.args.question c.requires.ready.0 c.loop-kept.kept-index c.loop-kept.next c.loop-kept.invariant.passed (omega arith) in
    search all

pub after-next-requires-clause-file_len_bound : goal.after-next-requires-clause-file_len_bound
after-next-requires-clause-file_len_bound c = search all

pub loop-kept-preserved-then-not-kept : goal.loop-kept-preserved-then-not-kept
loop-kept-preserved-then-not-kept c =
    let h : c.loop-kept.next < c.args.question = walk_before c.args.file.now c.args.question c.requires.ready.0 c.loop-kept.kept-index c.loop-kept.next c.loop-kept.invariant.passed (omega arith) in
    search all

pub offset_bounds-file-at : goal.offset_bounds-file-at
offset_bounds-file-at c =
    let h : c.loop-kept.next < c.args.question = walk_before c.args.file.now c.args.question c.requires.ready.0 c.loop-kept.kept-index c.loop-kept.next c.loop-kept.invariant.passed (omega arith) in
    search all

pub slice_bounds-append-end : goal.slice_bounds-append-end
slice_bounds-append-end c =
    let h : c.loop-kept.next < c.args.question = walk_before c.args.file.now c.args.question c.requires.ready.0 c.loop-kept.kept-index c.loop-kept.next c.loop-kept.invariant.passed (omega arith) in
    search all

pub append-requires : goal.append-requires
append-requires c =
    let h : c.loop-kept.next < c.args.question = walk_before c.args.file.now c.args.question c.requires.ready.0 c.loop-kept.kept-index c.loop-kept.next c.loop-kept.invariant.passed (omega arith) in
    search all

pub loop-kept-preserved : goal.loop-kept-preserved
loop-kept-preserved c =
    let h : c.loop-kept.next < c.args.question = walk_before c.args.file.now c.args.question c.requires.ready.0 c.loop-kept.kept-index c.loop-kept.next c.loop-kept.invariant.passed (omega arith) in
    search all
