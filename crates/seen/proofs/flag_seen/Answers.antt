use Rattle.std.proofs.Common.{◌<◌, ◌≤◌, arith, rules}
use Rattle.slim.proofs.Walks.{walk_before, walk_ended}
use Rattle.seen.proofs.Seeing.{flag_laws}
use Rattle.seen.proofs.flag_seen.Goals as goal

ruleset all = (rules, flag_laws)

pub loop-seen-init : goal.loop-seen-init
loop-seen-init c = search all

pub offset_bounds-file-at : goal.offset_bounds-file-at
offset_bounds-file-at c =
    let h : c.loop-seen.at < c.args.question = walk_before c.args.file.now c.args.question c.requires.0 c.loop-seen.seen-index c.loop-seen.at c.loop-seen.invariant.passed (omega arith) in
    search all

pub bounds-file-at : goal.bounds-file-at
bounds-file-at c =
    let h : c.loop-seen.at < c.args.question = walk_before c.args.file.now c.args.question c.requires.0 c.loop-seen.seen-index c.loop-seen.at c.loop-seen.invariant.passed (omega arith) in
    search all

pub after-at-requires-clause-at_in_bounds : goal.after-at-requires-clause-at_in_bounds
after-at-requires-clause-at_in_bounds c =
    let h : c.loop-seen.at < c.args.question = walk_before c.args.file.now c.args.question c.requires.0 c.loop-seen.seen-index c.loop-seen.at c.loop-seen.invariant.passed (omega arith) in
    search all

pub after-at-requires-clause-file_len_bound : goal.after-at-requires-clause-file_len_bound
after-at-requires-clause-file_len_bound c = search all

pub loop-seen-preserved : goal.loop-seen-preserved
loop-seen-preserved c =
    let h : c.loop-seen.at < c.args.question = walk_before c.args.file.now c.args.question c.requires.0 c.loop-seen.seen-index c.loop-seen.at c.loop-seen.invariant.passed (omega arith) in
    search all

pub returns : goal.returns
returns c =
    let h : c.args.question ≤ c.loop-seen.at = walk_ended c.args.file.now c.args.question c.requires.0 c.loop-seen.seen-index c.loop-seen.at c.loop-seen.invariant.passed (omega arith) in
    search all
