use Rattle.std.proofs.Common.{◌<◌, ◌≤◌, arith, rules}
use Rattle.slim.proofs.Repeating.{first_laws}
use Rattle.slim.proofs.Walks.{walk_before, walk_ended}
use Rattle.slim.proofs.dropping.first.Goals as goal

ruleset all = (rules, first_laws)

pub loop-number-init : goal.loop-number-init
loop-number-init c = search all

pub repeats-requires : goal.repeats-requires
repeats-requires c =
    let h : c.loop-number.at < c.args.asked.question = walk_before c.args.asked.file.now c.args.asked.question c.args.asked.ready c.loop-number.number c.loop-number.at c.loop-number.invariant.passed (omega arith) in
    search all

pub after-at-requires : goal.after-at-requires
after-at-requires c =
    let h : c.loop-number.at < c.args.asked.question = walk_before c.args.asked.file.now c.args.asked.question c.args.asked.ready c.loop-number.number c.loop-number.at c.loop-number.invariant.passed (omega arith) in
    search all

pub loop-number-preserved : goal.loop-number-preserved
loop-number-preserved c =
    let h : c.loop-number.at < c.args.asked.question = walk_before c.args.asked.file.now c.args.asked.question c.args.asked.ready c.loop-number.number c.loop-number.at c.loop-number.invariant.passed (omega arith) in
    search all

pub returns : goal.returns
returns c =
    let h : c.args.asked.question ≤ c.loop-number.at = walk_ended c.args.asked.file.now c.args.asked.question c.args.asked.ready c.loop-number.number c.loop-number.at c.loop-number.invariant.passed (omega arith) in
    search all
