use Rattle.std.proofs.Common.{rules}
use Rattle.naming.proofs.FirstUses.{note_known, note_new, note_laws}
use Rattle.naming.proofs.first.note.Goals as goal

ruleset all = (rules, note_laws)

pub loop-i-init : goal.loop-i-init
loop-i-init c = search all

pub loop-i-preserved-then-kind : goal.loop-i-preserved-then-kind
loop-i-preserved-then-kind c = search all

pub loop-i-preserved-then-wide-count : goal.loop-i-preserved-then-wide-count
loop-i-preserved-then-wide-count c = note_known c.loop-i.invariant c.loop-i-test.true c.kind.ensures c.if-kind.false c.symbol.ensures c.wide.ensures c.if-wide-count.true

pub returns-then-out-count : goal.returns-then-out-count
returns-then-out-count c = search all

pub loop-i-preserved : goal.loop-i-preserved
loop-i-preserved c = note_new c.loop-i.invariant c.loop-i-test.true c.kind.ensures c.if-kind.false c.symbol.ensures c.wide.ensures c.if-wide-count.false c.if-out-count.false

pub returns : goal.returns
returns c = search all
