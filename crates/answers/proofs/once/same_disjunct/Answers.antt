-- The words of both copies are walked over side by side.
use Rattle.std.proofs.Common.{◌≤◌, arith, ◌∙◌, sym}
use Rattle.answers.proofs.Repeats.{comparing_begin, comparing_word, comparing_passes, comparing_alike, comparing_stops, comparing_on, comparing_done}
use Rattle.answers.proofs.once.same_disjunct.Goals as goal

pub loop-offset-init : goal.loop-offset-init
loop-offset-init c = comparing_begin c.requires c.word_at.ensures c.following-count.ensures

pub word_at-requires-in-loop-offset : goal.word_at-requires-in-loop-offset
word_at-requires-in-loop-offset c = comparing_word c.requires c.loop-offset.invariant (omega arith)

pub loop-offset-preserved-then-kind-ne2 : goal.loop-offset-preserved-then-kind-ne2
loop-offset-preserved-then-kind-ne2 c = comparing_passes c.requires c.loop-offset.invariant (omega arith) c.word_at-in-loop-offset.ensures c.kind.ensures c.if-kind-ne2.true

pub same_atom-requires : goal.same_atom-requires
same_atom-requires c = (c.loop-offset.invariant.still.good, comparing_alike c.requires c.loop-offset.invariant (omega arith) c.word_at-in-loop-offset.ensures c.kind.ensures c.if-kind-ne2.false)

pub returns-then-not-same_atom : goal.returns-then-not-same_atom
returns-then-not-same_atom c = comparing_stops c.requires c.loop-offset.invariant (omega arith) c.word_at-in-loop-offset.ensures c.kind.ensures c.if-kind-ne2.false c.same_atom.ensures (rw c.if-not-same_atom.true)

pub loop-offset-preserved : goal.loop-offset-preserved
loop-offset-preserved c = comparing_on c.requires c.loop-offset.invariant (omega arith) c.word_at-in-loop-offset.ensures c.kind.ensures c.if-kind-ne2.false c.same_atom.ensures (rw c.if-not-same_atom.false)

pub returns : goal.returns
returns c = comparing_done c.requires c.loop-offset.invariant (omega arith)
