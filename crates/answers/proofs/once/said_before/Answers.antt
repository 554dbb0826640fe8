-- Those kept before are looked at from the nearest on.
use Rattle.std.proofs.Common.{arith}
use Rattle.answers.proofs.Repeats.{looking_passes, looking_found, looking_on, looking_done}
use Rattle.answers.proofs.once.said_before.Goals as goal

pub loop-earlier-preserved-then-work-wide-eq0 : goal.loop-earlier-preserved-then-work-wide-eq0
loop-earlier-preserved-then-work-wide-eq0 c = looking_passes c.requires c.loop-earlier.invariant (omega arith) c.wide.ensures c.if-work-wide-eq0.true

pub returns-then-same_disjunct : goal.returns-then-same_disjunct
returns-then-same_disjunct c = looking_found c.requires c.loop-earlier.invariant (omega arith) c.wide.ensures c.if-work-wide-eq0.false c.same_disjunct.ensures c.if-same_disjunct.true

pub loop-earlier-preserved : goal.loop-earlier-preserved
loop-earlier-preserved c = looking_on c.requires c.loop-earlier.invariant (omega arith) c.wide.ensures c.if-work-wide-eq0.false c.same_disjunct.ensures c.if-same_disjunct.false

pub returns : goal.returns
returns c = looking_done c.requires c.loop-earlier.invariant (omega arith)
