use Rattle.std.proofs.Common.{length, ◌+◌, ◌-◌}
use Rattle.text.proofs.Putting.{Left}
use Rattle.requests.specs.Pieces.{pieces_at}
use Rattle.requests.specs.Listed.{listed_words}
use Rattle.requests.proofs.listed.gather.Given as goal

abbrev pub invariant-loop-at : goal.invariant-loop-at
invariant-loop-at g l =
    let t = g.T.Listed in
    Left l.initial.out 0 (listed_words t.read t.in_words (pieces_at l.line l.from)) l.out l.used (listed_words t.read t.in_words (pieces_at l.line l.at))

abbrev pub decreases-loop-at : goal.decreases-loop-at
decreases-loop-at g l = length l.line + 1 - l.at
