use Rattle.listing.proofs.Counts.{Counting}
use Rattle.listing.proofs.counting.count.Given as goal

abbrev pub invariant-loop-word : goal.invariant-loop-word
invariant-loop-word l = Counting l.offered l.word-index l.copies
