use Rattle.std.proofs.Common.{ℕ, ◌-◌, ◌%◌}
use Rattle.index.specs.Noting.{keys_in, Linked}
use Rattle.index.proofs.Linking.{Walking}
use Rattle.index.proofs.links.last_with.Given as goal

abbrev pub invariant-loop-last : goal.invariant-loop-last
invariant-loop-last l = (body from : ℕ) → Linked l.file body l.work from → Walking (keys_in l.file body) l.word from l.last

abbrev pub decreases-loop-last : goal.decreases-loop-last
decreases-loop-last l = (4096 - l.last) % 4096
