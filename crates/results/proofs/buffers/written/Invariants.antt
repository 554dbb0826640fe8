use Rattle.std.proofs.Common.{◌≡◌, true, drop}
use Rattle.results.specs.Buffers.{all_are}
use Rattle.results.proofs.buffers.written.Given as goal

abbrev pub invariant-loop-i : goal.invariant-loop-i
invariant-loop-i l = all_are 0xA5A5A5A5 (drop l.i l.list) ≡ true
