use Rattle.std.proofs.Common.{◌≡◌, ◌++◌, take, drop}
use Rattle.words.specs.Bytes.{words_of}
use Rattle.words.proofs.bytes.gather.Given as goal

abbrev pub invariant-loop-i : goal.invariant-loop-i
invariant-loop-i l = l.out ≡ take l.i (words_of l.bytes) ++ drop l.i l.fn.out
