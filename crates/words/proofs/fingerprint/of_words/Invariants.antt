use Rattle.std.proofs.Common.{◌≡◌, drop}
use Rattle.words.specs.Fingerprint.{mixed, fnv, bytes_of}
use Rattle.words.proofs.fingerprint.of_words.Given as goal

abbrev pub invariant-loop-w : goal.invariant-loop-w
invariant-loop-w l = fnv (bytes_of l.words) ≡ mixed l.h (bytes_of (drop l.w-index l.words))
