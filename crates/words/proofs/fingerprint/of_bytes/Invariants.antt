use Rattle.std.proofs.Common.{◌≡◌, drop}
use Rattle.words.specs.Fingerprint.{mixed, fnv}
use Rattle.words.proofs.fingerprint.of_bytes.Given as goal

abbrev pub invariant-loop-b : goal.invariant-loop-b
invariant-loop-b l = fnv l.text ≡ mixed l.h (drop l.b-index l.text)
