use lib.ListN.{drop}
use mathlib.Core.Path.{◌≡◌}
use Rattle.words.specs.Fingerprint.{mixed, bytes_of}
use Rattle.season.proofs.ask.mixed_on.Given as goal

abbrev pub invariant-loop-word : goal.invariant-loop-word
invariant-loop-word l = mixed l.fn.begun (bytes_of l.words) ≡ mixed l.h (bytes_of (drop l.word-index l.words))
