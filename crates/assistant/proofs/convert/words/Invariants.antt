use Rattle.std.proofs.Common.{drop}
use Rattle.words.specs.Fingerprint.{bytes_of}
use Rattle.text.proofs.Putting.{Left}
use Rattle.assistant.proofs.convert.words.Given as goal

abbrev pub invariant-loop-w : goal.invariant-loop-w
invariant-loop-w l = Left l.fn.out l.from (bytes_of l.list) l.out l.at (bytes_of (drop l.w-index l.list))
