use Rattle.std.proofs.Common.{◌≡◌, drop}
use Rattle.requests.specs.Pieces.{value_from}
use Rattle.requests.proofs.piece.value.Given as goal

abbrev pub invariant-loop-c : goal.invariant-loop-c
invariant-loop-c l = value_from l.base 0 l.digits ≡ value_from l.base l.value (drop l.c-index l.digits)
