-- The cases, by computation.
use mathlib.Core.Path.{refl}
use Rattle.hukolearu.proofs.CallCases.{called}
use Rattle.smallest.specs.Smallest.{from_bound, smallest_call}
use Rattle.smallest.specs.SmallestCases as Cases

pub smallest_cases : Cases.SmallestCases
unfolding called from_bound smallest_call
smallest_cases = refl
