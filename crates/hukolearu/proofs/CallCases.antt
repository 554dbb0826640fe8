-- The starred cases hold of the calls, by computation; `played` (rules/proofs/Cases) opens the definitions of the rules and below.
use mathlib.Core.Path.{refl}
use native.Mathlib.Omega.{arith}
use Rattle.rules.specs.Growing.{at_end, kept, added, along, moved}
use Rattle.rules.specs.Locality.{renumbered}
use Rattle.rules.proofs.Cases.{played}
use Rattle.hukolearu.specs.Door.{first_fault, behind}
use Rattle.hukolearu.specs.Calls.{answered, check_given, found_given, search_given, search_by, search_call, check_by, check_call}
use Rattle.hukolearu.specs.Cases as Cases
use Rattle.hukolearu.specs.ReasonCases.{ReasonCases}

unfoldable pub called : Unit {0}
unfolding played first_fault behind answered check_given found_given search_given search_by search_call check_by check_call
called = tt

pub starred_cases : Cases.StarredCases
unfolding called
starred_cases = refl

pub further_cases : Cases.FurtherCases
unfolding called
further_cases = refl

pub reason_cases : ReasonCases
unfolding called
reason_cases = refl

pub accepted_cases : Cases.AcceptedCases
unfolding called
accepted_cases = (
  record { enough_work = omega arith; enough_proof = omega arith; low_bound = omega arith; good_file = refl },
  record { enough_work = omega arith; enough_proof = omega arith; low_bound = omega arith; good_file = refl },
)

pub grown_case : Cases.GrownCase
unfolding called along moved renumbered
grown_case = (record { clauses = added (kept at_end); question = refl }, refl, refl, refl)
