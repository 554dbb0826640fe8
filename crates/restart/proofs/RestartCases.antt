-- The cases hold of the calls, by computation; `called` (hukolearu/proofs/CallCases) opens the definitions of the calls and below.
use mathlib.Core.Path.{refl}
use native.Mathlib.Omega.{arith}
use Rattle.table.specs.Seen.{unrestricted_of, unrestricted}
use Rattle.hukolearu.proofs.CallCases.{called}
use Rattle.restart.specs.Conclusions.{concludes, first_without}
use Rattle.restart.specs.Restart.{search_on, check_on}
use Rattle.restart.specs.RestartCases as Cases

unfoldable pub restarted : Unit {0}
unfolding called unrestricted_of unrestricted concludes first_without search_on check_on
restarted = tt

pub search_cases : Cases.SearchCases
unfolding restarted
search_cases = refl

pub check_cases : Cases.CheckCases
unfolding restarted
check_cases = refl

pub base_case : Cases.BaseCase
unfolding restarted
base_case = refl

pub accepted_case : Cases.AcceptedCase
unfolding restarted
accepted_case = record {
  admitted = record { enough_work = omega arith; enough_proof = omega arith; low_bound = omega arith; good_file = refl };
  concluded = refl;
}

pub education_cases : Cases.EducationCases
unfolding restarted
education_cases = refl
