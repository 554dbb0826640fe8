-- Order 8 on small tables, by computation.
use mathlib.Core.Path.{◌≡◌, refl}
use mathlib.Core.List.{List}
use Prim.Native.Nat.{ℕ}
use native.Mathlib.Omega.{arith}
use Rattle.table.specs.File.{judge}
use Rattle.table.specs.Limits.{Each}
use Rattle.table.specs.Seen.{unrestricted_of, unrestricted}
use Rattle.rules.specs.Growing.{along, moved}
use Rattle.rules.specs.Growing as Growing
use Rattle.rules.specs.Locality.{renumbered}
use Rattle.hukolearu.specs.Says.{SearchAccepted, CheckAccepted}
use Rattle.hukolearu.proofs.CallCases.{called}
use Rattle.education.specs.Education.{education_search, education_check}
use Rattle.education.specs.Promises.{at_end, kept, added}
use Rattle.education.specs.EducationCases as Cases

unfoldable asked : Unit {0}
unfolding called education_search education_check unrestricted unrestricted_of
asked = tt

pub education_searches : Cases.EducationSearches
unfolding asked
education_searches = refl

pub collections_searches : Cases.CollectionsSearches
unfolding asked
collections_searches = refl

pub education_checks : Cases.EducationChecks
unfolding asked
education_checks = refl

pub same_seen_case : Cases.SameSeenCase
unfolding asked Each
same_seen_case = (
  refl,
  refl,
  refl,
  added refl (kept at_end),
  (refl, tt),
  λ h. let e = h.0 in let z : ◌≡◌ {A = ℕ} 0 1 = cc in omega arith,
)

-- a search of an accepted file, and a check
lent : (file : List ℕ) → (judge file).status ≡ 0 → SearchAccepted (Cases.asked file)
lent file z = record { enough_work = omega arith; enough_proof = omega arith; low_bound = omega arith; good_file = z }

shown : (file : List ℕ) (step : ℕ) → (judge file).status ≡ 0 → CheckAccepted (Cases.offered file step)
shown file step z = record { enough_work = omega arith; enough_proof = omega arith; low_bound = omega arith; good_file = z }

pub moved_back_case : Cases.MovedBackCase
unfolding asked along moved renumbered
moved_back_case = (
  lent Cases.secret_fact refl,
  shown Cases.secret_fact 0x40000000 refl,
  shown Cases.secret_fact 0x40000001 refl,
  record { clauses = Growing.added (Growing.kept Growing.at_end); question = refl },
  refl,
  refl,
)

pub grown_seen_case : Cases.GrownSeenCase
unfolding asked along moved renumbered
grown_seen_case = (
  lent Cases.more_facts refl,
  shown Cases.more_facts 0x40000001 refl,
  record { clauses = Growing.added (Growing.kept Growing.at_end); question = refl },
  refl,
  refl,
  refl,
)
