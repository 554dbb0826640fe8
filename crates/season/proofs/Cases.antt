-- The cases, by computation.
use borrow.Author.Tests.{leb-true}
use lib.Dec.{leb}
use mathlib.Core.Bool.{Bool, true, ◌&&◌}
use mathlib.Core.List.{List, [], ◌∷◌}
use mathlib.Core.Logic.{inl, inr}
use mathlib.Core.Path.{◌≡◌, refl}
use native.Mathlib.Omega.{arith}
use Prim.Native.Nat.{ℕ, suc, ◌^◌}
use Rattle.table.specs.Limits.{Each, Words}
use Rattle.table.proofs.Bools.{and_left, and_right}
use Rattle.rules.specs.Growing.{at_end, kept, added}
use Rattle.hukolearu.proofs.CallCases.{called}
use Rattle.season.specs.Season.{entries_of, file_with, result_of, run_of, how_many, tries_of, proof_left, answer_left, entries_fit, report_of, proof_after, answer_after}
use Rattle.season.specs.Promises.{words_of}
use Rattle.season.specs.SeasonCases as Cases

unfoldable pub reckoned : Unit {0}
unfolding called entries_of file_with result_of run_of how_many tries_of proof_left answer_left entries_fit report_of proof_after answer_after
reckoned = tt

pub season_cases : Cases.SeasonCases
unfolding reckoned
season_cases = refl

pub buffer_cases : Cases.BufferCases
unfolding reckoned
buffer_cases = (refl, refl)

pub mark_case : Cases.MarkCase
unfolding reckoned
mark_case = refl

pub entry_cases : Cases.EntryCases
unfolding entries_fit
entry_cases = refl

-- words of 32 bits, by looking at each
unfoldable all_small : List ℕ → Bool
all_small [] = true
all_small (w ∷ ws) = leb (suc w) (2 ^ 32) && all_small ws

small_words : (ws : List ℕ) → all_small ws ≡ true → Words ws
unfolding all_small Each
small_words [] e = tt
small_words (w ∷ ws) e =
    let low = leb-true (suc w) (2 ^ 32) (and_left (leb (suc w) (2 ^ 32)) (all_small ws) e) in
    (omega arith, small_words ws (and_right (leb (suc w) (2 ^ 32)) (all_small ws) e))

pub grown_case : Cases.GrownCase
unfolding reckoned all_small
grown_case = (
  small_words Cases.small_table refl,
  small_words Cases.larger_table refl,
  small_words Cases.questions refl,
  refl,
  refl,
  kept (added (kept at_end)),
  record { enough_work = omega arith; enough_proof = omega arith; low_bound = omega arith; good_file = refl },
  inr (inl refl),
)

pub bad_case : Cases.BadCase
unfolding reckoned words_of
bad_case = (refl, refl)
