-- What order 11 promises of its calls, as statements, to be read beside document 02: of both desks, by the table that is seen in a file. Nothing is proved
-- here; proofs/Promises.antt proves each of them of every table that is within the limits and asks with negative literals alone.
use Rattle.std.specs.Prelude.{List, ◌≢◌, ◌≡◌, ℕ, ◌≤◌, length}
use Rattle.std.proofs.Math.Option.{none, some}
use Rattle.table.specs.File.{judge}
use Rattle.table.specs.Limits.{Within}
use Rattle.table.specs.Syntax.{Table}
use Rattle.seen.specs.Copying.{seen_in}
use Rattle.rules.specs.Reordered.{SameTable}
use Rattle.rules.specs.Setting.{one_way}
use Rattle.rules.specs.Truth.{AllNegative}
use Rattle.hukolearu.specs.Status as Status
use Rattle.hukolearu.specs.Door.{Admitted}
use Rattle.hukolearu.specs.Calls.{refused, SearchAsked, inputs_by, search_by, search_with, CheckAsked, check_inputs, check_by, check_with}
use Rattle.hukolearu.specs.CallDemands.{with_budget}
use Rattle.hukolearu.specs.Typed.{Alike}
use Rattle.hukolearu.specs.DemandsOf.{SearchDemands, CheckDemands}
use Rattle.restart.specs.Conclusions.{first_negative}
use Rattle.restart.specs.Restart.{no_conclusion, SearchAccepted, CheckAccepted, search_on, check_on}

-- what a desk sees of an accepted file
pub record Sees (seen : List ℕ → Table) : Type 0 where
  pub within : (file : List ℕ) → (judge file).status ≡ 0 → Within (seen file)
  pub negative : (file : List ℕ) → (judge file).status ≡ 0 → AllNegative (seen file).question.literals

module _ (seen : List ℕ → Table) where
  -- Demands 2 and 3 hold with these rules in place of the base's.
  abbrev pub SearchMeetsTheDemands : Type 0
  SearchMeetsTheDemands = SearchDemands one_way seen SearchAccepted (search_on seen)

  abbrev pub CheckMeetsTheDemands : Type 0
  CheckMeetsTheDemands = CheckDemands one_way seen CheckAccepted (check_on seen)

  -- A run that didn't run out gives the same result and buffers with a larger budget, whatever the call.
  abbrev pub SameWithLargerBudget : Type 0
  SameWithLargerBudget =
      (a : SearchAsked) (larger : ℕ) → (search_on seen a).outcome.status ≢ Status.ran_out → a.budget ≤ larger
      → search_on seen (with_budget a larger) ≡ search_on seen a

  -- 22 is said of a call that passes all other checks, at the first clause of the whole file other than the question without a positive literal,
  abbrev pub SearchWithoutConclusion : Type 0
  SearchWithoutConclusion =
      (a : SearchAsked) (place : ℕ) → Admitted a.file (inputs_by one_way a) → first_negative a.file ≡ some place
      → search_on seen a ≡ refused no_conclusion place 0

  abbrev pub CheckWithoutConclusion : Type 0
  CheckWithoutConclusion =
      (a : CheckAsked) (place : ℕ) → Admitted a.file (check_inputs a) → first_negative a.file ≡ some place
      → check_on seen a ≡ refused no_conclusion place 0

  -- and never where there is none.
  abbrev pub SearchWithConclusions : Type 0
  SearchWithConclusions = (a : SearchAsked) → SearchAccepted a → (search_on seen a).outcome.status ≢ no_conclusion

  abbrev pub CheckWithConclusions : Type 0
  CheckWithConclusions = (a : CheckAsked) → CheckAccepted a → (check_on seen a).outcome.status ≢ no_conclusion

  -- A call that another check refuses is refused as if 22 were not judged.
  abbrev pub OtherSearchRefusals : Type 0
  OtherSearchRefusals = (a : SearchAsked) → ¬ Admitted a.file (inputs_by one_way a) → search_on seen a ≡ search_by one_way a

  abbrev pub OtherCheckRefusals : Type 0
  OtherCheckRefusals = (a : CheckAsked) → ¬ Admitted a.file (check_inputs a) → check_on seen a ≡ check_by one_way a

  -- A proof handed back has at most 231 words.
  abbrev pub ProofFits : Type 0
  ProofFits = (a : SearchAsked) → SearchAccepted a → length (search_on seen a).proof ≤ 231

  -- Order 10 with these rules: the order of typing does not matter to whether a proof is found.
  abbrev pub TypedInAnyOrder : Type 0
  TypedInAnyOrder =
      (a b : SearchAsked) → SearchAccepted a → SearchAccepted b → SameTable (seen a.file) (seen b.file) → a.bound ≡ b.bound
      → (search_on seen a).outcome.status ≢ Status.ran_out → (search_on seen b).outcome.status ≢ Status.ran_out
      → Alike (search_on seen a).outcome.status (search_on seen b).outcome.status

-- EDUCATION
-- Two accepted files with the same unrestricted clauses in the same order and the same question, all of whose clauses conclude something, are answered alike.
abbrev pub SearchTellsNothing : Type 0
SearchTellsNothing =
    (f g : List ℕ) → (judge f).status ≡ 0 → (judge g).status ≡ 0 → first_negative f ≡ none → first_negative g ≡ none → seen_in f ≡ seen_in g
    → (bound budget : ℕ) (proof answer work : List ℕ)
    → search_on seen_in (search_with f bound budget proof answer work) ≡ search_on seen_in (search_with g bound budget proof answer work)

abbrev pub CheckTellsNothing : Type 0
CheckTellsNothing =
    (f g : List ℕ) → (judge f).status ≡ 0 → (judge g).status ≡ 0 → first_negative f ≡ none → first_negative g ≡ none → seen_in f ≡ seen_in g
    → (bound : ℕ) (offered answer work : List ℕ)
    → check_on seen_in (check_with f bound offered answer work) ≡ check_on seen_in (check_with g bound offered answer work)
