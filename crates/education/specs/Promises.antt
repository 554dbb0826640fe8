-- What order 8 promises of education's calls, as statements, to be read beside document 02. Nothing is proved here; proofs/Promises.antt proves each of them.
use Rattle.std.specs.Prelude.{true, false, List, [], ◌∷◌, map, ◌⊎◌, ◌≢◌, ◌≡◌, ℕ, ◌≤◌}
use Rattle.table.specs.Syntax.{Clause, Table}
use Rattle.table.specs.Seen.{unrestricted}
use Rattle.table.specs.File.{judge, table_in}
use Rattle.table.specs.Limits.{Each, Words}
use Rattle.rules.specs.Setting.{every_leaf}
use Rattle.rules.specs.Growing.{Larger}
use Rattle.hukolearu.specs.Status as Status
use Rattle.hukolearu.specs.Calls.{SearchAsked, search_call, search_with, CheckAsked, check_call, check_with}
use Rattle.hukolearu.specs.Says.{SearchAccepted, CheckAccepted}
use Rattle.hukolearu.specs.CallDemands.{FoundStatus, search_status, with_budget, moved_word}
use Rattle.hukolearu.specs.DemandsOf.{SearchDemands, CheckDemands}
use Rattle.seen.specs.Copying.{seen_in}
use Rattle.education.specs.Education.{education_search, education_check}

-- NOTHING IS LEARNT
-- Two accepted files with the same unrestricted clauses in the same order and the same question are answered alike: the six numbers, and the words of
-- proof and answer. What stands in the buffers afterwards is a function of these and of the buffers (the calls' contracts), so it is the same too.
abbrev pub SearchTellsNothing : Type 0
SearchTellsNothing =
    (f g : List ℕ) → (judge f).status ≡ 0 → (judge g).status ≡ 0 → seen_in f ≡ seen_in g → (bound budget : ℕ) (proof answer work : List ℕ)
    → education_search (search_with f bound budget proof answer work) ≡ education_search (search_with g bound budget proof answer work)

abbrev pub CheckTellsNothing : Type 0
CheckTellsNothing =
    (f g : List ℕ) → (judge f).status ≡ 0 → (judge g).status ≡ 0 → seen_in f ≡ seen_in g → (bound : ℕ) (offered answer work : List ℕ)
    → education_check (check_with f bound offered answer work) ≡ education_check (check_with g bound offered answer work)

-- The second table is the first with restricted clauses added anywhere before the question: education sees the same in both.
pub data MoreRestricted : List Clause → List Clause → Type 0 where
  at_end : MoreRestricted [] []
  kept : {c : Clause} {cs ds : List Clause} → MoreRestricted cs ds → MoreRestricted (c ∷ cs) (c ∷ ds)
  added : {c : Clause} {cs ds : List Clause} → c.restricted ≡ true → MoreRestricted cs ds → MoreRestricted cs (c ∷ ds)

abbrev pub RestrictedDoNotShow : Type 0
RestrictedDoNotShow =
    (t u : Table) → MoreRestricted t.clauses u.clauses → t.question ≡ u.question → unrestricted t ≡ unrestricted u

-- So adding or removing restricted clauses, in a call that is still accepted, changes nothing.
abbrev pub RestrictedChangeNothing : Type 0
RestrictedChangeNothing =
    (f g : List ℕ) → (judge f).status ≡ 0 → (judge g).status ≡ 0
    → MoreRestricted (table_in f).clauses (table_in g).clauses → (table_in f).question ≡ (table_in g).question
    → ((bound budget : ℕ) (proof answer work : List ℕ)
    → education_search (search_with f bound budget proof answer work) ≡ education_search (search_with g bound budget proof answer work))
    × ((bound : ℕ) (offered answer work : List ℕ)
    → education_check (check_with f bound offered answer work) ≡ education_check (check_with g bound offered answer work))

-- DEMANDS 2 AND 3
-- They read the table without restricted clauses, and added clauses are unrestricted ones: one seen table is larger than another.
abbrev pub SearchMeetsTheDemands : Type 0
SearchMeetsTheDemands = SearchDemands every_leaf seen_in SearchAccepted education_search

abbrev pub CheckMeetsTheDemands : Type 0
CheckMeetsTheDemands = CheckDemands every_leaf seen_in CheckAccepted education_check

-- A run that didn't run out gives the same result and buffers with a larger budget, whatever the call.
abbrev pub SameWithLargerBudget : Type 0
SameWithLargerBudget =
    (a : SearchAsked) (larger : ℕ) → (education_search a).outcome.status ≢ Status.ran_out → a.budget ≤ larger
    → education_search (with_budget a larger) ≡ education_search a

-- COLLECTIONS
-- With nothing restricted, education's calls are collections'.
abbrev pub NothingRestricted : List ℕ → Type 0
NothingRestricted file = Each (λ c. c.restricted ≡ false) (table_in file).clauses

abbrev pub SameSearch : Type 0
SameSearch = (a : SearchAsked) → NothingRestricted a.file → education_search a ≡ search_call a

abbrev pub SameCheck : Type 0
SameCheck = (a : CheckAsked) → NothingRestricted a.file → education_check a ≡ check_call a

-- What is refused before the rules are asked is refused alike, restricted clauses or not.
abbrev pub SameRefusals : Type 0
SameRefusals =
    ((a : SearchAsked) → ¬ SearchAccepted a → education_search a ≡ search_call a)
    × ((a : CheckAsked) → ¬ CheckAccepted a → education_check a ≡ check_call a)

-- An education proof, its clause numbers moved back to those of the whole table, is accepted by collections with the same answer.
abbrev pub WholeIsLarger : Type 0
WholeIsLarger = (t : Table) → Larger (unrestricted t) t

abbrev pub ProofsMoveBack : Type 0
ProofsMoveBack =
    (a b : CheckAsked) → CheckAccepted a → CheckAccepted b → (grown : Larger (seen_in a.file) (table_in b.file)) → a.bound ≤ b.bound
    → a.answer_room ≤ b.answer_room → b.offered ≡ map (moved_word grown) a.offered
    → (education_check a).outcome.status ≡ Status.done → check_call b ≡ education_check a

-- What education finds, collections never calls "none".
abbrev pub FoundByBoth : Type 0
FoundByBoth =
    (a b : SearchAsked) → SearchAccepted a → SearchAccepted b → b.file ≡ a.file → a.bound ≤ b.bound
    → FoundStatus (education_search a).outcome.status → FoundStatus (search_status b) ⊎ (search_status b ≡ Status.ran_out)

-- AS IF THE FILE HELD NOTHING ELSE
-- The file of what is seen is accepted where the whole one is, and collections' call gives on it what education's gives on the whole.
abbrev pub with_file : SearchAsked → List ℕ → SearchAsked
with_file a file =
    record {
      file = file;
      bound = a.bound;
      budget = a.budget;
      proof_room = a.proof_room;
      answer_room = a.answer_room;
      work_room = a.work_room;
    }

abbrev pub check_with_file : CheckAsked → List ℕ → CheckAsked
check_with_file a file =
    record { file = file; bound = a.bound; offered = a.offered; answer_room = a.answer_room; work_room = a.work_room }

pub record HoldsTheSeen (file seen : List ℕ) : Type 0 where
  pub accepted : (judge seen).status ≡ 0
  pub table : table_in seen ≡ seen_in file

abbrev pub SearchAsIfAlone : Type 0
SearchAsIfAlone =
    (a : SearchAsked) (seen : List ℕ) → (judge a.file).status ≡ 0 → HoldsTheSeen a.file seen → education_search a ≡ search_call (with_file a seen)

abbrev pub CheckAsIfAlone : Type 0
CheckAsIfAlone =
    (a : CheckAsked) (seen : List ℕ) → (judge a.file).status ≡ 0 → HoldsTheSeen a.file seen → education_check a ≡ check_call (check_with_file a seen)

abbrev pub SomeFileHoldsTheSeen : Type 0
SomeFileHoldsTheSeen = (file : List ℕ) → Words file → (judge file).status ≡ 0 → (seen : List ℕ) × HoldsTheSeen file seen
