-- The demands (document 00) of any search and of any check, whoever asks: by what it accepts, the profile and the table that it goes by, and what it
-- gives. Nothing is proved here; proofs/DemandsOf.antt proves them of every call that gives what the rules say.
use Rattle.std.specs.Prelude.{List, map, ◌↔◌, ◌⊎◌, ◌≢◌, ◌≡◌, ℕ, ◌≤◌, ◌<◌}
use Rattle.words.specs.declared.Step.{Step}
use Rattle.table.specs.File.{table_in}
use Rattle.table.specs.Syntax.{Table}
use Rattle.rules.specs.Setting.{Profile, every_leaf, read_steps, Setting, over}
use Rattle.rules.specs.Tableau.{start, Closed}
use Rattle.rules.specs.Order.{Ending, Searched, First}
use Rattle.rules.specs.Truth.{Interpretation, AllHold}
use Rattle.rules.specs.Growing.{Larger}
use Rattle.hukolearu.specs.Status as Status
use Rattle.hukolearu.specs.Calls.{Given, room_of, SearchAsked, search_call, CheckAsked, check_call}
use Rattle.hukolearu.specs.Says.{SearchAccepted, CheckAccepted, SearchSays, CheckSays}
use Rattle.hukolearu.specs.CallDemands.{FoundStatus, WordsHold, with_budget, moved_by}

module _ (profile : Profile) (seen : List ℕ → Table) where
  -- the rules of a search: this profile over the table that it sees in the file
  abbrev pub search_rules : SearchAsked → Setting
  search_rules a = over profile (seen a.file) a.bound

  abbrev pub check_rules : CheckAsked → Setting
  check_rules a = over profile (seen a.file) a.bound

  pub record SearchDemands (accepted : SearchAsked → Type 0) (call : SearchAsked → Given) : Type 0 where
    -- DEMAND 2
    pub says : (a : SearchAsked) → accepted a → SearchSays (search_rules a) a.budget (room_of a.answer_room) (call a)
    -- it says "ran out" exactly when the stated order needs more tries than the budget
    pub ran_out_exactly : (a : SearchAsked) → accepted a → (e : Ending) (tries : ℕ) → Searched (search_rules a) (start (seen a.file)) e tries
        → ((call a).outcome.status ≡ Status.ran_out) ↔ (a.budget < tries)
    -- otherwise "none" exactly when no closed tableau exists within the bound
    pub none_exactly : (a : SearchAsked) → accepted a → (call a).outcome.status ≢ Status.ran_out
        → ((call a).outcome.status ≡ Status.none_found) ↔ ((steps : List Step) → ¬ Closed (search_rules a) steps)
    -- or hands back the first in the stated order
    pub first_found : (a : SearchAsked) → accepted a → (call a).outcome.status ≡ Status.done → First (search_rules a) (read_steps profile (call a).proof)
    -- DEMAND 3
    -- its answer is true wherever all clauses but the question hold
    pub answers_hold : (I : Interpretation) (a : SearchAsked) → accepted a → AllHold I (seen a.file).clauses → (call a).outcome.status ≡ Status.done
        → WordsHold I (seen a.file) (call a)
    -- a larger budget leaves any result but "ran out" as it was
    pub larger_budget : (a : SearchAsked) (larger : ℕ) → accepted a → accepted (with_budget a larger) → (call a).outcome.status ≢ Status.ran_out
        → a.budget ≤ larger → call (with_budget a larger) ≡ call a
    -- once a proof is found, adding clauses or raising the bound never yields "none"
    pub never_none : (a b : SearchAsked) → accepted a → accepted b → Larger (seen a.file) (seen b.file) → a.bound ≤ b.bound
        → FoundStatus (call a).outcome.status → FoundStatus (call b).outcome.status ⊎ ((call b).outcome.status ≡ Status.ran_out)

  pub record CheckDemands (accepted : CheckAsked → Type 0) (call : CheckAsked → Given) : Type 0 where
    -- DEMAND 2
    pub says : (a : CheckAsked) → accepted a → CheckSays (check_rules a) a.offered (room_of a.answer_room) (call a)
    -- the checker accepts exactly the closed tableaux within the bound
    pub accepts_exactly : (a : CheckAsked) → accepted a → FoundStatus (call a).outcome.status ↔ Closed (check_rules a) (read_steps profile a.offered)
    -- DEMAND 3
    pub answers_hold : (I : Interpretation) (a : CheckAsked) → accepted a → AllHold I (seen a.file).clauses → (call a).outcome.status ≡ Status.done
        → WordsHold I (seen a.file) (call a)
    -- an accepted proof, its clause numbers moved along, is accepted again with the same answer words
    pub accepted_again : (a b : CheckAsked) → accepted a → accepted b → (grown : Larger (seen a.file) (seen b.file)) → a.bound ≤ b.bound
        → a.answer_room ≤ b.answer_room → b.offered ≡ map (moved_by profile grown) a.offered → (call a).outcome.status ≡ Status.done → call b ≡ call a

-- Document 01's calls meet them; CallDemands says the same of these calls one by one, and of a larger budget whatever the call.
abbrev pub BaseSearchMeets : Type 0
BaseSearchMeets = SearchDemands every_leaf table_in SearchAccepted search_call

abbrev pub BaseCheckMeets : Type 0
BaseCheckMeets = CheckDemands every_leaf table_in CheckAccepted check_call
