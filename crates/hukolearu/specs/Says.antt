-- What document 01 and the demands say of the public calls, without any algorithm: nothing here knows how the search or the checker go about it.
-- proofs/Says.antt shows that the calls (Calls) say just this, and that no other outcome is permitted.
use Rattle.std.specs.Prelude.{List, [], map, ℕ, ◌≤◌, ◌<◌, length}
use Rattle.words.specs.Steps.{step_word}
use Rattle.words.specs.declared.Step.{Step}
use Rattle.rules.specs.Setting.{read_steps, Setting}
use Rattle.rules.specs.Tableau.{Tableau, start, Closed}
use Rattle.rules.specs.Order.{Ending, found, nothing, Searched}
use Rattle.rules.specs.Verdict.{Refusal, status_of, accepted, refused, Checks, Answers}
use Rattle.hukolearu.specs.Status as Status
use Rattle.hukolearu.specs.Door.{Admitted}
use Rattle.hukolearu.specs.Calls.{Given, granted, SearchAsked, search_inputs, CheckAsked, check_inputs}
use Rattle.hukolearu.specs.Calls as Calls

-- a search that passes all checks of input, 1 to 9; a check that does
abbrev pub SearchAccepted : SearchAsked → Type 0
SearchAccepted a = Admitted a.file (search_inputs a)

abbrev pub CheckAccepted : CheckAsked → Type 0
CheckAccepted a = Admitted a.file (check_inputs a)

-- What an accepted search says: ran out, exactly when the stated order needs more tries than the budget; else none, or the steps found
-- with their most general answer, or that the answer doesn't fit.
pub data SearchSays (S : Setting) (budget room : ℕ) : Given → Type 0 where
  ran_out : {e : Ending} {tries : ℕ} → Searched S (start S.table) e tries → budget < tries
      → SearchSays S budget room (Calls.refused Status.ran_out 0 budget)
  none_found : {tries : ℕ} → Searched S (start S.table) nothing tries → tries ≤ budget
      → SearchSays S budget room (Calls.refused Status.none_found 0 tries)
  found_fitting : {steps : List Step} {tries count : ℕ} {words : List ℕ} → Searched S (start S.table) (found steps) tries → tries ≤ budget
      → (c : Closed S steps) → Answers S.table c.tableau count words → length words ≤ room
      → SearchSays S budget room (granted (length steps) (map step_word steps) count words tries)
  found_too_long : {steps : List Step} {tries count : ℕ} {words : List ℕ} → Searched S (start S.table) (found steps) tries → tries ≤ budget
      → (c : Closed S steps) → Answers S.table c.tableau count words → room < length words
      → SearchSays S budget room (Calls.refused Status.answer_too_long 0 tries)

-- What an accepted check says: the refusal of the first step that is at fault, or the answer of the closed tableau, if it fits.
pub data CheckSays (S : Setting) (offered : List ℕ) (room : ℕ) : Given → Type 0 where
  not_closed : {why : Refusal} {place : ℕ} → Checks S (start S.table) 0 (read_steps S.profile offered) (refused why place)
      → CheckSays S offered room (Calls.refused (status_of why) place 0)
  closed_fitting : {x : Tableau} {count : ℕ} {words : List ℕ} → Checks S (start S.table) 0 (read_steps S.profile offered) (accepted x)
      → Answers S.table x count words → length words ≤ room
      → CheckSays S offered room (granted (length offered) [] count words 0)
  closed_too_long : {x : Tableau} {count : ℕ} {words : List ℕ} → Checks S (start S.table) 0 (read_steps S.profile offered) (accepted x)
      → Answers S.table x count words → room < length words
      → CheckSays S offered room (Calls.refused Status.answer_too_long 0 0)
