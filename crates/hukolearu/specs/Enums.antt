-- The engine's own enums as document 01's numbers and values: what a call gives, for each case of an enum that is an answer.
-- The words of a step are `words/Steps.step_word`, the status of a refusal is `engine/Checking.status_for`, the door's entry is `Door.entry_by`.
use Rattle.std.specs.Prelude.{Option, Some, None, Result, Ok, Err, ℕ, ◌-◌}
use Rattle.engine.specs.Checking.{status_for}
use Rattle.engine.specs.declared.check.Refused.{Refused}
use Rattle.engine.specs.declared.search.Ending.{Ending}
use Rattle.engine.specs.declared.search.Ending.TheVariants.{Found, Nothing, Out}
use Rattle.hukolearu.specs.Status as Status
use Rattle.hukolearu.specs.Calls.{Given, refused}

-- how a search ended, its budget and what was left of it: found; 10, none within the bound, tries given; 11, ran out, tries = budget
abbrev pub by_ending : Ending → ℕ → ℕ → Given → Given
by_ending Found budget left found = found
by_ending Nothing budget left found = refused Status.none_found 0 (budget - left)
by_ending Out budget left found = refused Status.ran_out 0 budget

-- what the checker decided: so many steps accepted; 12 to 15 or 20 with the place
abbrev pub by_verdict : Result ℕ Refused → (ℕ → Given) → Given
by_verdict (Ok steps) accepted = accepted steps
by_verdict (Err refusal) accepted = refused (status_for refusal.why) refusal.place 0

-- the room for an answer, with the search's tries: it fits; 16, answer longer than its buffer
abbrev pub by_room : Option ℕ → ℕ → Given → Given
by_room (Some words) tries fitting = fitting
by_room None tries fitting = refused Status.answer_too_long 0 tries
