-- The demands (document 00), restated of the public calls: over all that a search or a check can be asked, files of words, offered proofs,
-- bounds, budgets and buffer lengths. Nothing is proved here; proofs/CallDemands.antt proves each of them.
use Rattle.std.specs.Prelude.{List, map, ◌↔◌, ◌⊎◌, ◌≢◌, ◌≡◌, ℕ, ◌≤◌, ◌<◌}
use Rattle.std.proofs.Math.Option.{none}
use Rattle.words.specs.Steps.{step_of, step_word}
use Rattle.words.specs.declared.Step.{Step}
use Rattle.table.specs.Syntax.{Table}
use Rattle.table.specs.File.{table_in}
use Rattle.rules.specs.Setting.{Profile, every_leaf, read_step, Setting}
use Rattle.rules.specs.Tableau.{start, Closed}
use Rattle.rules.specs.Order.{Ending, Searched, First}
use Rattle.rules.specs.Truth.{Interpretation, AllHold, TrueAnswer}
use Rattle.rules.specs.Evidence.{Evidence, enough}
use Rattle.rules.specs.Growing.{Larger, moved}
use Rattle.hukolearu.specs.Status as Status
use Rattle.hukolearu.specs.Door.{first_fault, checks, Admitted}
use Rattle.hukolearu.specs.Calls.{Given, room_of, SearchAsked, search_setting, search_call, CheckAsked, check_setting, check_call}
use Rattle.hukolearu.specs.Says.{SearchAccepted, CheckAccepted, SearchSays, CheckSays}
use Rattle.hukolearu.specs.declared.door.Inputs.{Inputs}

-- the status that comes back
abbrev pub search_status : SearchAsked → ℕ
search_status a = (search_call a).outcome.status

abbrev pub check_status : CheckAsked → ℕ
check_status a = (check_call a).outcome.status

-- a proof was found or accepted, its answer fitting or not
abbrev pub FoundStatus : ℕ → Type 0
FoundStatus status = (status ≡ Status.done) ⊎ (status ≡ Status.answer_too_long)

-- A call passes all checks of input exactly where each of its inputs is as document 01 wants it.
abbrev pub AdmittedExactly : Type 0
AdmittedExactly = (file : List ℕ) (inputs : Inputs) → (first_fault (checks file inputs) ≡ none) ↔ Admitted file inputs

-- DEMAND 2
-- An accepted search and an accepted check say what document 01 says, and no other outcome is permitted.
abbrev pub SearchSaysThat : Type 0
SearchSaysThat =
    (a : SearchAsked) → SearchAccepted a → SearchSays (search_setting a) a.budget (room_of a.answer_room) (search_call a)

abbrev pub OneSearchOutcome : Type 0
OneSearchOutcome =
    (S : Setting) (budget room : ℕ) (g h : Given) → SearchSays S budget room g → SearchSays S budget room h → g ≡ h

abbrev pub CheckSaysThat : Type 0
CheckSaysThat =
    (a : CheckAsked) → CheckAccepted a → CheckSays (check_setting a) a.offered (room_of a.answer_room) (check_call a)

abbrev pub OneCheckOutcome : Type 0
OneCheckOutcome =
    (S : Setting) (offered : List ℕ) (room : ℕ) (g h : Given) → CheckSays S offered room g → CheckSays S offered room h → g ≡ h

-- It says "ran out" exactly when the stated order needs more tries than the budget.
abbrev pub RanOutExactly : Type 0
RanOutExactly =
    (a : SearchAsked) → SearchAccepted a → (e : Ending) (tries : ℕ) → Searched (search_setting a) (start (table_in a.file)) e tries
    → (search_status a ≡ Status.ran_out) ↔ (a.budget < tries)

-- Otherwise it says "none" exactly when no closed tableau exists within the bound under any substitution.
abbrev pub NoneSaidExactly : Type 0
NoneSaidExactly =
    (a : SearchAsked) → SearchAccepted a → search_status a ≢ Status.ran_out
    → (search_status a ≡ Status.none_found) ↔ ((steps : List Step) → ¬ Closed (search_setting a) steps)

-- The steps that the proof words handed back say are a closed tableau, and every other closed tableau comes after it in the stated order.
abbrev pub FoundComesFirst : Type 0
FoundComesFirst =
    (a : SearchAsked) → SearchAccepted a → search_status a ≡ Status.done → First (search_setting a) (map step_of (search_call a).proof)

-- The checker accepts exactly the closed tableaux within the bound, whoever wrote them; an answer longer than its buffer has a refusal of its own.
abbrev pub AcceptedExactly : Type 0
AcceptedExactly =
    (a : CheckAsked) → CheckAccepted a → FoundStatus (check_status a) ↔ Closed (check_setting a) (map step_of a.offered)

-- DEMAND 3
-- The answer words of a search or a check are true in every interpretation over a finite, non-empty domain where all clauses but the question hold.
abbrev pub WordsHold : Interpretation → Table → Given → Type 0
WordsHold I t given = TrueAnswer I t.question given.outcome.disjuncts given.answer

abbrev pub FoundAnswersHold : Type 0
FoundAnswersHold =
    (I : Interpretation) (a : SearchAsked) → SearchAccepted a → AllHold I (table_in a.file).clauses → search_status a ≡ Status.done
    → WordsHold I (table_in a.file) (search_call a)

abbrev pub AcceptedAnswersHold : Type 0
AcceptedAnswersHold =
    (I : Interpretation) (a : CheckAsked) → CheckAccepted a → AllHold I (table_in a.file).clauses → check_status a ≡ Status.done
    → WordsHold I (table_in a.file) (check_call a)

-- A run that didn't run out gives the same result and buffers with a larger budget, whatever the call.
abbrev pub with_budget : SearchAsked → ℕ → SearchAsked
with_budget a budget =
    record {
      file = a.file;
      bound = a.bound;
      budget = budget;
      proof_room = a.proof_room;
      answer_room = a.answer_room;
      work_room = a.work_room;
    }

abbrev pub SameWithLargerBudget : Type 0
SameWithLargerBudget =
    (a : SearchAsked) (larger : ℕ) → search_status a ≢ Status.ran_out → a.budget ≤ larger → search_call (with_budget a larger) ≡ search_call a

-- Once a proof is found, adding clauses before the question or raising the bound, in a call that is still accepted, never yields "none":
-- it finds a proof, finds one whose answer doesn't fit, or runs out.
abbrev pub NeverNone : Type 0
NeverNone =
    (a b : SearchAsked) → SearchAccepted a → SearchAccepted b
    → Larger (table_in a.file) (table_in b.file) → a.bound ≤ b.bound
    → FoundStatus (search_status a) → FoundStatus (search_status b) ⊎ (search_status b ≡ Status.ran_out)

-- In such a call with an answer buffer at least as long, an accepted proof, its clause numbers moved along, is accepted again with the same answer words.
abbrev pub moved_by : Profile → {t u : Table} → Larger t u → ℕ → ℕ
moved_by rules larger w = step_word (moved larger (read_step rules w))

abbrev pub moved_word : {t u : Table} → Larger t u → ℕ → ℕ
moved_word larger w = moved_by every_leaf larger w

abbrev pub AcceptedOnceMore : Type 0
AcceptedOnceMore =
    (a b : CheckAsked) → CheckAccepted a → CheckAccepted b
    → (grown : Larger (table_in a.file) (table_in b.file)) → a.bound ≤ b.bound → a.answer_room ≤ b.answer_room
    → b.offered ≡ map (moved_word grown) a.offered
    → check_status a ≡ Status.done → check_call b ≡ check_call a

-- COMPLETENESS
-- "None" tells of every evidence for an answer that the bound was not enough for it. With `rules/Demands.AnswerCompleteness`: what has evidence for which
-- the bound is enough is found, if the budget lasts.
abbrev pub NoneSaidMeans : Type 0
NoneSaidMeans =
    (a : SearchAsked) → SearchAccepted a → search_status a ≡ Status.none_found → (e : Evidence (table_in a.file)) → a.bound < enough e
