-- What order 7 promises, as statements, to be read beside document 02. Nothing is proved here; proofs/Promises.antt proves each of them.
use Rattle.std.specs.Prelude.{eqb, length, false, ◌↔◌, ◌⊎◌, ◌≡◌, ℕ, suc, ◌+◌, ◌≤◌, ◌<◌}
use Rattle.std.proofs.Math.ListN.{get_elem?}
use mathlib.Core.List.{List, [], ◌∷◌, map, flatten}
use Rattle.std.proofs.Math.Option.{some}
use Rattle.words.specs.Steps.{step_of}
use Rattle.words.specs.declared.Step.{Step}
use Rattle.words.specs.declared.Step.TheVariants.{Extension}
use Rattle.table.specs.Encode.{file_words}
use Rattle.table.specs.File.{table_in}
use Rattle.table.specs.Limits.{Words}
use Rattle.table.specs.Syntax.{Table, all_clauses}
use Rattle.rules.specs.Setting.{restarting, Setting}
use Rattle.rules.specs.System.{◌∈◌}
use Rattle.rules.specs.Tableau.{Closed}
use Rattle.rules.specs.Truth.{Interpretation, AllHold}
use Rattle.hukolearu.specs.Status as Status
use Rattle.hukolearu.specs.Calls.{CheckAsked, check_call}
use Rattle.hukolearu.specs.CallDemands.{check_status, FoundStatus, WordsHold}
use Rattle.listing.specs.Lines.{line_text, listing_text}
use Rattle.listing.specs.Call.{ListingAsked, check_of, after_check, listing_call}
use Rattle.listing.specs.Behind.{copied_by, Listed, listed, listed_table, moved_word}

-- what is listed for a check's offered proof
abbrev pub steps_of : CheckAsked → List Step
steps_of a = map step_of a.offered

abbrev pub table_of_listed : CheckAsked → Table
table_of_listed a = listed_table (table_in a.file) (steps_of a)

-- The answer of an accepted proof, as the checker gives it, is true in every finite, non-empty interpretation where just the listed clauses
-- other than the question hold, whatever the others say.
abbrev pub TrueByTheListed : Type 0
TrueByTheListed =
    (I : Interpretation) (a : CheckAsked) → check_status a ≡ Status.done → AllHold I (table_of_listed a).clauses
    → WordsHold I (table_in a.file) (check_call a)

-- The file of just the listed clauses and the question, and the same proof with its clause numbers moved.
abbrev pub over_the_listed : CheckAsked → CheckAsked
over_the_listed a =
    record {
      file = file_words (table_of_listed a);
      bound = a.bound;
      offered = map (moved_word (table_in a.file) (steps_of a)) a.offered;
      answer_room = a.answer_room;
      work_room = a.work_room;
    }

-- It is accepted there, with the same numbers and the same answer words, its answer fitting or not.
abbrev pub AcceptedOverTheListed : Type 0
AcceptedOverTheListed = (a : CheckAsked) → Words a.file → FoundStatus (check_status a) → check_call (over_the_listed a) ≡ check_call a

-- The room for an answer plays no part: with any room, the checker's outcome leads to the same listing or refusal.
abbrev pub AnswerRoomPlaysNoPart : Type 0
AnswerRoomPlaysNoPart = (a : ListingAsked) (room : ℕ) → listing_call a ≡ after_check a (check_call (check_of a room)).outcome

-- So a listing is given exactly of a proof that the checker accepts, if it fits.
abbrev pub GivenExactly : Type 0
GivenExactly =
    (a : ListingAsked) (room : ℕ)
    → ((listing_call a).outcome.status ≡ Status.done)
    ↔ (FoundStatus (check_status (check_of a room)) × (length (listing_text (table_in a.file) (map step_of a.offered)) ≤ a.listing_room))

-- The text is a line for each that is listed, in that order, and nothing else; the question's line is the one with its number.
abbrev pub line_of : Table → Listed → List ℕ
line_of t l = line_text (eqb l.number (length t.clauses)) l

abbrev pub TextIsTheListed : Type 0
TextIsTheListed = (t : Table) (steps : List Step) → listing_text t steps ≡ flatten (map (line_of t) (listed t steps))

-- A number is listed exactly if it is the question's or a step copies its clause.
abbrev pub ListedExactly : Type 0
ListedExactly =
    (S : Setting) (steps : List Step) → Closed S steps → (number : ℕ)
    → (number ∈ map (λ l. l.number) (listed S.table steps))
    ↔ ((number ≡ length S.table.clauses) ⊎ ((literal : ℕ) × (Extension number literal ∈ steps)))

-- The numbers ascend, so each is listed once.
unfoldable pub Ascending : List ℕ → Type 0
Ascending [] = Unit {0}
Ascending (n ∷ []) = Unit {0}
Ascending (m ∷ n ∷ ns) = (m < n) × Ascending (n ∷ ns)

abbrev pub ListedOnce : Type 0
ListedOnce = (t : Table) (steps : List Step) → Ascending (map (λ l. l.number) (listed t steps))

-- The clause is the one of that number, and its copies are the steps that copy it, for the question one more.
pub record RightlyListed (t : Table) (steps : List Step) (l : Listed) : Type 0 where
  pub clause : get_elem? (all_clauses t) l.number ≡ some l.clause
  pub copies : ((l.number < length t.clauses) × (l.copies ≡ copied_by steps l.number))
      ⊎ ((l.number ≡ length t.clauses) × (l.copies ≡ suc (copied_by steps l.number)))

abbrev pub CopiesAreRight : Type 0
CopiesAreRight = (t : Table) (steps : List Step) (l : Listed) → l ∈ listed t steps → RightlyListed t steps l

-- The copies of a proof are one more than its extensions, where nothing is restarted: so under document 01's rules.
unfoldable pub sum_of_copies : List Listed → ℕ
sum_of_copies [] = 0
sum_of_copies (l ∷ ls) = l.copies + sum_of_copies ls

abbrev pub OneMoreThanExtensions : Type 0
OneMoreThanExtensions =
    (S : Setting) → restarting S.profile ≡ false → (steps : List Step) (c : Closed S steps) → sum_of_copies (listed S.table steps) ≡ suc c.tableau.extensions
