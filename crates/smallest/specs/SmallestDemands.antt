-- What order 6 promises of the call, over all that it can be asked. Nothing is proved here; proofs/Demands.antt proves each of them.
use Rattle.std.specs.Prelude.{List, ◌↔◌, ◌⊎◌, ◌≢◌, ◌≡◌, ℕ, suc, ◌+◌, ◌≤◌, ◌<◌}
use Rattle.words.specs.declared.Step.{Step}
use Rattle.table.specs.Syntax.{Table}
use Rattle.table.specs.File.{table_in}
use Rattle.rules.specs.Setting.{base}
use Rattle.rules.specs.Tableau.{start, Closed}
use Rattle.rules.specs.Order.{found, nothing, Searched}
use Rattle.rules.specs.Growing.{Larger}
use Rattle.rules.specs.Reordered.{SameTable}
use Rattle.hukolearu.specs.Status as Status
use Rattle.hukolearu.specs.Calls.{Given, SearchAsked}
use Rattle.hukolearu.specs.Says.{SearchAccepted}
use Rattle.hukolearu.specs.CallDemands.{FoundStatus, with_budget}
use Rattle.smallest.specs.Smallest.{search_at, smallest_call}

abbrev pub smallest_status : SearchAsked → ℕ
smallest_status a = (smallest_call a).given.outcome.status

-- any closed tableau exists within the bound
abbrev pub Provable : Table → ℕ → Type 0
Provable t bound = (steps : List Step) × Closed (base t bound) steps

-- The bound reported is the least at which any proof exists,
abbrev pub BoundIsLeast : Type 0
BoundIsLeast =
    (a : SearchAsked) → SearchAccepted a → FoundStatus (smallest_status a)
    → ((smallest_call a).bound ≤ a.bound) × Provable (table_in a.file) (smallest_call a).bound
    × ((bound : ℕ) → bound < (smallest_call a).bound → ¬ Provable (table_in a.file) bound)

-- and it is told with a proof alone, its answer fitting or not.
abbrev pub BoundGoesWithProof : Type 0
BoundGoesWithProof = (a : SearchAsked) → ¬ FoundStatus (smallest_status a) → (smallest_call a).bound ≡ 0

-- The proof and the answer, or that it doesn't fit, are those of a search at that bound with budget enough: all but the tries is the same.
abbrev pub untold : Given → Given
untold g =
    record {
      outcome = record {
        status = g.outcome.status;
        place = g.outcome.place;
        proof = g.outcome.proof;
        disjuncts = g.outcome.disjuncts;
        answer = g.outcome.answer;
        tries = 0;
      };
      proof = g.proof;
      answer = g.answer;
    }

abbrev pub ProofIsThatSearchs : Type 0
ProofIsThatSearchs =
    (a : SearchAsked) → SearchAccepted a → FoundStatus (smallest_status a)
    → (budget : ℕ) → (search_at a (smallest_call a).bound budget).outcome.status ≢ Status.ran_out
    → untold (smallest_call a).given ≡ untold (search_at a (smallest_call a).bound budget)

-- The tries that the bounds need in the stated order, from one bound up to the limit: those of each bound without a proof, and of the first with one.
pub data Needs (t : Table) (limit : ℕ) : ℕ → ℕ → Type 0 where
  past_the_limit : {bound : ℕ} → limit < bound → Needs t limit bound 0
  with_a_proof : {bound tries : ℕ} {steps : List Step} → bound ≤ limit → Searched (base t bound) (start t) (found steps) tries → Needs t limit bound tries
  without : {bound tries more : ℕ} → bound ≤ limit → Searched (base t bound) (start t) nothing tries → Needs t limit (suc bound) more
      → Needs t limit bound (tries + more)

abbrev pub NeedsSomething : Type 0
NeedsSomething = (t : Table) (limit bound : ℕ) → (tries : ℕ) × Needs t limit bound tries

abbrev pub NeedsOneNumber : Type 0
NeedsOneNumber = (t : Table) (limit bound m n : ℕ) → Needs t limit bound m → Needs t limit bound n → m ≡ n

-- "Ran out" says the sum would pass the budget.
abbrev pub RanOutExactly : Type 0
RanOutExactly =
    (a : SearchAsked) → SearchAccepted a → (tries : ℕ) → Needs (table_in a.file) a.bound 0 tries
    → (smallest_status a ≡ Status.ran_out) ↔ (a.budget < tries)

-- "None" says there is none up to the limit.
abbrev pub NoneExactly : Type 0
NoneExactly =
    (a : SearchAsked) → SearchAccepted a → smallest_status a ≢ Status.ran_out
    → (smallest_status a ≡ Status.none_found) ↔ ((bound : ℕ) → bound ≤ a.bound → ¬ Provable (table_in a.file) bound)

-- The tries are summed; where it ran out they are the budget.
abbrev pub TriesAreSummed : Type 0
TriesAreSummed =
    (a : SearchAsked) → SearchAccepted a → (tries : ℕ) → Needs (table_in a.file) a.bound 0 tries
    → (smallest_status a ≢ Status.ran_out → (smallest_call a).given.outcome.tries ≡ tries)
    × (smallest_status a ≡ Status.ran_out → (smallest_call a).given.outcome.tries ≡ a.budget)

-- A larger budget leaves any other result as it was, whatever the call.
abbrev pub SameWithLargerBudget : Type 0
SameWithLargerBudget =
    (a : SearchAsked) (larger : ℕ) → smallest_status a ≢ Status.ran_out → a.budget ≤ larger → smallest_call (with_budget a larger) ≡ smallest_call a

-- Once a proof is found, a higher limit changes nothing;
abbrev pub with_limit : SearchAsked → ℕ → SearchAsked
with_limit a limit =
    record {
      file = a.file;
      bound = limit;
      budget = a.budget;
      proof_room = a.proof_room;
      answer_room = a.answer_room;
      work_room = a.work_room;
    }

abbrev pub SameWithHigherLimit : Type 0
SameWithHigherLimit =
    (a : SearchAsked) (limit : ℕ) → SearchAccepted a → a.bound ≤ limit → limit ≤ 32 → FoundStatus (smallest_status a)
    → smallest_call (with_limit a limit) ≡ smallest_call a

-- and a larger table, in a call that is still accepted, finds a proof, fitting or not, at a bound no larger, or runs out.
abbrev pub NeverLater : Type 0
NeverLater =
    (a b : SearchAsked) → SearchAccepted a → SearchAccepted b → Larger (table_in a.file) (table_in b.file) → a.bound ≤ b.bound
    → FoundStatus (smallest_status a)
    → (FoundStatus (smallest_status b) × ((smallest_call b).bound ≤ (smallest_call a).bound)) ⊎ (smallest_status b ≡ Status.ran_out)

-- Order 10 of the smallest bound: two files that hold one table in different orders, asked up to one limit, neither running out, have the same least
-- bound, or neither has a proof up to it.
abbrev pub SameBoundInAnyOrder : Type 0
SameBoundInAnyOrder =
    (a b : SearchAsked) → SearchAccepted a → SearchAccepted b → SameTable (table_in a.file) (table_in b.file) → a.bound ≡ b.bound
    → smallest_status a ≢ Status.ran_out → smallest_status b ≢ Status.ran_out
    → (FoundStatus (smallest_status a) ↔ FoundStatus (smallest_status b)) × ((smallest_call a).bound ≡ (smallest_call b).bound)
