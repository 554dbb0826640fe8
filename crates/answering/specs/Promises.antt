-- What is promised of `ask`, beside its contract, which is Asks. Proved in proofs/Promises.
use Rattle.std.specs.Prelude.{List, ◌≡◌, ℕ, ◌≤◌}
use Rattle.table.specs.File.{judge}
use Rattle.hukolearu.specs.CallDemands.{FoundStatus}
use Rattle.asking.specs.Program.{question}
use Rattle.smallest.specs.Smallest.{smallest_call}
use Rattle.answering.specs.declared.Options.{Options}
use Rattle.answering.specs.Looking.{looked}
use Rattle.answering.specs.Asking.{AskSays}

-- A text has one outcome.
abbrev pub OneText : Type 0
OneText = (o : Options) (name text a b : List ℕ) → AskSays o name text a → AskSays o name text b → a ≡ b

-- Looking bound by bound comes to what the call of order 6 gives, its tries summed; with a proof its bound is the least.
pub record AsSmallest (file : List ℕ) (limit budget : ℕ) : Type 0 where
  pub status : (smallest_call (question file limit budget)).given.outcome.status ≡ (looked file limit budget).given.outcome.status
  pub tries : (smallest_call (question file limit budget)).given.outcome.tries ≡ (looked file limit budget).tries
  pub disjuncts : (smallest_call (question file limit budget)).given.outcome.disjuncts ≡ (looked file limit budget).given.outcome.disjuncts
  pub proof : (smallest_call (question file limit budget)).given.proof ≡ (looked file limit budget).given.proof
  pub answer : (smallest_call (question file limit budget)).given.answer ≡ (looked file limit budget).given.answer
  pub bound : FoundStatus (looked file limit budget).given.outcome.status
      → (smallest_call (question file limit budget)).bound ≡ (looked file limit budget).bound

abbrev pub LookedAsSmallest : Type 0
LookedAsSmallest = (file : List ℕ) (limit budget : ℕ) → (judge file).status ≡ 0 → limit ≤ 32 → AsSmallest file limit budget
