-- The verdicts (document 01, "What comes back", and order 5): what the checker says of a list of steps, what the search says within a budget,
-- and the answer that goes with a closed tableau. No algorithm.
use Rattle.std.specs.Prelude.{length, List, [], ◌∷◌, ◌≢◌, ◌≡◌, ℕ, suc, ◌≤◌, ◌<◌}
use Rattle.std.proofs.Math.Option.{none, some}
use Rattle.words.specs.declared.Step.{Step}
use Rattle.words.specs.declared.Step.TheVariants.{Malformed}
use Rattle.table.specs.Syntax.{Table}
use Rattle.rules.specs.Substitution.{Substitution, Unifiable, MostGeneral}
use Rattle.rules.specs.Comparison.{Reason, a_clash, a_circle, NewestFails}
use Rattle.rules.specs.Setting.{Setting}
use Rattle.rules.specs.Tableau.{Leaf, Tableau, start, stepped}
use Rattle.rules.specs.Order.{Ending, found, nothing, Searched}
use Rattle.rules.specs.Answer.{disjuncts, answer_words}

-- why the checker refuses, and the number of its status
pub data Refusal : Type 0 where
  malformed : Refusal
  not_allowed : Refusal
  not_unified : Reason → Refusal
  leaves_open : Refusal

abbrev pub status_of : Refusal → ℕ
status_of malformed = 12
status_of not_allowed = 13
status_of (not_unified a_clash) = 14
status_of leaves_open = 15
status_of (not_unified a_circle) = 20

pub data CheckVerdict : Type 0 where
  -- the closed tableau that was made
  accepted : Tableau → CheckVerdict
  -- with the place
  refused : Refusal → ℕ → CheckVerdict

-- The checker goes step by step: from a tableau, at a place, with these steps left, it comes to this verdict.
pub data Checks (S : Setting) : Tableau → ℕ → List Step → CheckVerdict → Type 0 where
  no_leaf : {x : Tableau} {place : ℕ} → x.leaves ≡ [] → Checks S x place [] (accepted x)
  -- 15: steps end with leaves open
  some_leaf : {x : Tableau} {place : ℕ} {leaf : Leaf} {rest : List Leaf} → x.leaves ≡ leaf ∷ rest
      → Checks S x place [] (refused leaves_open place)
  -- 12: malformed step
  no_step : {x : Tableau} {place : ℕ} {ss : List Step} → Checks S x place (Malformed ∷ ss) (refused malformed place)
  -- 13: well formed, but no leaf open, no such ancestor, clause or literal, pair not fitting, extensions over the bound, or a step that the leaf's
  -- sign doesn't allow
  no_tableau : {x : Tableau} {place : ℕ} {s : Step} {ss : List Step} → s ≢ Malformed → stepped S x s ≡ none
      → Checks S x place (s ∷ ss) (refused not_allowed place)
  -- 14 and 20: pair doesn't unify with what is bound; the checker passes the reason on
  no_unifier : {x y : Tableau} {place : ℕ} {s : Step} {ss : List Step} {r : Reason} → stepped S x s ≡ some y → NewestFails y.pairs r
      → Checks S x place (s ∷ ss) (refused (not_unified r) place)
  taken : {x y : Tableau} {place : ℕ} {s : Step} {ss : List Step} {c : CheckVerdict} → stepped S x s ≡ some y → Unifiable y.pairs
      → Checks S y (suc place) ss c → Checks S x place (s ∷ ss) c

-- each with the tries
pub data SearchVerdict : Type 0 where
  finds : List Step → ℕ → SearchVerdict
  finds_none : ℕ → SearchVerdict
  runs_out : ℕ → SearchVerdict

abbrev pub ended : Ending → ℕ → SearchVerdict
ended (found steps) tries = finds steps tries
ended nothing tries = finds_none tries

-- The search runs out exactly when the stated order needs more tries than the budget; tries = budget then.
pub data Searches (S : Setting) (budget : ℕ) : SearchVerdict → Type 0 where
  within : {e : Ending} {tries : ℕ} → Searched S (start S.table) e tries → tries ≤ budget → Searches S budget (ended e tries)
  beyond : {e : Ending} {tries : ℕ} → Searched S (start S.table) e tries → budget < tries → Searches S budget (runs_out budget)

-- The answer of a closed tableau: the number of its disjuncts and its words, under a most general solution.
pub record Answers (t : Table) (x : Tableau) (count : ℕ) (words : List ℕ) : Type 0 where
  pub by : Substitution
  pub general : MostGeneral by x.pairs
  pub counted : count ≡ length (disjuncts by t x)
  pub written : words ≡ answer_words by t x
