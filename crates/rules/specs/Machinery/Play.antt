-- Machinery: steps played one by one with the bindings made so far, the checker and the search as programs. No demand is stated by how
-- they go about it; proofs/Demands.antt shows that they come to the verdicts of specs/Verdict.antt.
use Rattle.std.specs.Prelude.{length, Bool, true, false, cond, List, [], ◌∷◌, ℕ, zero, suc, pred, ◌+◌, ◌*◌, ◌-◌, max}
use Rattle.std.proofs.Math.Option.{Option, none, some}
use Rattle.words.specs.declared.Step.{Step}
use Rattle.words.specs.declared.Step.TheVariants.{Reduction, Extension, Restart, Malformed}
use Rattle.table.specs.Syntax.{Clause, Table, all_clauses}
use Rattle.rules.specs.Substitution.{Pair}
use Rattle.rules.specs.Comparison.{a_clash, a_circle}
use Rattle.rules.specs.Setting.{restarting, Setting}
use Rattle.rules.specs.Machinery.Unify.{Bindings, solution, Unified, made, clash, circle, unify}
use Rattle.rules.specs.Tableau.{Leaf, Tableau, start, stepped}
use Rattle.rules.specs.Order.{all_closed, candidates}
use Rattle.rules.specs.Answer.{disjuncts, answer_words}
use Rattle.rules.specs.Verdict.{Refusal, malformed, not_allowed, not_unified, leaves_open, CheckVerdict, accepted, refused, SearchVerdict, finds, finds_none, runs_out}
use Rattle.rules.specs.Machinery.Run.{Program, Result, way, no_way, ran_out, search}

pub record Play : Type 0 where
  pub tableau : Tableau
  pub bindings : Bindings

unfoldable pub begin : Table → Play
begin t = record { tableau = start t; bindings = [] }

pub data Performed : Type 0 where
  goes_on : Play → Performed
  not_possible : Performed
  clashes : Performed
  circular : Performed

unfoldable pub bound_by : Tableau → Unified → Performed
bound_by y (made bs) = goes_on (record { tableau = y; bindings = bs })
bound_by y clash = clashes
bound_by y circle = circular

-- the newest pair is made equal under what is bound
unfoldable pub newest : Bindings → Tableau → List Pair → Performed
newest bs y [] = not_possible
newest bs y (p ∷ ps) = bound_by y (unify bs p.left p.right)

-- a restart closes no pair
abbrev pub closes_pair : Step → Bool
closes_pair (Reduction height) = true
closes_pair (Extension clause literal) = true
closes_pair Restart = false
closes_pair Malformed = true

unfoldable pub performed : Bindings → Option Tableau → Bool → Performed
performed bs none closes = not_possible
performed bs (some y) true = newest bs y y.pairs
performed bs (some y) false = goes_on (record { tableau = y; bindings = bs })

unfoldable pub perform : Setting → Play → Step → Performed
perform S p s = performed p.bindings (stepped S p.tableau s) (closes_pair s)

-- the checker
pub data Checking : Type 0 where
  passed : Play → Checking
  stopped : Refusal → ℕ → Checking

unfoldable pub at_end : Play → ℕ → List Leaf → Checking
at_end p place [] = passed p
at_end p place (leaf ∷ rest) = stopped leaves_open place

unfoldable pub refusal : Step → Refusal
refusal (Reduction height) = not_allowed
refusal (Extension clause literal) = not_allowed
refusal Restart = not_allowed
refusal Malformed = malformed

unfoldable pub onwards : Performed → Step → ℕ → (Play → Checking) → Checking
onwards (goes_on p) s place next = next p
onwards not_possible s place next = stopped (refusal s) place
onwards clashes s place next = stopped (not_unified a_clash) place
onwards circular s place next = stopped (not_unified a_circle) place

unfoldable pub check_from : Setting → Play → ℕ → List Step → Checking
check_from S p place [] = at_end p place p.tableau.leaves
check_from S p place (s ∷ ss) = onwards (perform S p s) s place (λ q. check_from S q (suc place) ss)

unfoldable pub check : Setting → List Step → Checking
check S steps = check_from S (begin S.table) 0 steps

unfoldable pub checked : Checking → CheckVerdict
checked (passed p) = accepted p.tableau
checked (stopped r place) = refused r place

-- the search
unfoldable pub afterwards : Performed → Option Play
afterwards (goes_on p) = some p
afterwards not_possible = none
afterwards clashes = none
afterwards circular = none

abbrev pub plays : Setting → Program
plays S =
    record {
      State = Play;
      Move = Step;
      done = λ p. all_closed p.tableau.leaves;
      moves = λ p. candidates S p.tableau;
      next = λ p s. afterwards (perform S p s);
    }

-- the most leaves that an extension can add to those that are open, the leaf it closes left out
unfoldable pub most_added : List Clause → ℕ
most_added [] = zero
most_added (c ∷ cs) = max (pred (length c.literals)) (most_added cs)

-- and the most that a step can, where a restart opens all literals of the question
unfoldable pub most_more : Setting → ℕ
most_more S =
    let added : ℕ = most_added (all_clauses S.table) in
    cond (restarting S.profile) (max (length S.table.question.literals) added) added

-- the most steps that can be taken from a tableau
unfoldable pub steps_left : Setting → Tableau → ℕ
steps_left S x = length x.leaves + most_more S * (S.bound - x.extensions)

unfoldable pub reported : ℕ → Result Step → SearchVerdict
reported budget (way steps left) = finds steps (budget - left)
reported budget (no_way left) = finds_none (budget - left)
reported budget ran_out = runs_out budget

unfoldable pub search_for : Setting → ℕ → SearchVerdict
search_for S budget = reported budget (search (plays S) (suc (steps_left S (start S.table))) budget (begin S.table))

-- the answer of a play that has come to its end
unfoldable pub answer_of : Table → Play → List ℕ
answer_of t p = answer_words (solution p.bindings) t p.tableau

unfoldable pub disjuncts_of : Table → Play → ℕ
disjuncts_of t p = length (disjuncts (solution p.bindings) t p.tableau)
