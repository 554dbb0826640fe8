-- The smallest bound (document 02, order 6): a call that tries bounds 0, 1, 2 up to a limit with one budget for all, and gives the first proof
-- with its bound. It is a sum over the base's own searches.
use Rattle.std.specs.Prelude.{cond, ℕ, zero, suc, ◌+◌, ◌-◌, eqb}
use Rattle.hukolearu.specs.Status as Status
use Rattle.hukolearu.specs.Door.{first_fault, checks, behind, Fault}
use Rattle.hukolearu.specs.Calls.{Given, refused, refused_by, SearchAsked, search_inputs, search_call}
use Rattle.hukolearu.specs.declared.Outcome.{Outcome}

-- what comes back: the bound, and what a search gives
pub record LeastGiven : Type 0 where
  pub bound : ℕ
  pub given : Given

-- the tries are summed
abbrev pub summed : ℕ → Outcome → Outcome
summed used o =
    record { status = o.status; place = o.place; proof = o.proof; disjuncts = o.disjuncts; answer = o.answer; tries = used + o.tries }

-- the bound is told with a proof, its answer fitting or not; else it is 0
abbrev pub ended : ℕ → ℕ → ℕ
ended bound status = cond (eqb status Status.ran_out) 0 bound

-- a search at this bound ends the call
abbrev pub ends_at : ℕ → ℕ → Given → LeastGiven
ends_at bound used g =
    record {
      bound = ended bound g.outcome.status;
      given = record { outcome = summed used g.outcome; proof = g.proof; answer = g.answer };
    }

-- "none": there is none up to the limit
abbrev pub none_up_to : ℕ → LeastGiven
none_up_to used = record { bound = 0; given = refused Status.none_found 0 used }

-- Bounds in turn, so many from this one on, by searches that are given a bound and a budget: what the bounds before have used is gone from the
-- budget of the next. A search that says "none" leads to the next bound; every other ends the call.
unfoldable pub from_bound : (ℕ → ℕ → Given) → ℕ → ℕ → ℕ → ℕ → LeastGiven
from_bound search budget bound zero used = none_up_to used
from_bound search budget bound (suc more) used =
    cond (eqb (search bound (budget - used)).outcome.status Status.none_found)
    (from_bound search budget (suc bound) more (used + (search bound (budget - used)).outcome.tries))
    (ends_at bound used (search bound (budget - used)))

-- what is asked is what a search is asked, with the limit in place of the bound; a search of the same at this bound within this budget
abbrev pub search_at : SearchAsked → ℕ → ℕ → Given
search_at a bound budget =
    search_call
    (record {
      file = a.file;
      bound = bound;
      budget = budget;
      proof_room = a.proof_room;
      answer_room = a.answer_room;
      work_room = a.work_room;
    })

abbrev pub refused_all : Fault → LeastGiven
refused_all fault = record { bound = 0; given = refused_by fault }

-- The checks are a search's, the limit being the bound; then bounds 0, 1, 2 up to the limit.
unfoldable pub smallest_call : SearchAsked → LeastGiven
smallest_call a =
    behind (first_fault (checks a.file (search_inputs a))) refused_all
    (from_bound (search_at a) a.budget 0 (suc a.bound) 0)
