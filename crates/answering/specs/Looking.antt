-- A proof looked for bound by bound, 0, 1, 2 up to a limit with one budget for all: as the call of order 6, and the bound is told where it ran out too.
use Rattle.std.specs.Prelude.{cond, List, ◌≡◌, ℕ, zero, suc, ◌+◌, ◌-◌, ◌≤◌, eqb, length}
use Rattle.table.specs.File.{judge}
use Rattle.hukolearu.specs.Status as Status
use Rattle.hukolearu.specs.Calls.{Given, at_front}
use Rattle.asking.specs.Program.{asked}
use Rattle.answering.specs.declared.look.Looked.{Looked}

-- the bound of the last search, the tries of all bounds up to it, and what that search gave
pub record LookedUp : Type 0 where
  pub bound : ℕ
  pub tries : ℕ
  pub given : Given

abbrev pub up_to : ℕ → ℕ → Given → LookedUp
up_to bound used g = record { bound = bound; tries = used + g.outcome.tries; given = g }

-- Bounds in turn from one on, and so many further ones: what the bounds before have used is gone from the budget of the next. A search that says
-- "none" leads to the next bound; every other is the last.
unfoldable pub look_from : (ℕ → ℕ → Given) → ℕ → ℕ → ℕ → ℕ → LookedUp
look_from search budget bound zero used = up_to bound used (search bound (budget - used))
look_from search budget bound (suc more) used =
    cond (eqb (search bound (budget - used)).outcome.status Status.none_found)
    (look_from search budget (suc bound) more (used + (search bound (budget - used)).outcome.tries))
    (up_to bound used (search bound (budget - used)))

-- the searches are document 01's, with 4,096 words for the answer
unfoldable pub looked : List ℕ → ℕ → ℕ → LookedUp
looked file limit budget = look_from (asked file) budget 0 limit 0

-- what a function tells of it: the numbers, and the words at the front of the proof and answer buffers
pub record Tells (g : LookedUp) (r : Looked) (proof proof' answer answer' : List ℕ) : Type 0 where
  pub bound : r.bound ≡ g.bound
  pub tries : r.tries ≡ g.tries
  pub numbers : r.outcome ≡ g.given.outcome
  pub steps : proof' ≡ at_front g.given.proof proof
  pub words : answer' ≡ at_front g.given.answer answer

-- a file that is accepted, a bound that is, and the buffers as long as they are to be
pub record Searchable (file : List ℕ) (bound : ℕ) (proof answer work : List ℕ) : Type 0 where
  pub accepted : (judge file).status ≡ 0
  pub low : bound ≤ 32
  pub proof_room : 199 ≡ length proof
  pub answer_room : 4096 ≡ length answer
  pub work_room : 16384 ≡ length work
