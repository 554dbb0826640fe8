-- Machinery: what the functions promise one another.
use Rattle.std.specs.Prelude.{List, ◌≡◌, ℕ, suc}
use Rattle.table.specs.Syntax.{Table}
use Rattle.rules.specs.Setting.{base}
use Rattle.rules.specs.Machinery.Play.{search_for}
use Rattle.hukolearu.specs.Calls.{Given, search_given, at_front}
use Rattle.smallest.specs.Smallest.{LeastGiven, from_bound}
use Rattle.smallest.specs.declared.Least.{Least}

-- the bound, the numbers, and the words at the front of the proof and answer buffers
pub record Tells (g : LeastGiven) (r : Least) (proof proof' answer answer' : List ℕ) : Type 0 where
  pub bound : r.bound ≡ g.bound
  pub numbers : r.outcome ≡ g.given.outcome
  pub steps : proof' ≡ at_front g.given.proof proof
  pub words : answer' ≡ at_front g.given.answer answer

-- a search past the door
abbrev pub search_inside : Table → ℕ → ℕ → ℕ → Given
search_inside t room bound budget = search_given (base t bound) room (search_for (base t bound) budget)

abbrev pub tried_inside : Table → ℕ → ℕ → ℕ → LeastGiven
tried_inside t room budget limit = from_bound (search_inside t room) budget 0 (suc limit) 0
