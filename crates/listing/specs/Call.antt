-- The public call of order 7: for every file, bound, offered proof and buffer sizes, the numbers that come back and the text that then stands at the
-- front of the listing.
use Rattle.std.specs.Prelude.{eqb, length, Bool, cond, ◌||◌, List, map, ℕ}
use Rattle.words.specs.Steps.{step_of}
use Rattle.table.specs.File.{table_in}
use Rattle.hukolearu.specs.Status as Status
use Rattle.hukolearu.specs.Calls.{CheckAsked, check_call}
use Rattle.hukolearu.specs.declared.Outcome.{Outcome}
use Rattle.clauselines.specs.Call.{Given, refused, if_it_fits}
use Rattle.listing.specs.Lines.{listing_text}

-- what is asked: what a check of a proof is asked, with the bytes of the listing in place of an answer's words
pub record ListingAsked : Type 0 where
  pub file : List ℕ
  pub bound : ℕ
  pub offered : List ℕ
  pub listing_room : ℕ
  pub work_room : ℕ

-- the check of the same, with so much room for an answer
abbrev pub check_of : ListingAsked → ℕ → CheckAsked
check_of a room = record { file = a.file; bound = a.bound; offered = a.offered; answer_room = room; work_room = a.work_room }

-- the checker accepts the proof, whether its answer fits or not: none is written
abbrev pub accepts : ℕ → Bool
accepts status = eqb status Status.done || eqb status Status.answer_too_long

-- The checker's refusals; then 16, last, where the listing doesn't fit. Any refusal gives no text: it leaves the listing buffer unchanged.
unfoldable pub after_check : ListingAsked → Outcome → Given
after_check a o =
    cond (accepts o.status) (if_it_fits (listing_text (table_in a.file) (map step_of a.offered)) a.listing_room) (refused o.status o.place)

unfoldable pub listing_call : ListingAsked → Given
listing_call a = after_check a (check_call (check_of a 0)).outcome

-- as the buffers are lent
abbrev pub listing_with : List ℕ → ℕ → List ℕ → List ℕ → List ℕ → ListingAsked
listing_with file bound offered listing work =
    record { file = file; bound = bound; offered = offered; listing_room = length listing; work_room = length work }
