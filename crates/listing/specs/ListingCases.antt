-- Order 7 by example: listings of document 01's questions and of one with a clause that no step copies; each premise of a promise is met here, and each
-- judgement fails on one. proofs/Cases.antt proves it by computation.
use Rattle.std.specs.Prelude.{false, List, [], ◌∷◌, map, ◌≡◌, ℕ}
use Rattle.table.specs.File.{table_in}
use Rattle.table.specs.Limits.{Words}
use Rattle.table.specs.Syntax.{app, nil, ◌then◌, Clause}
use Rattle.rules.specs.Truth.{Interpretation, Holds, AllHold}
use Rattle.hukolearu.specs.Status as Status
use Rattle.hukolearu.specs.Calls.{CheckAsked, check_call}
use Rattle.hukolearu.specs.CallDemands.{check_status, WordsHold}
use Rattle.hukolearu.specs.Cases.{mat_or_eve, other_time, by_reduction}
use Rattle.text.specs.Quoted.{bytes}
use Rattle.clauselines.specs.Call.{Given, refused, granted}
use Rattle.listing.specs.Behind.{listed}
use Rattle.listing.specs.Call.{ListingAsked, listing_call}
use Rattle.listing.specs.Promises.{steps_of, table_of_listed, over_the_listed}

-- r; p(a); ask p(X) and p(Y): nobody copies r, and p(a) is copied twice
abbrev pub spare : List ℕ
spare =
    0xC0000101 ∷ 0x80000003
    ∷ 0xC0000201 ∷ 0x80001001 ∷ 0x40000001
    ∷ 0xC0000412 ∷ 0x80009001 ∷ 0x00000000 ∷ 0x80009001 ∷ 0x00000001
    ∷ 0x00000005 ∷ 0x00000003 ∷ 0x0EE53B08 ∷ 0x0000000A ∷ []

abbrev pub asks : List ℕ → ℕ → List ℕ → ℕ → ListingAsked
asks file bound offered room = record { file = file; bound = bound; offered = offered; listing_room = room; work_room = 16384 }

abbrev pub either_proof : List ℕ
either_proof = 0x40000000 ∷ 0x40000001 ∷ []

abbrev pub calls : List ListingAsked
calls =
    asks mat_or_eve 2 either_proof 89
    ∷ asks mat_or_eve 2 either_proof 88
    ∷ asks mat_or_eve 1 either_proof 89
    ∷ asks mat_or_eve 33 either_proof 89
    ∷ asks mat_or_eve 2 (0x40000000 ∷ []) 89
    ∷ asks mat_or_eve 2 (0x80000000 ∷ []) 89
    ∷ asks other_time 1 (0x40000000 ∷ []) 89
    ∷ asks [] 2 either_proof 89
    ∷ record { file = mat_or_eve; bound = 2; offered = either_proof; listing_room = 89; work_room = 16383 }
    ∷ asks by_reduction 2 (0x40000000 ∷ 0x40000201 ∷ 0x00000002 ∷ []) 131072
    ∷ asks spare 2 (0x40000001 ∷ 0x40000001 ∷ []) 131072
    ∷ []

abbrev pub results : List Given
results =
    granted (bytes "0 1 cnf(c0,axiom,(p1(f1,f2) | p1(f1,f3))).\n1 2 cnf(c1,negated_conjecture,(~ p1(f1,X0))).\n")
    ∷ refused 16 0
    ∷ refused 13 1
    ∷ refused 3 0
    ∷ refused 15 1
    ∷ refused 12 0
    ∷ refused 14 0
    ∷ refused 4 0
    ∷ refused 1 0
    ∷ granted (bytes "0 1 cnf(c0,axiom,(p1 | p2)).\n1 1 cnf(c1,axiom,(p1 | ~ p2)).\n2 1 cnf(c2,negated_conjecture,(~ p1)).\n")
    ∷ granted (bytes "1 2 cnf(c1,axiom,(p1(f1))).\n2 1 cnf(c2,negated_conjecture,(~ p1(X0) | ~ p1(X1))).\n")
    ∷ []

abbrev pub ListingCases : Type 0
ListingCases = map listing_call calls ≡ results

-- The question with a spare clause, as a check: it is accepted with the answer p(a) and p(a).
abbrev pub spare_check : CheckAsked
spare_check = record { file = spare; bound = 2; offered = 0x40000001 ∷ 0x40000001 ∷ []; answer_room = 4; work_room = 16384 }

-- p(a), and r
abbrev pub fact : Clause
fact = record { restricted = false; variables = 0; literals = record { negative = false; predicate = 1; arguments = app 1 nil then nil } ∷ [] }

abbrev pub unused : Clause
unused = record { restricted = false; variables = 0; literals = record { negative = false; predicate = 3; arguments = nil } ∷ [] }

-- What is listed: clause 1 with two copies and the question with one, two extensions and the start; over the listed alone p(a) is clause 0.
pub record SpareListed : Type 0 where
  pub small : Words spare
  pub accepted : check_status spare_check ≡ Status.done
  pub listing : map (λ l. l.number) (listed (table_in spare) (steps_of spare_check)) ≡ 1 ∷ 2 ∷ []
  pub copies : map (λ l. l.copies) (listed (table_in spare) (steps_of spare_check)) ≡ 2 ∷ 1 ∷ []
  pub clauses : (table_of_listed spare_check).clauses ≡ fact ∷ []
  pub moved : (over_the_listed spare_check).offered ≡ 0x40000000 ∷ 0x40000000 ∷ []
  pub over : check_status (over_the_listed spare_check) ≡ Status.done

-- There is an interpretation where the listed clauses hold and the spare one does not, and one where the answer is not true.
pub record SpareWorlds : Type 0 where
  pub without_spare : Interpretation
  pub listed_hold : AllHold without_spare (table_of_listed spare_check).clauses
  pub spare_fails : ¬ Holds without_spare unused
  pub answer_true : WordsHold without_spare (table_in spare) (check_call spare_check)
  pub empty : Interpretation
  pub not_all_hold : ¬ AllHold empty (table_of_listed spare_check).clauses
  pub not_true : ¬ WordsHold empty (table_in spare) (check_call spare_check)
