-- Reports computed from their definition: the merged matinee of the request, each kind of report, each refusal, budgets at and beside what is needed,
-- and the worst table of 500 records. Each premise of the promises (acceptable, not run out) is met by one of them, and each judgement fails on one.
use mathlib.Core.Bool.{true}
use mathlib.Core.List.{List, [], ◌∷◌}
use mathlib.Core.Logic.{◌≢◌}
use mathlib.Core.Path.{◌≡◌, refl}
use Prim.Native.Nat.{ℕ, zero, suc}
use Rattle.desk.specs.Records.{slot_of, records_of, record_in_range, words_in_range, acceptable}
use Rattle.desk.specs.Desk.{same_slot, is_of, recorded, named, settles, taken, spent, tries_for, slots_reported, reported, desk_says}
use Rattle.desk.specs.declared.Report.{Report}
use Rattle.desk.specs.declared.Report.TheVariants.{Refused, RanOut, Matinee, Evening, MatineeAndEvening, Either, NotRecorded}
use Rattle.desk.proofs.Bools.{clash}

unfoldable opened : Unit {0}
unfolding slot_of records_of record_in_range words_in_range acceptable same_slot is_of recorded named settles taken spent tries_for slots_reported reported desk_says
opened = tt

-- ample budgets
abbrev told : List ℕ → ℕ → ℕ → Report
told words day house = desk_says words day house 2000 2000 2000

-- two bills of one day and house, a matinee and an evening: two events
abbrev bills : List ℕ
bills = 92 ∷ 17 ∷ 1 ∷ 92 ∷ 17 ∷ 2 ∷ []

two_events : told bills 92 17 ≡ MatineeAndEvening
unfolding opened
two_events = refl

-- so the premises of the promises are met
premises_met : (acceptable bills 92 17 ≡ true) × (told bills 92 17 ≢ RanOut)
unfolding opened
premises_met = (refl, λ e. clash (cc))

kinds : told [] 1 1 ∷ told (92 ∷ 17 ∷ 1 ∷ []) 92 17 ∷ told (92 ∷ 17 ∷ 2 ∷ []) 92 17 ∷ told (92 ∷ 17 ∷ 3 ∷ []) 92 17 ∷ []
    ≡ NotRecorded ∷ Matinee ∷ Evening ∷ Either ∷ []
unfolding opened
kinds = refl

-- an either-record beside a stated slot, before and after it; the same record twice; another day; another house
beside : told (92 ∷ 17 ∷ 3 ∷ 92 ∷ 17 ∷ 2 ∷ []) 92 17 ∷ told (92 ∷ 17 ∷ 1 ∷ 92 ∷ 17 ∷ 3 ∷ []) 92 17 ∷ told (92 ∷ 17 ∷ 1 ∷ 92 ∷ 17 ∷ 1 ∷ []) 92 17
    ∷ told bills 93 17 ∷ told bills 92 18 ∷ []
    ≡ Evening ∷ Matinee ∷ Matinee ∷ NotRecorded ∷ NotRecorded ∷ []
unfolding opened
beside = refl

-- the borders of every range
borders : told (1 ∷ 1 ∷ 1 ∷ 366 ∷ 999 ∷ 3 ∷ []) 366 999 ∷ told [] 0 1 ∷ told [] 367 1 ∷ told [] 1 0 ∷ told [] 1 1000
    ∷ told (0 ∷ 1 ∷ 1 ∷ []) 1 1 ∷ told (367 ∷ 1 ∷ 1 ∷ []) 1 1 ∷ told (1 ∷ 0 ∷ 1 ∷ []) 1 1 ∷ told (1 ∷ 1000 ∷ 1 ∷ []) 1 1
    ∷ told (1 ∷ 1 ∷ 0 ∷ []) 1 1 ∷ told (1 ∷ 1 ∷ 4 ∷ []) 1 1 ∷ told (1 ∷ []) 1 1 ∷ told (1 ∷ 1 ∷ []) 1 1 ∷ told (1 ∷ 1 ∷ 1 ∷ 1 ∷ []) 1 1 ∷ []
    ≡ Either ∷ Refused ∷ Refused ∷ Refused ∷ Refused ∷ Refused ∷ Refused ∷ Refused ∷ Refused ∷ Refused ∷ Refused ∷ Refused ∷ Refused ∷ Refused ∷ []
unfolding opened
borders = refl

-- budgets just enough and one short: an either-record takes four tries for matinee, four for evening and three for any slot;
-- beside a stated slot the third question is not asked, whatever its budget
budgets : desk_says (92 ∷ 17 ∷ 3 ∷ []) 92 17 4 4 3 ∷ desk_says (92 ∷ 17 ∷ 3 ∷ []) 92 17 3 4 3 ∷ desk_says (92 ∷ 17 ∷ 3 ∷ []) 92 17 4 3 3 ∷ desk_says (92 ∷ 17 ∷ 3 ∷ []) 92 17 4 4 2
    ∷ desk_says bills 92 17 1 2 0 ∷ desk_says bills 92 17 0 2 0 ∷ desk_says bills 92 17 1 1 0 ∷ desk_says [] 92 17 0 0 0 ∷ []
    ≡ Either ∷ RanOut ∷ RanOut ∷ RanOut ∷ MatineeAndEvening ∷ RanOut ∷ RanOut ∷ NotRecorded ∷ []
unfolding opened
budgets = refl

-- so many either-records of day 1 and house 1
unfoldable eithers : ℕ → List ℕ
eithers zero = []
eithers (suc n) = 1 ∷ 1 ∷ 3 ∷ eithers n

-- 2,000 tries are needed by 500 of them, so no smaller number is always enough; one record more is refused
worst : desk_says (eithers 500) 1 1 2000 2000 3 ∷ desk_says (eithers 500) 1 1 1999 2000 3 ∷ desk_says (eithers 501) 1 1 2000 2000 3 ∷ []
    ≡ Either ∷ RanOut ∷ Refused ∷ []
unfolding opened eithers
worst = refl
