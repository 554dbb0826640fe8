-- What the desk promises (document 02, order 14), as statements about records. Nothing is proved here; proofs/Promises.antt proves each of them.
use Rattle.std.specs.Prelude.{true, false, ◌↔◌, ◌⊎◌, ◌≢◌, ◌≡◌, ℕ, ◌≤◌, ◌<◌}
use mathlib.Core.List.{List, Memᴰ}
use Rattle.desk.specs.Records.{Record, records_of, acceptable}
use Rattle.desk.specs.declared.Slot.{Slot}
use Rattle.desk.specs.declared.Slot.TheVariants.{Matinee as matinee, Evening as evening, Either as either}
use Rattle.desk.specs.Desk.{tries_for, desk_says, values_of}
use Rattle.desk.specs.declared.Report.TheVariants.{Refused, RanOut, NotRecorded}

-- a record of that day and house has this slot: it states matinee, or evening, or leaves open which
abbrev pub Recorded : ℕ → ℕ → Slot → List Record → Type 0
Recorded day house slot rs = (r : Record) × Memᴰ r rs × (r.day ≡ day) × (r.house ≡ house) × (r.slot ≡ slot)

abbrev pub NeitherStated : ℕ → ℕ → List Record → Type 0
NeitherStated day house rs = (¬ Recorded day house matinee rs) × (¬ Recorded day house evening rs)

-- 24 comes first: whatever is not acceptable is refused, and nothing else is
abbrev pub RefusedExactly : Type 0
RefusedExactly =
    (words : List ℕ) (day house forMatinee forEvening forAny : ℕ)
    → (desk_says words day house forMatinee forEvening forAny ≡ Refused) ↔ (acceptable words day house ≡ false)

-- else "ran out" exactly when one of the questions that are asked needs more tries than its own budget; the third is asked only when neither slot is stated
abbrev pub RanOutExactly : Type 0
RanOutExactly =
    (words : List ℕ) (day house forMatinee forEvening forAny : ℕ) → acceptable words day house ≡ true
    → (desk_says words day house forMatinee forEvening forAny ≡ RanOut)
    ↔ ((forMatinee < tries_for day house matinee (records_of words))
    ⊎ ((forEvening < tries_for day house evening (records_of words))
    ⊎ (NeitherStated day house (records_of words) × (forAny < tries_for day house either (records_of words)))))

-- else "matinee" exactly when a record of that day and house states it, "evening" likewise and independently,
abbrev pub MatineeExactly : Type 0
MatineeExactly =
    (words : List ℕ) (day house forMatinee forEvening forAny : ℕ) → acceptable words day house ≡ true
    → desk_says words day house forMatinee forEvening forAny ≢ RanOut
    → ((values_of (desk_says words day house forMatinee forEvening forAny)).matinee ≡ 1) ↔ Recorded day house matinee (records_of words)

abbrev pub EveningExactly : Type 0
EveningExactly =
    (words : List ℕ) (day house forMatinee forEvening forAny : ℕ) → acceptable words day house ≡ true
    → desk_says words day house forMatinee forEvening forAny ≢ RanOut
    → ((values_of (desk_says words day house forMatinee forEvening forAny)).evening ≡ 1) ↔ Recorded day house evening (records_of words)

-- "either" exactly when neither is stated and an either-record exists,
abbrev pub EitherExactly : Type 0
EitherExactly =
    (words : List ℕ) (day house forMatinee forEvening forAny : ℕ) → acceptable words day house ≡ true
    → desk_says words day house forMatinee forEvening forAny ≢ RanOut
    → ((values_of (desk_says words day house forMatinee forEvening forAny)).either ≡ 1)
    ↔ (NeitherStated day house (records_of words) × Recorded day house either (records_of words))

-- "not recorded" otherwise
abbrev pub NotRecordedExactly : Type 0
NotRecordedExactly =
    (words : List ℕ) (day house forMatinee forEvening forAny : ℕ) → acceptable words day house ≡ true
    → desk_says words day house forMatinee forEvening forAny ≢ RanOut
    → (desk_says words day house forMatinee forEvening forAny ≡ NotRecorded)
    ↔ (NeitherStated day house (records_of words) × (¬ Recorded day house either (records_of words)))

-- budgets of 2,000 tries are always enough
abbrev pub AlwaysEnough : Type 0
AlwaysEnough =
    (words : List ℕ) (day house forMatinee forEvening forAny : ℕ) → 2000 ≤ forMatinee → 2000 ≤ forEvening → 2000 ≤ forAny
    → desk_says words day house forMatinee forEvening forAny ≢ RanOut
