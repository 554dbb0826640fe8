-- The records of the matinee desk (document 02, order 14): three words each, a day 1–366, a house 1–999 and a slot: 1 matinee, 2 evening, 3 either.
use Rattle.std.specs.Prelude.{Bool, true, false, cond, ◌&&◌, List, [], ◌∷◌, ℕ, eqb, leb, length}
use Rattle.desk.specs.declared.Slot.{Slot}
use Rattle.desk.specs.declared.Slot.TheVariants.{Matinee as matinee, Evening as evening, Either as either}

pub record Record : Type 0 where
  pub day : ℕ
  pub house : ℕ
  pub slot : Slot

-- the slot that a word names; a word that is none of the three is refused below
unfoldable pub slot_of : ℕ → Slot
slot_of word = cond (eqb word 1) matinee (cond (eqb word 2) evening either)

-- three words a record; words left over make none
unfoldable pub records_of : List ℕ → List Record
records_of [] = []
records_of (day ∷ []) = []
records_of (day ∷ house ∷ []) = []
records_of (day ∷ house ∷ slot ∷ words) = record { day = day; house = house; slot = slot_of slot } ∷ records_of words

abbrev pub between : ℕ → ℕ → ℕ → Bool
between low high n = leb low n && leb n high

abbrev pub day_in_range : ℕ → Bool
day_in_range day = between 1 366 day

abbrev pub house_in_range : ℕ → Bool
house_in_range house = between 1 999 house

abbrev pub slot_in_range : ℕ → Bool
slot_in_range slot = between 1 3 slot

unfoldable pub record_in_range : ℕ → ℕ → ℕ → Bool
record_in_range day house slot = day_in_range day && house_in_range house && slot_in_range slot

-- every record's numbers are in range, and no words are left over
unfoldable pub words_in_range : List ℕ → Bool
words_in_range [] = true
words_in_range (day ∷ []) = false
words_in_range (day ∷ house ∷ []) = false
words_in_range (day ∷ house ∷ slot ∷ words) = record_in_range day house slot && words_in_range words

-- What is asked is accepted: every number in range, no words left over, at most 500 records. Anything else is refused, 24.
unfoldable pub acceptable : List ℕ → ℕ → ℕ → Bool
acceptable words day house =
    day_in_range day && house_in_range house && leb (length words) 1500 && words_in_range words
