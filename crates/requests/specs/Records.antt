-- The desk's records, `day:house:slot`.
use Rattle.std.specs.Prelude.{Bool, cond, List, [], ◌∷◌, ℕ, Option, Some, None, eqb, ltb, drop}
use Prim.Native.Char.{code}
use Rattle.requests.specs.Pieces.{decimal_at, present}
use Rattle.requests.specs.declared.piece.Number.{Number}
use Rattle.requests.specs.declared.records.Record.{Record}

-- `m` matinee, `e` evening, `x` either, `?` a slot that is none of them; 4: no slot
unfoldable pub slot_of : ℕ → ℕ
slot_of c =
    cond (eqb c (code "m")) 1 (cond (eqb c (code "e")) 2 (cond (eqb c (code "x")) 3 (cond (eqb c (code "?")) 0 4)))

-- the slot is one letter, the last of the record
abbrev pub with_slot : ℕ → ℕ → List ℕ → Option Record
with_slot day house [] = None
with_slot day house (c ∷ []) = cond (ltb (slot_of c) 4) (Some (record { day = day; house = house; slot = slot_of c })) None
with_slot day house (c ∷ d ∷ cs) = None

abbrev pub with_house : List ℕ → ℕ → Option Number → Option Record
with_house p day (Some house) = with_slot day house.value (drop house.next p)
with_house p day None = None

abbrev pub with_day : List ℕ → Option Number → Option Record
with_day p (Some day) = with_house p day.value (decimal_at (code ":") p day.next)
with_day p None = None

-- a piece as a record: a number up to a colon, a number up to a colon, a slot
unfoldable pub record_of : List ℕ → Option Record
record_of p = with_day p (decimal_at (code ":") p 0)

abbrev pub is_record : List ℕ → Bool
is_record p = present (record_of p)

-- three words for each of the records that the pieces begin with
abbrev pub words_of : Record → List ℕ
words_of r = r.day ∷ r.house ∷ r.slot ∷ []

abbrev pub record_and : Option Record → List ℕ → List ℕ
record_and (Some r) ws = r.day ∷ r.house ∷ r.slot ∷ ws
record_and None ws = []

unfoldable pub record_words : List (List ℕ) → List ℕ
record_words [] = []
record_words (p ∷ ps) = record_and (record_of p) (record_words ps)
