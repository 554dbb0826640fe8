-- The desk's records as lines of text: a day 1–366, a house 1–999 and a slot (matinee, evening or either), with blanks between them.
-- `%` begins a comment; a line without pieces is no record.
use Rattle.std.specs.Prelude.{Bool, cond, not, ◌||◌, List, [], ◌∷◌, ◌++◌, ℕ, suc, ◌+◌, Option, Some, None, Result, Ok, Err, eqb, ltb, length, take, drop}
use Rattle.text.specs.Quoted.{bytes}
use Rattle.requests.specs.Pieces.{decimal_at, same_bytes}
use Rattle.requests.specs.declared.piece.Number.{Number}
use Rattle.reports.specs.declared.lines.Piece.{Piece}
use Rattle.requests.specs.declared.records.Record.{Record}
use Rattle.reports.specs.declared.records.Wanted.{Wanted}
use Rattle.reports.specs.declared.records.Wanted.TheVariants.{Day, House, Slot, LineEnd}
use Rattle.reports.specs.declared.records.Fault.{Fault}

-- PIECES
-- space, tab, CR
unfoldable pub is_blank : ℕ → Bool
is_blank c = eqb c 32 || (eqb c 9 || eqb c 13)

abbrev pub is_inked : ℕ → Bool
is_inked c = not (is_blank c)

unfoldable pub ends_piece : ℕ → Bool
ends_piece c = eqb c 37 || is_blank c

-- how many blanks stand at the front, and how many bytes of a piece
unfoldable pub blanks_in : List ℕ → ℕ
blanks_in [] = 0
blanks_in (c ∷ line) = cond (is_blank c) (suc (blanks_in line)) 0

unfoldable pub piece_in : List ℕ → ℕ
piece_in [] = 0
piece_in (c ∷ line) = cond (ends_piece c) 0 (suc (piece_in line))

abbrev pub piece_start : List ℕ → ℕ → ℕ
piece_start line from = from + blanks_in (drop from line)

unfoldable pub piece_from : List ℕ → ℕ → Piece
piece_from line from =
    record { start = piece_start line from; end = piece_start line from + piece_in (drop (piece_start line from) line) }

abbrev pub piece_bytes : List ℕ → Piece → List ℕ
piece_bytes line p = drop p.start (take p.end line)

-- A LINE
-- a number from 1 up to the most that it may be
abbrev pub within : ℕ → Option Number → Option ℕ
within most (Some n) = cond (eqb n.value 0 || ltb most n.value) None (Some n.value)
within most None = None

unfoldable pub number_up_to : ℕ → List ℕ → Option ℕ
number_up_to most own = within most (decimal_at 32 own 0)

-- the slot's number
unfoldable pub slot_named : List ℕ → Option ℕ
slot_named own =
    cond (same_bytes own (bytes "matinee")) (Some 1)
    (cond (same_bytes own (bytes "evening")) (Some 2) (cond (same_bytes own (bytes "either")) (Some 3) None))

abbrev pub is_empty : Piece → Bool
is_empty p = eqb p.start p.end

abbrev pub number_at : ℕ → List ℕ → ℕ → Option ℕ
number_at most line from = number_up_to most (piece_bytes line (piece_from line from))

abbrev pub slot_at : List ℕ → ℕ → Option ℕ
slot_at line from = slot_named (piece_bytes line (piece_from line from))

-- where a line goes wrong, and what was expected there
abbrev pub wrong : ℕ → Wanted → Result (Option Record) Fault
wrong place wanted = Err (record { place = place; wanted = wanted })

-- after the house: a slot, and no piece more
abbrev pub with_slot : List ℕ → ℕ → ℕ → ℕ → Option ℕ → Result (Option Record) Fault
with_slot line from day house (Some slot) =
    cond (is_empty (piece_from line (piece_from line from).end)) (Ok (Some (record { day = day; house = house; slot = slot })))
    (wrong (piece_from line (piece_from line from).end).start LineEnd)
with_slot line from day house None = wrong (piece_from line from).start Slot

unfoldable pub said_slot : List ℕ → ℕ → ℕ → ℕ → Result (Option Record) Fault
said_slot line from day house = with_slot line from day house (slot_at line from)

-- after the day
abbrev pub with_house : List ℕ → ℕ → ℕ → Option ℕ → Result (Option Record) Fault
with_house line from day (Some house) = said_slot line (piece_from line from).end day house
with_house line from day None = wrong (piece_from line from).start House

unfoldable pub said_house : List ℕ → ℕ → ℕ → Result (Option Record) Fault
said_house line from day = with_house line from day (number_at 999 line from)

abbrev pub with_day : List ℕ → Option ℕ → Result (Option Record) Fault
with_day line (Some day) = said_house line (piece_from line 0).end day
with_day line None = wrong (piece_from line 0).start Day

-- a line's record; none where it has no piece
unfoldable pub said_in : List ℕ → Result (Option Record) Fault
said_in line = cond (is_empty (piece_from line 0)) (Ok None) (with_day line (number_at 366 line 0))

-- A TEXT
-- its lines, which end in LF or with the text
abbrev pub onto : ℕ → List (List ℕ) → List (List ℕ)
onto c [] = (c ∷ []) ∷ []
onto c (line ∷ lines) = (c ∷ line) ∷ lines

unfoldable pub lines_of : List ℕ → List (List ℕ)
lines_of [] = []
lines_of (c ∷ text) = cond (eqb c 10) ([] ∷ lines_of text) (onto c (lines_of text))

-- the records' words, three each
unfoldable pub words_of : Result (Option Record) Fault → List ℕ
words_of (Ok (Some r)) = r.day ∷ r.house ∷ r.slot ∷ []
words_of (Ok None) = []
words_of (Err fault) = []

unfoldable pub words_said : List (List ℕ) → List ℕ
words_said [] = []
words_said (line ∷ lines) = words_of (said_in line) ++ words_said lines

-- the first line that is wrong, and where; the lines begin at a place of the text
abbrev pub fault_or : ℕ → Result (Option Record) Fault → Option Fault → Option Fault
fault_or at (Ok said) rest = rest
fault_or at (Err fault) rest = Some (record { place = at + fault.place; wanted = fault.wanted })

unfoldable pub first_fault : ℕ → List (List ℕ) → Option Fault
first_fault at [] = None
first_fault at (line ∷ lines) = fault_or at (said_in line) (first_fault (at + length line + 1) lines)
