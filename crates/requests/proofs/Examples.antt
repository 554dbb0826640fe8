-- Lines read as requests, by computation: the values of a row that is met, and lines that are no request.
use mathlib.Core.Path.{◌≡◌, refl}
use mathlib.Core.Bool.{Bool, true, false}
use mathlib.Core.List.{[], ◌∷◌}
use Prim.Native.String.{String}
use lib.ListN.{drop}
use Rattle.text.specs.Quoted.{bytes}
use Rattle.requests.specs.Pieces.{up_to, pieces, pieces_at, digit_of, value_from, number_of, number_at, word_of, same_bytes, leading, run_from}
use Rattle.requests.specs.Bytes.{pair_of, bytes_of}
use Rattle.requests.specs.Records.{slot_of, record_of, record_words}
use Rattle.requests.specs.Rows as Rows
use Rattle.requests.specs.Rows.{list_at, bytes_at, barred_at, field_at, ends_with, values_from, asks, values_asked}
use Rattle.requests.specs.declared.request.Field.TheVariants.{Number, Words, Records, Bytes}

unfoldable opened : Unit {0}
unfolding up_to pieces pieces_at digit_of value_from number_of number_at word_of same_bytes leading run_from slot_of record_of record_words pair_of bytes_of Rows.number_at list_at bytes_at barred_at field_at ends_with values_from asks values_asked
opened = tt

abbrev pub lookup : String → Bool
lookup line = asks (bytes line) (bytes "lookup") (Number 4294967295 ∷ Words 3 ∷ [])

pub lookup_line : lookup "lookup 007 / -" ≡ true
unfolding opened
lookup_line = refl

pub lookup_values : values_asked (bytes "lookup 007 / -") (bytes "lookup") (Number 4294967295 ∷ Words 3 ∷ []) ≡ 7 ∷ 13 ∷ []
unfolding opened
lookup_values = refl

-- the numbers, then the positions of the lists
pub check_values :
    values_asked (bytes "check 2 16384 9 / 40000000 1 / c 0") (bytes "check") (Number 4294967295 ∷ Number 20000 ∷ Number 20000 ∷ Words 1024 ∷ Words 16100 ∷ [])
    ≡ 2 ∷ 16384 ∷ 9 ∷ 18 ∷ 31 ∷ []
unfolding opened
check_values = refl

-- the words of a list, from its position
pub check_words : leading (pieces_at (bytes "check 2 16384 9 / 40000000 1 / c 0") 18) ≡ 0x40000000 ∷ 1 ∷ []
unfolding opened
check_words = refl

pub long_word : lookup "lookup 0 / 000000000" ≡ false
unfolding opened
long_word = refl

pub large_number : lookup "lookup 4294967296 / -" ≡ false
unfolding opened
large_number = refl

pub over_the_limit : asks (bytes "a 20001") (bytes "a") (Number 20000 ∷ []) ≡ false
unfolding opened
over_the_limit = refl

pub four_words : lookup "lookup 0 / 1 2 3 4" ≡ false
unfolding opened
four_words = refl

pub two_spaces : lookup "lookup 0 / 1  2" ≡ false
unfolding opened
two_spaces = refl

pub left_over : lookup "lookup 0 / - / -" ≡ false
unfolding opened
left_over = refl

pub nothing_after_the_bar : lookup "lookup 0 /" ≡ false
unfolding opened
nothing_after_the_bar = refl

pub other_verb : lookup "lookups 0 / -" ≡ false
unfolding opened
other_verb = refl

-- the desk's records: two numbers and a slot
abbrev pub desk : String → Bool
desk line = asks (bytes line) (bytes "desk") (Number 4294967295 ∷ Records 2 ∷ [])

pub desk_values : values_asked (bytes "desk 5 / 12:3:m 007:4294967295:?") (bytes "desk") (Number 4294967295 ∷ Records 2 ∷ []) ≡ 5 ∷ 9 ∷ []
unfolding opened
desk_values = refl

pub desk_words : record_words (pieces_at (bytes "desk 5 / 12:3:m 007:4294967295:?") 9) ≡ 12 ∷ 3 ∷ 1 ∷ 7 ∷ 4294967295 ∷ 0 ∷ []
unfolding opened
desk_words = refl

pub no_records : desk "desk 0 / -" ≡ true
unfolding opened
no_records = refl

pub last_slots : record_words (pieces (bytes "0:0:e 0:0:x")) ≡ 0 ∷ 0 ∷ 2 ∷ 0 ∷ 0 ∷ 3 ∷ []
unfolding opened
last_slots = refl

pub three_records : desk "desk 0 / 1:1:m 1:1:m 1:1:m" ≡ false
unfolding opened
three_records = refl

pub unknown_slot : desk "desk 0 / 1:1:y" ≡ false
unfolding opened
unknown_slot = refl

pub record_without_slot : desk "desk 0 / 1:1" ≡ false
unfolding opened
record_without_slot = refl

pub record_goes_on : desk "desk 0 / 1:1:m:" ≡ false
unfolding opened
record_goes_on = refl

pub record_without_day : desk "desk 0 / :1:m" ≡ false
unfolding opened
record_without_day = refl

pub hexadecimal_house : desk "desk 0 / 1:A:m" ≡ false
unfolding opened
hexadecimal_house = refl

-- bytes run together
abbrev pub text : String → Bool
text line = asks (bytes line) (bytes "t") (Number 16100 ∷ Bytes 3 ∷ [])

pub text_values : values_asked (bytes "t 9 / 0aFf41") (bytes "t") (Number 16100 ∷ Bytes 3 ∷ []) ≡ 9 ∷ 6 ∷ []
unfolding opened
text_values = refl

pub text_read : text "t 9 / 0aFf41" ≡ true
unfolding opened
text_read = refl

pub text_bytes : bytes_of (drop 6 (bytes "t 9 / 0aFf41")) ≡ 10 ∷ 255 ∷ 65 ∷ []
unfolding opened
text_bytes = refl

pub no_text : text "t 9 / -" ≡ true
unfolding opened
no_text = refl

pub odd_digits : text "t 9 / ABC" ≡ false
unfolding opened
odd_digits = refl

pub no_digit : text "t 9 / 000G" ≡ false
unfolding opened
no_digit = refl

pub bytes_apart : text "t 9 / 00 00" ≡ false
unfolding opened
bytes_apart = refl

pub four_bytes : text "t 9 / 00000000" ≡ false
unfolding opened
four_bytes = refl
