-- The words of a question file (document 01, "Words of the question file"): the fields of a word, which words have the shape of each kind,
-- and the word that holds given fields.
use Rattle.std.specs.Prelude.{ℕ, ◌+◌, ◌-◌, ◌*◌, ◌/◌, ◌%◌, ◌^◌, Bool, true, false, not, ◌&&◌, ◌==◌, nat_le}

-- so many bits of a word, from a given bit upwards
abbrev pub bits : ℕ → ℕ → ℕ → ℕ
bits from count w = w / 2 ^ from % 2 ^ count

-- the top two bits (31 and 30) give a word's kind
abbrev pub kind_of : ℕ → ℕ
kind_of w = bits 30 2 w

-- a variable: bits 0–9 number
abbrev pub number_of : ℕ → ℕ
number_of w = bits 0 10 w

-- a function, constant or literal: bits 0–11 symbol or predicate, 12–14 arity
abbrev pub symbol_of : ℕ → ℕ
symbol_of w = bits 0 12 w

abbrev pub arity_of : ℕ → ℕ
arity_of w = bits 12 3 w

-- a literal: bit 15 set = negative
abbrev pub sign_of : ℕ → ℕ
sign_of w = bits 15 1 w

abbrev pub negative_of : ℕ → Bool
negative_of w = sign_of w == 1

-- a clause: bits 0–2 literal count, 3–7 variable count, 8–15 words that follow
abbrev pub literals_of : ℕ → ℕ
literals_of w = bits 0 3 w

abbrev pub variables_of : ℕ → ℕ
variables_of w = bits 3 5 w

abbrev pub following_of : ℕ → ℕ
following_of w = bits 8 8 w

-- bit 16 set = restricted (document 02, order 8)
abbrev pub restricted_of : ℕ → Bool
restricted_of w = bits 16 1 w == 1

-- a word's kind, and its bits from a given one up to bit 29 zero: bits not named are zero
abbrev pub plain : ℕ → ℕ → ℕ → Bool
plain kind from w = kind_of w == kind && bits from (30 - from) w == 0

-- The shapes: the word's kind is right, the bits not named are zero, and its fields are within document 01's limits.
abbrev pub variable_shaped : ℕ → Bool
variable_shaped w = plain 0 10 w

-- arity 0–4
unfoldable pub function_shaped : ℕ → Bool
function_shaped w = plain 1 15 w && nat_le (arity_of w) 4

unfoldable pub literal_shaped : ℕ → Bool
literal_shaped w = plain 2 16 w && nat_le (arity_of w) 4

-- literal count 1–7, variable count 0–16; the length is not under 1
unfoldable pub counted : ℕ → Bool
counted w = not (literals_of w == 0) && not (following_of w == 0) && nat_le (variables_of w) 16

unfoldable pub clause_shaped : ℕ → Bool
clause_shaped w = plain 3 17 w && counted w

-- The words with given fields; bits not named are zero.
abbrev pub variable_word : ℕ → ℕ
variable_word n = n

abbrev pub function_word : ℕ → ℕ → ℕ
function_word symbol arity = 2 ^ 30 + arity * 2 ^ 12 + symbol

abbrev pub sign_bit : Bool → ℕ
sign_bit true = 2 ^ 15
sign_bit false = 0

abbrev pub literal_word : Bool → ℕ → ℕ → ℕ
literal_word negative predicate arity = 2 * 2 ^ 30 + sign_bit negative + arity * 2 ^ 12 + predicate

abbrev pub mark_bit : Bool → ℕ
mark_bit true = 2 ^ 16
mark_bit false = 0

abbrev pub clause_word : Bool → ℕ → ℕ → ℕ → ℕ
clause_word restricted literals variables following = 3 * 2 ^ 30 + mark_bit restricted + following * 2 ^ 8 + variables * 2 ^ 3 + literals
