-- Numbers and words as text, in the bytes of ASCII.
use Rattle.std.specs.Prelude.{cond, List, [], ◌∷◌, ◌++◌, ℕ, zero, suc, ◌+◌, ◌/◌, ◌%◌, ◌^◌, eqb, ltb}
use Rattle.text.specs.Quoted.{bytes}

-- a digit below 16: `0` to `9`, then `A` to `F`
abbrev pub glyph_of : ℕ → ℕ
glyph_of d = cond (ltb d 10) (48 + d) (55 + d)

-- the last digits of a number in a base, so many, the highest first
unfoldable pub digits_of : ℕ → ℕ → ℕ → List ℕ
digits_of base zero n = []
digits_of base (suc count) n = glyph_of (n / base ^ count % base) ∷ digits_of base count n

-- a word in eight hexadecimal digits
abbrev pub hex_text : ℕ → List ℕ
hex_text w = digits_of 16 8 w

-- digits without the zeros in front; the last stays
unfoldable pub significant : List ℕ → List ℕ
significant [] = []
significant (d ∷ []) = d ∷ []
significant (d ∷ e ∷ ds) = cond (eqb d 48) (significant (e ∷ ds)) (d ∷ e ∷ ds)

-- a word in decimal: it has at most ten digits
abbrev pub decimal_text : ℕ → List ℕ
decimal_text w = significant (digits_of 10 10 w)

-- a number of 64 bits in decimal: it has at most twenty digits
abbrev pub long_decimal_text : ℕ → List ℕ
long_decimal_text n = significant (digits_of 10 20 n)

-- words, each with a space before it
unfoldable pub spaced_text : List ℕ → List ℕ
spaced_text [] = []
spaced_text (w ∷ ws) = bytes " " ++ hex_text w ++ spaced_text ws

-- words with spaces between them; `-` stands for none
unfoldable pub words_text : List ℕ → List ℕ
words_text [] = bytes "-"
words_text (w ∷ ws) = hex_text w ++ spaced_text ws

-- bytes in two hexadecimal digits each, run together
unfoldable pub pairs_text : List ℕ → List ℕ
pairs_text [] = []
pairs_text (b ∷ bs) = digits_of 16 2 b ++ pairs_text bs

-- `-` stands for none
unfoldable pub bytes_text : List ℕ → List ℕ
bytes_text [] = bytes "-"
bytes_text (b ∷ bs) = pairs_text (b ∷ bs)
