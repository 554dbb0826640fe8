-- The fingerprint (document 01, "Words of the question file"): 32-bit FNV-1a, over bytes, and over words, each word lowest byte first.
use Rattle.std.specs.Prelude.{ℕ, ◌*◌, ◌%◌, ◌^◌, List, [], ◌∷◌, ◌++◌, bit_xor}
use Rattle.words.specs.Fields.{bits}

-- multiply by 0x01000193, keeping the low 32 bits
unfoldable pub product : ℕ → ℕ
product h = h * 0x01000193 % 2 ^ 32

-- for each byte, exclusive-or it in, then multiply
unfoldable pub mixed : ℕ → List ℕ → ℕ
mixed h [] = h
mixed h (b ∷ bs) = mixed (product (bit_xor h b)) bs

-- begin with 0x811C9DC5
unfoldable pub fnv : List ℕ → ℕ
fnv bs = mixed 0x811C9DC5 bs

-- the bytes of a word, lowest first
unfoldable pub word_bytes : ℕ → List ℕ
word_bytes w = bits 0 8 w ∷ bits 8 8 w ∷ bits 16 8 w ∷ bits 24 8 w ∷ []

unfoldable pub bytes_of : List ℕ → List ℕ
bytes_of [] = []
bytes_of (w ∷ ws) = word_bytes w ++ bytes_of ws

abbrev pub fingerprint : List ℕ → ℕ
fingerprint ws = fnv (bytes_of ws)
