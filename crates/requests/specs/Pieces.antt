-- The pieces of a line, which are separated by single spaces, and what they say.
use Rattle.std.specs.Prelude.{Bool, true, false, cond, ◌&&◌, List, [], ◌∷◌, ℕ, zero, suc, ◌+◌, ◌-◌, ◌*◌, Option, Some, None, eqb, leb, ltb, length, drop}
use Rattle.requests.specs.declared.piece.Number.{Number}
use Rattle.requests.specs.declared.listed.Run.{Run}

-- `0` to `9`, `A` to `F` or `a` to `f`; 16: no digit
unfoldable pub digit_of : ℕ → ℕ
digit_of c =
    cond (ltb c 48) 16
    (cond (leb c 57) (c - 48) (cond (ltb c 65) 16 (cond (leb c 70) (c - 55) (cond (ltb c 97) 16 (cond (leb c 102) (c - 87) 16)))))

-- the bytes up to a mark or the end
unfoldable pub up_to : ℕ → List ℕ → List ℕ
up_to mark [] = []
up_to mark (c ∷ cs) = cond (eqb c mark) [] (c ∷ up_to mark cs)

-- a piece goes up to a space
abbrev pub piece : List ℕ → List ℕ
piece cs = up_to 32 cs

-- a byte goes to the front of the first piece
abbrev pub onto : ℕ → List (List ℕ) → List (List ℕ)
onto c [] = (c ∷ []) ∷ []
onto c (p ∷ ps) = (c ∷ p) ∷ ps

-- all pieces
unfoldable pub pieces : List ℕ → List (List ℕ)
pieces [] = [] ∷ []
pieces (c ∷ cs) = cond (eqb c 32) ([] ∷ pieces cs) (onto c (pieces cs))

-- the pieces from a position on; none after the end
unfoldable pub pieces_at : List ℕ → ℕ → List (List ℕ)
pieces_at [] zero = pieces []
pieces_at [] (suc at) = []
pieces_at (c ∷ cs) zero = pieces (c ∷ cs)
pieces_at (c ∷ cs) (suc at) = pieces_at cs at

-- the number that digits of a base go on to say; none where a byte is no digit, or the number is over 4294967295
unfoldable pub value_from : ℕ → ℕ → List ℕ → Option ℕ
value_from base value [] = Some value
value_from base value (c ∷ cs) =
    cond (leb base (digit_of c)) None
    (cond (ltb 4294967295 (value * base + digit_of c)) None (value_from base (value * base + digit_of c) cs))

-- a number has one digit or more
unfoldable pub number_of : ℕ → List ℕ → Option ℕ
number_of base [] = None
number_of base (c ∷ cs) = value_from base 0 (c ∷ cs)

-- a word has one to eight hexadecimal digits
unfoldable pub word_of : List ℕ → Option ℕ
word_of p = cond (leb (length p) 8) (number_of 16 p) None

-- what stands at a position of a line; the next piece begins after the space
abbrev pub piece_at : List ℕ → ℕ → List ℕ
piece_at line at = piece (drop at line)

abbrev pub next_at : List ℕ → ℕ → ℕ
next_at line at = at + length (piece_at line at) + 1

abbrev pub found : ℕ → Option ℕ → Option Number
found next None = None
found next (Some value) = Some (record { value = value; next = next })

-- a number goes up to a mark, and what comes next begins after the mark
unfoldable pub number_at : ℕ → ℕ → List ℕ → ℕ → Option Number
number_at mark base line at = found (at + length (up_to mark (drop at line)) + 1) (number_of base (up_to mark (drop at line)))

abbrev pub decimal_at : ℕ → List ℕ → ℕ → Option Number
decimal_at mark line at = number_at mark 10 line at

unfoldable pub word_at : List ℕ → ℕ → Option Number
word_at line at = found (next_at line at) (word_of (piece_at line at))

-- the same bytes
unfoldable pub same_bytes : List ℕ → List ℕ → Bool
same_bytes [] [] = true
same_bytes [] (b ∷ bs) = false
same_bytes (a ∷ cs) [] = false
same_bytes (a ∷ cs) (b ∷ bs) = eqb a b && same_bytes cs bs

-- the words that the pieces begin with
abbrev pub before : Option ℕ → List ℕ → List ℕ
before None ws = []
before (Some w) ws = w ∷ ws

unfoldable pub leading : List (List ℕ) → List ℕ
leading [] = []
leading (p ∷ ps) = before (word_of p) (leading ps)

abbrev pub present : {T : Type 0} → Option T → Bool
present None = false
present (Some w) = true

abbrev pub is_word : List ℕ → Bool
is_word p = present (word_of p)

-- how many pieces of a kind stand side by side, and where the first that is of another begins
unfoldable pub run_from : (List ℕ → Bool) → ℕ → ℕ → List (List ℕ) → Run
run_from kind count at [] = record { count = count; next = at }
run_from kind count at (p ∷ ps) = cond (kind p) (run_from kind (count + 1) (at + length p + 1) ps) (record { count = count; next = at })
