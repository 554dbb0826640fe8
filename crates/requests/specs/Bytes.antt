-- Bytes in a line: two hexadecimal digits each, run together.
use Rattle.std.specs.Prelude.{cond, List, [], ◌∷◌, ℕ, ◌+◌, ◌*◌, leb, ltb}
use Rattle.requests.specs.Pieces.{digit_of}

-- what two digits stand for; 256: no byte
unfoldable pub pair_of : ℕ → ℕ → ℕ
pair_of a b = cond (leb 16 (digit_of a)) 256 (cond (leb 16 (digit_of b)) 256 (digit_of a * 16 + digit_of b))

-- the bytes with which a text begins
unfoldable pub bytes_of : List ℕ → List ℕ
bytes_of [] = []
bytes_of (a ∷ []) = []
bytes_of (a ∷ b ∷ cs) = cond (ltb (pair_of a b) 256) (pair_of a b ∷ bytes_of cs) []
