-- Writing into a lent buffer from a position on: what there is room for is written, and nothing else in the buffer changes.
-- The position goes on past the end, so that a text that does not fit is known by it: a text put into an empty buffer is only counted.
use Rattle.std.specs.Prelude.{◌≡◌, List, [], ◌∷◌, ℕ, zero, suc, ◌+◌, min, max, length}

unfoldable pub put : List ℕ → ℕ → List ℕ → List ℕ
put [] at text = []
put (o ∷ out) zero [] = o ∷ out
put (o ∷ out) zero (t ∷ text) = t ∷ put out zero text
put (o ∷ out) (suc at) text = o ∷ put out at text

-- the position after so many elements; it is told in 64 bits, and stops at the largest number of so many, which no buffer reaches
unfoldable pub after : ℕ → ℕ → ℕ → ℕ
after room at count = max at (min (at + count) (max room 0xFFFFFFFFFFFFFFFF))

-- what is left in the buffer, and the position after what was put there
pub record Put (out : List ℕ) (at : ℕ) (text left : List ℕ) (next : ℕ) : Type 0 where
  pub written : left ≡ put out at text
  pub ends : next ≡ after (length out) at (length text)
