-- Bytes as words, each word lowest byte first (document 01, "The program"). Bytes left over at the end make no word.
use Rattle.std.specs.Prelude.{ℕ, ◌+◌, ◌*◌, ◌^◌, List, [], ◌∷◌}

abbrev pub word_of : ℕ → ℕ → ℕ → ℕ → ℕ
word_of first second third fourth = fourth * 2 ^ 24 + third * 2 ^ 16 + second * 2 ^ 8 + first

unfoldable pub words_of : List ℕ → List ℕ
words_of [] = []
words_of (a ∷ []) = []
words_of (a ∷ b ∷ []) = []
words_of (a ∷ b ∷ c ∷ []) = []
words_of (a ∷ b ∷ c ∷ d ∷ bytes) = word_of a b c d ∷ words_of bytes
