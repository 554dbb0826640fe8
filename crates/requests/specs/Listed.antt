-- Pieces that each say a thing of one kind.
use Rattle.std.specs.Prelude.{Bool, Option, Some, None, List, [], ◌∷◌, ◌++◌, ℕ}
use Rattle.requests.specs.Pieces.{present}

abbrev pub says : {T : Type 0} → (List ℕ → Option T) → List ℕ → Bool
says read p = present (read p)

-- the words of a thing go before those of the pieces after it
abbrev pub before : {T : Type 0} → (T → List ℕ) → Option T → List ℕ → List ℕ
before in_words None ws = []
before in_words (Some said) ws = in_words said ++ ws

-- the words of the things that the pieces begin with
unfoldable pub listed_words : {T : Type 0} → (List ℕ → Option T) → (T → List ℕ) → List (List ℕ) → List ℕ
listed_words read in_words [] = []
listed_words read in_words (p ∷ ps) = before in_words (read p) (listed_words read in_words ps)
