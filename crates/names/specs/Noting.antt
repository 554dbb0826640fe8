-- Names that stand in a text, and the words that get their numbers: machinery.
use Rattle.std.specs.Prelude.{Bool, cond, List, [], ◌∷◌, map, ◌≡◌, ℕ, ◌+◌, ◌≤◌, ◌<◌, eqb, length, drop}
use Rattle.words.specs.Fields.{kind_of}
use Rattle.clausetext.specs.Kinds.{kind_of as byteKind, goes_on}
use Rattle.names.specs.Numbers.{Name, noted, first_uses, number_in}

-- names go on in letters, digits and `_`
abbrev pub name_byte : ℕ → Bool
name_byte c = goes_on (byteKind c)

-- the bytes of a name at the front of a text, and from a place on
unfoldable pub name_from : List ℕ → Name
name_from [] = []
name_from (c ∷ cs) = cond (name_byte c) (c ∷ name_from cs) []

abbrev pub name_at : List ℕ → ℕ → Name
name_at text at = name_from (drop at text)

-- names by the places where they were first used
abbrev pub names_at : List ℕ → List ℕ → List Name
names_at text places = map (λ (at : ℕ). name_at text at) places

-- the names of the words of one kind, each word with its name
unfoldable pub uses_of : ℕ → List ℕ → List Name → List Name
uses_of kind [] names = []
uses_of kind (w ∷ ws) [] = []
uses_of kind (w ∷ ws) (name ∷ names) = cond (eqb (kind_of w) kind) (name ∷ uses_of kind ws names) (uses_of kind ws names)

-- the words with the numbers of the names of one kind added, after names that are known already
unfoldable pub numbered : ℕ → List Name → List ℕ → List Name → List ℕ
numbered kind known [] names = []
numbered kind known (w ∷ ws) [] = w ∷ ws
numbered kind known (w ∷ ws) (name ∷ names) =
    cond (eqb (kind_of w) kind) ((w + number_in known name) ∷ numbered kind (noted known name) ws names) (w ∷ numbered kind known ws names)

-- the names of one kind have been numbered, or there are more of them than the limit
pub record Numbering (text starts words : List ℕ) (kind limit : ℕ) (words' : List ℕ) (many : ℕ) : Type 0 where
  pub within : many ≤ limit → many ≡ length (first_uses (uses_of kind words (names_at text starts)))
  pub numbers : many ≤ limit → words' ≡ numbered kind [] words (names_at text starts)
  pub over : limit < many → limit < length (first_uses (uses_of kind words (names_at text starts)))
  pub long : length words' ≡ length words
