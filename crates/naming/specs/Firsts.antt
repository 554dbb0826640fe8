-- Where names are first used: machinery.
use Rattle.std.specs.Prelude.{List, [], ◌∷◌, ◌≡◌, ℕ, ◌≤◌, ◌<◌, length, get_or}
use Rattle.words.specs.Fields.{kind_of, symbol_of}
use Rattle.names.specs.Numbers.{Name, first_uses, number_in}
use Rattle.names.specs.Noting.{name_at, names_at, uses_of}
use Rattle.naming.specs.Index.{name_of}

-- each word of a kind has the number of its name
unfoldable pub Numbered : ℕ → List Name → List ℕ → List Name → Type 0
Numbered kind known [] names = Unit {0}
Numbered kind known (w ∷ ws) [] = Unit {0}
Numbered kind known (w ∷ ws) (name ∷ names) = (kind_of w ≡ kind → symbol_of w ≡ number_in known name) × Numbered kind known ws names

-- places without names
abbrev pub Blank : List ℕ → List ℕ → Type 0
Blank text places = (n : ℕ) → n < length places → name_at text (get_or places n 0) ≡ []

-- the names of a kind stand at their numbers
pub record Noted (words places : List ℕ) (kind : ℕ) (out out' : List ℕ) : Type 0 where
  pub told : (text : List ℕ) (known : List Name) → first_uses (uses_of kind words (names_at text places)) ≡ known → Numbered kind known words (names_at text places)
      → length known ≤ length out → Blank text out → (n : ℕ) → name_of text out' n ≡ get_or known n []
  pub long : length out' ≡ length out
