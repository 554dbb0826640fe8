-- The names that are known, by the places of their first uses, and looked through one by one: machinery.
use Rattle.std.specs.Prelude.{cond, List, ◌≡◌, ℕ, ◌+◌, eqb, length, take}
use Rattle.names.specs.Numbers.{Name, noted, number_in}
use Rattle.names.specs.Noting.{name_at, names_at}

-- how many are known after a use of a name that has this number
abbrev pub grown : ℕ → ℕ → ℕ
grown count number = cond (eqb number count) (count + 1) count

-- the names known, so many
abbrev pub known_at : List ℕ → List ℕ → ℕ → List Name
known_at text places count = names_at text (take count places)

-- a use of a name has been noted
pub record Noted (text places : List ℕ) (count name : ℕ) (places' : List ℕ) (number : ℕ) : Type 0 where
  pub is : number ≡ number_in (known_at text places count) (name_at text name)
  pub known : known_at text places' (grown count number) ≡ noted (known_at text places count) (name_at text name)
  pub long : length places' ≡ length places
