-- The numbers of names, noted at their stems: machinery.
use Rattle.std.specs.Prelude.{List, [], ◌∷◌, ◌≡◌, ℕ, suc, ◌+◌, ◌≤◌, ◌<◌, length, get_or}
use Rattle.names.specs.Numbers.{Name, noted, number_in}
use Rattle.names.specs.Noting.{name_at}
use Rattle.names.specs.Tree.{spelt, mark_at, Tree}

-- how many bytes names have
unfoldable pub letters : List Name → ℕ
letters [] = 0
letters (name ∷ names) = length name + letters names

-- Each known name has a stem, at which its number is noted, counted from 1; no other stem has one.
pub record Marks (m : List ℕ) (stems : ℕ) (known : List Name) : Type 0 where
  pub stem : ℕ → ℕ
  pub inside : (n : ℕ) → n < length known → stem n ≤ stems
  pub spells : (n : ℕ) → n < length known → get_or known n [] ≡ spelt m stems (stem n)
  pub marked : (n : ℕ) → n < length known → mark_at m (stem n) ≡ suc n
  pub only : (s n : ℕ) → mark_at m s ≡ suc n → (n < length known) × (stem n ≡ s)

-- the number at a stem, which is noted there from now on
pub record Marked (stems : ℕ) (known : List Name) (m' : List ℕ) (name : Name) (number : ℕ) : Type 0 where
  pub is : number ≡ number_in known name
  pub tree : Tree m' stems
  pub marks : Marks m' stems (noted known name)

-- a use of the name at a place
pub record Used (text : List ℕ) (stems name : ℕ) (known : List Name) (m' : List ℕ) (number stems' : ℕ) : Type 0 where
  pub is : number ≡ number_in known (name_at text name)
  pub tree : Tree m' stems'
  pub marks : Marks m' stems' (noted known (name_at text name))
  pub slowly : stems' ≤ stems + length (name_at text name)
