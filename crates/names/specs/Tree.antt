-- The tree of names: machinery. Stem 0 is the empty name. Stem n + 1 is noted by the n-th key: an earlier stem's number times 256, and the byte that
-- comes after it.
use Rattle.std.specs.Prelude.{cond, List, [], ◌∷◌, ◌++◌, ◌≡◌, ℕ, zero, suc, ◌+◌, ◌/◌, ◌%◌, max, ◌≤◌, ◌<◌, eqb, length, get_or}
use Rattle.names.specs.Numbers.{Name}
use Rattle.names.specs.Noting.{name_at}

-- the name of a stem, by the first keys, so many
unfoldable pub spelt : List ℕ → ℕ → ℕ → Name
spelt m zero stem = []
spelt m (suc n) stem =
    cond (eqb stem (suc n)) (spelt m n (get_or m n 0 / 256) ++ (get_or m n 0 % 256 ∷ [])) (spelt m n stem)

-- of the first keys, so many, the latest that goes on from a stem, counted from 1; 0: none
unfoldable pub latest : List ℕ → ℕ → ℕ → ℕ
latest m stem zero = zero
latest m stem (suc k) = cond (eqb (get_or m k 0 / 256) stem) (suc k) (latest m stem k)

-- Where a tree stands in its memory: the keys from 0 on; for each key the one before it that goes on from the same stem, counted from 1; for each stem
-- the latest key that goes on from it, counted from 1; for each stem its name's number, counted from 1. 0: none.
abbrev pub before_at : List ℕ → ℕ → ℕ
before_at m k = get_or m (65536 + k) 0

abbrev pub head_at : List ℕ → ℕ → ℕ
head_at m stem = get_or m (131072 + stem) 0

abbrev pub mark_at : List ℕ → ℕ → ℕ
mark_at m stem = get_or m (196609 + stem) 0

-- so many keys, each once and from an earlier stem
pub record Tree (m : List ℕ) (count : ℕ) : Type 0 where
  pub long : length m ≡ 262146
  pub few : count ≤ 65536
  pub older : (k : ℕ) → k < count → before_at m k ≡ latest m (get_or m k 0 / 256) k
  pub newest : (stem : ℕ) → stem < 65537 → head_at m stem ≡ latest m stem count
  pub earlier : (k : ℕ) → k < count → get_or m k 0 / 256 ≤ k
  pub once : (j k : ℕ) → j < k → k < count → get_or m j 0 ≡ get_or m k 0 → ⊥

-- the number of a key among the first keys, so many; how many they are where it is not among them
pub record Found (m : List ℕ) (count key number : ℕ) : Type 0 where
  pub within : number ≤ count
  pub there : number < count → get_or m number 0 ≡ key
  pub nowhere : count ≤ number → (k : ℕ) → k < count → get_or m k 0 ≡ key → ⊥

-- the tree has grown; the names of its stems, and their numbers, are as before
pub record Grown (m : List ℕ) (count : ℕ) (m' : List ℕ) (count' : ℕ) : Type 0 where
  pub tree : Tree m' count'
  pub more : count ≤ count'
  pub kept : (stem : ℕ) → stem ≤ count → spelt m' count' stem ≡ spelt m count stem
  pub marks : (stem : ℕ) → mark_at m' stem ≡ mark_at m stem

-- the stem of a byte after a stem
pub record Onward (m : List ℕ) (count stem byte : ℕ) (m' : List ℕ) (r : ℕ) : Type 0 where
  pub grown : Grown m count m' (max count r)
  pub next : r ≤ count + 1
  pub name : spelt m' (max count r) r ≡ spelt m count stem ++ (byte ∷ [])

-- the stem of the name at a place
pub record Entered (text m : List ℕ) (count name : ℕ) (m' : List ℕ) (stem count' : ℕ) : Type 0 where
  pub grown : Grown m count m' count'
  pub slowly : count' ≤ count + length (name_at text name)
  pub inside : stem ≤ count'
  pub spells : spelt m' count' stem ≡ name_at text name
