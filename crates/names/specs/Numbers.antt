-- Names are numbered by their first use (document 02, order 1): the number of a name is how many different names were used before it first was.
use Rattle.std.specs.Prelude.{Bool, true, false, cond, ◌&&◌, List, [], ◌∷◌, ℕ, zero, suc, eqb}

-- A name is its bytes.
abbrev pub Name : Type 0
Name = List ℕ

unfoldable pub same_name : Name → Name → Bool
same_name [] [] = true
same_name [] (d ∷ ds) = false
same_name (c ∷ cs) [] = false
same_name (c ∷ cs) (d ∷ ds) = eqb c d && same_name cs ds

-- the names known after one more use: a name that is not known yet becomes the last
unfoldable pub noted : List Name → Name → List Name
noted [] name = name ∷ []
noted (known ∷ more) name = cond (same_name known name) (known ∷ more) (known ∷ noted more name)

-- the different names of some uses, in the order of their first use, after names that are known already
unfoldable pub known_after : List Name → List Name → List Name
known_after known [] = known
known_after known (name ∷ names) = known_after (noted known name) names

abbrev pub first_uses : List Name → List Name
first_uses names = known_after [] names

-- how many names stand before this one
unfoldable pub number_in : List Name → Name → ℕ
number_in [] name = zero
number_in (known ∷ more) name = cond (same_name known name) zero (suc (number_in more name))
