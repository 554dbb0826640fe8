-- A clause's variables found among the items of a text in memory: machinery.
use Rattle.std.specs.Prelude.{Bool, true, false, cond, List, [], ◌∷◌, ◌≡◌, ℕ, zero, suc, ◌%◌, eqb, ltb, length}
use Rattle.std.specs.Borrow.{Bor}
use Rattle.clausetext.specs.Syntax.{Clause}
use Rattle.clausetext.specs.Texts.{Says}
use Rattle.names.specs.Numbers.{first_uses}
use Rattle.names.specs.Noting.{names_at, uses_of}
use Rattle.naming.specs.Index.{IsName}
use Rattle.variable_names.specs.Named.{few_named, variable_name}

unfoldable pub sorts : List ℕ → List ℕ
sorts [] = []
sorts (m ∷ ms) = m % 8 ∷ sorts ms

unfoldable pub how_many : ℕ → List ℕ → ℕ
how_many sort [] = 0
how_many sort (s ∷ ss) = cond (eqb s sort) (suc (how_many sort ss)) (how_many sort ss)

-- the place behind the so-many-th of a sort; the end where there are not so many
abbrev pub further : Bool → ℕ → (ℕ → ℕ) → ℕ
further true zero later = 0
further true (suc n) later = later n
further false n later = later n

unfoldable pub behind : ℕ → ℕ → List ℕ → ℕ
behind sort n [] = 0
behind sort n (s ∷ ss) = suc (further (eqb s sort) n (λ k. behind sort k ss))

unfoldable pub place_of : ℕ → List ℕ → ℕ
place_of clause ss =
    cond (ltb clause (how_many 4 ss)) (behind 4 clause ss) (cond (eqb clause (how_many 4 ss)) (behind 5 0 ss) (length ss))

-- a word that tells whether a mark is a variable's, and words of marks
abbrev pub own_kind : ℕ → ℕ
own_kind m = cond (eqb (m % 8) 0) 0 1073741824

unfoldable pub own_kinds : List ℕ → List ℕ
own_kinds [] = []
own_kinds (m ∷ ms) = own_kind m ∷ own_kinds ms

unfoldable pub first_of : ℕ → List ℕ → ℕ
first_of wanted [] = 0
first_of wanted (w ∷ ws) = cond (eqb w wanted) 0 (suc (first_of wanted ws))

-- the name of a variable of items, and of a clause
pub record Among (text : Bor (List ℕ)) (marks places : List ℕ) (number : ℕ) (r : Bor (List ℕ)) : Type 0 where
  pub at : ℕ
  pub part : IsName text at r
  pub is : r.now ≡ few_named (first_uses (uses_of 0 (own_kinds marks) (names_at text.now places))) number

pub record IsSaid (text : Bor (List ℕ)) (clause number : ℕ) (r : Bor (List ℕ)) : Type 0 where
  pub at : ℕ
  pub part : IsName text at r
  pub said : (cs : List Clause) → Says text.now cs → r.now ≡ variable_name cs clause number
