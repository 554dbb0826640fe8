-- Machinery: the leaves that the work words note, and the tableau that they stand for. No public contract speaks of it.
use Rattle.std.specs.Prelude.{Bool, cond, not, ◌&&◌, List, [], ◌∷◌, ◌++◌, ℕ, zero, suc, ◌+◌, ◌*◌, eqb, length, drop, set}
use Rattle.words.specs.Fields.{kind_of}
use Rattle.table.specs.Syntax.{Literal}
use Rattle.rules.specs.Substitution.{Variable}
use Rattle.rules.specs.Tableau.{Leaf}
use Rattle.unification.specs.Places.{literal_places, parent_places, next_places}
use Rattle.unification.specs.State.{start_at, literal_at, parent_at, next_at, own_words, literal_at_reference}

-- The items that links lead through from a head, among so many: a head is an item's number and one, or 0 where there is none. Links lead down.
unfoldable pub chain : {A : Type 0} → (ℕ → A) → (ℕ → ℕ) → ℕ → ℕ → List A
chain item link zero head = []
chain item link (suc n) head = cond (eqb head (suc n)) (item n ∷ chain item link n (link n)) (chain item link n head)

abbrev pub literal_of_leaf : List ℕ → List ℕ → ℕ → Literal Variable
literal_of_leaf f m leaf = literal_at_reference f m (literal_at m leaf)

-- the literals of a leaf's ancestors, nearest first, from the head of its parent
abbrev pub branch_from : List ℕ → List ℕ → ℕ → ℕ → List (Literal Variable)
branch_from f m leaves head = chain (literal_of_leaf f m) (parent_at m) leaves head

abbrev pub leaf_at : List ℕ → List ℕ → ℕ → Leaf
leaf_at f m leaf = record { literal = literal_of_leaf f m leaf; branch = branch_from f m leaf (parent_at m leaf) }

-- the open leaves from a head on, left to right
abbrev pub leaves_from : List ℕ → List ℕ → ℕ → ℕ → List Leaf
leaves_from f m leaves head = chain (leaf_at f m) (next_at m) leaves head

-- the copies of the question among so many copies
unfoldable pub questions_among : List ℕ → ℕ → ℕ → List ℕ
questions_among m question zero = []
questions_among m question (suc n) =
    cond (eqb (start_at m n) question) (questions_among m question n ++ (n ∷ [])) (questions_among m question n)

-- where the literals of a clause stand among its words
unfoldable pub literal_offsets : ℕ → List ℕ → List ℕ
literal_offsets at [] = []
literal_offsets at (w ∷ ws) = cond (eqb (kind_of w) 2) (at ∷ literal_offsets (at + 1) ws) (literal_offsets (at + 1) ws)

abbrev pub offsets_at : List ℕ → ℕ → List ℕ
offsets_at f p = literal_offsets 1 (drop 1 (own_words f p))

-- a literal's word that hangs as a leaf: not the one that is entered
unfoldable pub hangs : ℕ → ℕ → ℕ → Bool
hangs entered offset w = eqb (kind_of w) 2 && not (eqb offset entered)

-- where the literals that hang stand among a clause's words, from an offset on
unfoldable pub hanging : ℕ → ℕ → List ℕ → List ℕ
hanging entered offset [] = []
hanging entered offset (w ∷ ws) =
    cond (hangs entered offset w) (offset ∷ hanging entered (offset + 1) ws) (hanging entered (offset + 1) ws)

-- one leaf noted
unfoldable pub noted : List ℕ → ℕ → ℕ → ℕ → ℕ → List ℕ
noted m leaf literal parent next = set (set (set m (literal_places + leaf) literal) (parent_places + leaf) parent) (next_places + leaf) next

-- The literals of a copy noted as leaves, the first of them highest: what is written from an offset on, while so many are left.
unfoldable pub hung : ℕ → ℕ → ℕ → ℕ → List ℕ → List ℕ → List ℕ
hung copy parent rest leaves [] m = m
hung copy parent rest leaves (o ∷ os) m =
    hung copy parent rest leaves os
    (noted m (leaves + length os) (copy * 256 + o) parent (cond (eqb (length os) 0) rest (leaves + length os)))
