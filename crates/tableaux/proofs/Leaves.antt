-- The laws of noted leaves: what stays when the words of the first leaves stay, and the open leaves after a copy's literals were hung.
use mathlib.Core.Path.{◌≡◌, refl, ap, ap₂, ◌∙◌}
use mathlib.Core.Bool.{Bool, true, false, cond}
use mathlib.Core.List.{List, [], ◌∷◌, ◌++◌, map}
use Prim.Native.Nat.{ℕ, zero, suc, ◌+◌, ◌*◌, ◌/◌, ◌≤◌, ◌<◌}
use native.Mathlib.Nat.{add-zero, add-suc, add_comm}
use native.Mathlib.Omega.{arith}
use borrow.Author.Tests.{ne_eqb, ltb-true, ltb-false}
use lib.Dec.{eqb, ltb}
use lib.ListN.{length, get_or, set, length-set}
use lib.Seq.{get_or-set_same, get_or-set_other}
use Rattle.rules.specs.Tableau.{Leaf}
use Rattle.rules.proofs.Lists.{All}
use Rattle.unification.specs.Places.{most_leaves, literal_places, parent_places, next_places, work_words, most_copies, start_places}
use Rattle.unification.specs.State.{start_at, literal_at, parent_at, next_at, words_at, literal_at_reference}
use Rattle.tableaux.specs.Leaves.{literal_of_leaf, branch_from, leaf_at, leaves_from, questions_among, noted, hung}
use Rattle.tableaux.proofs.Chains.{chain_at, chain_past, chain_same}
use Rattle.tableaux.proofs.Hanging.{noted_length}

-- the first leaves, and where their copies' clauses begin, are the same in two states
pub record SameLeaves (m m' : List ℕ) (n : ℕ) : Type 0 where
  pub literal : (c : ℕ) → c < n → literal_at m' c ≡ literal_at m c
  pub parent : (c : ℕ) → c < n → parent_at m' c ≡ parent_at m c
  pub next : (c : ℕ) → c < n → next_at m' c ≡ next_at m c
  pub start : (c : ℕ) → c < n → start_at m' (literal_at m c / 256) ≡ start_at m (literal_at m c / 256)

pub literal_same : (f m m' : List ℕ) (r : ℕ) → start_at m' (r / 256) ≡ start_at m (r / 256) → literal_at_reference f m' r ≡ literal_at_reference f m r
unfolding literal_at_reference words_at
literal_same f m m' r e = rw e

module _ (f : List ℕ) {m m' : List ℕ} {n : ℕ} (s : SameLeaves m m' n) where
  same_literal : (c : ℕ) → c < n → literal_of_leaf f m' c ≡ literal_of_leaf f m c
  same_literal c h = ap (literal_at_reference f m') (s.literal c h) ∙ literal_same f m m' (literal_at m c) (s.start c h)

  pub branch_same : (k head : ℕ) → k ≤ n → branch_from f m' k head ≡ branch_from f m k head
  branch_same k head h = chain_same _ _ _ _ k head (λ c l. same_literal c (omega arith)) (λ c l. s.parent c (omega arith))

  same-leaf : (c : ℕ) → c < n → leaf_at f m' c ≡ leaf_at f m c
  same-leaf c h =
      let branch : branch_from f m' c (parent_at m' c) ≡ branch_from f m c (parent_at m c) = ap (branch_from f m' c) (s.parent c h) ∙ branch_same c (parent_at m c) (omega arith) in
      λ i. record { literal = same_literal c h i; branch = branch i }

  pub leaves_same : (k head : ℕ) → k ≤ n → leaves_from f m' k head ≡ leaves_from f m k head
  leaves_same k head h = chain_same _ _ _ _ k head (λ c l. same-leaf c (omega arith)) (λ c l. s.next c (omega arith))

-- copies of the question, where the copies stay
pub questions_same : (m m' : List ℕ) (question n : ℕ) → ((c : ℕ) → c < n → start_at m' c ≡ start_at m c) → questions_among m' question n ≡ questions_among m question n
unfolding questions_among
questions_same m m' question zero s = refl
questions_same m m' question (suc n) s = rw (s n (omega arith), questions_same m m' question n (λ c l. s c (omega arith)))

-- a leaf whose literal's reference is as asked, and whose links lead down
abbrev pub Cell : (ℕ → Type 0) → List ℕ → ℕ → Type 0
Cell P m c = P (literal_at m c) × (parent_at m c ≤ c) × (next_at m c ≤ c)

-- one leaf noted
module _ (m : List ℕ) (leaf literal parent next : ℕ) where
  noted_other : (i : ℕ) → (i ≡ literal_places + leaf → ⊥) → (i ≡ parent_places + leaf → ⊥) → (i ≡ next_places + leaf → ⊥) → get_or (noted m leaf literal parent next) i 0 ≡ get_or m i 0
  unfolding noted
  noted_other i a b c =
      get_or-set_other (set (set m (literal_places + leaf) literal) (parent_places + leaf) parent) (next_places + leaf) i next 0 c
      ∙ get_or-set_other (set m (literal_places + leaf) literal) (parent_places + leaf) i parent 0 b
      ∙ get_or-set_other m (literal_places + leaf) i literal 0 a

  module _ (size : length m ≡ work_words) (small : leaf < most_leaves) where
    noted-literal : literal_at (noted m leaf literal parent next) leaf ≡ literal
    unfolding noted
    noted-literal =
        get_or-set_other (set (set m (literal_places + leaf) literal) (parent_places + leaf) parent) (next_places + leaf) (literal_places + leaf) next 0 (λ e. omega arith)
        ∙ get_or-set_other (set m (literal_places + leaf) literal) (parent_places + leaf) (literal_places + leaf) parent 0 (λ e. omega arith)
        ∙ get_or-set_same m (literal_places + leaf) literal 0 (omega arith)

    noted-parent : parent_at (noted m leaf literal parent next) leaf ≡ parent
    unfolding noted
    noted-parent =
        get_or-set_other (set (set m (literal_places + leaf) literal) (parent_places + leaf) parent) (next_places + leaf) (parent_places + leaf) next 0 (λ e. omega arith)
        ∙ get_or-set_same (set m (literal_places + leaf) literal) (parent_places + leaf) parent 0 (simp length-set (omega arith))

    noted_next : next_at (noted m leaf literal parent next) leaf ≡ next
    unfolding noted
    noted_next = get_or-set_same (set (set m (literal_places + leaf) literal) (parent_places + leaf) parent) (next_places + leaf) next 0 (simp length-set (omega arith))

-- the literals of a copy hung
module _ (copy parent rest leaves : ℕ) where
  abbrev head_after : ℕ → ℕ
  head_after n = cond (eqb n 0) rest (leaves + n)

  abbrev first : ℕ → List ℕ → List ℕ → List ℕ
  first o os m = noted m (leaves + length os) (copy * 256 + o) parent (head_after (length os))

  pub hung_length : (os m : List ℕ) → length (hung copy parent rest leaves os m) ≡ length m
  unfolding hung
  hung_length [] m = refl
  hung_length (o ∷ os) m = hung_length os (first o os m) ∙ noted_length m _ _ _ _

  -- words that are no cell of the new leaves
  abbrev Apart : ℕ → ℕ → Type 0
  Apart n i = (k : ℕ) → k < n → (i ≡ literal_places + (leaves + k) → ⊥) × (i ≡ parent_places + (leaves + k) → ⊥) × (i ≡ next_places + (leaves + k) → ⊥)

  pub hung_other : (os m : List ℕ) (i : ℕ) → Apart (length os) i → get_or (hung copy parent rest leaves os m) i 0 ≡ get_or m i 0
  unfolding hung
  hung_other [] m i a = refl
  hung_other (o ∷ os) m i a =
      let b = a (length os) (omega arith) in
      hung_other os (first o os m) i (λ k h. a k (omega arith)) ∙ noted_other m _ _ _ _ i b.0 b.1 b.2

  module _ (f : List ℕ) (small : copy < most_copies) (up : parent ≤ leaves) (right : rest ≤ leaves) where
    abbrev Copies : List ℕ → Type 0
    Copies m = (c : ℕ) → c < leaves → literal_at m c / 256 < most_copies

    pub hung_same : (os m : List ℕ) → leaves + length os ≤ most_leaves → Copies m → SameLeaves m (hung copy parent rest leaves os m) leaves
    hung_same os m room cs = record {
      literal = λ c h. hung_other os m (literal_places + c) (λ k l. (λ e. omega arith, λ e. omega arith, λ e. omega arith));
      parent = λ c h. hung_other os m (parent_places + c) (λ k l. (λ e. omega arith, λ e. omega arith, λ e. omega arith));
      next = λ c h. hung_other os m (next_places + c) (λ k l. (λ e. omega arith, λ e. omega arith, λ e. omega arith));
      start = λ c h. let d = cs c h in hung_other os m (start_places + literal_at m c / 256) (λ k l. (λ e. omega arith, λ e. omega arith, λ e. omega arith));
    }

    abbrev hanging_leaf : List ℕ → ℕ → Leaf
    hanging_leaf m o = record { literal = literal_at_reference f m (copy * 256 + o); branch = branch_from f m leaves parent }

    module _ (o : ℕ) (os m : List ℕ) (size : length m ≡ work_words) (room : leaves + suc (length os) ≤ most_leaves) (cs : Copies m) (below : o < 256) where
      abbrev after : List ℕ
      after = hung copy parent rest leaves os (first o os m)

      first-same : SameLeaves m (first o os m) leaves
      first-same = record {
        literal = λ c h. noted_other m _ _ _ _ (literal_places + c) (λ e. omega arith) (λ e. omega arith) (λ e. omega arith);
        parent = λ c h. noted_other m _ _ _ _ (parent_places + c) (λ e. omega arith) (λ e. omega arith) (λ e. omega arith);
        next = λ c h. noted_other m _ _ _ _ (next_places + c) (λ e. omega arith) (λ e. omega arith) (λ e. omega arith);
        start = λ c h. let d = cs c h in noted_other m _ _ _ _ (start_places + literal_at m c / 256) (λ e. omega arith) (λ e. omega arith) (λ e. omega arith);
      }

      first-copies : Copies (first o os m)
      first-copies c h = rw (first-same.literal c h) (cs c h)

      first-literal : literal_at after (leaves + length os) ≡ copy * 256 + o
      first-literal =
          hung_other os (first o os m) (literal_places + (leaves + length os)) (λ k l. (λ e. omega arith, λ e. omega arith, λ e. omega arith))
          ∙ noted-literal m _ _ _ _ size (omega arith)

      first-parent : parent_at after (leaves + length os) ≡ parent
      first-parent =
          hung_other os (first o os m) (parent_places + (leaves + length os)) (λ k l. (λ e. omega arith, λ e. omega arith, λ e. omega arith))
          ∙ noted-parent m _ _ _ _ size (omega arith)

      first_next : next_at after (leaves + length os) ≡ head_after (length os)
      first_next =
          hung_other os (first o os m) (next_places + (leaves + length os)) (λ k l. (λ e. omega arith, λ e. omega arith, λ e. omega arith))
          ∙ noted_next m _ _ _ _ size (omega arith)

      start-same : start_at after copy ≡ start_at m copy
      start-same =
          hung_other os (first o os m) (start_places + copy) (λ k l. (λ e. omega arith, λ e. omega arith, λ e. omega arith))
          ∙ noted_other m _ _ _ _ (start_places + copy) (λ e. omega arith) (λ e. omega arith) (λ e. omega arith)

      first_leaf : leaf_at f after (leaves + length os) ≡ hanging_leaf m o
      first_leaf =
          let copied : (copy * 256 + o) / 256 ≡ copy = omega arith in
          let literal : literal_of_leaf f after (leaves + length os) ≡ literal_at_reference f m (copy * 256 + o) =
          ap (literal_at_reference f after) first-literal
          ∙ literal_same f m after (copy * 256 + o) (rw copied start-same) in
          let lower : branch_from f after (leaves + length os) parent ≡ branch_from f after leaves parent =
          ap (λ (n : ℕ). branch_from f after n parent) (add_comm leaves (length os)) ∙ chain_past (literal_of_leaf f after) (parent_at after) leaves (length os) parent up in
          let branch : branch_from f after (leaves + length os) (parent_at after (leaves + length os)) ≡ branch_from f m leaves parent =
          ap (branch_from f after (leaves + length os)) first-parent
          ∙ lower
          ∙ branch_same f (hung_same os (first o os m) (omega arith) first-copies) leaves parent (omega arith)
          ∙ branch_same f first-same leaves parent (omega arith) in
          λ i. record { literal = literal i; branch = branch i }

    leaf-same : (m m' : List ℕ) → SameLeaves m m' leaves → start_at m' copy ≡ start_at m copy → (os : List ℕ) → All (◌< 256) os
        → map (hanging_leaf m') os ≡ map (hanging_leaf m) os
    unfolding All
    leaf-same m m' s e [] a = refl
    leaf-same m m' s e (o ∷ os) a =
        let below : o < 256 = a.0 in
        let copied : (copy * 256 + o) / 256 ≡ copy = omega arith in
        let literal : literal_at_reference f m' (copy * 256 + o) ≡ literal_at_reference f m (copy * 256 + o) =
        literal_same f m m' (copy * 256 + o) (rw copied e) in
        let branch : branch_from f m' leaves parent ≡ branch_from f m leaves parent = branch_same f s leaves parent (omega arith) in
        let leaf : hanging_leaf m' o ≡ hanging_leaf m o = λ i. record { literal = literal i; branch = branch i } in
        ap₂ ◌∷◌ leaf (leaf-same m m' s e os a.1)

    -- the open leaves after hanging: the new ones in order, then those that were right of them
    pub hung_leaves : (os m : List ℕ) → length m ≡ work_words → leaves + length os ≤ most_leaves → Copies m → All (◌< 256) os
        → leaves_from f (hung copy parent rest leaves os m) (leaves + length os) (head_after (length os)) ≡ map (hanging_leaf m) os ++ leaves_from f m leaves rest
    unfolding hung All
    hung_leaves [] m size room cs a = rw add-zero
    hung_leaves (o ∷ os) m size room cs a =
        let there : leaves + suc (length os) ≡ suc (leaves + length os) = add-suc leaves (length os) in
        let m' : List ℕ = after o os m size room cs a.0 in
        let further : leaves_from f m' (leaves + length os) (head_after (length os)) ≡ map (hanging_leaf (first o os m)) os ++ leaves_from f (first o os m) leaves rest =
        hung_leaves os (first o os m) (noted_length m _ _ _ _ ∙ size) (omega arith) (first-copies o os m size room cs a.0) a.1 in
        rw (ne_eqb (suc (length os)) 0 (λ e. omega arith), there)
        (chain_at (leaf_at f m') (next_at m') (leaves + length os)
        ∙ ap₂ ◌∷◌ (first_leaf o os m size room cs a.0) (ap (leaves_from f m' (leaves + length os)) (first_next o os m size room cs a.0)
        ∙ further
        ∙ ap₂ ◌++◌ (leaf-same m (first o os m) (first-same o os m size room cs a.0) (noted_other m _ _ _ _ (start_places + copy) (λ e. omega arith) (λ e. omega arith) (λ e. omega arith)) os a.1)
        (leaves_same f (first-same o os m size room cs a.0) leaves rest (omega arith))))

    -- each new leaf: its literal is one of those hung, and its links lead down
    pub hung_cells : (P : ℕ → Type 0) (os m : List ℕ) → length m ≡ work_words → leaves + length os ≤ most_leaves → Copies m → All (λ o. (o < 256) × P (copy * 256 + o)) os
        → (c : ℕ) → leaves ≤ c → c < leaves + length os
        → Cell P (hung copy parent rest leaves os m) c
    unfolding hung All
    hung_cells P [] m size room cs a c low high = absurd (omega arith)
    hung_cells P (o ∷ os) m size room cs a c low high =
        go (ltb c (leaves + length os)) refl
        (λ h. hung_cells P os (first o os m) (noted_length m _ _ _ _ ∙ size) (omega arith) (first-copies o os m size room cs a.0.0) a.1 c low h)
      where
        head_low : head_after (length os) ≤ leaves + length os
        head_low = low-head (length os)
          where
            low-head : (n : ℕ) → cond (eqb n 0) rest (leaves + n) ≤ leaves + n
            low-head zero = omega arith
            low-head (suc n) = rw (ne_eqb (suc n) 0 (λ e. omega arith)) (omega arith)

        go : (b : Bool) → ltb c (leaves + length os) ≡ b → (c < leaves + length os → Cell P (hung copy parent rest leaves os (first o os m)) c) → Cell P (hung copy parent rest leaves os (first o os m)) c
        go true e before = before (ltb-true _ _ e)
        go false e before =
            let here : c ≡ leaves + length os = omega (arith, ltb-false c (leaves + length os) e) in
            rw here (
              rw (first-literal o os m size room cs a.0.0) a.0.1,
              rw (first-parent o os m size room cs a.0.0) (omega arith),
              rw (first_next o os m size room cs a.0.0) head_low,
            )
