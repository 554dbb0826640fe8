-- The stems of a tree of names: each spells a name of its own, and the tree grows by one key, with premises as the code has them.
use mathlib.Core.Bool.{Bool, true, false, cond}
use mathlib.Core.List.{List, [], ◌∷◌, ◌++◌}
use mathlib.Core.Path.{◌≡◌, refl, sym, ap, ◌∙◌}
use Prim.Native.Nat.{ℕ, zero, suc, ◌+◌, ◌-◌, ◌*◌, ◌/◌, ◌%◌, max, ◌≤◌, ◌<◌}
use native.Mathlib.Nat.{not-suc-le-zero}
use native.Mathlib.Numerals.{add-one}
use native.Mathlib.Omega.{arith}
use borrow.Author.Tests.{eqb-true, eqb-false, eq-eqb, ne_eqb, leb-true, leb-false}
use lib.Dec.{eqb, leb}
use lib.ListN.{length, get_or, set, length-set}
use lib.Seq.{get_or-set_same, get_or-set_other}
use Rattle.names.specs.Numbers.{Name}
use Rattle.names.specs.Tree.{spelt, latest, before_at, head_at, Tree, Found, Onward}

-- the latest key of a stem
module _ (keys : List ℕ) (stem : ℕ) where
  pub latest_below : (n : ℕ) → latest keys stem n ≤ n
  unfolding latest
  latest_below zero = omega arith
  latest_below (suc k) = go (eqb (get_or keys k 0 / 256) stem) (latest_below k)
    where
      go : (t : Bool) → latest keys stem k ≤ k → cond t (suc k) (latest keys stem k) ≤ suc k
      go true h = omega arith
      go false h = omega arith

  pub latest_is : (n k : ℕ) → latest keys stem n ≡ suc k → get_or keys k 0 / 256 ≡ stem
  unfolding latest
  latest_is zero k e = absurd (omega arith)
  latest_is (suc n) k e = go (eqb (get_or keys n 0 / 256) stem) refl (latest_is n k) e
    where
      go : (t : Bool) → eqb (get_or keys n 0 / 256) stem ≡ t → (latest keys stem n ≡ suc k → get_or keys k 0 / 256 ≡ stem)
          → cond t (suc n) (latest keys stem n) ≡ suc k → get_or keys k 0 / 256 ≡ stem
      go true q ih e = let z : n ≡ k = omega arith in rw (← z) (eqb-true (get_or keys n 0 / 256) stem q)
      go false q ih e = ih e

  pub latest_none : (n k : ℕ) → k < n → latest keys stem n ≤ k → get_or keys k 0 / 256 ≡ stem → ⊥
  unfolding latest
  latest_none zero k h g e = not-suc-le-zero h
  latest_none (suc n) k h g e = go (eqb (get_or keys n 0 / 256) stem) refl (latest_none n k) g
    where
      go : (t : Bool) → eqb (get_or keys n 0 / 256) stem ≡ t → (k < n → latest keys stem n ≤ k → get_or keys k 0 / 256 ≡ stem → ⊥)
          → cond t (suc n) (latest keys stem n) ≤ k → ⊥
      go true q ih g = omega arith
      go false q ih g = at_most (leb (suc k) n) refl
        where
          at_most : (u : Bool) → leb (suc k) n ≡ u → ⊥
          at_most true p = ih (leb-true (suc k) n p) g e
          at_most false p = let z : n ≡ k = omega (arith, leb-false (suc k) n p) in eqb-false (get_or keys n 0 / 256) stem q (rw z e)

-- looking along the keys of a stem, latest first: from here on the key is not there
pub record Looking (keys : List ℕ) (count key at : ℕ) : Type 0 where
  pub fits : at ≤ count
  pub here : (k : ℕ) → at ≡ suc k → get_or keys k 0 / 256 ≡ key / 256
  pub passed : (k : ℕ) → at ≤ k → k < count → get_or keys k 0 ≡ key → ⊥

from_latest : (keys : List ℕ) (count key n : ℕ) → n ≤ count → ((k : ℕ) → n ≤ k → k < count → get_or keys k 0 ≡ key → ⊥)
    → Looking keys count key (latest keys (key / 256) n)
from_latest keys count key n g h = record {
  fits = omega (arith, latest_below keys (key / 256) n);
  here = λ k e. latest_is keys (key / 256) n k e;
  passed = λ k a b e. go k a b e (leb n k) refl;
}
  where
    go : (k : ℕ) → latest keys (key / 256) n ≤ k → k < count → get_or keys k 0 ≡ key → (t : Bool) → leb n k ≡ t → ⊥
    go k a b e true q = h k (leb-true n k q) b e
    go k a b e false q = latest_none keys (key / 256) n k (leb-false n k q) a (ap (λ (w : ℕ). w / 256) e)

module _ {keys : List ℕ} {count key : ℕ} (t : Tree keys count) where
  pub begin_looking : key / 256 ≤ 65536 → {stem at : ℕ} → stem ≡ key / 256 → at ≡ head_at keys stem → Looking keys count key at
  begin_looking l {stem} s a =
      rw (a, t.newest stem (omega arith), s) (from_latest keys count key count (omega arith) (λ k x y e. omega arith))

  module _ {at : ℕ} (inv : Looking keys count key at) where
    pub look_inside : 0 < at → at - 1 < count
    look_inside h = omega (arith, inv.fits)

    pub looked_up : 0 < at → get_or keys (at - 1) 0 ≡ key → Found keys count key (at - 1)
    looked_up h e = record {
      within = omega (arith, inv.fits);
      there = λ l. e;
      nowhere = λ l k g q. omega (arith, inv.fits);
    }

    pub looked_on : 0 < at → (get_or keys (at - 1) 0 ≡ key → ⊥) → {next : ℕ} → next ≡ before_at keys (at - 1) → Looking keys count key next
    looked_on h d n =
        let stem : get_or keys (at - 1) 0 / 256 ≡ key / 256 = inv.here (at - 1) (omega arith) in
        rw (n, t.older (at - 1) (omega (arith, inv.fits)), stem)
        (from_latest keys count key (at - 1) (omega (arith, inv.fits)) (λ j x y e. passing j x y e (eqb j (at - 1)) refl))
      where
        passing : (j : ℕ) → at - 1 ≤ j → j < count → get_or keys j 0 ≡ key → (u : Bool) → eqb j (at - 1) ≡ u → ⊥
        passing j x y e true q = d (rw (eqb-true j (at - 1) q) at e)
        passing j x y e false q = let far : j ≡ at - 1 → ⊥ = eqb-false j (at - 1) q in inv.passed j (omega arith) y e

    pub looked_less : 0 < at → {next : ℕ} → next ≡ before_at keys (at - 1) → next < at
    looked_less h n =
        omega (arith, n, t.older (at - 1) (omega (arith, inv.fits)), latest_below keys (get_or keys (at - 1) 0 / 256) (at - 1))

    pub looked_out : at ≤ 0 → Found keys count key count
    looked_out h = record {
      within = omega arith;
      there = λ l. absurd (omega arith);
      nowhere = λ l k g e. inv.passed k (omega arith) g e;
    }

pub ruleset looking_laws = (begin_looking, look_inside, looked_up, looked_on, looked_less, looked_out)

-- the name of a stem, by the keys
module _ (keys : List ℕ) where
  pub spelt_last : (n : ℕ) → spelt keys (suc n) (suc n) ≡ spelt keys n (get_or keys n 0 / 256) ++ (get_or keys n 0 % 256 ∷ [])
  unfolding spelt
  spelt_last n = rw (eq-eqb (suc n) (suc n) refl)

  pub spelt_earlier : (n stem : ℕ) → stem ≤ n → spelt keys (suc n) stem ≡ spelt keys n stem
  unfolding spelt
  spelt_earlier n stem h = rw (ne_eqb stem (suc n) (λ e. omega arith))

  pub spelt_root : (n : ℕ) → spelt keys n 0 ≡ []
  unfolding spelt
  spelt_root zero = refl
  spelt_root (suc n) = rw (ne_eqb 0 (suc n) (λ e. omega arith)) (spelt_root n)

  pub spelt_at : (n : ℕ) → ((k : ℕ) → k < n → get_or keys k 0 / 256 ≤ k) → (k : ℕ) → k < n
      → spelt keys n (suc k) ≡ spelt keys n (get_or keys k 0 / 256) ++ (get_or keys k 0 % 256 ∷ [])
  spelt_at zero below k h = absurd (omega arith)
  spelt_at (suc n) below k h = go (λ j g. spelt_at n (λ i x. below i (omega arith)) j g) (eqb k n) refl
    where
      go : ((j : ℕ) → j < n → spelt keys n (suc j) ≡ spelt keys n (get_or keys j 0 / 256) ++ (get_or keys j 0 % 256 ∷ []))
          → (t : Bool) → eqb k n ≡ t → spelt keys (suc n) (suc k) ≡ spelt keys (suc n) (get_or keys k 0 / 256) ++ (get_or keys k 0 % 256 ∷ [])
      go ih true e =
          rw (eqb-true k n e, spelt_last n, spelt_earlier n (get_or keys n 0 / 256) (below n (omega arith)))
      go ih false e =
          let d : k ≡ n → ⊥ = eqb-false k n e in
          let b : get_or keys k 0 / 256 ≤ k = below k h in
          rw (spelt_earlier n (suc k) (omega arith), spelt_earlier n (get_or keys k 0 / 256) (omega arith)) (ih k (omega arith))

-- the last bytes of two names
snoc_nothing : (m : Name) (a : ℕ) → m ++ (a ∷ []) ≡ [] → ⊥
snoc_nothing [] a e = let z : ◌≡◌ {A = ℕ} 0 1 = cc in omega arith
snoc_nothing (x ∷ m) a e = let z : ◌≡◌ {A = ℕ} 0 1 = cc in omega arith

snoc_same : (m n : Name) (a b : ℕ) → m ++ (a ∷ []) ≡ n ++ (b ∷ []) → (m ≡ n) × (a ≡ b)
snoc_same [] [] a b e = (refl, cc)
snoc_same [] (y ∷ n) a b e = let z : [] ≡ n ++ (b ∷ []) = cc in absurd (snoc_nothing n b (sym z))
snoc_same (x ∷ m) [] a b e = let z : m ++ (a ∷ []) ≡ [] = cc in absurd (snoc_nothing m a z)
snoc_same (x ∷ m) (y ∷ n) a b e =
    let z : m ++ (a ∷ []) ≡ n ++ (b ∷ []) = cc in
    let w : x ≡ y = cc in
    let h : (m ≡ n) × (a ≡ b) = snoc_same m n a b z in
    (rw (w, h.0), h.1)

-- each stem spells a name of its own
same_key : (a b : ℕ) → a / 256 ≡ b / 256 → a % 256 ≡ b % 256 → a ≡ b
same_key a b p q = omega arith

abbrev Apart : List ℕ → ℕ → Type 0
Apart keys n = (s t : ℕ) → s < t → t ≤ n → spelt keys n s ≡ spelt keys n t → ⊥

module _ (keys : List ℕ) where
  pub apart : (n : ℕ) → ((k : ℕ) → k < n → get_or keys k 0 / 256 ≤ k) → ((j k : ℕ) → j < k → k < n → get_or keys j 0 ≡ get_or keys k 0 → ⊥)
      → (s t : ℕ) → s < t → t ≤ n → spelt keys n s ≡ spelt keys n t → ⊥
  apart zero below once s t h g e = omega arith
  apart (suc n) below once s t h g e =
      last (λ s t h g e. apart n (λ k x. below k (omega arith)) (λ j k x y z. once j k x (omega arith) z) s t h g e) (eqb t (suc n)) refl
    where
      parent : ℕ → ℕ
      parent k = get_or keys k 0 / 256

      by-parents : Apart keys n → (k : ℕ) → k < n → spelt keys n (parent k) ≡ spelt keys n (parent n) → get_or keys k 0 % 256 ≡ get_or keys n 0 % 256 → ⊥
      by-parents ih k x y z = less (leb (suc (parent k)) (parent n)) refl
        where
          more : (v : Bool) → leb (suc (parent n)) (parent k) ≡ v → (parent k < parent n → ⊥) → ⊥
          more true q d = ih (parent n) (parent k) (leb-true (suc (parent n)) (parent k) q) (omega (arith, below k (omega arith))) (sym y)
          more false q d =
              let w : parent k ≡ parent n = omega (arith, leb-false (suc (parent n)) (parent k) q) in
              once k n x (omega arith) (same_key (get_or keys k 0) (get_or keys n 0) w z)

          less : (u : Bool) → leb (suc (parent k)) (parent n) ≡ u → ⊥
          less true q = ih (parent k) (parent n) (leb-true (suc (parent k)) (parent n) q) (below n (omega arith)) y
          less false q = more (leb (suc (parent n)) (parent k)) refl (λ l. omega (arith, leb-false (suc (parent k)) (parent n) q))

      against-last : Apart keys n → (s : ℕ) → s ≤ n → spelt keys n s ≡ spelt keys n (parent n) ++ (get_or keys n 0 % 256 ∷ []) → ⊥
      against-last ih zero g e = snoc_nothing (spelt keys n (parent n)) (get_or keys n 0 % 256) (sym e ∙ spelt_root keys n)
      against-last ih (suc k) g e =
          let both : (spelt keys n (parent k) ≡ spelt keys n (parent n)) × (get_or keys k 0 % 256 ≡ get_or keys n 0 % 256) =
          snoc_same (spelt keys n (parent k)) (spelt keys n (parent n)) (get_or keys k 0 % 256) (get_or keys n 0 % 256)
          (sym (spelt_at keys n (λ j x. below j (omega arith)) k g) ∙ e) in
          by-parents ih k g both.0 both.1

      last : Apart keys n → (u : Bool) → eqb t (suc n) ≡ u → ⊥
      last ih true q =
          let z : t ≡ suc n = eqb-true t (suc n) q in
          against-last ih s (omega arith) (sym (spelt_earlier keys n s (omega arith)) ∙ e ∙ ap (λ (x : ℕ). spelt keys (suc n) x) z ∙ spelt_last keys n)
      last ih false q =
          let d : t ≡ suc n → ⊥ = eqb-false t (suc n) q in
          ih s t h (omega arith) (sym (spelt_earlier keys n s (omega arith)) ∙ e ∙ spelt_earlier keys n t (omega arith))

-- a word stored after the first keys changes nothing of them
module _ (m : List ℕ) (count j v : ℕ) (after : count ≤ j) where
  key-kept : (k : ℕ) → k < count → get_or (set m j v) k 0 ≡ get_or m k 0
  key-kept k h = get_or-set_other m j k v 0 (λ e. omega arith)

  latest-kept : (stem n : ℕ) → n ≤ count → latest (set m j v) stem n ≡ latest m stem n
  unfolding latest
  latest-kept stem zero h = refl
  latest-kept stem (suc n) h = rw (key-kept n h, latest-kept stem n (omega arith))

  pub spelt_kept : (n stem : ℕ) → n ≤ count → spelt (set m j v) n stem ≡ spelt m n stem
  unfolding spelt
  spelt_kept zero stem h = refl
  spelt_kept (suc n) stem h =
      rw (key-kept n h, spelt_kept n (get_or m n 0 / 256) (omega arith), spelt_kept n stem (omega arith))

-- a mark changes nothing of the tree
pub tree_kept : (m : List ℕ) (count stem v : ℕ) → Tree m count → Tree (set m (196609 + stem) v) count
tree_kept m count stem v t =
    let far : count ≤ 196609 + stem = omega (arith, t.few) in
    record {
      long = length-set m (196609 + stem) v ∙ t.long;
      few = t.few;
      older = λ k h. rw (
        get_or-set_other m (196609 + stem) (65536 + k) v 0 (λ e. omega (arith, t.few)),
        key-kept m count (196609 + stem) v far k h,
        latest-kept m count (196609 + stem) v far (get_or m k 0 / 256) k (omega arith),
      ) (t.older k h);
      newest = λ s h. rw (
        get_or-set_other m (196609 + stem) (131072 + s) v 0 (λ e. omega arith),
        latest-kept m count (196609 + stem) v far s count (omega arith),
      ) (t.newest s h);
      earlier = λ k h. rw (key-kept m count (196609 + stem) v far k h) (t.earlier k h);
      once = λ j k h g e.
          t.once j k h g (rw (key-kept m count (196609 + stem) v far j (omega arith), key-kept m count (196609 + stem) v far k g) at e);
    }

max_l : (a b : ℕ) → b ≤ a → max a b ≡ a
max_l a b h = omega arith

max_r : (a b : ℕ) → a ≤ b → max a b ≡ b
max_r a b h = omega arith

-- each of the first ones, or the last
by_last : (count : ℕ) (P : ℕ → Type 0) → ((k : ℕ) → k < count → P k) → P count → (k : ℕ) → k < count + 1 → P k
by_last count P f g k j = go (eqb k count) refl
  where
    go : (t : Bool) → eqb k count ≡ t → P k
    go true e = rw (eqb-true k count e) g
    go false e = let d : k ≡ count → ⊥ = eqb-false k count e in f k (omega arith)

-- a stem that is there, and one that is added
module _ (m : List ℕ) (count stem byte : ℕ) (t : Tree m count) (inside : stem ≤ count) (small : byte < 256) (key : ℕ) (is : key ≡ stem * 256 + byte) where
  key-stem : key / 256 ≡ stem
  key-stem = omega (arith, is)

  key-byte : key % 256 ≡ byte
  key-byte = omega (arith, is)

  onward-there : (k : ℕ) → k < count → get_or m k 0 ≡ key → Onward m count stem byte m (k + 1)
  onward-there k h e = record {
    grown = rw (max_l count (k + 1) (omega arith)) (record { tree = t; more = omega arith; kept = λ s g. refl; marks = λ s. refl });
    next = omega arith;
    name = rw (max_l count (k + 1) (omega arith), add-one k)
        (spelt_at m count (λ j g. t.earlier j g) k h ∙ rw (e, key-stem, key-byte));
  }

  module _ (room : count < 65536) (new : (k : ℕ) → k < count → get_or m k 0 ≡ key → ⊥) where
    abbrev m¹ : List ℕ
    m¹ = set m count key

    abbrev m² : List ℕ
    m² = set m¹ (65536 + count) (head_at m¹ stem)

    abbrev m³ : List ℕ
    m³ = set m² (131072 + stem) (count + 1)

    -- what stands elsewhere
    elsewhere : (j : ℕ) → (j ≡ count → ⊥) → (j ≡ 65536 + count → ⊥) → (j ≡ 131072 + stem → ⊥) → get_or m³ j 0 ≡ get_or m j 0
    elsewhere j a b c =
        get_or-set_other m² (131072 + stem) j (count + 1) 0 c
        ∙ get_or-set_other m¹ (65536 + count) j (head_at m¹ stem) 0 b
        ∙ get_or-set_other m count j key 0 a

    earlier-key : (k : ℕ) → k < count → get_or m³ k 0 ≡ get_or m k 0
    earlier-key k h = elsewhere k (λ e. omega arith) (λ e. omega arith) (λ e. omega arith)

    last-key : get_or m³ count 0 ≡ key
    last-key =
        get_or-set_other m² (131072 + stem) count (count + 1) 0 (λ e. omega arith)
        ∙ get_or-set_other m¹ (65536 + count) count (head_at m¹ stem) 0 (λ e. omega arith)
        ∙ get_or-set_same m count key 0 (omega (arith, t.long))

    head-before : head_at m¹ stem ≡ head_at m stem
    head-before = get_or-set_other m count (131072 + stem) key 0 (λ e. omega arith)

    last-before : before_at m³ count ≡ head_at m stem
    last-before =
        get_or-set_other m² (131072 + stem) (65536 + count) (count + 1) 0 (λ e. omega arith)
        ∙ get_or-set_same m¹ (65536 + count) (head_at m¹ stem) 0 (omega (arith, t.long, length-set m count key))
        ∙ head-before

    long² : length m² ≡ 262146
    long² = length-set m¹ (65536 + count) (head_at m¹ stem) ∙ length-set m count key ∙ t.long

    kept-latest : (s n : ℕ) → n ≤ count → latest m³ s n ≡ latest m s n
    kept-latest s n h =
        latest-kept m² count (131072 + stem) (count + 1) (omega arith) s n h
        ∙ latest-kept m¹ count (65536 + count) (head_at m¹ stem) (omega arith) s n h
        ∙ latest-kept m count count key (omega arith) s n h

    kept-spelt : (s : ℕ) → spelt m³ count s ≡ spelt m count s
    kept-spelt s =
        spelt_kept m² count (131072 + stem) (count + 1) (omega arith) count s (omega arith)
        ∙ spelt_kept m¹ count (65536 + count) (head_at m¹ stem) (omega arith) count s (omega arith)
        ∙ spelt_kept m count count key (omega arith) count s (omega arith)

    older : (k : ℕ) → k < count + 1 → before_at m³ k ≡ latest m³ (get_or m³ k 0 / 256) k
    older = by_last count _
        (λ k j. rw (
          elsewhere (65536 + k) (λ e. omega arith) (λ e. omega arith) (λ e. omega arith),
          earlier-key k j,
          kept-latest (get_or m k 0 / 256) k (omega arith),
        ) (t.older k j))
        (rw (last-before, last-key, key-stem, kept-latest stem count (omega arith)) (t.newest stem (omega arith)))

    last-latest : (s : ℕ) → latest m³ s (suc count) ≡ cond (eqb stem s) (suc count) (latest m s count)
    unfolding latest
    last-latest s = rw (last-key, key-stem, kept-latest s count (omega arith))

    newest : (s : ℕ) → s < 65537 → head_at m³ s ≡ latest m³ s (count + 1)
    newest s j = go (eqb stem s) refl ∙ sym (last-latest s) ∙ ap (λ (n : ℕ). latest m³ s n) (sym (add-one count))
      where
        go : (u : Bool) → eqb stem s ≡ u → head_at m³ s ≡ cond (eqb stem s) (suc count) (latest m s count)
        go true e =
            rw e (ap (λ (x : ℕ). head_at m³ x) (sym (eqb-true stem s e)) ∙ get_or-set_same m² (131072 + stem) (count + 1) 0 (omega (arith, long²)) ∙ add-one count)
        go false e =
            let d : stem ≡ s → ⊥ = eqb-false stem s e in
            rw e (elsewhere (131072 + s) (λ e. omega arith) (λ e. omega arith) (λ e. d (omega arith)) ∙ t.newest s j)

    earlier : (k : ℕ) → k < count + 1 → get_or m³ k 0 / 256 ≤ k
    earlier = by_last count _ (λ k j. rw (earlier-key k j) (t.earlier k j)) (rw (last-key, key-stem) inside)

    once : (j k : ℕ) → j < k → k < count + 1 → get_or m³ j 0 ≡ get_or m³ k 0 → ⊥
    once j k h g e =
        by_last count (λ k. j < k → get_or m³ j 0 ≡ get_or m³ k 0 → ⊥)
        (λ k g h e. t.once j k h g (rw (earlier-key j (omega arith), earlier-key k g) at e))
        (λ h e. new j h (rw (earlier-key j h, last-key) at e)) k g h e

    onward-new : Onward m count stem byte m³ (count + 1)
    onward-new = record {
      grown = rw (max_r count (count + 1) (omega arith)) (record {
        tree = record {
          long = length-set m² (131072 + stem) (count + 1) ∙ long²;
          few = omega arith;
          older = older;
          newest = newest;
          earlier = earlier;
          once = once;
        };
        more = omega arith;
        kept = λ s g. ap (λ (n : ℕ). spelt m³ n s) (add-one count) ∙ spelt_earlier m³ count s g ∙ kept-spelt s;
        marks = λ s. elsewhere (196609 + s) (λ e. omega arith) (λ e. omega arith) (λ e. omega arith);
      });
      next = omega arith;
      name = rw (max_r count (count + 1) (omega arith))
          (ap (λ (n : ℕ). spelt m³ n n) (add-one count) ∙ spelt_last m³ count ∙ rw (last-key, key-stem, key-byte, kept-spelt stem));
    }

module _ {m : List ℕ} {count stem byte : ℕ} (t : Tree m count) (inside : stem ≤ count)
    {b : ℕ} (is : (b ≡ byte) × (b < 256)) {number : ℕ} (found : Found m count (stem * 256 + b) number) where
  pub onward_known : number < count → Onward m count stem byte m (number + 1)
  onward_known h = onward-there m count stem byte t inside (omega (arith, is.0, is.1)) (stem * 256 + b) (rw is.0) number h (found.there h)

  pub onward_added : count < 65536 → count ≤ number
      → Onward m count stem byte
      (set (set (set m count (stem * 256 + b)) (65536 + count) (head_at (set m count (stem * 256 + b)) stem)) (131072 + stem) (count + 1)) (count + 1)
  onward_added room h =
      onward-new m count stem byte t inside (omega (arith, is.0, is.1)) (stem * 256 + b) (rw is.0) room (found.nowhere h)
