-- The literals of a body as lists: those with a word are reached from the first to the next, and the last of each word by its key.
use mathlib.Core.Path.{◌≡◌, refl, sym, ap, ◌∙◌}
use mathlib.Core.Bool.{Bool, true, false, cond, ◌&&◌}
use mathlib.Core.List.{List, [], ◌∷◌}
use mathlib.Core.Option.{none}
use Prim.Native.Nat.{ℕ, zero, suc, ◌+◌, ◌-◌, ◌≤◌, ◌<◌}
use native.Mathlib.Omega.{arith}
use lib.Dec.{eqb}
use lib.ListN.{length, drop, get_or, drop_of_length-le}
use borrow.Author.Tests.{eq-eqb, ne_eqb, eqb-true, eqb-false}
use Rattle.words.specs.Fields.{number_of}
use Rattle.table.proofs.Terms.{from_place}
use Rattle.rules.proofs.Unify.Tests.{decide, never, and_left, and_right}
use Rattle.index.specs.Noting.{first_from, or_else, last_from, end_from}

-- one more literal in front
module _ (word i k : ℕ) (ks : List ℕ) where
  pub first_here : k ≡ word → first_from word i (k ∷ ks) ≡ i + 1
  unfolding first_from
  first_here e = rw (eq-eqb k word e)

  pub first_other : (k ≡ word → ⊥) → first_from word i (k ∷ ks) ≡ first_from word (i + 1) ks
  unfolding first_from
  first_other n = rw (ne_eqb k word n)

  pub last_other : (k ≡ word → ⊥) → last_from word i (k ∷ ks) ≡ last_from word (i + 1) ks
  unfolding last_from or_else
  last_other n = rw (ne_eqb k word n) (go (last_from word (i + 1) ks))
    where
      go : (r : ℕ) → or_else r 0 ≡ r
      go zero = refl
      go (suc r) = refl

  pub last_here : k ≡ word → last_from word (i + 1) ks ≡ 0 → last_from word i (k ∷ ks) ≡ i + 1
  unfolding last_from or_else
  last_here e z = rw (z, eq-eqb k word e)

  pub last_further : (last_from word (i + 1) ks ≡ 0 → ⊥) → last_from word i (k ∷ ks) ≡ last_from word (i + 1) ks
  unfolding last_from or_else
  last_further n = go (last_from word (i + 1) ks) n
    where
      go : (r : ℕ) → (r ≡ 0 → ⊥) → or_else r (cond (eqb k word) (i + 1) 0) ≡ r
      go zero n = absurd (n refl)
      go (suc r) n = refl

module _ (key i k : ℕ) (ks : List ℕ) where
  pub end_here : number_of k ≡ key → last_from k (i + 1) ks ≡ 0 → end_from key i (k ∷ ks) ≡ i + 1
  unfolding end_from
  end_here e z = rw (eq-eqb (number_of k) key e, eq-eqb (last_from k (i + 1) ks) 0 z)

  pub end_key : (number_of k ≡ key → ⊥) → end_from key i (k ∷ ks) ≡ end_from key (i + 1) ks
  unfolding end_from
  end_key n = rw (ne_eqb (number_of k) key n)

  pub end_later : (last_from k (i + 1) ks ≡ 0 → ⊥) → end_from key i (k ∷ ks) ≡ end_from key (i + 1) ks
  unfolding end_from
  end_later n = rw (ne_eqb (last_from k (i + 1) ks) 0 n) (go (eqb (number_of k) key))
    where
      go : (b : Bool) → cond (b && false) (i + 1) (end_from key (i + 1) ks) ≡ end_from key (i + 1) ks
      go true = refl
      go false = refl

-- of a word that none has there is no first
pub first_none : (word : ℕ) (ks : List ℕ) (i : ℕ) → last_from word i ks ≡ 0 → first_from word i ks ≡ 0
unfolding last_from first_from
first_none word [] i e = refl
first_none word (k ∷ ks) i e =
    decide (eqb (last_from word (i + 1) ks) 0)
    (λ z.
    let none : last_from word (i + 1) ks ≡ 0 = eqb-true _ 0 z in
    decide (eqb k word)
    (λ h. let y : i + 1 ≡ 0 = sym (last_here word i k ks (eqb-true k word h) none) ∙ e in absurd (omega arith))
    (λ h. first_other word i k ks (eqb-false k word h) ∙ first_none word ks (i + 1) none))
    (λ z. absurd (eqb-false _ 0 z (sym (last_further word i k ks (eqb-false _ 0 z)) ∙ e)))

-- the first of a word, the last, and the ends of words with a key, among numbered literals
module _ (ks : List ℕ) where
  abbrev key : ℕ → ℕ
  key i = get_or ks i 0

  pub record FirstAt (word i j : ℕ) : Type 0 where
    pub from : i ≤ j
    pub inside : j < length ks
    pub here : key j ≡ word

  first_at : (word left i j : ℕ) → i + left ≡ length ks → first_from word i (drop i ks) ≡ j + 1 → FirstAt word i j
  unfolding first_from
  first_at word zero i j e f = let z : 0 ≡ j + 1 = rw (drop_of_length-le ks {i = i} (omega arith)) at f in absurd (omega arith)
  first_at word (suc left) i j e f =
      let there = from_place ks i (omega arith) in
      let g : first_from word i (key i ∷ drop (i + 1) ks) ≡ j + 1 = rw there at f in
      decide (eqb (key i) word)
      (λ h.
      let here = eqb-true (key i) word h in
      let s : i + 1 ≡ j + 1 = sym (first_here word i (key i) (drop (i + 1) ks) here) ∙ g in
      let same : i ≡ j = omega arith in
      record { from = omega arith; inside = omega arith; here = rw (← same) here })
      (λ h.
      let on : first_from word (i + 1) (drop (i + 1) ks) ≡ j + 1 = (sym (first_other word i (key i) (drop (i + 1) ks) (eqb-false (key i) word h)) ∙ g) in
      let at = first_at word left (i + 1) j (omega arith) on in
      record { from = omega (arith, at.from); inside = at.inside; here = at.here })

  pub first_found : {word i j : ℕ} → i ≤ length ks → first_from word i (drop i ks) ≡ j + 1 → FirstAt word i j
  first_found {word} {i} {j} h e = first_at word (length ks - i) i j (omega arith) e

  pub record EndAt (key' i j : ℕ) : Type 0 where
    pub from : i ≤ j
    pub inside : j < length ks
    pub here : number_of (key j) ≡ key'
    pub last : last_from (key j) (j + 1) (drop (j + 1) ks) ≡ 0
    pub skips : (word : ℕ) → number_of word ≡ key' → last_from word i (drop i ks) ≡ last_from word j (drop j ks)

  -- a literal that is not the end of its word, or has another key
  skip_one : (key' i : ℕ) (rest : List ℕ) (k : ℕ) → (number_of k ≡ key' → last_from k (i + 1) rest ≡ 0 → ⊥) → (word : ℕ) → number_of word ≡ key'
      → last_from word i (k ∷ rest) ≡ last_from word (i + 1) rest
  skip_one key' i rest k n word e =
      decide (eqb (last_from word (i + 1) rest) 0)
      (λ z.
      let none : last_from word (i + 1) rest ≡ 0 = eqb-true _ 0 z in
      last_other word i k rest (λ s. n (ap (λ (w : ℕ). number_of w) s ∙ e) (ap (λ (w : ℕ). last_from w (i + 1) rest) s ∙ none)))
      (λ z. last_further word i k rest (eqb-false _ 0 z))

  end_at : (key' left i j : ℕ) → i + left ≡ length ks → end_from key' i (drop i ks) ≡ j + 1 → EndAt key' i j
  unfolding end_from
  end_at key' zero i j e f = let z : 0 ≡ j + 1 = rw (drop_of_length-le ks {i = i} (omega arith)) at f in absurd (omega arith)
  end_at key' (suc left) i j e f =
      let there = from_place ks i (omega arith) in
      let g : end_from key' i (key i ∷ drop (i + 1) ks) ≡ j + 1 = rw there at f in
      decide (eqb (number_of (key i)) key' && eqb (last_from (key i) (i + 1) (drop (i + 1) ks)) 0)
      (λ b.
      let same_key : number_of (key i) ≡ key' = eqb-true _ _ (and_left (eqb (number_of (key i)) key') _ b) in
      let last : last_from (key i) (i + 1) (drop (i + 1) ks) ≡ 0 = eqb-true _ _ (and_right (eqb (number_of (key i)) key') _ b) in
      let s : i + 1 ≡ j + 1 = sym (end_here key' i (key i) (drop (i + 1) ks) same_key last) ∙ g in
      let same : i ≡ j = omega arith in
      record {
        from = omega arith;
        inside = omega arith;
        here = rw (← same) same_key;
        last = rw (← same) last;
        skips = λ word h. rw same;
      })
      (λ b.
      let not_end : number_of (key i) ≡ key' → last_from (key i) (i + 1) (drop (i + 1) ks) ≡ 0 → ⊥ =
      λ p q. never (ap (λ (c : Bool). c && eqb (last_from (key i) (i + 1) (drop (i + 1) ks)) 0) (eq-eqb _ key' p) ∙ eq-eqb _ 0 q) b in
      let on : end_from key' (i + 1) (drop (i + 1) ks) ≡ j + 1 = (rw b at g) in
      let at = end_at key' left (i + 1) j (omega arith) on in
      record {
        from = omega (arith, at.from);
        inside = at.inside;
        here = at.here;
        last = at.last;
        skips = λ word h. rw there (skip_one key' i (drop (i + 1) ks) (key i) not_end word h) ∙ at.skips word h;
      })

  pub end_found : {key' i j : ℕ} → i ≤ length ks → end_from key' i (drop i ks) ≡ j + 1 → EndAt key' i j
  end_found {key'} {i} {j} h e = end_at key' (length ks - i) i j (omega arith) e

  -- where no word with the key ends, none of them is there
  end_missing : (key' left i : ℕ) → i + left ≡ length ks → end_from key' i (drop i ks) ≡ 0 → (word : ℕ) → number_of word ≡ key' → last_from word i (drop i ks) ≡ 0
  unfolding end_from last_from
  end_missing key' zero i e f word h = rw (drop_of_length-le ks {i = i} (omega arith))
  end_missing key' (suc left) i e f word h =
      let there = from_place ks i (omega arith) in
      let g : end_from key' i (key i ∷ drop (i + 1) ks) ≡ 0 = rw there at f in
      decide (eqb (number_of (key i)) key' && eqb (last_from (key i) (i + 1) (drop (i + 1) ks)) 0)
      (λ b. let z : i + 1 ≡ 0 = rw b at g in absurd (omega arith))
      (λ b.
      let not_end : number_of (key i) ≡ key' → last_from (key i) (i + 1) (drop (i + 1) ks) ≡ 0 → ⊥ =
      λ p q. never (ap (λ (c : Bool). c && eqb (last_from (key i) (i + 1) (drop (i + 1) ks)) 0) (eq-eqb _ key' p) ∙ eq-eqb _ 0 q) b in
      let on : end_from key' (i + 1) (drop (i + 1) ks) ≡ 0 = (rw b at g) in
      rw there (skip_one key' i (drop (i + 1) ks) (key i) not_end word h)
      ∙ end_missing key' left (i + 1) (omega arith) on word h)

  pub no_end : {key' i : ℕ} → i ≤ length ks → end_from key' i (drop i ks) ≡ 0 → (word : ℕ) → number_of word ≡ key' → last_from word i (drop i ks) ≡ 0
  no_end {key'} {i} h e word n = end_missing key' (length ks - i) i (omega arith) e word n

  -- a literal is the last of its word, or leads on
  module _ {i : ℕ} (h : i < length ks) where
    pub last_is : (word : ℕ) → key i ≡ word → last_from word (i + 1) (drop (i + 1) ks) ≡ 0 → last_from word i (drop i ks) ≡ i + 1
    last_is word e z = rw (from_place ks i h) (last_here word i (key i) (drop (i + 1) ks) e z)

    pub last_on : (word : ℕ) → (key i ≡ word → ⊥) → last_from word i (drop i ks) ≡ last_from word (i + 1) (drop (i + 1) ks)
    last_on word n = rw (from_place ks i h) (last_other word i (key i) (drop (i + 1) ks) n)

    pub first_is : (word : ℕ) → key i ≡ word → first_from word i (drop i ks) ≡ i + 1
    first_is word e = rw (from_place ks i h) (first_here word i (key i) (drop (i + 1) ks) e)

    pub first_on : (word : ℕ) → (key i ≡ word → ⊥) → first_from word i (drop i ks) ≡ first_from word (i + 1) (drop (i + 1) ks)
    first_on word n = rw (from_place ks i h) (first_other word i (key i) (drop (i + 1) ks) n)

    pub end_is : last_from (key i) (i + 1) (drop (i + 1) ks) ≡ 0 → end_from (number_of (key i)) i (drop i ks) ≡ i + 1
    end_is z = rw (from_place ks i h) (end_here _ i (key i) (drop (i + 1) ks) refl z)

    pub end_on_key : (key' : ℕ) → (number_of (key i) ≡ key' → ⊥) → end_from key' i (drop i ks) ≡ end_from key' (i + 1) (drop (i + 1) ks)
    end_on_key key' n = rw (from_place ks i h) (end_key key' i (key i) (drop (i + 1) ks) n)

    pub end_on : (key' : ℕ) → (last_from (key i) (i + 1) (drop (i + 1) ks) ≡ 0 → ⊥) → end_from key' i (drop i ks) ≡ end_from key' (i + 1) (drop (i + 1) ks)
    end_on key' n = rw (from_place ks i h) (end_later key' i (key i) (drop (i + 1) ks) (λ z. n z))

  -- the last of a word
  pub record LastAt (word i j : ℕ) : Type 0 where
    pub from : i ≤ j
    pub inside : j < length ks
    pub here : key j ≡ word
    pub last : last_from word (j + 1) (drop (j + 1) ks) ≡ 0

  last_at : (word left i j : ℕ) → i + left ≡ length ks → last_from word i (drop i ks) ≡ j + 1 → LastAt word i j
  unfolding last_from
  last_at word zero i j e f = let z : 0 ≡ j + 1 = rw (drop_of_length-le ks {i = i} (omega arith)) at f in absurd (omega arith)
  last_at word (suc left) i j e f =
      decide (eqb (last_from word (i + 1) (drop (i + 1) ks)) 0)
      (λ z.
      let none : last_from word (i + 1) (drop (i + 1) ks) ≡ 0 = eqb-true _ 0 z in
      decide (eqb (key i) word)
      (λ h.
      let here = eqb-true (key i) word h in
      let s : i + 1 ≡ j + 1 = sym (last_is (omega arith) word here none) ∙ f in
      let same : i ≡ j = omega arith in
      record { from = omega arith; inside = omega arith; here = rw (← same) here; last = rw (← same) none })
      (λ h. let y : 0 ≡ j + 1 = sym (last_on (omega arith) word (eqb-false (key i) word h) ∙ none) ∙ f in absurd (omega arith)))
      (λ z.
      let more : last_from word (i + 1) (drop (i + 1) ks) ≡ 0 → ⊥ = λ q. eqb-false _ 0 z q in
      let on : last_from word (i + 1) (drop (i + 1) ks) ≡ j + 1 =
      (sym (rw (from_place ks i (omega arith)) (last_further word i (key i) (drop (i + 1) ks) more)) ∙ f) in
      let at = last_at word left (i + 1) j (omega arith) on in
      record { from = omega (arith, at.from); inside = at.inside; here = at.here; last = at.last })

  pub last_found : {word i j : ℕ} → i ≤ length ks → last_from word i (drop i ks) ≡ j + 1 → LastAt word i j
  last_found {word} {i} {j} h e = last_at word (length ks - i) i j (omega arith) e

  -- a word whose last literal a literal is has no other last
  last_there : (word left i j : ℕ) → i + left ≡ length ks → i ≤ j → j < length ks → key j ≡ word → last_from word (j + 1) (drop (j + 1) ks) ≡ 0 → last_from word i (drop i ks) ≡ j + 1
  last_there word zero i j e f h w z = absurd (omega arith)
  last_there word (suc left) i j e f h w z =
      decide (eqb i j)
      (λ b. let same : i ≡ j = eqb-true i j b in rw same (last_is h word w z))
      (λ b.
      let apart = eqb-false i j b in
      let on : last_from word (i + 1) (drop (i + 1) ks) ≡ j + 1 = last_there word left (i + 1) j (omega arith) (omega arith) h w z in
      let more : last_from word (i + 1) (drop (i + 1) ks) ≡ 0 → ⊥ = λ q. let y : j + 1 ≡ 0 = sym on ∙ q in omega arith in
      rw (from_place ks i (omega arith)) (last_further word i (key i) (drop (i + 1) ks) more) ∙ on)

  pub last_alone : {word i j : ℕ} → i ≤ j → j < length ks → key j ≡ word → last_from word (j + 1) (drop (j + 1) ks) ≡ 0 → last_from word i (drop i ks) ≡ j + 1
  last_alone {word} {i} {j} f h w z = last_there word (length ks - i) i j (omega arith) f h w z
