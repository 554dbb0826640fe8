-- Marks and words gone through one by one, with premises as the code has them.
use mathlib.Core.Bool.{Bool, true, false, cond}
use mathlib.Core.List.{List, [], ◌∷◌}
use mathlib.Core.Path.{◌≡◌, refl, sym, ap, ◌∙◌}
use Prim.Native.Nat.{ℕ, zero, suc, ◌+◌, ◌-◌, ◌%◌, ◌^◌, ◌≤◌, ◌<◌}
use native.Mathlib.Numerals.{add-one}
use native.Mathlib.Omega.{arith}
use borrow.Author.Tests.{eq-eqb, ne_eqb, lt-ltb, le-ltb, ltb-false}
use lib.Dec.{eqb}
use lib.ListN.{length, take, drop, get_or, set, length-set, drop_of_length-le}
use lib.Seq.{drop-cons, take-suc, take-suc-set, take_all}
use Rattle.std.specs.Prelude.{Some, None, nat_lt, count_by, position}
use Rattle.std.specs.List.{position_or_len}
use Rattle.std.proofs.lemmas.List.Recursion.{is_position_or_len}
use Rattle.std.proofs.lemmas.List.Sums.{sum_by-cons}
use Rattle.variable_names.specs.Finding.{sorts, how_many, further, behind, place_of, own_kind, own_kinds, first_of}

-- how many marks of a sort
pub how_many_counted : (sort : ℕ) (marks : List ℕ) → how_many sort (sorts marks) ≡ count_by (λ m. eqb (m % 8) sort) marks
unfolding how_many sorts
how_many_counted sort [] = refl
how_many_counted sort (m ∷ ms) =
    go (eqb (m % 8) sort) (how_many_counted sort ms) ∙ sym (sum_by-cons (λ (x : ℕ). cond (eqb (x % 8) sort) 1 0) m ms)
  where
    go : (t : Bool) → how_many sort (sorts ms) ≡ count_by (λ m. eqb (m % 8) sort) ms
        → cond t (suc (how_many sort (sorts ms))) (how_many sort (sorts ms)) ≡ cond t 1 0 + count_by (λ m. eqb (m % 8) sort) ms
    go true e = omega (arith, e)
    go false e = omega (arith, e)

-- the so-many-th mark of a sort
pub record Passing (marks : List ℕ) (sort number left at : ℕ) : Type 0 where
  pub same : behind sort number (sorts marks) ≡ at + behind sort left (sorts (drop at marks))

module _ {marks : List ℕ} {sort number : ℕ} where
  pub pass_begin : Passing marks sort number number 0
  pass_begin = record { same = omega arith }

  module _ {left at : ℕ} (inv : Passing marks sort number left at) where
    pub pass_end : length marks ≡ at → length marks ≡ behind sort number (sorts marks)
    unfolding behind sorts
    pass_end h = let e : length marks ≤ at = omega arith in sym (inv.same ∙ rw (drop_of_length-le marks e) (omega arith))

    module _ (h : at < length marks) where
      pub pass_other : (get_or marks at 0 % 8 ≡ sort → ⊥) → Passing marks sort number left (at + 1)
      unfolding behind sorts
      pass_other e = record { same = inv.same ∙ rw (add-one at, drop-cons marks at 0 h, ne_eqb (get_or marks at 0 % 8) sort e) (omega arith) }

      module _ (e : get_or marks at 0 % 8 ≡ sort) where
        reached : behind sort number (sorts marks) ≡ at + suc (further true left (λ k. behind sort k (sorts (drop (suc at) marks))))
        unfolding behind sorts
        reached = inv.same ∙ rw (drop-cons marks at 0 h, eq-eqb (get_or marks at 0 % 8) sort e)

        pub pass_found : left ≡ 0 → at + 1 ≡ behind sort number (sorts marks)
        pass_found z = sym (reached ∙ rw z (omega arith))

        on : (l : ℕ) → left ≡ l → (l ≡ 0 → ⊥) → Passing marks sort number (l - 1) (at + 1)
        on zero q n = absurd (n refl)
        on (suc l) q n =
            let r : behind sort number (sorts marks) ≡ at + suc (behind sort l (sorts (drop (suc at) marks))) = rw q at reached in
            let z : suc l - 1 ≡ l = omega arith in
            record { same = r ∙ rw (z, add-one at) (omega arith) }

        pub pass_on : (left ≡ 0 → ⊥) → Passing marks sort number (left - 1) (at + 1)
        pass_on n = on left refl n

pub ruleset pass_laws = (pass_begin, pass_end, pass_other, pass_found, pass_on)

pub sorts_count : (ms : List ℕ) → length (sorts ms) ≡ length ms
unfolding sorts
sorts_count [] = refl
sorts_count (m ∷ ms) = ap suc (sorts_count ms)

-- the place of a clause
module _ (marks : List ℕ) {clause count : ℕ} (c : count ≡ how_many 4 (sorts marks)) where
  pub place_stated : clause < count → {r : ℕ} → r ≡ behind 4 clause (sorts marks) → r ≡ place_of clause (sorts marks)
  unfolding place_of
  place_stated h e = rw (← c, lt-ltb clause count h) e

  pub place_asked : count ≤ clause → clause ≡ count → {r : ℕ} → r ≡ behind 5 0 (sorts marks) → r ≡ place_of clause (sorts marks)
  unfolding place_of
  place_asked h q e = rw (← c, le-ltb clause count h, eq-eqb clause count q) e

  pub place_none : count ≤ clause → (clause ≡ count → ⊥) → length marks ≡ place_of clause (sorts marks)
  unfolding place_of
  place_none h q = rw (← c, le-ltb clause count h, ne_eqb clause count q) (sym (sorts_count marks))

pub ruleset place_laws = (place_stated, place_asked, place_none)

-- words that tell variables
pub kinds_long : (ms : List ℕ) → length (own_kinds ms) ≡ length ms
unfolding own_kinds
kinds_long [] = refl
kinds_long (m ∷ ms) = ap suc (kinds_long ms)

kinds_at : (ms : List ℕ) (i : ℕ) → i < length ms → get_or (own_kinds ms) i 0 ≡ own_kind (get_or ms i 0)
unfolding own_kinds
kinds_at [] i h = absurd (omega arith)
kinds_at (m ∷ ms) zero h = refl
kinds_at (m ∷ ms) (suc i) h = kinds_at ms i (omega arith)

pub record Filling (marks words : List ℕ) (i : ℕ) : Type 0 where
  pub long : length words ≡ length marks
  pub front : take i words ≡ take i (own_kinds marks)

pub fill_begin : {marks words : List ℕ} → length marks ≡ length words → Filling marks words 0
fill_begin e = record { long = sym e; front = refl }

module _ {marks words : List ℕ} {i : ℕ} (inv : Filling marks words i) where
  pub fill_end : length marks ≤ i → words ≡ own_kinds marks
  fill_end h =
      let a : length words ≤ i = omega (arith, inv.long) in
      let b : length (own_kinds marks) ≤ i = omega (arith, kinds_long marks) in
      sym (take_all i words a) ∙ inv.front ∙ take_all i (own_kinds marks) b

  module _ (h : i < length marks) where
    pub fill_room : i < length words
    fill_room = omega (arith, inv.long)

    pub fill_next : {k : ℕ} → k ≡ own_kind (get_or marks i 0) → Filling marks (set words i k) (i + 1)
    fill_next {k} e =
        let a : i < length words = omega (arith, inv.long) in
        let b : i < length (own_kinds marks) = omega (arith, kinds_long marks) in
        record {
          long = length-set words i k ∙ inv.long;
          front = rw (add-one i, take-suc-set words i k a, take-suc (own_kinds marks) i 0 b, kinds_at marks i h, inv.front, e);
        }

pub ruleset fill_laws = (fill_begin, fill_end, fill_room, fill_next)

-- the first word that is the wanted
first_at : (wanted : ℕ) (ws : List ℕ) → first_of wanted ws ≡ position_or_len (λ w. eqb w wanted) ws
unfolding first_of
first_at wanted ws =
    is_position_or_len (λ (l : List ℕ). first_of wanted l) (λ w. eqb w wanted) refl
    (λ x xs. let z : suc (first_of wanted xs) ≡ 1 + first_of wanted xs = omega arith in ap (λ (k : ℕ). cond (eqb x wanted) 0 k) z) ws

pub first_found : (wanted : ℕ) (ws : List ℕ) {i : ℕ} → Some i ≡ position (λ w. eqb w wanted) ws → i ≡ first_of wanted ws
first_found wanted ws {i} e = rw (first_at wanted ws) (go (nat_lt (position_or_len (λ w. eqb w wanted) ws) (length ws)) e)
  where
    go : (t : Bool) → Some i ≡ cond t (Some (position_or_len (λ w. eqb w wanted) ws)) None → i ≡ position_or_len (λ w. eqb w wanted) ws
    go true e = cc
    go false e = cc

pub first_nowhere : (wanted : ℕ) (ws : List ℕ) → None ≡ position (λ w. eqb w wanted) ws → length ws ≤ first_of wanted ws
first_nowhere wanted ws e = rw (first_at wanted ws) (go (nat_lt (position_or_len (λ w. eqb w wanted) ws) (length ws)) refl e)
  where
    go : (t : Bool) → nat_lt (position_or_len (λ w. eqb w wanted) ws) (length ws) ≡ t
        → None ≡ cond t (Some (position_or_len (λ w. eqb w wanted) ws)) None → length ws ≤ position_or_len (λ w. eqb w wanted) ws
    go true b e = cc
    go false b e = ltb-false (position_or_len (λ w. eqb w wanted) ws) (length ws) b
