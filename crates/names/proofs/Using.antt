-- The names of a kind numbered by a tree, with premises as the code has them.
use mathlib.Core.Bool.{Bool, true, false}
use mathlib.Core.List.{List, [], ◌∷◌}
use mathlib.Core.Path.{◌≡◌, refl, sym, ap, ◌∙◌}
use Prim.Native.Nat.{ℕ, zero, suc, ◌+◌, ◌-◌, ◌≤◌, ◌<◌}
use native.Mathlib.Numerals.{add-one}
use native.Mathlib.Omega.{arith}
use borrow.Author.Tests.{eq-eqb, ne_eqb, leb-true, leb-false}
use lib.Dec.{leb}
use lib.ListN.{length, drop, get_or, set, replicate, length-append, length-replicate, drop_of_length-le}
use lib.Seq.{drop-cons, drop-set-lt}
use Rattle.words.specs.Fields.{kind_of}
use Rattle.names.specs.Numbers.{Name, noted, number_in}
use Rattle.names.specs.Noting.{name_at, names_at, uses_of, Numbering}
use Rattle.names.specs.Known.{grown}
use Rattle.names.specs.Tree.{latest, Tree}
use Rattle.names.specs.Marks.{letters, Marks, Used}
use Rattle.names.proofs.Notes.{number_within, noted_known, noted_new}
use Rattle.names.proofs.Counts.{Numbers, drop_names, uses_other, uses_this, begin_numbers, number_other, number_this, number_over, number_end}

-- the bytes of the names of a kind from a word on
abbrev pub letters_from : List ℕ → List ℕ → ℕ → List ℕ → ℕ → ℕ
letters_from text starts kind words i = letters (uses_of kind (drop i words) (drop i (names_at text starts)))

module _ (text starts words : List ℕ) (kind i : ℕ) (even : length starts ≡ length words) (h : i < length words) where
  name-here : drop i (names_at text starts) ≡ name_at text (get_or starts i 0) ∷ drop (suc i) (names_at text starts)
  name-here = drop_names text starts i (omega arith)

  letters-other : (kind_of (get_or words i 0) ≡ kind → ⊥) → letters_from text starts kind words i ≡ letters_from text starts kind words (suc i)
  letters-other d =
      rw (drop-cons words i 0 h, name-here, uses_other kind [] (get_or words i 0) (drop (suc i) words) (name_at text (get_or starts i 0)) (drop (suc i) (names_at text starts)) d)

  letters-this : kind_of (get_or words i 0) ≡ kind
      → letters_from text starts kind words i ≡ length (name_at text (get_or starts i 0)) + letters_from text starts kind words (suc i)
  unfolding letters
  letters-this e =
      rw (drop-cons words i 0 h, name-here, uses_this kind [] (get_or words i 0) (drop (suc i) words) (name_at text (get_or starts i 0)) (drop (suc i) (names_at text starts)) e)

-- the room that is left, and the bytes still to come
pub record Fitting (text starts words : List ℕ) (kind left i : ℕ) : Type 0 where
  pub few : left ≤ 65536
  pub sum : letters (uses_of kind words (names_at text starts)) + left ≡ 65536 + letters_from text starts kind words i

module _ {text starts words : List ℕ} {kind : ℕ} where
  pub begin_fitting : Fitting text starts words kind 65536 0
  begin_fitting = record { few = omega arith; sum = omega arith }

  module _ (even : length starts ≡ length words) {left i : ℕ} (inv : Fitting text starts words kind left i) where
    module _ (h : i < length words) {q : ℕ} (k : q ≡ kind_of (get_or words i 0)) where
      pub fitting_other : (q ≡ kind → ⊥) → Fitting text starts words kind left (i + 1)
      fitting_other d =
          rw (add-one i) (record { few = inv.few; sum = inv.sum ∙ ap (λ (n : ℕ). 65536 + n) (letters-other text starts words kind i even h (λ z. d (k ∙ z))) })

      pub fitting_this : q ≡ kind → {at : ℕ} → at ≡ get_or starts i 0 → {bytes : ℕ} → bytes ≡ length (name_at text at) → bytes ≤ left
          → Fitting text starts words kind (left - bytes) (i + 1)
      fitting_this e p {bytes = bytes} b l =
          let step : letters_from text starts kind words i ≡ length (name_at text (get_or starts i 0)) + letters_from text starts kind words (suc i) =
          letters-this text starts words kind i even h (sym k ∙ e) in
          let many : bytes ≡ length (name_at text (get_or starts i 0)) = rw p at b in
          rw (add-one i) (record { few = omega (arith, inv.few); sum = omega (arith, inv.sum, step, many) })

    pub fitting_end : length words ≤ i → letters (uses_of kind words (names_at text starts)) ≤ 65536
    unfolding uses_of letters
    fitting_end h =
        let none : letters_from text starts kind words i ≡ 0 = rw (drop_of_length-le words {i = i} h) in
        omega (arith, inv.sum, inv.few, none)

pub ruleset fitting_laws = (begin_fitting, fitting_other, fitting_this, fitting_end)

-- memory that holds nothing yet
zeros : (n s : ℕ) → ◌≡◌ {A = ℕ} (get_or (replicate n 0) s 0) 0
zeros zero s = refl
zeros (suc n) zero = refl
zeros (suc n) (suc s) = zeros n s

empty : (n : ℕ) → n ≡ 262146 → Tree (replicate n 0) 0
unfolding latest
empty n e = record {
  long = length-replicate {A = ℕ} n 0 ∙ e;
  few = omega arith;
  older = λ k h. absurd (omega arith);
  newest = λ s h. zeros n (131072 + s);
  earlier = λ k h. absurd (omega arith);
  once = λ j k h g e. omega arith;
}

unmarked : (n : ℕ) → Marks (replicate n 0) 0 []
unmarked n = record {
  stem = λ n. 0;
  inside = λ n h. absurd (omega arith);
  spells = λ n h. absurd (omega arith);
  marked = λ n h. absurd (omega arith);
  only = λ s k e. let z : ◌≡◌ {A = ℕ} (get_or (replicate n 0) (196609 + s) 0) 0 = zeros n (196609 + s) in absurd (omega arith);
}

pub empty_tree : Tree (replicate 262146 0) 0
empty_tree = empty 262146 refl

pub no_marks : Marks (replicate 262146 0) 0 []
no_marks = unmarked 262146

-- how many names are known after a use
noted_many : (known : List Name) (name : Name) (count n : ℕ) → length known ≡ count → n ≡ number_in known name → length (noted known name) ≡ grown count n
noted_many known name count n l p = go (leb (suc n) count) refl
  where
    go : (t : Bool) → leb (suc n) count ≡ t → length (noted known name) ≡ grown count n
    go true e =
        let h : n < count = leb-true (suc n) count e in
        rw (noted_known known name (omega arith), ne_eqb n count (λ q. omega arith)) l
    go false e =
        let h : n ≡ count = omega (arith, leb-false (suc n) count e, number_within known name) in
        rw (noted_new known name (omega arith), eq-eqb n count h, length-append known (name ∷ [])) (omega arith)

-- the names known by their stems, and the numbers so far
pub record Using (text starts words : List ℕ) (kind limit : ℕ) (words' m : List ℕ) (stems count i : ℕ) : Type 0 where
  pub known : List Name
  pub many : length known ≡ count
  pub numbers : Numbers text starts words kind limit words' known i
  pub tree : Tree m stems
  pub noting : Marks m stems known
  pub room : stems + letters_from text starts kind words' i ≤ 65536

module _ {text starts words : List ℕ} {kind limit : ℕ} where
  pub begin_using : {m : List ℕ} → Tree m 0 → Marks m 0 []
      → letters (uses_of kind words (names_at text starts)) ≤ 65536 → Using text starts words kind limit words m 0 0 0
  begin_using t m r = record { known = []; many = refl; numbers = begin_numbers; tree = t; noting = m; room = omega arith }

  module _ (even : length starts ≡ length words) {words' m : List ℕ} {stems count i : ℕ}
      (inv : Using text starts words kind limit words' m stems count i) where
    same-even : length starts ≡ length words'
    same-even = even ∙ sym inv.numbers.long

    pub using_few : limit ≤ 4096 → count ≤ 4096
    using_few f = omega (arith, inv.many, inv.numbers.few)

    pub using_end : length words' ≤ i → Numbering text starts words kind limit words' count
    using_end h = number_end inv.numbers h inv.many

    module _ (h : i < length words') {q : ℕ} (k : q ≡ kind_of (get_or words' i 0)) where
      pub using_other : (q ≡ kind → ⊥) → Using text starts words kind limit words' m stems count (i + 1)
      using_other d = record {
        known = inv.known;
        many = inv.many;
        numbers = number_other even inv.numbers h k d;
        tree = inv.tree;
        noting = inv.noting;
        room = rw (add-one i) (rw (letters-other text starts words' kind i same-even h (λ z. d (k ∙ z))) at inv.room);
      }

      module _ (e : q ≡ kind) {at : ℕ} (p : at ≡ get_or starts i 0) where
        here : stems + (length (name_at text (get_or starts i 0)) + letters_from text starts kind words' (suc i)) ≤ 65536
        here = rw (letters-this text starts words' kind i same-even h (sym k ∙ e)) at inv.room

        pub using_room : stems + length (name_at text at) ≤ 65536
        using_room = rw p (omega (arith, here))

        module _ {m' : List ℕ} {n stems' : ℕ}
            (used : (known : List Name) → Marks m stems known → length known ≡ count
            → Used text stems at known m' n stems') where
          told : Used text stems (get_or starts i 0) inv.known m' n stems'
          told = rw p at (used inv.known inv.noting inv.many)

          pub using_over : limit ≤ n → Numbering text starts words kind limit words' (limit + 1)
          using_over g = number_over even inv.numbers h k e told.is g

          pub using_this : n < limit → {v : ℕ} → v ≡ get_or words' i 0 + n → {count' : ℕ} → count' ≡ grown count n
              → Using text starts words kind limit (set words' i v) m' stems' count' (i + 1)
          using_this g {v} w c = record {
            known = noted inv.known (name_at text (get_or starts i 0));
            many = rw c (noted_many inv.known (name_at text (get_or starts i 0)) count n inv.many told.is);
            numbers = number_this even inv.numbers h k e told.is g w refl;
            tree = told.tree;
            noting = told.marks;
            room = rw (add-one i, drop-set-lt (suc i) words' i v (omega arith)) (omega (arith, here, told.slowly));
          }

pub ruleset using_laws = (begin_using, using_end, using_other)
