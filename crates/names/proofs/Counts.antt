-- Numbering the words of a kind, with premises as the code has them.
use mathlib.Core.Bool.{Bool, true, false, cond}
use mathlib.Core.List.{List, [], ◌∷◌, ◌++◌, append-nil}
use mathlib.Core.Path.{◌≡◌, refl, sym, ap, ◌∙◌}
use Prim.Native.Nat.{ℕ, suc, ◌+◌, ◌≤◌, ◌<◌}
use native.Mathlib.Numerals.{add-one}
use native.Mathlib.Omega.{arith}
use borrow.Author.Tests.{eqb-true, eq-eqb, ne_eqb, leb-true, leb-false}
use lib.Dec.{eqb, leb}
use lib.ListN.{length, take, drop, get_or, set, length-append, length-set, drop_of_length-le, length-map, get_or-map}
use lib.Seq.{drop-cons, take-suc, take-suc-set, drop-set-lt, take_all, append_snoc}
use Rattle.words.specs.Fields.{kind_of}
use Rattle.names.specs.Numbers.{Name, same_name, noted, known_after, first_uses, number_in}
use Rattle.names.specs.Noting.{name_at, names_at, uses_of, numbered, Numbering}
use Rattle.names.specs.Known.{grown, known_at, Noted}
use Rattle.names.proofs.Looking as looking
use Rattle.names.proofs.Notes.{noted_known, noted_new, number_within}

-- names are known for good
noted_length : (known : List Name) (name : Name) → length known ≤ length (noted known name)
unfolding noted
noted_length [] name = omega arith
noted_length (k ∷ ks) name = go (same_name k name) (noted_length ks name)
  where
    go : (t : Bool) → length ks ≤ length (noted ks name) → suc (length ks) ≤ length (cond t (k ∷ ks) (k ∷ noted ks name))
    go true h = omega arith
    go false h = omega arith

pub known_length : (known uses : List Name) → length known ≤ length (known_after known uses)
unfolding known_after
known_length known [] = omega arith
known_length known (name ∷ names) = omega (arith, noted_length known name, known_length (noted known name) names)

pub drop_names : (text starts : List ℕ) (i : ℕ) → i < length starts → drop i (names_at text starts) ≡ name_at text (get_or starts i 0) ∷ drop (suc i) (names_at text starts)
drop_names text starts i h =
    let z : i < length (names_at text starts) = omega (arith, length-map starts (λ (at : ℕ). name_at text at)) in
    drop-cons (names_at text starts) i (name_at text 0) z
    ∙ ap (λ (n : Name). n ∷ drop (suc i) (names_at text starts)) (get_or-map (λ (at : ℕ). name_at text at) starts i 0)

-- the numbers from a place on, and the names still to come, give the whole
pub record Numbers (text starts words : List ℕ) (kind limit : ℕ) (words' : List ℕ) (known : List Name) (i : ℕ) : Type 0 where
  pub few : length known ≤ limit
  pub long : length words' ≡ length words
  pub uses : known_after known (uses_of kind (drop i words') (drop i (names_at text starts))) ≡ first_uses (uses_of kind words (names_at text starts))
  pub numbers : take i words' ++ numbered kind known (drop i words') (drop i (names_at text starts)) ≡ numbered kind [] words (names_at text starts)

-- one word more: of another kind, and of this kind
module _ (kind : ℕ) (known : List Name) (w : ℕ) (ws : List ℕ) (name : Name) (names : List Name) where
  pub uses_other : (kind_of w ≡ kind → ⊥) → uses_of kind (w ∷ ws) (name ∷ names) ≡ uses_of kind ws names
  unfolding uses_of
  uses_other e = rw (ne_eqb (kind_of w) kind e)

  pub uses_this : kind_of w ≡ kind → uses_of kind (w ∷ ws) (name ∷ names) ≡ name ∷ uses_of kind ws names
  unfolding uses_of
  uses_this e = rw (eq-eqb (kind_of w) kind e)

  numbered-other : (kind_of w ≡ kind → ⊥) → numbered kind known (w ∷ ws) (name ∷ names) ≡ w ∷ numbered kind known ws names
  unfolding numbered
  numbered-other e = rw (ne_eqb (kind_of w) kind e)

  numbered-this : kind_of w ≡ kind → numbered kind known (w ∷ ws) (name ∷ names) ≡ (w + number_in known name) ∷ numbered kind (noted known name) ws names
  unfolding numbered
  numbered-this e = rw (eq-eqb (kind_of w) kind e)

-- a name more where its number is below the limit
noted_few : (known : List Name) (name : Name) (limit : ℕ) → length known ≤ limit → number_in known name < limit → length (noted known name) ≤ limit
noted_few known name limit f g = go (leb (suc (number_in known name)) (length known)) refl
  where
    go : (t : Bool) → leb (suc (number_in known name)) (length known) ≡ t → length (noted known name) ≤ limit
    go true e = rw (noted_known known name (leb-true (suc (number_in known name)) (length known) e)) f
    go false e =
        let new : number_in known name ≡ length known = omega (arith, leb-false (suc (number_in known name)) (length known) e, number_within known name) in
        rw (noted_new known name new, length-append known (name ∷ [])) (omega arith)

module _ {text starts words : List ℕ} {kind limit : ℕ} where
  pub begin_numbers : Numbers text starts words kind limit words [] 0
  begin_numbers = record { few = omega arith; long = refl; uses = refl; numbers = refl }

  module _ (even : length starts ≡ length words) {words' : List ℕ} {known : List Name} {i : ℕ}
      (inv : Numbers text starts words kind limit words' known i) (h : i < length words')
      {q : ℕ} (k : q ≡ kind_of (get_or words' i 0)) where
    here : drop i words' ≡ get_or words' i 0 ∷ drop (suc i) words'
    here = drop-cons words' i 0 h

    name-here : drop i (names_at text starts) ≡ name_at text (get_or starts i 0) ∷ drop (suc i) (names_at text starts)
    name-here = drop_names text starts i (omega (arith, inv.long))

    abbrev w : ℕ
    w = get_or words' i 0

    abbrev name : Name
    name = name_at text (get_or starts i 0)

    pub other_uses : (q ≡ kind → ⊥) → uses_of kind (drop i words') (drop i (names_at text starts)) ≡ uses_of kind (drop (suc i) words') (drop (suc i) (names_at text starts))
    other_uses d = rw (here, name-here) (uses_other kind [] w (drop (suc i) words') name (drop (suc i) (names_at text starts)) (λ z. d (k ∙ z)))

    pub this_uses : q ≡ kind → uses_of kind (drop i words') (drop i (names_at text starts)) ≡ name ∷ uses_of kind (drop (suc i) words') (drop (suc i) (names_at text starts))
    this_uses e = rw (here, name-here) (uses_this kind [] w (drop (suc i) words') name (drop (suc i) (names_at text starts)) (sym k ∙ e))

    other-next : (q ≡ kind → ⊥) → Numbers text starts words kind limit words' known (suc i)
    other-next d =
        let e : kind_of w ≡ kind → ⊥ = λ z. d (k ∙ z) in
        record {
          few = inv.few;
          long = inv.long;
          uses = rw (other_uses d) at inv.uses;
          numbers = rw (take-suc words' i 0 h, append_snoc)
              (rw (here, name-here, numbered-other kind known w (drop (suc i) words') name (drop (suc i) (names_at text starts)) e) at inv.numbers);
        }

    pub number_other : (q ≡ kind → ⊥) → Numbers text starts words kind limit words' known (i + 1)
    number_other d = rw (add-one i) (other-next d)

    module _ (e : q ≡ kind) {n : ℕ} (is : n ≡ number_in known name) where
      uses_next : known_after (noted known name) (uses_of kind (drop (suc i) words') (drop (suc i) (names_at text starts)))
          ≡ first_uses (uses_of kind words (names_at text starts))
      unfolding known_after
      uses_next = rw (this_uses e) at inv.uses

      this_next : n < limit → Numbers text starts words kind limit (set words' i (w + n)) (noted known name) (suc i)
      this_next g = record {
        few = noted_few known name limit inv.few (omega (arith, is));
        long = length-set words' i (w + n) ∙ inv.long;
        uses = rw (drop-set-lt (suc i) words' i (w + n) (omega arith)) uses_next;
        numbers = rw (take-suc-set words' i (w + n) h, drop-set-lt (suc i) words' i (w + n) (omega arith), append_snoc, is)
            (rw (here, name-here, numbered-this kind known w (drop (suc i) words') name (drop (suc i) (names_at text starts)) (sym k ∙ e)) at inv.numbers);
      }

      pub number_this : n < limit → {v : ℕ} → v ≡ w + n → {known' : List Name} → known' ≡ noted known name
          → Numbers text starts words kind limit (set words' i v) known' (i + 1)
      number_this g q c = rw (add-one i, c, q) (this_next g)

      too_many : limit ≤ n → limit < length (first_uses (uses_of kind words (names_at text starts)))
      too_many g =
          let m : number_in known name ≤ length known = number_within known name in
          let new : noted known name ≡ known ++ (name ∷ []) = noted_new known name (omega (arith, is, inv.few)) in
          let more : length (noted known name) ≤ length (first_uses (uses_of kind words (names_at text starts))) =
          rw uses_next at (known_length (noted known name) (uses_of kind (drop (suc i) words') (drop (suc i) (names_at text starts)))) in
          omega (arith, rw (new, length-append known (name ∷ [])) at more, is)

      pub number_over : limit ≤ n → Numbering text starts words kind limit words' (limit + 1)
      number_over g = record {
        within = λ z. absurd (omega arith);
        numbers = λ z. absurd (omega arith);
        over = λ z. too_many g;
        long = inv.long;
      }

  pub number_end : {words' : List ℕ} {known : List Name} {i : ℕ} → Numbers text starts words kind limit words' known i → length words' ≤ i
      → {count : ℕ} → length known ≡ count → Numbering text starts words kind limit words' count
  unfolding uses_of numbered known_after
  number_end {words'} {known} {i} inv h c =
      let none : drop i words' ≡ [] = drop_of_length-le words' h in
      let all : known ≡ first_uses (uses_of kind words (names_at text starts)) = rw none at inv.uses in
      record {
        within = λ z. sym c ∙ ap (λ (l : List Name). length l) all;
        numbers = λ z. sym (append-nil words') ∙ (rw (none, take_all i words' h) at inv.numbers);
        over = λ z. absurd (omega (arith, inv.few));
        long = inv.long;
      }

-- the names known by their places, and the numbers so far
pub record Knowing (text starts words : List ℕ) (kind limit room : ℕ) (words' places : List ℕ) (count i : ℕ) : Type 0 where
  pub numbers : Numbers text starts words kind limit words' (known_at text places count) i
  pub long : length places ≡ room
  pub roomy : limit < room
  pub few : count ≤ limit

grown_few : (count n limit : ℕ) → n < limit → count ≤ limit → grown count n ≤ limit
grown_few count n limit g f = go (eqb n count) refl
  where
    go : (t : Bool) → eqb n count ≡ t → cond t (count + 1) count ≤ limit
    go true e = omega (arith, eqb-true n count e)
    go false e = f

module _ {text starts words : List ℕ} {kind limit room : ℕ} where
  pub begin_knowing : {places : List ℕ} → length places ≡ room → limit < room → Knowing text starts words kind limit room words places 0 0
  begin_knowing l h = record { numbers = begin_numbers; long = l; roomy = h; few = omega arith }

  module _ (even : length starts ≡ length words) {words' places : List ℕ} {count i : ℕ}
      (inv : Knowing text starts words kind limit room words' places count i) (h : i < length words')
      {q : ℕ} (k : q ≡ kind_of (get_or words' i 0)) where
    pub knowing_other : (q ≡ kind → ⊥) → Knowing text starts words kind limit room words' places count (i + 1)
    knowing_other d = record { numbers = number_other even inv.numbers h k d; long = inv.long; roomy = inv.roomy; few = inv.few }

    module _ (e : q ≡ kind) {places' : List ℕ} {n : ℕ} (noting : Noted text places count (get_or starts i 0) places' n) where
      pub knowing_this : n < limit → {v : ℕ} → v ≡ get_or words' i 0 + n → {count' : ℕ} → count' ≡ grown count n
          → Knowing text starts words kind limit room (set words' i v) places' count' (i + 1)
      knowing_this g p c = record {
        numbers = number_this even inv.numbers h k e noting.is g p (rw c noting.known);
        long = noting.long ∙ inv.long;
        roomy = inv.roomy;
        few = rw c (grown_few count n limit g inv.few);
      }

      pub knowing_over : limit ≤ n → Numbering text starts words kind limit words' (limit + 1)
      knowing_over g = number_over even inv.numbers h k e noting.is g

  pub knowing_end : {words' places : List ℕ} {count i : ℕ} → Knowing text starts words kind limit room words' places count i → length words' ≤ i
      → Numbering text starts words kind limit words' count
  knowing_end {words'} {places} {count} inv h = number_end inv.numbers h (looking.known_length text places count (omega (arith, inv.long, inv.roomy, inv.few)))

pub ruleset knowing_laws = (begin_knowing, knowing_other, knowing_end)
