-- Parts and names counted, with premises as the code has them.
use mathlib.Core.List.{List, [], ◌∷◌}
use mathlib.Core.Path.{◌≡◌, refl, sym, ap, ◌∙◌}
use Prim.Native.Nat.{ℕ, zero, suc, ◌+◌, ◌*◌, ◌/◌, ◌%◌, ◌^◌, ◌≤◌, ◌<◌, max}
use native.Mathlib.Numerals.{add-one}
use native.Mathlib.Omega.{arith}
use native.Mathlib.Decide.{dec_lt}
use mir.Syntax.{w32}
use mir.Val.{Fits}
use borrow.Author.Tests.{lt-ltb}
use lib.Dec.{ltb}
use lib.ListN.{length, take, drop, get_or, set, length-set, drop_of_length-le}
use lib.Seq.{drop-cons, take-suc, take-suc-set, take_all}
use Rattle.words.specs.Fields.{kind_of}
use Rattle.names.specs.Numbers.{Name, first_uses}
use Rattle.names.specs.Noting.{names_at, uses_of, Numbering}
use Rattle.tptp.specs.Shapes.{sort_kind}
use Rattle.tptp.specs.Memory.{items_of}
use Rattle.tptp.proofs.Items.{names_are, names_of_kind, Kinds, uses_are}
use Rattle.limits.specs.Over.{most_parts}
use Rattle.limits.specs.Counting.{most_in, kind_words, more_than}

-- the most parts
pub record Most (marks : List ℕ) (most i : ℕ) : Type 0 where
  pub same : most_in marks ≡ max most (most_in (drop i marks))

module _ {marks : List ℕ} where
  pub most_begin : Most marks 0 0
  most_begin = record { same = omega arith }

  module _ {most i : ℕ} (inv : Most marks most i) where
    pub most_end : length marks ≤ i → most ≡ most_in marks
    unfolding most_in
    most_end h = sym (inv.same ∙ rw (drop_of_length-le marks h) (omega arith))

    pub most_next : i < length marks → {most' : ℕ} → most' ≡ max most (get_or marks i 0 / 8) → Most marks most' (i + 1)
    unfolding most_in
    most_next h e = record { same = inv.same ∙ rw (add-one i, drop-cons marks i 0 h, e) (omega arith) }

pub ruleset most_laws = (most_begin, most_end, most_next)

-- kinds of words
sort_low : (sort : ℕ) → sort_kind sort ≤ 3
unfolding sort_kind
sort_low zero = omega arith
sort_low (suc zero) = omega arith
sort_low (suc (suc zero)) = omega arith
sort_low (suc (suc (suc zero))) = omega arith
sort_low (suc (suc (suc (suc n)))) = omega arith

pub kind_variable : {sort : ℕ} → sort ≡ 0 → 0 ≡ sort_kind sort
unfolding sort_kind
kind_variable e = rw e

pub kind_function : {sort : ℕ} → sort ≡ 1 → 1 ≡ sort_kind sort
unfolding sort_kind
kind_function e = rw e

pub kind_literal : (sort : ℕ) → (sort ≡ 0 → ⊥) → (sort ≡ 1 → ⊥) → sort < 4 → 2 ≡ sort_kind sort
unfolding sort_kind
kind_literal zero n m h = absurd (n refl)
kind_literal (suc zero) n m h = absurd (m refl)
kind_literal (suc (suc zero)) n m h = refl
kind_literal (suc (suc (suc zero))) n m h = refl
kind_literal (suc (suc (suc (suc k)))) n m h = absurd (omega arith)

pub kind_clause : (sort : ℕ) → 4 ≤ sort → 3 ≡ sort_kind sort
unfolding sort_kind
kind_clause zero h = absurd (omega arith)
kind_clause (suc zero) h = absurd (omega arith)
kind_clause (suc (suc zero)) h = absurd (omega arith)
kind_clause (suc (suc (suc zero))) h = absurd (omega arith)
kind_clause (suc (suc (suc (suc k)))) h = refl

pub ruleset kind_laws = (kind_variable, kind_function, kind_literal, kind_clause)

kinds_long : (ms : List ℕ) → length (kind_words ms) ≡ length ms
unfolding kind_words
kinds_long [] = refl
kinds_long (m ∷ ms) = ap suc (kinds_long ms)

kinds_at : (ms : List ℕ) (i : ℕ) → i < length ms → get_or (kind_words ms) i 0 ≡ sort_kind (get_or ms i 0 % 8) * 2 ^ 30
unfolding kind_words
kinds_at [] i h = absurd (omega arith)
kinds_at (m ∷ ms) zero h = refl
kinds_at (m ∷ ms) (suc i) h = kinds_at ms i (omega arith)

pub record Filling (marks words : List ℕ) (i : ℕ) : Type 0 where
  pub long : length words ≡ length marks
  pub front : take i words ≡ take i (kind_words marks)

pub fill_begin : {marks words : List ℕ} → length marks ≡ length words → Filling marks words 0
fill_begin e = record { long = sym e; front = refl }

pub kind_fits : {k : ℕ} → k ≤ 3 → Fits w32 (k * 1073741824)
kind_fits h = record { fits = omega arith }

module _ {marks words : List ℕ} {i : ℕ} (inv : Filling marks words i) where
  pub fill_end : length marks ≤ i → words ≡ kind_words marks
  fill_end h =
      let a : length words ≤ i = omega (arith, inv.long) in
      let b : length (kind_words marks) ≤ i = omega (arith, kinds_long marks) in
      sym (take_all i words a) ∙ inv.front ∙ take_all i (kind_words marks) b

  module _ (h : i < length marks) where
    pub fill_room : i < length words
    fill_room = omega (arith, inv.long)

    pub fill_next : {k : ℕ} → k ≡ sort_kind (get_or marks i 0 % 8) → Filling marks (set words i (k * 1073741824)) (i + 1)
    fill_next {k} e =
        let a : i < length words = omega (arith, inv.long) in
        let b : i < length (kind_words marks) = omega (arith, kinds_long marks) in
        record {
          long = length-set words i (k * 1073741824) ∙ inv.long;
          front = rw (add-one i, take-suc-set words i (k * 1073741824) a, take-suc (kind_words marks) i 0 b, kinds_at marks i h, inv.front, e);
        }

pub ruleset fill_laws = (fill_begin, kind_fits, fill_end, fill_room, fill_next)

-- more names than a limit
pub more_told : (text marks places : List ℕ) (kind limit : ℕ) {words : List ℕ} → words ≡ kind_words marks → {words' : List ℕ} {many : ℕ}
    → Numbering text places words kind limit words' many → ltb limit many ≡ more_than text marks places kind limit
more_told text marks places kind limit {words} e {words'} {many} n = rw (← e) (go (dec_lt limit many))
  where
    uses : ℕ
    uses = length (first_uses (uses_of kind words (names_at text places)))

    go : Dec (limit < many) → ltb limit many ≡ ltb limit (length (first_uses (uses_of kind words (names_at text places))))
    go (yes h) = lt-ltb limit many h ∙ sym (lt-ltb limit (length (first_uses (uses_of kind words (names_at text places)))) (n.over h))
    go (no h) = ap (λ (m : ℕ). ltb limit m) (n.within (omega (arith, h)))

-- of items
module _ (text : List ℕ) where
  pub items_long : (ms ps : List ℕ) → length ms ≡ length ps → length (items_of text ms ps) ≡ length ms
  unfolding items_of
  items_long [] ps h = refl
  items_long (m ∷ ms) [] h = absurd (omega arith)
  items_long (m ∷ ms) (p ∷ ps) h = ap suc (items_long ms ps (omega arith))

  pub items_take : (n : ℕ) (ms ps : List ℕ) → items_of text (take n ms) (take n ps) ≡ take n (items_of text ms ps)
  unfolding items_of
  items_take zero ms ps = refl
  items_take (suc n) [] ps = refl
  items_take (suc n) (m ∷ ms) [] = refl
  items_take (suc n) (m ∷ ms) (p ∷ ps) = rw (items_take n ms ps)

  pub most_items : (ms ps : List ℕ) → length ms ≡ length ps → most_in ms ≡ most_parts (items_of text ms ps)
  unfolding items_of most_in most_parts
  most_items [] ps h = refl
  most_items (m ∷ ms) [] h = absurd (omega arith)
  most_items (m ∷ ms) (p ∷ ps) h = rw (most_items ms ps (omega arith))

  kinds-here : (ms ps : List ℕ) → length ms ≡ length ps → Kinds (kind_words ms) (items_of text ms ps)
  unfolding items_of kind_words Kinds
  kinds-here [] ps h = tt
  kinds-here (m ∷ ms) [] h = absurd (omega arith)
  kinds-here (m ∷ ms) (p ∷ ps) h = (kind-is (sort_kind (m % 8)) (sort_low (m % 8)), kinds-here ms ps (omega arith))
    where
      kind-is : (k : ℕ) → k ≤ 3 → kind_of (k * 2 ^ 30) ≡ k
      kind-is k g = omega arith

  pub more_items : (ms ps : List ℕ) → length ms ≡ length ps → (kind limit : ℕ)
      → more_than text ms ps kind limit ≡ ltb limit (length (first_uses (names_of_kind kind (items_of text ms ps))))
  more_items ms ps h kind limit =
      ap (λ (us : List Name). ltb limit (length (first_uses us)))
      (ap (λ (names : List Name). uses_of kind (kind_words ms) names) (names_are text ms ps h) ∙ uses_are kind (kind_words ms) (items_of text ms ps) (kinds-here ms ps h))
