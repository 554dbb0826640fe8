-- Hanging the literals of a copy as leaves, word by word: one law for each outcome, with premises as the code has them.
use mathlib.Core.Path.{◌≡◌, refl, sym, ap, ◌∙◌}
use mathlib.Core.Bool.{Bool, true, false, cond, not}
use mathlib.Core.List.{List, [], ◌∷◌}
use Prim.Native.Nat.{ℕ, suc, ◌+◌, ◌*◌, ◌-◌, ◌≤◌, ◌<◌}
use native.Mathlib.Numerals.{add-one}
use native.Mathlib.Omega.{arith}
use borrow.Author.Tests.{eq-eqb, ne_eqb, ltb-true, ltb-false}
use lib.Dec.{eqb, ltb}
use lib.ListN.{length, drop, get_or, length-set, length-take, length-drop, drop_of_length-le}
use lib.Seq.{drop-cons, get_or-take, get_or-drop}
use Rattle.words.specs.Fields.{kind_of, following_of}
use Rattle.unification.specs.Places.{most_leaves, work_words}
use Rattle.unification.specs.State.{own_words}
use Rattle.tableaux.specs.Leaves.{hangs, hanging, noted, hung}

pub noted_length : (m : List ℕ) (leaf literal parent next : ℕ) → length (noted m leaf literal parent next) ≡ length m
unfolding noted
noted_length m leaf literal parent next = simp length-set

pub own_small : (f : List ℕ) (p : ℕ) → length (own_words f p) ≤ 256
unfolding own_words
own_small f p = simp length-take (omega arith)

pub own_inside : (f : List ℕ) (p offset : ℕ) → offset < length (own_words f p) → p + offset < length f
unfolding own_words
own_inside f p offset h = omega (arith, simp (length-take, length-drop) at h)

pub own_word : (f : List ℕ) (p offset : ℕ) → offset < length (own_words f p) → get_or (own_words f p) offset 0 ≡ get_or f (p + offset) 0
unfolding own_words
own_word f p offset h =
    let s : offset < suc (following_of (get_or f p 0)) = omega (arith, simp length-take at h) in
    get_or-take (suc (following_of (get_or f p 0))) (drop p f) offset 0 s ∙ get_or-drop p f offset 0

-- how far hanging has come: what is left of the clause's own words, from an offset on, gives the whole
pub record Going (f : List ℕ) (start copy entered parent rest leaves : ℕ) (m₀ m : List ℕ) (offset left : ℕ) : Type 0 where
  pub size : length m ≡ work_words
  pub within : offset ≤ 256
  pub room : leaves + left ≤ most_leaves
  pub counts : left ≡ length (hanging entered offset (drop offset (own_words f start)))
  pub same :
      hung copy parent rest leaves (hanging entered 1 (drop 1 (own_words f start))) m₀ ≡ hung copy parent rest leaves (hanging entered offset (drop offset (own_words f start))) m

some_left : (own : List ℕ) (entered offset : ℕ) → (length (hanging entered offset (drop offset own)) ≡ 0 → ⊥) → offset < length own
unfolding hanging
some_left own entered offset h = go (ltb offset (length own)) refl
  where
    go : (b : Bool) → ltb offset (length own) ≡ b → offset < length own
    go true e = ltb-true _ _ e
    go false e = absurd (h (rw (drop_of_length-le own (ltb-false _ _ e))))

none_hung : (copy parent rest leaves : ℕ) (os : List ℕ) (m : List ℕ) → length os ≡ 0 → hung copy parent rest leaves os m ≡ m
unfolding hung
none_hung copy parent rest leaves [] m e = refl
none_hung copy parent rest leaves (o ∷ os) m e = absurd (omega arith)

module _ {f m₀ : List ℕ} {start copy entered parent rest leaves : ℕ} where
  pub going_begin : (left : ℕ) → length m₀ ≡ work_words → leaves + left ≤ most_leaves → left ≡ length (hanging entered 1 (drop 1 (own_words f start)))
      → Going f start copy entered parent rest leaves m₀ m₀ 1 left
  going_begin left size room e = record { size = size; within = omega arith; room = room; counts = e; same = refl }

  module _ {m : List ℕ} {offset left : ℕ} (g : Going f start copy entered parent rest leaves m₀ m offset left) where
    pub going_end : left ≡ 0 → m ≡ hung copy parent rest leaves (hanging entered 1 (drop 1 (own_words f start))) m₀
    going_end e = sym (g.same ∙ none_hung copy parent rest leaves _ m (sym g.counts ∙ e))

    module _ (some : left ≡ 0 → ⊥) where
      inside : offset < length (own_words f start)
      inside = some_left (own_words f start) entered offset (λ e. some (g.counts ∙ e))

      pub going_small : offset < 256
      going_small = omega (arith, inside, own_small f start)

      pub going_less : 256 - (offset + 1) < 256 - offset
      going_less = omega (arith, going_small)

      module _ {a b : ℕ} (ea : a ≡ start) (eb : b ≡ offset) where
        pub going_inside : a + b < length f
        going_inside = rw (ea, eb) (own_inside f start offset inside)

        module _ {q : Bool} (eq : q ≡ hangs entered offset (get_or f (a + b) 0)) where
          others : List ℕ
          others = hanging entered (offset + 1) (drop (offset + 1) (own_words f start))

          hangs-at : hanging entered offset (drop offset (own_words f start)) ≡ cond q (offset ∷ others) others
          unfolding hanging others
          hangs-at =
              let i : offset < length (own_words f start) = inside in
              rw (drop-cons (own_words f start) offset 0 i, own_word f start offset i, add-one, eq, ea, eb)

          pub going_past : q ≡ false → Going f start copy entered parent rest leaves m₀ m (offset + 1) left
          unfolding others
          going_past passes =
              let passed : hanging entered offset (drop offset (own_words f start)) ≡ others = rw passes at hangs-at in
              record {
                size = g.size;
                within = omega (arith, going_small);
                room = g.room;
                counts = g.counts ∙ ap length passed;
                same = g.same ∙ ap (λ (os : List ℕ). hung copy parent rest leaves os m) passed;
              }

          pub going_on : q ≡ true → {next : ℕ} → next ≡ cond (eqb (left - 1) 0) rest (leaves + (left - 1))
              → {m' : List ℕ} → m' ≡ noted m (leaves + (left - 1)) (copy * 256 + offset) parent next
              → Going f start copy entered parent rest leaves m₀ m' (offset + 1) (left - 1)
          unfolding others hung
          going_on stays {next} en {m'} em =
              let more : hanging entered offset (drop offset (own_words f start)) ≡ offset ∷ others = rw stays at hangs-at in
              let fewer : left - 1 ≡ length others = omega (arith, g.counts ∙ ap length more) in
              let there : noted m (leaves + length others) (copy * 256 + offset) parent (cond (eqb (length others) 0) rest (leaves + length others)) ≡ m' =
              rw (← fewer, ← en, em) in
              record {
                size = ap length em ∙ noted_length m _ _ _ _ ∙ g.size;
                within = omega (arith, going_small);
                room = omega (arith, g.room);
                counts = fewer;
                same = g.same ∙ ap (λ (os : List ℕ). hung copy parent rest leaves os m) more ∙ ap (λ (x : List ℕ). hung copy parent rest leaves others x) there;
              }

pub ruleset hang_laws = (going_begin, going_end, going_small, going_less, going_inside, going_past, going_on)
