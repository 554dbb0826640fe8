-- Writing the words of terms and copies: the outcomes, one law for each, with premises as the code has them.
use lib.ListN.{length, drop, length-append, drop_of_length-le}
use mathlib.Core.List.{List, [], ◌∷◌, ◌++◌, append_assoc, append-nil}
use mathlib.Core.Path.{◌≡◌, refl, sym, ◌∙◌, ap}
use native.Mathlib.Omega.{arith}
use Prim.Native.Nat.{ℕ, zero, suc, ◌+◌, ◌*◌, ◌-◌, ◌/◌, ◌^◌, ◌≤◌, ◌<◌}
use Rattle.words.specs.Fields.{kind_of, arity_of, sign_of, following_of}
use Rattle.rules.specs.Substitution.{Substitution}
use Rattle.unification.specs.Places.{most_variables, most_references, value_end}
use Rattle.unification.specs.State.{start_at, copies_of, own_words, variable_of}
use Rattle.unification.specs.Good.{word_at, variable_at, arguments_of, Ahead, Inside, Same, Good, FollowedTo}
use Rattle.answers.specs.Writing.{Item, fixed, free, items_by_kind, word_items, words_items, standing, resolved, term_items, copy_items, WordStands, Remarked, RoomFor, Wrote}
use Rattle.answers.specs.declared.answer.Written.{Written}
use Rattle.unification.proofs.References.{variable_copy}
use Rattle.unification.proofs.Walk.{few_variables}
use Rattle.answers.proofs.Resolved.{no_items, stands_free, stands_function, stands_ahead, stands_word}
use Rattle.answers.proofs.CopyWords.{Reached, copy_count, copy_reached, offset_inside, offset_small, offset_reached, offset_stands, offset_items}
use Rattle.answers.proofs.Counting.{owed_ahead, owed_items}
use Rattle.answers.proofs.KeptItems.{copied, kept_copies, good_kept, resolved_kept, ahead_kept, items_kept}
use Rattle.answers.proofs.Writing.{wrote_none, wrote_then}

-- room for a part of what there is room for, and for what comes after it
module _ (is js : List Item) {total : List Item} (e : is ++ js ≡ total) where
  lengths : length total ≡ length is + length js
  lengths = ap length (sym e) ∙ length-append is js

  pub room_left : {a : List ℕ} {s : Written} → RoomFor a s total → RoomFor a s is
  room_left r = record { inside = omega (arith, r.inside, lengths); small = omega (arith, r.small, lengths); few = r.few }

  pub room_right : {a : List ℕ} {s : Written} → RoomFor a s total → {m m' a' : List ℕ} {s' : Written} → length a' ≡ length a → Wrote m a s is m' a' s' → RoomFor a' s' js
  room_right r l w =
      record {
        inside = omega (arith, r.inside, w.words, lengths);
        small = omega (arith, r.small, w.words, lengths);
        few = omega (arith, r.few, w.words, w.few);
      }

-- a word that is no variable's
fixed_item : (σ : Substitution) (copy w : ℕ) → (kind_of w ≡ 0 → ⊥) → word_items σ copy w ≡ fixed (standing (kind_of w) w) ∷ []
unfolding items_by_kind
fixed_item σ copy w n = go (kind_of w) n
  where
    go : (k : ℕ) → (k ≡ 0 → ⊥) → items_by_kind σ copy k w ≡ fixed (standing k w) ∷ []
    go zero n = absurd (n refl)
    go (suc k) n = refl

module _ {f m : List ℕ} {at w : ℕ} (h : Good f m) (st : WordStands f m at w) {k : ℕ} (ek : k ≡ kind_of w) where
  module _ (n : k ≡ 0 → ⊥) (small : w < 2 ^ 32) {g : ℕ} (eg : g ≡ sign_of w) where
    pub write_item : word_items (resolved f m) (at / 256) w ≡ fixed (w - g * 32768) ∷ []
    write_item =
        let z : w - g * 32768 ≡ standing (kind_of w) w = rw eg (st.shape (λ e. n (ek ∙ e)) small) in
        fixed_item (resolved f m) (at / 256) w (λ e. n (ek ∙ e)) ∙ ap (λ (x : ℕ). fixed x ∷ []) (sym z)

  module _ (z : k ≡ 0) {q : ℕ} (g : FollowedTo f m at q) {met : ℕ} (em : met ≡ word_at f m q) {k' : ℕ} (ek' : k' ≡ kind_of met) where
    module _ (z' : k' ≡ 0) {v : ℕ} (ev : v ≡ variable_at q met) where
      pub write_free : word_items (resolved f m) (at / 256) w ≡ free (variable_of v) ∷ []
      write_free = rw ev (stands_free h st (sym ek ∙ z) g em (sym ek' ∙ z'))

      pub write_small : v < most_variables
      write_small =
          let k : kind_of (word_at f m q) ≡ 0 = ap kind_of (sym em) ∙ sym ek' ∙ z' in
          let c : variable_at q (word_at f m q) / 16 ≡ q / 256 = variable_copy g.points k (few_variables h g.points) in
          let e : v ≡ variable_at q (word_at f m q) = ev ∙ ap (variable_at q) em in
          omega (arith, g.points.made, h.copies)

    module _ (n : k' ≡ 0 → ⊥) (small : met < 2 ^ 32) where
      pub write_function : {a : ℕ} → a ≡ arity_of met → word_items (resolved f m) (at / 256) w ≡ (fixed met ∷ []) ++ term_items f m (q + 1) a
      write_function ea =
          rw ea
          (stands_function h st (sym ek ∙ z) g em (λ y. n (ek' ∙ y))
          ∙ ap (λ (x : ℕ). fixed x ∷ term_items f m (q + 1) (arity_of met)) (sym (stands_word h st (sym ek ∙ z) g em (λ y. n (ek' ∙ y)) small)))

      pub write_ahead : {a : ℕ} → a ≡ arity_of met → Ahead f m (q + 1) a
      write_ahead ea = rw ea (stands_ahead h st (sym ek ∙ z) g em (λ y. n (ek' ∙ y)))

-- how far the writing of terms has come: so many are owed from a place on, and the items before them are written
pub record Writing (f m₀ a₀ : List ℕ) (s₀ : Written) (total : List Item) (m a : List ℕ) (s : Written) (at owed : ℕ) : Type 0 where
  pub good : Good f m
  pub ahead : Ahead f m at owed
  pub size : length a ≡ length a₀
  pub done : List Item
  pub items : done ++ term_items f m at owed ≡ total
  pub wrote : Wrote m₀ a₀ s₀ done m a s

pub lower : {m m' : List ℕ} → Remarked m m' → Same 0 value_end m m'
lower r = record { words = λ i a b. r.lower.words i a (omega arith) }

module _ {f m₀ a₀ : List ℕ} {s₀ : Written} {total : List Item} where
  pub writing_begin : {reference count : ℕ} → Good f m₀ → Ahead f m₀ reference count → total ≡ term_items f m₀ reference count
      → Writing f m₀ a₀ s₀ total m₀ a₀ s₀ reference count
  writing_begin h a e = record { good = h; ahead = a; size = refl; done = []; items = sym e; wrote = wrote_none }

  module _ {m a : List ℕ} {s : Written} {at owed : ℕ} (g : Writing f m₀ a₀ s₀ total m a s at owed) where
    pub writing_done : owed ≡ 0 → Wrote m₀ a₀ s₀ total m a s
    writing_done e =
        let z : g.done ≡ total = sym (append-nil g.done) ∙ ap (g.done ++◌) (sym (ap (term_items f m at) e ∙ no_items f m at)) ∙ g.items in
        rw z at g.wrote

    module _ (some : owed ≡ 0 → ⊥) {w : ℕ} (ew : w ≡ word_at f m at) where
      writing-items : {o : ℕ} → o ≡ owed - 1 + arguments_of (kind_of w) w
          → g.done ++ (word_items (resolved f m) (at / 256) w ++ term_items f m (at + 1) o) ≡ total
      writing-items eo = ap (g.done ++◌) (sym (owed_items g.good g.ahead some ew eo)) ∙ g.items

      pub writing_room : RoomFor a₀ s₀ total → RoomFor a s (word_items (resolved f m) (at / 256) w)
      writing_room r =
          let W = word_items (resolved f m) (at / 256) w in
          let R = term_items f m (at + 1) (owed - 1 + arguments_of (kind_of w) w) in
          room_left W R refl (room_right g.done (W ++ R) (writing-items refl) r g.size g.wrote)

      pub writing_less : length (word_items (resolved f m) (at / 256) w) ≤ length total
      writing_less =
          let W = word_items (resolved f m) (at / 256) w in
          let R = term_items f m (at + 1) (owed - 1 + arguments_of (kind_of w) w) in
          omega (arith, lengths g.done (W ++ R) (writing-items refl), length-append W R)

      pub writing_on : {m' a' : List ℕ} {s' : Written} → length m' ≡ length m → length a' ≡ length a
          → Wrote m a s (word_items (resolved f m) (at / 256) w) m' a' s'
          → {o : ℕ} → o ≡ owed - 1 + arguments_of (kind_of w) w
          → Writing f m₀ a₀ s₀ total m' a' s' (at + 1) o
      writing_on lm la wr {o} eo =
          let W = word_items (resolved f m) (at / 256) w in
          let next = owed_ahead g.good g.ahead some ew eo in
          record {
            good = good_kept g.good (lower wr.kept) lm;
            ahead = ahead_kept g.good (lower wr.kept) (at + 1) o next;
            size = la ∙ g.size;
            done = g.done ++ W;
            items =
                rw (items_kept g.good (lower wr.kept) lm (at + 1) o next)
                (append_assoc g.done W (term_items f m (at + 1) o) ∙ writing-items eo);
            wrote = wrote_then g.wrote wr;
          }

-- how far the writing of a copy has come: the words from an offset on are left
pub record WritingCopy (f m₀ a₀ : List ℕ) (s₀ : Written) (total : List Item) (copy count : ℕ) (m a : List ℕ) (s : Written) (i : ℕ) : Type 0 where
  pub good : Good f m
  pub made : copy < copies_of m
  pub whole : suc count ≡ length (own_words f (start_at m copy))
  pub reached : Reached f (start_at m copy) i
  pub size : length a ≡ length a₀
  pub done : List Item
  pub items : done ++ words_items (resolved f m) copy (drop i (own_words f (start_at m copy))) ≡ total
  pub wrote : Wrote m₀ a₀ s₀ done m a s

module _ {f m₀ a₀ : List ℕ} {s₀ : Written} {copy : ℕ} where
  pub copy_written_begin : {w count : ℕ} → Good f m₀ → copy < copies_of m₀ → w ≡ word_at f m₀ (copy * 256) → count ≡ following_of w
      → WritingCopy f m₀ a₀ s₀ (copy_items f m₀ copy) copy count m₀ a₀ s₀ 1
  unfolding copy_items
  copy_written_begin h c e k = record {
    good = h;
    made = c;
    whole = copy_count h c e k;
    reached = copy_reached h c;
    size = refl;
    done = [];
    items = refl;
    wrote = wrote_none;
  }

  module _ {total : List Item} {count : ℕ} {m a : List ℕ} {s : Written} {i : ℕ} (g : WritingCopy f m₀ a₀ s₀ total copy count m a s i) where
    pub copy_written : count < i → Wrote m₀ a₀ s₀ total m a s
    unfolding words_items
    copy_written l =
        let b : length (own_words f (start_at m copy)) ≤ i = omega (arith, g.whole) in
        let e : drop i (own_words f (start_at m copy)) ≡ [] = drop_of_length-le (own_words f (start_at m copy)) b in
        let z : g.done ≡ total = sym (append-nil g.done) ∙ rw e at g.items in
        rw z at g.wrote

    module _ (l : i ≤ count) where
      within : i < length (own_words f (start_at m copy))
      within = omega (arith, g.whole)

      pub copy_writes_inside : Inside f m (copy * 256 + i)
      copy_writes_inside = offset_inside g.good g.made g.reached within

      module _ {w : ℕ} (ew : w ≡ word_at f m (copy * 256 + i)) where
        pub copy_writes_stands : WordStands f m (copy * 256 + i) w
        copy_writes_stands = offset_stands g.good g.made g.reached within ew

        copy-writes-items : g.done ++ (word_items (resolved f m) ((copy * 256 + i) / 256) w ++ words_items (resolved f m) copy (drop (i + 1) (own_words f (start_at m copy)))) ≡ total
        copy-writes-items = ap (g.done ++◌) (sym (offset_items g.good g.made g.reached within ew (resolved f m))) ∙ g.items

        pub copy_writes_room : RoomFor a₀ s₀ total → RoomFor a s (word_items (resolved f m) ((copy * 256 + i) / 256) w)
        copy_writes_room r =
            let W = word_items (resolved f m) ((copy * 256 + i) / 256) w in
            let R = words_items (resolved f m) copy (drop (i + 1) (own_words f (start_at m copy))) in
            room_left W R refl (room_right g.done (W ++ R) copy-writes-items r g.size g.wrote)

        pub copy_writes_on : {m' a' : List ℕ} {s' : Written} → length m' ≡ length m → length a' ≡ length a
            → Wrote m a s (word_items (resolved f m) ((copy * 256 + i) / 256) w) m' a' s'
            → WritingCopy f m₀ a₀ s₀ total copy count m' a' s' (i + 1)
        copy_writes_on lm la wr =
            let W = word_items (resolved f m) ((copy * 256 + i) / 256) w in
            let p = (copied g.good (lower wr.kept)).starts copy g.made in
            record {
              good = good_kept g.good (lower wr.kept) lm;
              made = rw (kept_copies g.good (lower wr.kept)) g.made;
              whole = rw p g.whole;
              reached = rw p (offset_reached g.good g.made g.reached within);
              size = la ∙ g.size;
              done = g.done ++ W;
              items =
                  rw (p, resolved_kept g.good (lower wr.kept) lm)
                  (append_assoc g.done W _ ∙ copy-writes-items);
              wrote = wrote_then g.wrote wr;
            }
