-- Counting an answer's words against the room that is left: the outcomes, one law for each, with premises as the code has them.
use lib.ListN.{length, drop, length-append, drop_of_length-le}
use mathlib.Core.List.{List, [], ◌++◌}
use mathlib.Core.Path.{◌≡◌, refl, sym, ◌∙◌, ap}
use native.Mathlib.Numerals.{add-one}
use native.Mathlib.Omega.{arith}
use Prim.Native.Nat.{ℕ, zero, suc, ◌+◌, ◌*◌, ◌-◌, ◌/◌, ◌≤◌, ◌<◌}
use Rattle.words.specs.Fields.{kind_of, arity_of, following_of}
use Rattle.rules.specs.Substitution.{Substitution}
use Rattle.unification.specs.Places.{most_references}
use Rattle.unification.specs.State.{start_at, copies_of, own_words, ClauseAt, Points}
use Rattle.unification.specs.Good.{word_at, arguments_of, Ahead, Inside, Good, FollowedTo}
use Rattle.answers.specs.Writing.{items_by_kind, word_items, words_items, resolved, term_items, copy_items, kept_at, kept_items, answer_held, Counted, WordStands}
use Rattle.std.specs.Prelude.{Option, Some, None}
use Rattle.unification.proofs.References.{few, step_points}
use Rattle.unification.proofs.Walk.{inside, small}
use Rattle.answers.proofs.Items.{items_some}
use Rattle.answers.proofs.CopyWords.{Reached, copy_count, copy_reached, offset_inside, offset_small, offset_reached, offset_stands, offset_items}
use Rattle.answers.proofs.Questions.{kept_there, kept_other, items_grow, answer_length}
use Rattle.answers.proofs.Resolved.{no_items, step_items, term_stands, stands_free, stands_function, stands_ahead}

pub word_some : (σ : Substitution) (copy w : ℕ) → 0 < length (word_items σ copy w)
unfolding items_by_kind
word_some σ copy w = go (kind_of w)
  where
    go : (k : ℕ) → 0 < length (items_by_kind σ copy k w)
    go zero = items_some _
    go (suc k) = omega arith

pub word_one : (σ : Substitution) (copy w : ℕ) → (kind_of w ≡ 0 → ⊥) → length (word_items σ copy w) ≡ 1
unfolding items_by_kind
word_one σ copy w n = go (kind_of w) n
  where
    go : (k : ℕ) → (k ≡ 0 → ⊥) → length (items_by_kind σ copy k w) ≡ 1
    go zero n = absurd (n refl)
    go (suc k) n = refl

-- one word more
counted_one : (room needed : ℕ) (r : Option ℕ) → (room ≡ 0 → ⊥) → Counted (room - 1) needed r → Counted room (suc needed) r
counted_one room needed (Some n) s c = omega arith
counted_one room needed None s c = omega arith

-- the room after a word
module _ {f m : List ℕ} {at w : ℕ} (h : Good f m) (s : WordStands f m at w) where
  pub room_none : {room : ℕ} → room ≡ 0 → Counted room (length (word_items (resolved f m) (at / 256) w)) None
  room_none {room} e = omega (arith, word_some (resolved f m) (at / 256) w)

  pub word_points : {k : ℕ} → k ≡ kind_of w → k ≡ 0 → Points f m at 1
  word_points ek z = s.points (sym ek ∙ z)

  module _ {room : ℕ} (some : room ≡ 0 → ⊥) {k : ℕ} (ek : k ≡ kind_of w) where
    pub room_fixed : (k ≡ 0 → ⊥) → Counted room (length (word_items (resolved f m) (at / 256) w)) (Some (room - 1))
    room_fixed n = omega (arith, word_one (resolved f m) (at / 256) w (λ e. n (ek ∙ e)))

    module _ (z : k ≡ 0) where
      -- a variable that was followed
      module _ {q : ℕ} (g : FollowedTo f m at q) {met : ℕ} (em : met ≡ word_at f m q) {k' : ℕ} (ek' : k' ≡ kind_of met) where
        pub room_free : k' ≡ 0 → Counted room (length (word_items (resolved f m) (at / 256) w)) (Some (room - 1))
        room_free z' = omega (arith, ap length (stands_free h s (sym ek ∙ z) g em (sym ek' ∙ z')))

        module _ (n : k' ≡ 0 → ⊥) {a : ℕ} (ea : a ≡ arity_of met) where
          pub room_ahead : Ahead f m (q + 1) a
          room_ahead = rw ea (stands_ahead h s (sym ek ∙ z) g em (λ y. n (ek' ∙ y)))

          pub room_function : (r : Option ℕ) → Counted (room - 1) (length (term_items f m (q + 1) a)) r → Counted room (length (word_items (resolved f m) (at / 256) w)) r
          room_function r c =
              rw (ap length (stands_function h s (sym ek ∙ z) g em (λ y. n (ek' ∙ y))))
              (counted_one room (length (term_items f m (q + 1) (arity_of met))) r some (rw ea at c))

-- how far the count of so many terms has come: so many are owed from a place on, with so much room left
pub record Counting (f m : List ℕ) (reference count room at left owed : ℕ) : Type 0 where
  pub ahead : Ahead f m at owed
  pub same : left + length (term_items f m reference count) ≡ room + length (term_items f m at owed)
  pub less : left ≤ room

-- terms are owed from a place on
module _ {f m : List ℕ} {at owed : ℕ} (h : Good f m) (ahead : Ahead f m at owed) (some : owed ≡ 0 → ⊥) where
  owed-points : Points f m at (suc (owed - 1))
  owed-points = let z : owed ≡ suc (owed - 1) = omega arith in rw z at (ahead (omega arith))

  pub owed_inside : Inside f m at
  owed_inside = inside h owed-points

  pub owed_few : owed ≤ 256
  owed_few = omega (arith, few owed-points)

  pub owed_small : at < most_references
  owed_small = small h owed-points

  module _ {w : ℕ} (ew : w ≡ word_at f m at) where
    pub owed_stands : WordStands f m at w
    owed_stands = rw ew (term_stands h owed-points)

    module _ {o : ℕ} (eo : o ≡ owed - 1 + arguments_of (kind_of w) w) where
      on : arguments_of (kind_of (word_at f m at)) (word_at f m at) + (owed - 1) ≡ o
      on = let e : arguments_of (kind_of w) w ≡ arguments_of (kind_of (word_at f m at)) (word_at f m at) = ap (λ (w : ℕ). arguments_of (kind_of w) w) ew in omega arith

      pub owed_ahead : Ahead f m (at + 1) o
      owed_ahead = rw on at (step_points owed-points)

      pub owed_items : term_items f m at owed ≡ word_items (resolved f m) (at / 256) w ++ term_items f m (at + 1) o
      owed_items =
          let z : owed ≡ suc (owed - 1) = omega arith in
          ap (term_items f m at) z
          ∙ step_items h owed-points
          ∙ ap (λ (k : ℕ). word_items (resolved f m) (at / 256) (word_at f m at) ++ term_items f m (at + 1) k) on
          ∙ ap (λ (w : ℕ). word_items (resolved f m) (at / 256) w ++ term_items f m (at + 1) o) (sym ew)

module _ {f m : List ℕ} {reference count room : ℕ} (h : Good f m) where
  pub counting_begin : Ahead f m reference count → Counting f m reference count room reference room count
  counting_begin a = record { ahead = a; same = refl; less = omega arith }

  module _ {at left owed : ℕ} (g : Counting f m reference count room at left owed) where
    pub counting_done : owed ≡ 0 → Counted room (length (term_items f m reference count)) (Some left)
    counting_done e =
        let z : length (term_items f m at owed) ≡ 0 = ap (λ (k : ℕ). length (term_items f m at k)) e ∙ ap length (no_items f m at) in
        omega (arith, g.same)

    module _ (some : owed ≡ 0 → ⊥) {w : ℕ} (ew : w ≡ word_at f m at) where
      lengths : {o : ℕ} → o ≡ owed - 1 + arguments_of (kind_of w) w
          → length (term_items f m at owed) ≡ length (word_items (resolved f m) (at / 256) w) + length (term_items f m (at + 1) o)
      lengths eo = ap length (owed_items h g.ahead some ew eo) ∙ length-append (word_items (resolved f m) (at / 256) w) _

      module _ (r : Option ℕ) (c : Counted left (length (word_items (resolved f m) (at / 256) w)) r) where
        pub counting_over : r ≡ None → Counted room (length (term_items f m reference count)) None
        counting_over e =
            let l : left < length (word_items (resolved f m) (at / 256) w) = rw e at c in omega (arith, lengths refl, g.same)

        pub counting_on : {n : ℕ} → r ≡ Some n → {o : ℕ} → o ≡ owed - 1 + arguments_of (kind_of w) w → Counting f m reference count room (at + 1) n o
        counting_on {n} e eo =
            let l : n + length (word_items (resolved f m) (at / 256) w) ≡ left = rw e at c in
            record { ahead = owed_ahead h g.ahead some ew eo; same = omega (arith, lengths eo, g.same); less = omega (arith, g.less) }

-- how far the count of a copy has come: the words from an offset on are left
pub record CountingCopy (f m : List ℕ) (copy count room i left : ℕ) : Type 0 where
  pub whole : suc count ≡ length (own_words f (start_at m copy))
  pub reached : Reached f (start_at m copy) i
  pub same : left + length (copy_items f m copy) ≡ room + length (words_items (resolved f m) copy (drop i (own_words f (start_at m copy))))

module _ {f m : List ℕ} {copy : ℕ} (h : Good f m) (c : copy < copies_of m) where
  pub copy_begin : {room w count : ℕ} → w ≡ word_at f m (copy * 256) → count ≡ following_of w → CountingCopy f m copy count room 1 room
  unfolding copy_items
  copy_begin e k = record { whole = copy_count h c e k; reached = copy_reached h c; same = refl }

  module _ {count room i left : ℕ} (g : CountingCopy f m copy count room i left) where
    pub copy_done : count < i → Counted room (length (copy_items f m copy)) (Some left)
    unfolding words_items
    copy_done l =
        let b : length (own_words f (start_at m copy)) ≤ i = omega (arith, g.whole) in
        let z : drop i (own_words f (start_at m copy)) ≡ [] = drop_of_length-le (own_words f (start_at m copy)) b in
        omega (arith, rw z at g.same)

    module _ (l : i ≤ count) where
      inside-own : i < length (own_words f (start_at m copy))
      inside-own = omega (arith, g.whole)

      pub copy_word : Inside f m (copy * 256 + i)
      copy_word = offset_inside h c g.reached inside-own

      module _ {w : ℕ} (ew : w ≡ word_at f m (copy * 256 + i)) where
        pub copy_stands : WordStands f m (copy * 256 + i) w
        copy_stands = offset_stands h c g.reached inside-own ew

        copy-lengths : length (words_items (resolved f m) copy (drop i (own_words f (start_at m copy))))
            ≡ length (word_items (resolved f m) ((copy * 256 + i) / 256) w) + length (words_items (resolved f m) copy (drop (i + 1) (own_words f (start_at m copy))))
        copy-lengths =
            ap length (offset_items h c g.reached inside-own ew (resolved f m)) ∙ length-append (word_items (resolved f m) ((copy * 256 + i) / 256) w) _

        module _ (r : Option ℕ) (k : Counted left (length (word_items (resolved f m) ((copy * 256 + i) / 256) w)) r) where
          pub copy_over : r ≡ None → Counted room (length (copy_items f m copy)) None
          copy_over e =
              let o : left < length (word_items (resolved f m) ((copy * 256 + i) / 256) w) = rw e at k in omega (arith, copy-lengths, g.same)

          pub copy_on : {n : ℕ} → r ≡ Some n → CountingCopy f m copy count room (i + 1) n
          copy_on {n} e =
              let o : n + length (word_items (resolved f m) ((copy * 256 + i) / 256) w) ≡ left = rw e at k in
              record { whole = g.whole; reached = offset_reached h c g.reached inside-own; same = omega (arith, copy-lengths, g.same) }

-- how far the count of the answer has come: so many copies are passed
pub record CountingAll (f m : List ℕ) (room copy left : ℕ) : Type 0 where
  pub passed : copy ≤ copies_of m
  pub same : left + length (kept_items f m copy) ≡ room

module _ {f m : List ℕ} (h : Good f m) where
  pub all_begin : {room : ℕ} → CountingAll f m room 0 room
  unfolding kept_items
  all_begin = record { passed = omega arith; same = omega arith }

  module _ {room copy left : ℕ} (g : CountingAll f m room copy left) where
    pub all_done : copies_of m ≤ copy → Counted room (length (answer_held f m)) (Some left)
    all_done l =
        let z : copy ≡ copies_of m = omega (arith, g.passed) in omega (arith, answer_length h, rw z at g.same)

    module _ (l : copy < copies_of m) where
      pub all_other : {w : ℕ} → w ≡ copy → kept_at m w ≡ 0 → CountingAll f m room (copy + 1) left
      all_other e n =
          let k : kept_at m copy ≡ 0 = rw e at n in
          record { passed = omega arith; same = rw add-one (omega (arith, g.same, ap length (kept_other f m copy k))) }

      module _ {w : ℕ} (e : w ≡ copy) (z : kept_at m w ≡ 0 → ⊥) (r : Option ℕ) (k : Counted left (length (copy_items f m copy)) r) where
        one_more : length (kept_items f m (suc copy)) ≡ length (kept_items f m copy) + length (copy_items f m copy)
        one_more = ap length (kept_there f m copy (λ y. z (ap (kept_at m) e ∙ y))) ∙ length-append (kept_items f m copy) _

        pub all_over : r ≡ None → Counted room (length (answer_held f m)) None
        all_over y =
            let o : left < length (copy_items f m copy) = rw y at k in
            omega (arith, answer_length h, one_more, items_grow f m (suc copy) (copies_of m) (omega arith), g.same)

        pub all_on : {n : ℕ} → r ≡ Some n → CountingAll f m room (copy + 1) n
        all_on {n} y =
            let o : n + length (copy_items f m copy) ≡ left = rw y at k in
            record { passed = omega arith; same = rw add-one (omega (arith, one_more, g.same)) }
