-- A copy's literal sought among its clause's words, and its words by what the search came to: one law for each outcome, with premises as the code has them.
use borrow.Author.Tests.{lt-ltb, le-ltb}
use lib.ListN.{length, drop, get_or, get_elem?, drop_of_length-le}
use mathlib.Core.List.{List, [], ◌∷◌, map}
use mathlib.Core.Option.{none, some}
use Rattle.std.specs.Prelude.{Some, None}
use mathlib.Core.Path.{◌≡◌, refl, sym, ◌∙◌, ap}
use native.Mathlib.Omega.{arith}
use Prim.Native.Nat.{ℕ, zero, suc, ◌+◌, ◌*◌, ◌-◌, ◌≤◌, ◌<◌}
use Rattle.words.specs.Fields.{kind_of, following_of}
use Rattle.table.specs.Syntax.{Literal, literal_under}
use Rattle.table.specs.Decode.{terms_from, literal_of, literals_from, clause_of}
use Rattle.table.proofs.Decoding.{literals_literal, literals_other}
use Rattle.rules.specs.Tableau.{fresh, copy_of}
use Rattle.rules.proofs.Lists.{map_some}
use Rattle.unification.specs.State.{start_at, copies_of, own_words, literal_at_reference}
use Rattle.unification.specs.Good.{word_at, Inside, Good}
use Rattle.answers.specs.Writing.{resolved}
use Rattle.answers.proofs.CopyWords.{Reached, own_words_lem, own_drop, copy_count, copy_reached, offset_inside, offset_small, offset_word, offset_reached, offset_literal, offset_says}
use Rattle.bound_literals.specs.Bound.{literal_of_copy, words_under}
use Rattle.bound_literals.specs.Held.{Filled, clause_held, words_held, OffsetFor}
use Rattle.bound_literals.proofs.Filling.{fill_none}

-- how far a literal is sought: so many are still to be passed from an offset on
pub record Seeking (f m : List ℕ) (copy number count i left : ℕ) : Type 0 where
  pub whole : suc count ≡ length (own_words f (start_at m copy))
  pub reached : Reached f (start_at m copy) i
  pub low : 1 ≤ i
  pub same : get_elem? (clause_of (own_words f (start_at m copy))).literals number ≡ get_elem? (literals_from (drop i (own_words f (start_at m copy)))) left

module _ {f m : List ℕ} {copy number : ℕ} (h : Good f m) (c : copy < copies_of m) where
  pub seek_begin : {w count : ℕ} → w ≡ word_at f m (copy * 256) → count ≡ following_of w → Seeking f m copy number count 1 number
  unfolding clause_of
  seek_begin e k = record { whole = copy_count h c e k; reached = copy_reached h c; low = omega arith; same = rw (own_words_lem (h.starts copy c)) }

  module _ {count i left : ℕ} (g : Seeking f m copy number count i left) where
    pub seek_over : count < i → OffsetFor f m copy number None
    unfolding copy_of literals_from
    seek_over l =
        let b : length (own_words f (start_at m copy)) ≤ i = omega (arith, g.whole) in
        let e : drop i (own_words f (start_at m copy)) ≡ [] = drop_of_length-le (own_words f (start_at m copy)) b in
        let gone : get_elem? (clause_of (own_words f (start_at m copy))).literals number ≡ none = rw e at g.same in
        nowhere (clause_of (own_words f (start_at m copy))).literals number gone
      where
        nowhere : (ls : List (Literal ℕ)) (n : ℕ) → get_elem? ls n ≡ none → get_elem? (map (literal_under (fresh copy)) ls) n ≡ none
        nowhere [] n e = refl
        nowhere (x ∷ ls) zero e = cc
        nowhere (x ∷ ls) (suc n) e = nowhere ls n e

    module _ (l : i ≤ count) where
      within : i < length (own_words f (start_at m copy))
      within = omega (arith, g.whole)

      pub seek_inside : Inside f m (copy * 256 + i)
      seek_inside = offset_inside h c g.reached within

      pub seek_small : copy * 256 + i < 8448
      seek_small = offset_small h c g.reached within

      module _ {w : ℕ} (ew : w ≡ word_at f m (copy * 256 + i)) {k : ℕ} (ek : k ≡ kind_of w) where
        word_is : get_or f (start_at m copy + i) 0 ≡ w
        word_is = sym (ew ∙ offset_word h c g.reached within)

        here : drop i (own_words f (start_at m copy)) ≡ w ∷ drop (i + 1) (own_words f (start_at m copy))
        here = rw (← word_is) (own_drop f (start_at m copy) i within)

        pub seek_other : (k ≡ 2 → ⊥) → Seeking f m copy number count (i + 1) left
        seek_other n = record {
          whole = g.whole;
          reached = offset_reached h c g.reached within;
          low = omega arith;
          same = g.same ∙ ap (λ (ls : List (Literal ℕ)). get_elem? ls left) (ap literals_from here ∙ literals_other w (drop (i + 1) (own_words f (start_at m copy))) (λ e. n (ek ∙ e)));
        }

        module _ (two : k ≡ 2) where
          same_here : get_elem? (clause_of (own_words f (start_at m copy))).literals number
              ≡ get_elem? (literal_of w (terms_from (drop (i + 1) (own_words f (start_at m copy)))) ∷ literals_from (drop (i + 1) (own_words f (start_at m copy)))) left
          same_here =
              g.same ∙ ap (λ (ls : List (Literal ℕ)). get_elem? ls left) (ap literals_from here ∙ literals_literal w (drop (i + 1) (own_words f (start_at m copy))) (sym ek ∙ two))

          pub seek_found : left ≡ 0 → OffsetFor f m copy number (Some i)
          unfolding copy_of
          seek_found z = record {
            small = seek_small;
            stands = offset_literal h c g.reached within (ap kind_of (sym ew) ∙ sym ek ∙ two);
            literal =
                rw (offset_says h c g.reached within, word_is)
                (map_some (literal_under (fresh copy)) (clause_of (own_words f (start_at m copy))).literals number (rw z at same_here));
          }

          pub seek_on : (left ≡ 0 → ⊥) → Seeking f m copy number count (i + 1) (left - 1)
          seek_on n = record {
            whole = g.whole;
            reached = offset_reached h c g.reached within;
            low = omega arith;
            same =
                same_here
                ∙ passed left n (literal_of w (terms_from (drop (i + 1) (own_words f (start_at m copy))))) (literals_from (drop (i + 1) (own_words f (start_at m copy))));
          }
            where
              passed : (n : ℕ) → (n ≡ 0 → ⊥) → (x : Literal ℕ) (ls : List (Literal ℕ)) → get_elem? (x ∷ ls) n ≡ get_elem? ls (n - 1)
              passed zero n x ls = absurd (n refl)
              passed (suc k) n x ls = let z : k ≡ suc k - 1 = omega arith in ap (λ (j : ℕ). get_elem? ls j) z

-- the words of a copy's literal
module _ (f m : List ℕ) (copy number : ℕ) where
  none-held : (out : List ℕ) → words_held f m copy number ≡ [] → Filled out 0 (words_held f m copy number) out 0
  none-held out e = rw e (fill_none out 0 (omega arith))

  pub held_none : {n : ℕ} (out : List ℕ) → n ≡ copies_of m → n ≤ copy → Filled out 0 (words_held f m copy number) out 0
  unfolding words_held clause_held literal_of_copy words_under
  held_none out e h = none-held out (rw (le-ltb copy (copies_of m) (omega arith)))

  module _ (c : copy < copies_of m) where
    pub held_missing : OffsetFor f m copy number None → (out : List ℕ) → Filled out 0 (words_held f m copy number) out 0
    unfolding words_held clause_held literal_of_copy words_under
    held_missing g out = none-held out (rw (lt-ltb copy (copies_of m) c, g))

  module _ (c : copy < copies_of m) {at : ℕ} (g : OffsetFor f m copy number (Some at)) where
    pub held_there : {out left : List ℕ} {next : ℕ} → Filled out 0 (words_under (resolved f m) (some (literal_at_reference f m (copy * 256 + at)))) left next
        → Filled out 0 (words_held f m copy number) left next
    unfolding words_held clause_held literal_of_copy
    held_there q = rw (lt-ltb copy (copies_of m) c, g.literal) q
