-- Writing the copies that are kept one after the other: the outcomes, one law for each, with premises as the code has them.
use lib.ListN.{length, take, drop, replicate, length-append, length-map}
use lib.Seq.{sets, sets-eq}
use mathlib.Core.List.{List, [], ◌∷◌, ◌++◌}
use mathlib.Core.Path.{◌≡◌, refl, sym, ◌∙◌, ap}
use native.Mathlib.Nat.{zero-add}
use native.Mathlib.Numerals.{add-one}
use native.Mathlib.Omega.{arith}
use Prim.Native.Nat.{ℕ, suc, ◌+◌, ◌≤◌, ◌<◌}
use Rattle.rules.specs.Answer.{seen_by}
use Rattle.unification.specs.Places.{kept_places, most_copies}
use Rattle.unification.specs.State.{copies_of}
use Rattle.unification.specs.Good.{Good}
use Rattle.answers.specs.Writing.{Item, words_from, copy_items, kept_at, kept_among, kept_items, disjunct_at, disjuncts_kept, answer_held, mark_of, Seen, Remarked, Unmarked, RoomFor, Wrote, Answered}
use Rattle.answers.specs.declared.answer.Written.{Written}
use Rattle.answers.specs.declared.answer.Answer.{Answer}
use Rattle.answers.proofs.Questions.{kept_there, kept_other, another_there, another_other, items_grow, answer_words_lem, answer_length}
use Rattle.answers.proofs.KeptItems.{kept_copies, good_kept, copy_kept}
use Rattle.answers.proofs.Writing.{wrote_none, wrote_then, remarked_then}
use Rattle.answers.proofs.WritingTerms.{lower}

abbrev none_written : Written
none_written = record { words = 0; numbered = 0 }

-- how far the writing has come: so many copies are passed
pub record WritingAll (f m₀ a₀ m a : List ℕ) (s : Written) (disjuncts copy : ℕ) : Type 0 where
  pub passed : copy ≤ copies_of m₀
  pub size : length m ≡ length m₀
  pub long : length a ≡ length a₀
  pub wrote : Wrote m₀ a₀ none_written (kept_items f m₀ copy) m a s
  pub count : disjuncts ≡ length (kept_among m₀ copy)
  pub fewer : disjuncts ≤ copy

-- no variable is seen yet
pub unseen : {m : List ℕ} → Unmarked m → Seen m 0 []
unfolding mark_of seen_by
unseen u = record { marks = u; count = refl }

module _ {f m₀ a₀ : List ℕ} (h : Good f m₀) where
  pub all_written_begin : WritingAll f m₀ a₀ m₀ a₀ none_written 0 0
  unfolding kept_items kept_among
  all_written_begin = record { passed = omega arith; size = refl; long = refl; wrote = wrote_none; count = refl; fewer = omega arith }

  module _ {m a : List ℕ} {s : Written} {disjuncts copy : ℕ} (g : WritingAll f m₀ a₀ m a s disjuncts copy) where
    pub all_good : Good f m
    all_good = good_kept h (lower g.wrote.kept) g.size

    pub all_same : copies_of m ≡ copies_of m₀
    all_same = kept_copies h (lower g.wrote.kept)

    pub all_small : length (answer_held f m₀) ≤ 4294967295 → s.words ≤ 4294967295
    all_small small = omega (arith, g.wrote.words, items_grow f m₀ copy (copies_of m₀) g.passed, answer_length h)

    module _ (l : copy < copies_of m₀) {w : ℕ} (e : w ≡ copy) where
      kept_same : kept_at m w ≡ kept_at m₀ copy
      kept_same = ap (kept_at m) e ∙ g.wrote.kept.upper.words (kept_places + copy) (omega arith) (omega (arith, h.copies))

      pub all_passed : kept_at m w ≡ 0 → WritingAll f m₀ a₀ m a s disjuncts (copy + 1)
      all_passed n =
          let k : kept_at m₀ copy ≡ 0 = sym kept_same ∙ n in
          record {
            passed = omega arith;
            size = g.size;
            long = g.long;
            wrote = rw (add-one copy, kept_other f m₀ copy k) g.wrote;
            count = rw (add-one copy) (g.count ∙ sym (ap length (another_other m₀ copy k)));
            fewer = omega (arith, g.fewer);
          }

      pub all_made : copy < copies_of m
      all_made = rw all_same l

      module _ (z : kept_at m w ≡ 0 → ⊥) where
        there : kept_at m₀ copy ≡ 0 → ⊥
        there y = z (kept_same ∙ y)

        one_more : length (kept_items f m₀ (suc copy)) ≡ length (kept_items f m₀ copy) + length (copy_items f m copy)
        one_more =
            ap length (kept_there f m₀ copy there)
            ∙ length-append (kept_items f m₀ copy) (copy_items f m₀ copy)
            ∙ ap (λ (is : List Item). length (kept_items f m₀ copy) + length is) (sym (copy_kept h (lower g.wrote.kept) g.size copy l))

        pub all_room : length (answer_held f m₀) ≤ length a₀ → length (answer_held f m₀) ≤ 4294967295
            → RoomFor a s (copy_items f m copy)
        all_room fits small =
            let grows = items_grow f m₀ (suc copy) (copies_of m₀) (omega arith) in
            record {
              inside = omega (arith, g.wrote.words, g.long, one_more, grows, answer_length h);
              small = omega (arith, g.wrote.words, one_more, grows, answer_length h);
              few = omega (arith, g.wrote.few);
            }

        pub all_few : disjuncts < most_copies
        all_few = omega (arith, g.fewer, h.copies)

        pub all_written_on : {m' a' : List ℕ} {s' : Written} → length m' ≡ length m → length a' ≡ length a
            → Wrote m a s (copy_items f m copy) m' a' s' → WritingAll f m₀ a₀ m' a' s' (disjuncts + 1) (copy + 1)
        all_written_on lm la wr = record {
          passed = omega arith;
          size = lm ∙ g.size;
          long = la ∙ g.long;
          wrote =
              rw (add-one copy, kept_there f m₀ copy there)
              (wrote_then g.wrote (rw (copy_kept h (lower g.wrote.kept) g.size copy l) at wr));
          count = rw (add-one copy) (omega (arith, g.count, ap length (another_there m₀ copy there), length-append (kept_among m₀ copy) (copy ∷ [])));
          fewer = omega (arith, g.fewer);
        }

    pub all_answered : Unmarked m₀ → length (answer_held f m₀) ≤ length a₀ → copies_of m₀ ≤ copy
        → {r : Answer} → r.words ≡ s.words → r.disjuncts ≡ disjuncts → Answered f m₀ a₀ m a r
    unfolding disjuncts_kept
    all_answered u fits l ew ed =
        let z : copy ≡ copies_of m₀ = omega (arith, g.passed) in
        let same : answer_held f m₀ ≡ words_from [] (kept_items f m₀ copy) = rw z (answer_words_lem h) in
        let many : length (kept_items f m₀ copy) ≡ length (answer_held f m₀) = rw z (sym (answer_length h)) in
        record {
          kept = g.wrote.kept;
          answer =
              g.wrote.answer [] (unseen u)
              ∙ ap (sets a₀ 0) (sym same)
              ∙ sets-eq (answer_held f m₀) a₀ 0 (omega arith)
              ∙ ap (λ (k : ℕ). answer_held f m₀ ++ drop k a₀) (zero-add (length (answer_held f m₀)));
          words = omega (arith, ew, g.wrote.words);
          disjuncts = ed ∙ g.count ∙ ap (λ (k : ℕ). length (kept_among m₀ k)) z ∙ sym (length-map (kept_among m₀ (copies_of m₀)) (disjunct_at f m₀));
        }
