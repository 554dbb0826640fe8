-- Words written one after the other, with variables numbered as they are met: the outcomes, one law for each, with premises as the code has them.
use borrow.Author.Tests.{eqb-true, eqb-false}
use lib.Dec.{eqb}
use lib.ListN.{length, get_or, set, length-append}
use lib.Seq.{sets, get_or-set_same, get_or-set_other}
use mathlib.Core.Bool.{Bool, true, false, cond}
use mathlib.Core.List.{List, [], ◌∷◌, ◌++◌}
use mathlib.Core.Path.{◌≡◌, refl, sym, ◌∙◌, ap, ap₂}
use native.Mathlib.Nat.{add-zero}
use native.Mathlib.Omega.{arith}
use Prim.Native.Nat.{ℕ, suc, ◌+◌, ◌-◌, ◌<◌}
use Rattle.rules.specs.Substitution.{Variable, same_variable}
use Rattle.rules.specs.Answer.{seen, place_of}
use Rattle.rules.proofs.Unify.Tests.{decide}
use Rattle.unification.specs.Places.{most_variables, number_places, work_words}
use Rattle.unification.specs.State.{numbered_at, variable_of}
use Rattle.answers.specs.Writing.{Item, fixed, free, words_from, seen_after, mark_of, Seen, Remarked, Wrote}
use Rattle.answers.specs.declared.answer.Written.{Written}
use Rattle.unification.proofs.Bound.{variable_differs}
use Rattle.unification.proofs.Push.{same_none, same_then}
use Rattle.answers.proofs.Items.{place_left, place_last, seen_last, seen_other, also_known, also_new, words_length, words_append, seen_append}

-- stores one after the other
sets_append : (xs ys l : List ℕ) (i : ℕ) → sets l i (xs ++ ys) ≡ sets (sets l i xs) (i + length xs) ys
sets_append [] ys l i = rw (add-zero i)
sets_append (x ∷ xs) ys l i = sets_append xs ys (set l i x) (suc i) ∙ ap (λ (k : ℕ). sets (sets (set l i x) (suc i) xs) k ys) (omega arith)

remarked_none : {m : List ℕ} → Remarked m m
remarked_none = record { lower = same_none; upper = same_none }

pub remarked_then : {m m' m'' : List ℕ} → Remarked m m' → Remarked m' m'' → Remarked m m''
remarked_then r s = record { lower = same_then r.lower s.lower; upper = same_then r.upper s.upper }

pub wrote_none : {m a : List ℕ} {s : Written} → Wrote m a s [] m a s
unfolding seen_after words_from
wrote_none = record { kept = remarked_none; words = omega arith; few = omega arith; seen = λ before k. k; answer = λ before k. refl }

pub wrote_then : {m m' m'' a a' a'' : List ℕ} {s s' s'' : Written} {is js : List Item} → Wrote m a s is m' a' s' → Wrote m' a' s' js m'' a'' s''
    → Wrote m a s (is ++ js) m'' a'' s''
wrote_then {a = a} {a' = a'} {a'' = a''} {s = s} {s' = s'} {is = is} {js = js} w v = record {
  kept = remarked_then w.kept v.kept;
  words = v.words ∙ rw (w.words, length-append is js) (omega arith);
  few = omega (arith, w.few, v.few);
  seen = λ before k. rw (seen_append is js before) (v.seen (seen_after before is) (w.seen before k));
  answer = λ before k.
      v.answer (seen_after before is) (w.seen before k)
      ∙ ap₂ (λ (l : List ℕ) (i : ℕ). sets l i (words_from (seen_after before is) js)) (w.answer before k) (w.words ∙ ap (s.words +◌) (sym (words_length is before)))
      ∙ sym (sets_append (words_from before is) (words_from (seen_after before is) js) a s.words)
      ∙ ap (sets a s.words) (sym (words_append is js before));
}

-- a word as it stands
pub wrote_word : {m a : List ℕ} {s s' : Written} {w : ℕ} → s'.words ≡ s.words + 1 → s'.numbered ≡ s.numbered
    → Wrote m a s (fixed w ∷ []) m (set a s.words w) s'
unfolding seen_after words_from
wrote_word e n = record { kept = remarked_none; words = e; few = omega arith; seen = λ before k. rw n k; answer = λ before k. refl }

-- a variable's mark
module _ (before : List Variable) (x : Variable) where
  mark_known : (mark_of before x ≡ 0 → ⊥) → seen x before ≡ true
  unfolding mark_of
  mark_known n = go (seen x before) n
    where
      go : (b : Bool) → (cond b (suc (place_of x before)) 0 ≡ 0 → ⊥) → b ≡ true
      go true n = refl
      go false n = absurd (n refl)

  mark-place : seen x before ≡ true → mark_of before x ≡ suc (place_of x before)
  unfolding mark_of
  mark-place e = rw e

  mark_new : mark_of before x ≡ 0 → seen x before ≡ false
  unfolding mark_of
  mark_new e = go (seen x before) e
    where
      go : (b : Bool) → cond b (suc (place_of x before)) 0 ≡ 0 → b ≡ false
      go true e = absurd (omega arith)
      go false e = refl

  -- the marks after one more variable
  mark-last : seen x before ≡ false → mark_of (before ++ (x ∷ [])) x ≡ suc (length before)
  unfolding mark_of
  mark-last e = rw (seen_last x before, place_last x before e)

  mark-other : (y : Variable) → same_variable y x ≡ false → mark_of (before ++ (x ∷ [])) y ≡ mark_of before y
  unfolding mark_of
  mark-other y e = rw (seen_other y x before e) (go (seen y before) refl)
    where
      go : (b : Bool) → seen y before ≡ b → cond b (suc (place_of y (before ++ (x ∷ [])))) 0 ≡ cond b (suc (place_of y before)) 0
      go true e = ap suc (place_left y before (x ∷ []) e)
      go false e = refl

-- the words with one more mark
module _ (m : List ℕ) (v n : ℕ) (small : v < most_variables) where
  known-before : (numbered_at m v ≡ 0 → ⊥) → (before : List Variable) → Seen m n before → seen (variable_of v) before ≡ true
  known-before z before k = mark_known before (variable_of v) (λ y. z (k.marks v small ∙ y))

  new-before : numbered_at m v ≡ 0 → (before : List Variable) → Seen m n before → seen (variable_of v) before ≡ false
  new-before z before k = mark_new before (variable_of v) (sym (k.marks v small) ∙ z)

  marked_other : (i : ℕ) → (i ≡ number_places + v → ⊥) → get_or (set m (number_places + v) (n + 1)) i 0 ≡ get_or m i 0
  marked_other i d = get_or-set_other m (number_places + v) i (n + 1) 0 d

  new-marks : length m ≡ work_words → numbered_at m v ≡ 0 → (before : List Variable) → Seen m n before → (u : ℕ) → u < most_variables
      → numbered_at (set m (number_places + v) (n + 1)) u ≡ mark_of (before ++ (variable_of v ∷ [])) (variable_of u)
  new-marks size z before k u l =
      decide
      (eqb u v)
      (λ e. let y : u ≡ v = eqb-true u v e in
      rw y
      (get_or-set_same m (number_places + v) (n + 1) 0 (omega arith)
      ∙ omega (arith, k.count, mark-last before (variable_of v) (new-before z before k))))
      (λ e. let y : u ≡ v → ⊥ = eqb-false u v e in
      marked_other (number_places + u) (λ w. y (omega arith)) ∙ k.marks u l ∙ sym (mark-other before (variable_of v) (variable_of u) (variable_differs u v y)))

-- a variable
module _ (m a : List ℕ) (s s' : Written) (v : ℕ) (small : v < most_variables) (e : s'.words ≡ s.words + 1) where
  pub wrote_known : (numbered_at m v ≡ 0 → ⊥) → s'.numbered ≡ s.numbered → Wrote m a s (free (variable_of v) ∷ []) m (set a s.words (numbered_at m v - 1)) s'
  unfolding seen_after words_from
  wrote_known n c = record {
    kept = remarked_none;
    words = e;
    few = omega arith;
    seen = λ before k. rw (also_known before (variable_of v) (known-before m v s.numbered small n before k)) (record { marks = k.marks; count = c ∙ k.count });
    answer = λ before k.
        let b = known-before m v s.numbered small n before k in
        let z : numbered_at m v - 1 ≡ place_of (variable_of v) before = omega (arith, k.marks v small, mark-place before (variable_of v) b) in
        rw (also_known before (variable_of v) b) (ap (set a s.words) z);
  }

  pub wrote_new : length m ≡ work_words → numbered_at m v ≡ 0 → s'.numbered ≡ s.numbered + 1
      → Wrote m a s (free (variable_of v) ∷ []) (set m (number_places + v) (s.numbered + 1)) (set a s.words s.numbered) s'
  unfolding seen_after words_from
  wrote_new size z c = record {
    kept = record {
      lower = record { words = λ i l h. marked_other m v s.numbered small i (λ w. omega arith) };
      upper = record { words = λ i l h. marked_other m v s.numbered small i (λ w. omega arith) };
    };
    words = e;
    few = omega arith;
    seen = λ before k.
        rw (also_new before (variable_of v) (new-before m v s.numbered small z before k))
        (record { marks = new-marks m v s.numbered small size z before k; count = c ∙ rw (length-append, k.count) });
    answer = λ before k.
        let b = new-before m v s.numbered small z before k in
        rw (also_new before (variable_of v) b) (ap (set a s.words) (k.count ∙ sym (place_last (variable_of v) before b)));
  }

-- the same, where the variable's place was computed
module _ (m a : List ℕ) (s s' : Written) (w v : ℕ) (ew : w ≡ v) (small : v < most_variables) (e : s'.words ≡ s.words + 1) where
  pub variable_known : (numbered_at m w ≡ 0 → ⊥) → s'.numbered ≡ s.numbered → Wrote m a s (free (variable_of v) ∷ []) m (set a s.words (numbered_at m w - 1)) s'
  variable_known n c = rw ew (wrote_known m a s s' v small e (rw ew at n) c)

  pub variable_new : length m ≡ work_words → numbered_at m w ≡ 0 → s'.numbered ≡ s.numbered + 1
      → Wrote m a s (free (variable_of v) ∷ []) (set m (number_places + w) (s.numbered + 1)) (set a s.words s.numbered) s'
  variable_new size z c = rw ew (wrote_new m a s s' v small e size (rw ew at z) c)
