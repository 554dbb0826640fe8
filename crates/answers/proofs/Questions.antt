-- The copies that are kept, one after the other, give the answer.
use borrow.Author.Tests.{eq-eqb, ne_eqb, eqb-true, eqb-false}
use lib.Dec.{eqb}
use lib.ListN.{length, drop, length-append}
use mathlib.Core.Bool.{Bool, true, false, cond}
use mathlib.Core.List.{List, [], ◌∷◌, ◌++◌, map, append_assoc, append-nil, map-append}
use mathlib.Core.Path.{◌≡◌, refl, sym, ◌∙◌, ap, ap₂}
use native.Mathlib.Omega.{arith}
use Prim.Native.Nat.{ℕ, zero, suc, ◌+◌, ◌≤◌}
use Rattle.words.specs.Fields.{literal_word}
use Rattle.table.specs.Syntax.{arity, Literal}
use Rattle.rules.specs.Substitution.{Variable}
use Rattle.rules.specs.Answer.{joined}
use Rattle.rules.proofs.Unify.Tests.{decide}
use Rattle.unification.specs.State.{start_at, copies_of, own_words}
use Rattle.unification.specs.Good.{Good}
use Rattle.answers.specs.Writing.{fixed, items_among, items_of_all, words_items, words_from, resolved, copy_items, kept_at, kept_among, kept_items, disjunct_at, disjuncts_kept, answer_held}
use Rattle.answers.proofs.Items.{answer_items, words_length}
use Rattle.answers.proofs.CopyWords.{disjunct_items}

items_both : (ks ls : List (Literal Variable)) → items_of_all (ks ++ ls) ≡ items_of_all ks ++ items_of_all ls
unfolding items_of_all
items_both [] ls = refl
items_both (k ∷ ks) ls =
    ap (fixed (literal_word k.negative k.predicate (arity k.arguments)) ∷◌)
    (ap (items_among k.arguments ++◌) (items_both ks ls) ∙ sym (append_assoc (items_among k.arguments) (items_of_all ks) (items_of_all ls)))

joined_both : (ds es : List (List (Literal Variable))) → joined (ds ++ es) ≡ joined ds ++ joined es
unfolding joined
joined_both [] es = refl
joined_both (d ∷ ds) es = ap (d ++◌) (joined_both ds es) ∙ sym (append_assoc d (joined ds) (joined es))

module _ (f m : List ℕ) (n : ℕ) where
  pub kept_there : (kept_at m n ≡ 0 → ⊥) → kept_items f m (suc n) ≡ kept_items f m n ++ copy_items f m n
  unfolding kept_items
  kept_there e = rw (ne_eqb (kept_at m n) 0 e)

  pub kept_other : kept_at m n ≡ 0 → kept_items f m (suc n) ≡ kept_items f m n
  unfolding kept_items
  kept_other e = rw (eq-eqb (kept_at m n) 0 e, append-nil (kept_items f m n))

module _ (m : List ℕ) (n : ℕ) where
  pub another_there : (kept_at m n ≡ 0 → ⊥) → kept_among m (suc n) ≡ kept_among m n ++ (n ∷ [])
  unfolding kept_among
  another_there e = rw (ne_eqb (kept_at m n) 0 e)

  pub another_other : kept_at m n ≡ 0 → kept_among m (suc n) ≡ kept_among m n
  unfolding kept_among
  another_other e = rw (eq-eqb (kept_at m n) 0 e, append-nil (kept_among m n))

pub items_grow : (f m : List ℕ) (n k : ℕ) → n ≤ k → length (kept_items f m n) ≤ length (kept_items f m k)
unfolding kept_items
items_grow f m n zero h = let z : n ≡ 0 = omega arith in rw z (omega arith)
items_grow f m n (suc k) h =
    decide
    (eqb n (suc k))
    (λ e. let z : n ≡ suc k = eqb-true n (suc k) e in rw z (omega arith))
    (λ e. let z : n ≡ suc k → ⊥ = eqb-false n (suc k) e in rw length-append (omega (arith, items_grow f m n k (omega arith))))

module _ {f m : List ℕ} (h : Good f m) where
  joined_items : (n : ℕ) → n ≤ copies_of m → items_of_all (joined (map (disjunct_at f m) (kept_among m n))) ≡ kept_items f m n
  unfolding kept_among kept_items joined items_of_all copy_items
  joined_items zero l = refl
  joined_items (suc n) l = go (eqb (kept_at m n) 0) (joined_items n (omega arith))
    where
      go : (b : Bool) → items_of_all (joined (map (disjunct_at f m) (kept_among m n))) ≡ kept_items f m n
          → items_of_all (joined (map (disjunct_at f m) (kept_among m n ++ cond b [] (n ∷ []))))
          ≡ kept_items f m n ++ cond b [] (words_items (resolved f m) n (drop 1 (own_words f (start_at m n))))
      go false e =
          ap (λ (ds : List (List (Literal Variable))). items_of_all (joined ds)) (map-append (disjunct_at f m) (kept_among m n) (n ∷ []))
          ∙ ap items_of_all (joined_both (map (disjunct_at f m) (kept_among m n)) (disjunct_at f m n ∷ []))
          ∙ items_both (joined (map (disjunct_at f m) (kept_among m n))) (disjunct_at f m n ++ [])
          ∙ ap₂ ◌++◌ e (ap items_of_all (append-nil (disjunct_at f m n)) ∙ disjunct_items (h.starts n (omega arith)) (resolved f m) n)
      go true e =
          ap (λ (ns : List ℕ). items_of_all (joined (map (disjunct_at f m) ns))) (append-nil (kept_among m n)) ∙ e ∙ sym (append-nil (kept_items f m n))

  pub answer_words_lem : answer_held f m ≡ words_from [] (kept_items f m (copies_of m))
  unfolding disjuncts_kept
  answer_words_lem = answer_items _ ∙ ap (words_from []) (joined_items (copies_of m) (omega arith))

  pub answer_length : length (answer_held f m) ≡ length (kept_items f m (copies_of m))
  answer_length = ap length answer_words_lem ∙ words_length (kept_items f m (copies_of m)) []
