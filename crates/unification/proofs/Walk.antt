-- Walking over the words of terms with a count of the terms owed: the outcomes, one law for each, with premises as the code has them.
use mathlib.Core.List.{List}
use mathlib.Core.Path.{◌≡◌, refl, sym, ◌∙◌, ap}
use native.Mathlib.Numerals.{one-add}
use native.Mathlib.Omega.{arith}
use Prim.Native.Nat.{ℕ, zero, suc, ◌+◌, ◌-◌, ◌/◌, ◌≤◌, ◌<◌}
use Rattle.words.specs.Fields.{kind_of, arity_of}
use Rattle.table.specs.Decode.{rest}
use Rattle.unification.specs.Places.{most_references}
use Rattle.unification.specs.State.{Points, terms_of}
use Rattle.unification.specs.Good.{word_at, arguments_of, Inside, Ahead, Held, Passed}
use Rattle.unification.proofs.References.{variables_at, clause_variables, points_inside, few, step_copy, step_points, step_terms, step_rest}

-- what is owed after a word
module _ (owed w : ℕ) {k : ℕ} (e : k ≡ kind_of w) where
  pub owed_arguments : {a : ℕ} → k ≡ 1 → a ≡ arity_of w → owed - 1 + a ≡ owed - 1 + arguments_of (kind_of w) w
  owed_arguments p q = rw (sym e ∙ p, q)

  pub owed_none : (k ≡ 1 → ⊥) → owed - 1 ≡ owed - 1 + arguments_of (kind_of w) w
  owed_none n = omega (arith, go (kind_of w) (λ p. n (e ∙ p)))
    where
      go : (k : ℕ) → (k ≡ 1 → ⊥) → arguments_of k w ≡ 0
      go zero n = refl
      go (suc zero) n = absurd (n refl)
      go (suc (suc k)) n = refl

-- the variables of a clause in which a term stands
pub few_variables : {f m : List ℕ} {count r n : ℕ} → Held f m count → Points f m r n → variables_at f m r ≤ 16
few_variables {f} {m} {count} {r} h p = clause_variables f _ (h.starts (r / 256) p.made)

pub inside : {f m : List ℕ} {count r n : ℕ} → Held f m count → Points f m r (suc n) → Inside f m r
inside h p = points_inside p h.size h.copies

pub small : {f m : List ℕ} {count r n : ℕ} → Held f m count → Points f m r n → r < most_references
small h p = omega (arith, p.made, h.copies)

-- so many terms are owed from a place on, until the term at a reference has been passed
pub record Walked (f m : List ℕ) (r at owed : ℕ) : Type 0 where
  pub low : r ≤ at
  pub begun : r < at + owed
  pub copy : (n : ℕ) → Points f m r (suc n) → 0 < owed + n → at / 256 ≡ r / 256
  pub ahead : (n : ℕ) → Points f m r (suc n) → Ahead f m at (owed + n)
  pub terms : (n : ℕ) → Points f m r (suc n) → 0 < owed + n → rest owed (terms_of f m at) ≡ rest 1 (terms_of f m r)

module _ {f m : List ℕ} {r : ℕ} where
  pub walk_begin : Walked f m r r 1
  walk_begin = record { low = omega arith; begun = omega arith; copy = λ n p h. refl; ahead = λ n p h. rw (one-add n) p; terms = λ n p h. refl }

  module _ {at owed : ℕ} (g : Walked f m r at owed) where
    pub walk_done : owed ≡ 0 → Passed f m r at
    unfolding rest
    walk_done e = record {
      later = omega (arith, g.begun);
      copy = λ n p. g.copy (suc n) p (omega arith);
      points = λ n p. let z : owed + suc n ≡ suc n = omega arith in rw z at (g.ahead (suc n) p (omega arith));
      terms = λ n p. rw e at (g.terms (suc n) p (omega arith));
    }

    module _ {count : ℕ} (h : Held f m count) (some : owed ≡ 0 → ⊥) where
      owing : (n : ℕ) → Points f m r (suc n) → Points f m at (suc (owed - 1 + n))
      owing n p = let z : owed + n ≡ suc (owed - 1 + n) = omega arith in rw z at (g.ahead n p (omega arith))

      module _ (p : Points f m r 1) where
        pub walk_inside : Inside f m at
        walk_inside = inside h (owing 0 p)

        pub walk_few : owed ≤ 256
        walk_few = omega (arith, few (owing 0 p))

        pub walk_small : at < most_references
        walk_small = small h (owing 0 p)

      pub walk_on : {w o : ℕ} → w ≡ word_at f m at → o ≡ owed - 1 + arguments_of (kind_of w) w → Walked f m r (at + 1) o
      walk_on {w} {o} ew eo =
          record {
            low = omega (arith, g.low);
            begun = omega (arith, g.low);
            copy = λ n p l. step_copy (owing n p) (omega (arith, count_on n)) ∙ g.copy n p (omega arith);
            ahead = λ n p l. rw (count_on n) at (step_points (owing n p) (omega (arith, count_on n)));
            terms = λ n p l.
                ap (λ (k : ℕ). rest k (terms_of f m (at + 1))) (count_rest)
                ∙ ap (rest (args + (owed - 1))) (step_terms (owing n p) (omega (arith, count_on n)))
                ∙ sym (step_rest (owing n p) (few_variables h (owing n p)) (owed - 1))
                ∙ ap (λ (k : ℕ). rest k (terms_of f m at)) one_more
                ∙ g.terms n p (omega arith);
          }
        where
          args : ℕ
          args = arguments_of (kind_of (word_at f m at)) (word_at f m at)

          same : o ≡ owed - 1 + args
          same = eo ∙ ap (λ (w : ℕ). owed - 1 + arguments_of (kind_of w) w) ew

          count_on : (n : ℕ) → args + (owed - 1 + n) ≡ o + n
          count_on n = omega (arith, same)

          count_rest : o ≡ args + (owed - 1)
          count_rest = omega (arith, same)

          one_more : suc (owed - 1) ≡ owed
          one_more = omega arith

-- a variable's word is passed
pub passed_variable : {f m : List ℕ} {count r : ℕ} → Held f m count → kind_of (word_at f m r) ≡ 0 → Passed f m r (r + 1)
passed_variable {f} {m} {count} {r} h k = walk_done (walk_on walk_begin h (λ e. omega arith) {w = word_at f m r} {o = 0} refl (rw k refl)) refl
