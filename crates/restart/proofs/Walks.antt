-- Looking for a clause without a positive literal, word by word: one law for each outcome, with premises as the code has them.
use mathlib.Core.Path.{◌≡◌, refl, sym, ap, ap₂, ◌∙◌}
use mathlib.Core.Bool.{Bool, true, false, cond, not, ◌||◌}
use mathlib.Core.List.{List, [], ◌∷◌}
use mathlib.Core.Option.{none, some}
use Prim.Native.Nat.{ℕ, zero, suc, ◌+◌, ◌-◌, ◌≤◌, ◌<◌}
use native.Mathlib.Omega.{arith}
use native.Mathlib.Numerals.{add-one}
use lib.ListN.{length, take, drop, get_or, drop_of_length-le}
use lib.Seq.{drop-cons}
use lib.Dec.{eqb}
use borrow.Author.Tests.{not-true, not-false, eq-eqb, ne_eqb}
use Rattle.words.specs.Fields.{following_of}
use Rattle.std.specs.List.{list_any}
use Rattle.table.specs.Body.{positive, any_positive}
use Rattle.restart.specs.Walking.{unconcluded, conclusions_of}
use Rattle.std.specs.Prelude.{Some, None}

-- a positive literal among words, by the library's own test
pub any_positive_lem : (ws : List ℕ) → list_any positive ws ≡ any_positive ws
unfolding any_positive
any_positive_lem [] = refl
any_positive_lem (w ∷ ws) = ap (λ (b : Bool). positive w || b) (any_positive_lem ws)

from_here : (words : List ℕ) (at : ℕ) → at < length words → drop at words ≡ get_or words at 0 ∷ drop (at + 1) words
from_here words at h = rw add-one (drop-cons words at 0 h)

-- so far each clause has a positive literal
pub record Walking (words : List ℕ) (question at passing : ℕ) : Type 0 where
  pub same : unconcluded question 0 0 words ≡ unconcluded question at passing (drop at words)

module _ {words : List ℕ} {question : ℕ} where
  pub walk_begin : Walking words question 0 0
  walk_begin = record { same = refl }

  module _ {at passing : ℕ} (k : Walking words question at passing) where
    pub walk_end : length words ≤ at → None ≡ conclusions_of (unconcluded question 0 0 words)
    unfolding unconcluded
    walk_end h = let none_left : unconcluded question 0 0 words ≡ none = k.same ∙ rw (drop_of_length-le words h) in sym (ap conclusions_of none_left)

    module _ (inside : at < length words) where
      pub walk_past : (passing ≡ 0 → ⊥) → Walking words question (at + 1) (passing - 1)
      unfolding unconcluded
      walk_past n =
          let e : passing ≡ suc (passing - 1) = omega arith in
          record { same = k.same ∙ ap₂ (λ (p : ℕ) (ws : List ℕ). unconcluded question at p ws) e (from_here words at inside) }

      module _ (z : passing ≡ 0) where
        here : unconcluded question 0 0 words
            ≡ cond (eqb at question) none
            (cond (any_positive (take (following_of (get_or words at 0)) (drop (at + 1) words)))
            (unconcluded question (at + 1) (following_of (get_or words at 0)) (drop (at + 1) words)) (some at))
        unfolding unconcluded
        here = k.same ∙ ap₂ (λ (p : ℕ) (ws : List ℕ). unconcluded question at p ws) z (from_here words at inside)

        pub walk_asked : at ≡ question → None ≡ conclusions_of (unconcluded question 0 0 words)
        walk_asked e = let none_left : unconcluded question 0 0 words ≡ none = here ∙ rw (eq-eqb at question e) in sym (ap conclusions_of none_left)

        module _ (n : at ≡ question → ⊥) {following : ℕ} (ef : following ≡ following_of (get_or words at 0)) {q : Bool} (eq : q ≡ any_positive (take following (drop (at + 1) words))) where
          pub walk_missing : not q ≡ true → Some at ≡ conclusions_of (unconcluded question 0 0 words)
          walk_missing t =
              let this : unconcluded question 0 0 words ≡ some at = here ∙ rw (ne_eqb at question n, ← ef, ← eq, not-true q t) in sym (ap conclusions_of this)

          pub walk_on : not q ≡ false → Walking words question (at + 1) following
          walk_on t = record { same = here ∙ rw (ne_eqb at question n, ← ef, ← eq, not-false q t) }
