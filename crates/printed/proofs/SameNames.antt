-- Words in names that are the same for every number are shown alike, whatever the words.
use mathlib.Core.List.{List, [], ◌∷◌, ◌++◌}
use mathlib.Core.Path.{◌≡◌, refl, ap₂}
use Prim.Native.Nat.{ℕ, zero, suc}
use lib.ListN.{get_or}
use Rattle.words.specs.Fields.{kind_of, number_of, symbol_of, arity_of, negative_of}
use Rattle.names.specs.Numbers.{Name}
use Rattle.naming.specs.Shown.{Names, or_numbered, joint_text, sign_text, closing, closed, opening, opened, shown_by, shown}

abbrev Same : List Name → List Name → Type 0
Same ns ms = (n : ℕ) → get_or ns n [] ≡ get_or ms n []

module _ (names others : Names) (fs : Same names.functions others.functions) (ps : Same names.predicates others.predicates)
    (vs : Same names.variables others.variables) (atoms : ℕ) where
  pub shown_same : (words : List ℕ) (before : ℕ) (lists : List ℕ) → shown names atoms before lists words ≡ shown others atoms before lists words
  unfolding shown shown_by
  shown_same [] before lists = refl
  shown_same (w ∷ words) before lists = by (kind_of w) (shown_same words)
    where
      by : (kind : ℕ) → ((b : ℕ) (o : List ℕ) → shown names atoms b o words ≡ shown others atoms b o words)
          → shown_by names atoms before lists w kind (λ b o. shown names atoms b o words) ≡ shown_by others atoms before lists w kind (λ b o. shown others atoms b o words)
      by zero rest =
          ap₂ (λ (name : Name) (more : List ℕ). or_numbered (number_of w) name ++ (closing lists ++ more)) (vs (number_of w)) (rest before (closed lists))
      by (suc zero) rest =
          ap₂ (λ (name : Name) (more : List ℕ). name ++ (opening (arity_of w) lists ++ more)) (fs (symbol_of w)) (rest before (opened (arity_of w) lists))
      by (suc (suc kind)) rest =
          ap₂ (λ (name : Name) (more : List ℕ). joint_text atoms before ++ sign_text (negative_of w) ++ name ++ (opening (arity_of w) [] ++ more)) (ps (symbol_of w))
          (rest (suc before) (opened (arity_of w) []))
