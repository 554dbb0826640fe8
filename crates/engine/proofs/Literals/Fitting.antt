-- A literal fits a leaf exactly when its word is the leaf's word with the other sign.
use mathlib.Core.Path.{◌≡◌, refl, sym, ap, ◌∙◌}
use mathlib.Core.Bool.{Bool, true, false, beq, cond, not, ◌&&◌, and-eq-true_iff}
use Prim.Native.Nat.{ℕ, ◌+◌, ◌-◌, ◌^◌, ◌<◌}
use native.Mathlib.Omega.{arith}
use lib.Dec.{eqb}
use borrow.Author.Tests.{eq-eqb, eqb-true}
use Rattle.words.specs.Fields.{kind_of, symbol_of, arity_of, negative_of, literal_shaped, literal_word}
use Rattle.words.proofs.Packed.{bits_small, literal_word_lem, literal_kind, literal_negative, literal_predicate, literal_arity, literal_shaped_lem, literal_arity_small}
use Rattle.table.specs.Syntax.{Term, Terms, arity, literal_under}
use Rattle.table.specs.Decode.{literal_of}
use Rattle.rules.specs.Substitution.{Variable}
use Rattle.rules.specs.Tableau.{fits}
use Rattle.rules.proofs.Instances.{arity_unders}
use Rattle.index.specs.Scanning.{other_sign}

same_tests : (a b : Bool) → (a ≡ true → b ≡ true) → (b ≡ true → a ≡ true) → a ≡ b
same_tests true b f g = sym (f refl)
same_tests false true f g = g refl
same_tests false false f g = refl

differs : (b : Bool) → not (beq b (not b)) ≡ true
differs true = refl
differs false = refl

opposed : (a b : Bool) → not (beq a b) ≡ true → b ≡ not a
opposed true true e = let z : ◌≡◌ {A = ℕ} 0 1 = cc in absurd (omega arith)
opposed true false e = refl
opposed false true e = refl
opposed false false e = let z : ◌≡◌ {A = ℕ} 0 1 = cc in absurd (omega arith)

turned : (w p a : ℕ) (b : Bool) → w ≡ literal_word b p a → cond b (w - 2 ^ 15) (w + 2 ^ 15) ≡ literal_word (not b) p a
turned w p a true e = omega arith
turned w p a false e = omega arith

module _ (u : ℕ) (shaped : literal_shaped u ≡ true) (small : u < 2 ^ 32) where
  pub other_word : other_sign u ≡ literal_word (not (negative_of u)) (symbol_of u) (arity_of u)
  unfolding other_sign
  other_word = turned u (symbol_of u) (arity_of u) (negative_of u) (literal_word_lem u shaped small)

  pub other_kind : kind_of (other_sign u) ≡ 2
  other_kind = rw other_word (literal_kind (symbol_of u) (arity_of u) (bits_small 0 12 u) (bits_small 12 3 u) (not (negative_of u)))

  pub other_shaped : literal_shaped (other_sign u) ≡ true
  other_shaped =
      rw other_word
      (literal_shaped_lem (symbol_of u) (arity_of u) (bits_small 0 12 u) (bits_small 12 3 u) (not (negative_of u)) (literal_arity_small u shaped))

  module _ (w : ℕ) (fine : literal_shaped w ≡ true) (low : w < 2 ^ 32) where
    abbrev test : Bool
    test =
        not (beq (negative_of u) (negative_of w)) && eqb (symbol_of u) (symbol_of w) && eqb (arity_of u) (arity_of w)

    test_word : test ≡ true → eqb w (other_sign u) ≡ true
    test_word e =
        let both = (and-eq-true_iff (not (beq (negative_of u) (negative_of w)) && eqb (symbol_of u) (symbol_of w)) (eqb (arity_of u) (arity_of w))).0 e in
        let first = (and-eq-true_iff (not (beq (negative_of u) (negative_of w))) (eqb (symbol_of u) (symbol_of w))).0 both.0 in
        let n : negative_of w ≡ not (negative_of u) = opposed (negative_of u) (negative_of w) first.0 in
        let p : symbol_of u ≡ symbol_of w = eqb-true (symbol_of u) (symbol_of w) first.1 in
        let a : arity_of u ≡ arity_of w = eqb-true (arity_of u) (arity_of w) both.1 in
        eq-eqb w (other_sign u) (literal_word_lem w fine low ∙ sym (other_word ∙ rw (← n, p, a)))

    word_test : eqb w (other_sign u) ≡ true → test ≡ true
    word_test e =
        let same : w ≡ literal_word (not (negative_of u)) (symbol_of u) (arity_of u) = eqb-true w (other_sign u) e ∙ other_word in
        let ps = bits_small 0 12 u in
        let an = bits_small 12 3 u in
        let n : negative_of w ≡ not (negative_of u) = ap negative_of same ∙ literal_negative (symbol_of u) (arity_of u) ps an (not (negative_of u)) in
        let p : symbol_of w ≡ symbol_of u = ap symbol_of same ∙ literal_predicate (symbol_of u) (arity_of u) ps an (not (negative_of u)) in
        let a : arity_of w ≡ arity_of u = ap arity_of same ∙ literal_arity (symbol_of u) (arity_of u) ps an (not (negative_of u)) in
        rw (n, differs (negative_of u), eq-eqb (symbol_of u) (symbol_of w) (sym p), eq-eqb (arity_of u) (arity_of w) (sym a))

    pub fits_by_word : (σ τ : ℕ → Term Variable) (ts us : Terms ℕ) → arity ts ≡ arity_of u → arity us ≡ arity_of w
        → fits (literal_under σ (literal_of u ts)) (literal_under τ (literal_of w us)) ≡ eqb w (other_sign u)
    unfolding fits literal_under
    fits_by_word σ τ ts us et eu =
        rw (arity_unders σ ts, arity_unders τ us, et, eu) (same_tests test (eqb w (other_sign u)) test_word word_test)
