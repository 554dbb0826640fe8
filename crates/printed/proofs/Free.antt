-- A byte that goes on no name and is no sign of a literal stands nowhere in the text of a literal.
use borrow.Author.Tests.{eqb-true}
use mathlib.Core.Bool.{Bool, true, false}
use mathlib.Core.List.{List, [], ◌∷◌}
use mathlib.Core.Path.{◌≡◌, refl, ap, ◌∙◌}
use Prim.Native.Nat.{ℕ}
use lib.Dec.{eqb}
use lib.ListN.{get_or}
use Rattle.table.proofs.Bools.{and_left, and_right}
use Rattle.table.specs.Syntax.{Term, var, app, Terms, nil, ◌then◌, Literal}
use Rattle.text.specs.Quoted.{bytes}
use Rattle.clausetext.specs.declared.kind.Kind.{Kind}
use Rattle.clausetext.specs.declared.kind.Kind.TheVariants.{Lower}
use Rattle.clausetext.specs.Kinds.{kind_of, goes_on}
use Rattle.naming.specs.Shown.{Names, sign_text}
use Rattle.naming.specs.Texts.{term_text, arguments_text, further_text, literal_text, going_on, Begins, begins, TermNamed, TermsNamed}
use Rattle.rules.proofs.Every.{end, ◌also◌, all_first, all_rest, all_append, true_false}
use Rattle.printed.proofs.Cutting.{Free}

module _ (sign : ℕ) (ends : goes_on (kind_of sign) ≡ false) (signs : Free sign (bytes "(),~ ")) where
  goes-free : (c : ℕ) → goes_on (kind_of c) ≡ true → eqb c sign ≡ false
  goes-free c k = go (eqb c sign) refl
    where
      go : (b : Bool) → eqb c sign ≡ b → b ≡ false
      go true e = true_false k (ap (λ (d : ℕ). goes_on (kind_of d)) (eqb-true c sign e) ∙ ends)
      go false e = refl

  going-free : (w : List ℕ) → going_on w ≡ true → Free sign w
  unfolding going_on
  going-free [] e = end
  going-free (c ∷ w) e = goes-free c (and_left (goes_on (kind_of c)) (going_on w) e) also going-free w (and_right (goes_on (kind_of c)) (going_on w) e)

  begins-free : {kind : Kind} → goes_on kind ≡ true → {name : List ℕ} → Begins kind name → Free sign name
  begins-free g (begins {c = c} {w = w} k e) = goes-free c (ap (λ (j : Kind). goes_on j) k ∙ g) also going-free w e

  module _ (names : Names) where
    mutual
      unfolding TermNamed TermsNamed term_text arguments_text further_text

      term-free : (t : Term ℕ) → TermNamed names t → Free sign (term_text names t)
      term-free (var x) h = begins-free refl h
      term-free (app f ts) h = all_append (begins-free refl h.0) (arguments-free ts h.1)

      arguments-free : (ts : Terms ℕ) → TermsNamed names ts → Free sign (arguments_text names ts)
      arguments-free nil h = end
      arguments-free (t then ts) h = all_first signs also all_append (term-free t h.0) (further_free ts h.1)

      further_free : (ts : Terms ℕ) → TermsNamed names ts → Free sign (further_text names ts)
      further_free nil h = all_first (all_rest signs) also end
      further_free (t then ts) h = all_first (all_rest (all_rest signs)) also all_append (term-free t h.0) (further_free ts h.1)

    sign-free : (n : Bool) → Free sign (sign_text n)
    unfolding sign_text
    sign-free true = all_rest (all_rest (all_rest signs))
    sign-free false = end

    pub literal_free : (l : Literal ℕ) → Begins Lower (get_or names.predicates l.predicate []) → TermsNamed names l.arguments → Free sign (literal_text names l)
    unfolding literal_text
    literal_free l h k = all_append (all_append (sign-free l.negative) (begins-free refl h)) (arguments-free l.arguments k)
