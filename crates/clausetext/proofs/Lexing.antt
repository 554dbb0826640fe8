-- The code that goes through a text, one law for each outcome, with premises as the code has them.
use Rattle.std.specs.Prelude.{Some, None}
use mathlib.Core.Path.{◌≡◌, refl, sym, ◌∙◌}
use mathlib.Core.Bool.{Bool, true, false, cond, not}
use mathlib.Core.List.{List, [], ◌∷◌}
use borrow.Author.Tests.{not-true, not-false}
use Rattle.std.proofs.Common.{◌⊎◌, inl, inr}
use Prim.Native.Nat.{ℕ, suc, ◌+◌, ◌≤◌, ◌<◌}
use native.Mathlib.Omega.{arith}
use native.Mathlib.Numerals.{add-one}
use lib.Dec.{eqb}
use lib.ListN.{length, drop, get_or, drop_of_length-le}
use lib.Seq.{drop-cons}
use Rattle.clausetext.specs.declared.kind.Mark.{Mark}
use Rattle.clausetext.specs.declared.kind.Kind.{Kind}
use Rattle.clausetext.specs.declared.kind.Kind.TheVariants.{Blank, Percent, Lower, Upper, Further, Sign, Other}
use Rattle.clausetext.specs.declared.token.Lexeme.TheVariants.{Word, Capital, Sign as Single}
use Rattle.clausetext.specs.Kinds.{kind_of, goes_on}
use Rattle.clausetext.specs.Lexemes.{word_length, lexeme_from, lexeme_at}

-- a text from a position on: the byte there, and the text from the next one on
pub from_place : (text : List ℕ) (at : ℕ) → at < length text → drop at text ≡ get_or text at 0 ∷ drop (at + 1) text
from_place text at h = rw (add-one, drop-cons text at 0 h)

-- where the letters, digits and `_` at the front end
abbrev pub Ending : List ℕ → ℕ → Type 0
Ending text at = word_length text ≡ at + word_length (drop at text)

module _ (text : List ℕ) {at : ℕ} (g : Ending text at) where
  pub word_over : length text ≤ at → at ≤ length text → length text ≡ word_length text
  unfolding word_length
  word_over h l = let s = rw (drop_of_length-le text h) at g in omega arith

  module _ (h : at < length text) {k : Kind} (ek : k ≡ kind_of (get_or text at 0)) {q : Bool} (eq : q ≡ goes_on k) where
    pub word_stops : not q ≡ true → at ≡ word_length text
    unfolding word_length
    word_stops p =
        let s = rw (from_place text at h, ← ek, sym eq ∙ not-true q p) at g in omega arith

    pub word_on : not q ≡ false → Ending text (at + 1)
    unfolding word_length
    word_on p = let s = rw (from_place text at h, ← ek, sym eq ∙ not-false q p) at g in omega arith

pub word_within : (text : List ℕ) → word_length text ≤ length text
unfolding word_length
word_within [] = omega arith
word_within (c ∷ text) = by_test (goes_on (kind_of c)) (word_within text)
  where
    by_test : (b : Bool) → word_length text ≤ length text → cond b (suc (word_length text)) 0 ≤ suc (length text)
    by_test true h = omega arith
    by_test false h = omega arith

-- the first token from a position on
pub record Passing (text : List ℕ) (from at : ℕ) (remark : Bool) : Type 0 where
  pub same : lexeme_at text from ≡ lexeme_from remark at (drop at text)

pub pass_begin : (text : List ℕ) (from : ℕ) → Passing text from from false
unfolding lexeme_at
pass_begin text from = record { same = refl }

module _ {text : List ℕ} {from at : ℕ} {remark : Bool} (g : Passing text from at remark) where
  pub pass_over : length text ≤ at → None ≡ lexeme_at text from
  unfolding lexeme_from
  pass_over h = sym (g.same ∙ rw (drop_of_length-le text h))

  module _ (h : at < length text) where
    pub pass_remark : remark ≡ true → Passing text from (at + 1) (not (eqb (get_or text at 0) 10))
    unfolding lexeme_from
    pass_remark r = record { same = g.same ∙ rw (from_place text at h, r) }

    module _ (r : remark ≡ false) {k : Kind} (ek : k ≡ kind_of (get_or text at 0)) where
      pub pass_blank : k ≡ Blank → Passing text from (at + 1) remark
      unfolding lexeme_from
      pass_blank e = record { same = g.same ∙ rw (from_place text at h, r, sym ek ∙ e) }

      pub pass_percent : k ≡ Percent → Passing text from (at + 1) true
      unfolding lexeme_from
      pass_percent e = record { same = g.same ∙ rw (from_place text at h, r, sym ek ∙ e) }

      pub pass_lower : k ≡ Lower → {stop : ℕ} → stop ≡ at + 1 + word_length (drop (at + 1) text) → Some (Word at stop) ≡ lexeme_at text from
      unfolding lexeme_from
      pass_lower e s = sym (g.same ∙ rw (from_place text at h, r, sym ek ∙ e, s))

      pub pass_upper : k ≡ Upper → {stop : ℕ} → stop ≡ at + 1 + word_length (drop (at + 1) text) → Some (Capital at stop) ≡ lexeme_at text from
      unfolding lexeme_from
      pass_upper e s = sym (g.same ∙ rw (from_place text at h, r, sym ek ∙ e, s))

      pub pass_sign : {m : Mark} → k ≡ Sign m → Some (Single m (at + 1)) ≡ lexeme_at text from
      unfolding lexeme_from
      pass_sign e = sym (g.same ∙ rw (from_place text at h, r, sym ek ∙ e))

      pub pass_no_token : ((k ≡ Further) ⊎ (k ≡ Other)) → None ≡ lexeme_at text from
      unfolding lexeme_from
      pass_no_token (inl e) = sym (g.same ∙ rw (from_place text at h, r, sym ek ∙ e))
      pass_no_token (inr e) = sym (g.same ∙ rw (from_place text at h, r, sym ek ∙ e))
