-- A literal with a blank before it or after it is read as the literal.
use mathlib.Core.Bool.{false}
use mathlib.Core.List.{List, [], ◌∷◌, ◌++◌}
use mathlib.Core.Path.{◌≡◌, refl}
use Prim.Native.Nat.{ℕ}
use native.Mathlib.Omega.{arith}
use Rattle.clausetext.specs.Kinds.{kind_of}
use Rattle.clausetext.specs.Syntax.{Literal}
use Rattle.clausetext.specs.Tokens.{Token, word_ahead, Word, ends, goes, Spelt, nothing, blank, comment, sign, lower, upper, Remark, stops, closes, further}
use Rattle.naming.specs.Texts.{ReadAs}

abbrev space : ℕ
space = 32

ahead : (text : List ℕ) → word_ahead text ≡ false → word_ahead (text ++ (space ∷ [])) ≡ false
unfolding word_ahead kind_of
ahead [] h = refl
ahead (c ∷ text) h = h

word_before_blank : {w text rest : List ℕ} → Word w text rest → Word w (text ++ (space ∷ [])) (rest ++ (space ∷ []))
word_before_blank {text = text} (ends h) = ends (ahead text h)
word_before_blank (goes k x) = goes k (word_before_blank x)

mutual
  unfolding kind_of

  spelt_before_blank : {ts : List Token} {text : List ℕ} → Spelt ts text → Spelt ts (text ++ (space ∷ []))
  spelt_before_blank nothing = blank refl nothing
  spelt_before_blank (blank k s) = blank k (spelt_before_blank s)
  spelt_before_blank (comment k r) = comment k (remark_before_blank r)
  spelt_before_blank (sign k s) = sign k (spelt_before_blank s)
  spelt_before_blank (lower k w s) = lower k (word_before_blank w) (spelt_before_blank s)
  spelt_before_blank (upper k w s) = upper k (word_before_blank w) (spelt_before_blank s)

  remark_before_blank : {ts : List Token} {text : List ℕ} → Remark ts text → Remark ts (text ++ (space ∷ []))
  remark_before_blank stops = further (λ (e : ◌≡◌ {A = ℕ} 32 10). omega arith) stops
  remark_before_blank (closes e s) = closes e (spelt_before_blank s)
  remark_before_blank (further n r) = further n (remark_before_blank r)

pub before_blank : {text : List ℕ} {l : Literal} → ReadAs text l → ReadAs (text ++ (space ∷ [])) l
before_blank r = record { tokens = r.tokens; spelt = spelt_before_blank r.spelt; rule = r.rule }

pub after_blank : {text : List ℕ} {l : Literal} → ReadAs text l → ReadAs (space ∷ text) l
unfolding kind_of
after_blank r = record { tokens = r.tokens; spelt = blank refl r.spelt; rule = r.rule }
