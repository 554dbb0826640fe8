-- Through the tokens of a text: where the text from a position on is a token and then others, the next token found is that one,
-- and from its end on the text is the others.
use Rattle.std.specs.Prelude.{Option, Some, None}
use mathlib.Core.Path.{◌≡◌, refl, sym, ap, ◌∙◌}
use mathlib.Core.Bool.{Bool, true, false}
use mathlib.Core.List.{List, [], ◌∷◌}
use Prim.Native.Nat.{ℕ, suc, ◌+◌, ◌-◌, ◌≤◌, ◌<◌}
use native.Mathlib.Omega.{arith}
use lib.ListN.{length, take, drop, length-drop}
use lib.Seq.{drop-drop}
use borrow.Author.Tests.{eq-eqb, ne_eqb}
use Rattle.clausetext.specs.declared.kind.Mark.{Mark}
use Rattle.clausetext.specs.declared.kind.Kind.TheVariants.{Blank, Percent, Lower, Upper, Sign}
use Rattle.clausetext.specs.declared.token.Lexeme.{Lexeme}
use Rattle.clausetext.specs.declared.token.Lexeme.TheVariants.{Word as Lettered, Capital, Sign as Single}
use Rattle.clausetext.specs.Kinds.{kind_of, goes_on}
use Rattle.clausetext.specs.Tokens.{Token, word, capital, mark, word_ahead, Word, ends, goes, Spelt, nothing, blank, comment, sign, lower, upper, Remark, stops, closes, further}
use Rattle.clausetext.specs.Lexemes.{word_length, lexeme_from, lexeme_at}

-- a token at the very front
data Head : Token → List Token → ℕ → List ℕ → Type 0 where
  marked : {c : ℕ} {m : Mark} {ts : List Token} {text : List ℕ} → kind_of c ≡ Sign m → Spelt ts text → Head (mark m) ts c text
  worded : {c : ℕ} {w : List ℕ} {ts : List Token} {text rest : List ℕ} → kind_of c ≡ Lower → Word w text rest → Spelt ts rest → Head (word (c ∷ w)) ts c text
  titled : {c : ℕ} {w : List ℕ} {ts : List Token} {text rest : List ℕ} → kind_of c ≡ Upper → Word w text rest → Spelt ts rest → Head (capital (c ∷ w)) ts c text

-- the blanks and comments before it passed
record Ahead (remark : Bool) (t : Token) (ts : List Token) (at : ℕ) (text : List ℕ) : Type 0 where
  pub gap : ℕ
  pub first : ℕ
  pub rest : List ℕ
  pub there : drop gap text ≡ first ∷ rest
  pub found : lexeme_from remark at text ≡ lexeme_from false (at + gap) (first ∷ rest)
  pub head : Head t ts first rest

here : {t : Token} {ts : List Token} {c : ℕ} {text : List ℕ} (at : ℕ) → Head t ts c text → Ahead false t ts at (c ∷ text)
here {c = c} {text = text} at h =
    let z : at ≡ at + 0 = omega arith in
    record { gap = 0; first = c; rest = text; there = refl; found = ap (λ (n : ℕ). lexeme_from false n (c ∷ text)) z; head = h }

later : {remark inside : Bool} {t : Token} {ts : List Token} {c : ℕ} {text : List ℕ} (at : ℕ) → lexeme_from remark at (c ∷ text) ≡ lexeme_from inside (at + 1) text → Ahead inside t ts (at + 1) text → Ahead remark t ts at (c ∷ text)
later at e a =
    let z : at + 1 + a.gap ≡ at + suc a.gap = omega arith in
    record {
      gap = suc a.gap;
      first = a.first;
      rest = a.rest;
      there = a.there;
      found = e ∙ a.found ∙ ap (λ (n : ℕ). lexeme_from false n (a.first ∷ a.rest)) z;
      head = a.head;
    }

module _ (c : ℕ) (text : List ℕ) (at : ℕ) where
  blank-passed : kind_of c ≡ Blank → lexeme_from false at (c ∷ text) ≡ lexeme_from false (at + 1) text
  unfolding lexeme_from
  blank-passed k = rw k

  percent-passed : kind_of c ≡ Percent → lexeme_from false at (c ∷ text) ≡ lexeme_from true (at + 1) text
  unfolding lexeme_from
  percent-passed k = rw k

  feed-passed : c ≡ 10 → lexeme_from true at (c ∷ text) ≡ lexeme_from false (at + 1) text
  unfolding lexeme_from
  feed-passed k = rw (eq-eqb c 10 k)

  remark-passed : (c ≡ 10 → ⊥) → lexeme_from true at (c ∷ text) ≡ lexeme_from true (at + 1) text
  unfolding lexeme_from
  remark-passed k = rw (ne_eqb c 10 k)

nothing_found : (remark : Bool) (at : ℕ) → lexeme_from remark at [] ≡ None
unfolding lexeme_from
nothing_found remark at = refl

-- what is found in a text of these tokens
abbrev Coming : Bool → List Token → ℕ → List ℕ → Type 0
Coming remark [] at text = lexeme_from remark at text ≡ None
Coming remark (t ∷ ts) at text = Ahead remark t ts at text

coming_later : (remark inside : Bool) (ts : List Token) (at c : ℕ) (text : List ℕ) → lexeme_from remark at (c ∷ text) ≡ lexeme_from inside (at + 1) text → Coming inside ts (at + 1) text → Coming remark ts at (c ∷ text)
coming_later remark inside [] at c text e f = e ∙ f
coming_later remark inside (t ∷ ts) at c text e f = later at e f

mutual
  spelt_coming : {ts : List Token} {text : List ℕ} → Spelt ts text → (at : ℕ) → Coming false ts at text
  spelt_coming nothing at = nothing_found false at
  spelt_coming (blank {c = c} {ts = ts} {text = text} k sp) at =
      coming_later false false ts at c text (blank-passed c text at k) (spelt_coming sp (at + 1))
  spelt_coming (comment {c = c} {ts = ts} {text = text} k m) at =
      coming_later false true ts at c text (percent-passed c text at k) (remark_coming m (at + 1))
  spelt_coming (sign k sp) at = here at (marked k sp)
  spelt_coming (lower k w sp) at = here at (worded k w sp)
  spelt_coming (upper k w sp) at = here at (titled k w sp)

  remark_coming : {ts : List Token} {text : List ℕ} → Remark ts text → (at : ℕ) → Coming true ts at text
  remark_coming stops at = nothing_found true at
  remark_coming (closes {c = c} {ts = ts} {text = text} k sp) at =
      coming_later true false ts at c text (feed-passed c text at k) (spelt_coming sp (at + 1))
  remark_coming (further {c = c} {ts = ts} {text = text} k m) at =
      coming_later true true ts at c text (remark-passed c text at k) (remark_coming m (at + 1))

-- a word's bytes
record Measured (w text rest : List ℕ) : Type 0 where
  pub size : word_length text ≡ length w
  pub bytes : take (length w) text ≡ w
  pub left : drop (length w) text ≡ rest
  pub within : length w ≤ length text

word_none : (text : List ℕ) → word_ahead text ≡ false → word_length text ≡ 0
unfolding word_length word_ahead
word_none [] a = refl
word_none (c ∷ text) a = rw a

word_some : (c : ℕ) (text : List ℕ) → goes_on (kind_of c) ≡ true → word_length (c ∷ text) ≡ suc (word_length text)
unfolding word_length
word_some c text k = rw k

measured : {w text rest : List ℕ} → Word w text rest → Measured w text rest
measured (ends {text = text} a) = record { size = word_none text a; bytes = refl; left = refl; within = omega arith }
measured (goes {c = c} {text = text} k x) =
    let m = measured x in
    record { size = word_some c text k ∙ ap suc m.size; bytes = ap (λ (l : List ℕ). c ∷ l) m.bytes; left = m.left; within = omega (arith, m.within) }

-- a word found: where it stands, and what is left
pub record WordFound (text : List ℕ) (at : ℕ) (w : List ℕ) (ts : List Token) (start stop : ℕ) : Type 0 where
  pub after : at ≤ start
  pub some : start < stop
  pub within : stop ≤ length text
  pub bytes : take (stop - start) (drop start text) ≡ w
  pub whole : word_length (drop start text) ≡ stop - start
  pub left : Spelt ts (drop stop text)

pub record SignFound (text : List ℕ) (at : ℕ) (ts : List Token) (next : ℕ) : Type 0 where
  pub after : at < next
  pub within : next ≤ length text
  pub left : Spelt ts (drop next text)

-- the token found is the first one
pub data Met (text : List ℕ) (at : ℕ) : List Token → Option Lexeme → Type 0 where
  over : Met text at [] None
  lettered : {w : List ℕ} {ts : List Token} {start stop : ℕ} → WordFound text at w ts start stop → Met text at (word w ∷ ts) (Some (Lettered start stop))
  titled : {x : List ℕ} {ts : List Token} {start stop : ℕ} → WordFound text at x ts start stop → Met text at (capital x ∷ ts) (Some (Capital start stop))
  single : {m : Mark} {ts : List Token} {next : ℕ} → SignFound text at ts next → Met text at (mark m ∷ ts) (Some (Single m next))

module _ (text : List ℕ) (at gap c : ℕ) (rest : List ℕ) (there : drop gap (drop at text) ≡ c ∷ rest) where
  started : drop (at + gap) text ≡ c ∷ rest
  started = sym (drop-drop gap at text) ∙ there

  room : at + gap + suc (length rest) ≤ length text
  room = let e = ap length started in omega (arith, simp length-drop at e)

  onwards : (n : ℕ) → drop (at + gap + suc n) text ≡ drop n rest
  onwards n = sym (drop-drop (suc n) (at + gap) text) ∙ ap (λ (l : List ℕ). drop (suc n) l) started

  word_stands : {v left : List ℕ} {ts : List Token} → goes_on (kind_of c) ≡ true → Word v rest left → Spelt ts left → WordFound text at (c ∷ v) ts (at + gap) (at + gap + suc (length v))
  word_stands {v} {left} {ts} k x sp =
      let m = measured x in
      let z : at + gap + suc (length v) - (at + gap) ≡ suc (length v) = omega arith in
      record {
        after = omega arith;
        some = omega arith;
        within = omega (arith, room, m.within);
        bytes = rw (z, started) (ap (λ (l : List ℕ). c ∷ l) m.bytes);
        whole = rw (z, started) (word_some c rest k ∙ ap suc m.size);
        left = rw (onwards (length v), m.left) sp;
      }

  word_place : {v left : List ℕ} → Word v rest left → at + gap + 1 + word_length rest ≡ at + gap + suc (length v)
  word_place x = omega (arith, (measured x).size)

  sign_stands : {ts : List Token} → Spelt ts rest → SignFound text at ts (at + gap + 1)
  sign_stands sp = record { after = omega arith; within = omega (arith, room); left = rw (onwards 0) sp }

  head_met : {t : Token} {ts : List Token} → Head t ts c rest → Met text at (t ∷ ts) (lexeme_from false (at + gap) (c ∷ rest))
  unfolding lexeme_from
  head_met (marked k sp) = rw k (single (sign_stands sp))
  head_met (worded k x sp) = rw (k, word_place x) (lettered (word_stands (rw k) x sp))
  head_met (Head.titled k x sp) = rw (k, word_place x) (titled (word_stands (rw k) x sp))

coming_met : (text : List ℕ) (at : ℕ) (ts : List Token) → Coming false ts at (drop at text) → Met text at ts (lexeme_at text at)
unfolding lexeme_at
coming_met text at [] e = rw e over
coming_met text at (t ∷ ts) a = rw a.found (head_met text at a.gap a.first a.rest a.there a.head)

pub met : {text : List ℕ} {at : ℕ} {ts : List Token} → Spelt ts (drop at text) → Met text at ts (lexeme_at text at)
met {text} {at} {ts} sp = coming_met text at ts (spelt_coming sp at)
