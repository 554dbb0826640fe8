-- A text as tokens: names, variables and signs, with blanks and comments before, between and after them (document 02, order 1).
use Rattle.std.specs.Prelude.{◌≡◌, Bool, true, false, List, [], ◌∷◌, ℕ}
use Prim.Native.Char.{code}
use Rattle.clausetext.specs.declared.kind.Mark.{Mark}
use Rattle.clausetext.specs.declared.kind.Kind.TheVariants.{Blank, Percent, Lower, Upper, Sign}
use Rattle.clausetext.specs.Kinds.{kind_of, goes_on}

-- a word that begins lower-case, one that begins upper-case, a sign
pub data Token : Type 0 where
  word : List ℕ → Token
  capital : List ℕ → Token
  mark : Mark → Token

-- a letter, a digit or `_` comes next
unfoldable pub word_ahead : List ℕ → Bool
word_ahead [] = false
word_ahead (c ∷ text) = goes_on (kind_of c)

-- `Word w text rest`: a word goes on in the bytes w, up to the rest, in which no letter, digit or `_` comes next
pub data Word : List ℕ → List ℕ → List ℕ → Type 0 where
  ends : {text : List ℕ} → word_ahead text ≡ false → Word [] text text
  goes : {c : ℕ} {w text rest : List ℕ} → goes_on (kind_of c) ≡ true → Word w text rest → Word (c ∷ w) (c ∷ text) rest

-- `Spelt ts text`: the text is these tokens in turn; before, between and after them stand blanks and comments.
-- `Remark ts text`: the same of a text that begins inside a comment, which runs to LF or, after the last token, to the text's end.
mutual
  pub data Spelt : List Token → List ℕ → Type 0 where
    nothing : Spelt [] []
    blank : {c : ℕ} {ts : List Token} {text : List ℕ} → kind_of c ≡ Blank → Spelt ts text → Spelt ts (c ∷ text)
    comment : {c : ℕ} {ts : List Token} {text : List ℕ} → kind_of c ≡ Percent → Remark ts text → Spelt ts (c ∷ text)
    sign : {c : ℕ} {m : Mark} {ts : List Token} {text : List ℕ} → kind_of c ≡ Sign m → Spelt ts text → Spelt (mark m ∷ ts) (c ∷ text)
    lower : {c : ℕ} {w : List ℕ} {ts : List Token} {text rest : List ℕ} → kind_of c ≡ Lower → Word w text rest → Spelt ts rest → Spelt (word (c ∷ w) ∷ ts) (c ∷ text)
    upper : {c : ℕ} {w : List ℕ} {ts : List Token} {text rest : List ℕ} → kind_of c ≡ Upper → Word w text rest → Spelt ts rest → Spelt (capital (c ∷ w) ∷ ts) (c ∷ text)

  pub data Remark : List Token → List ℕ → Type 0 where
    stops : Remark [] []
    closes : {c : ℕ} {ts : List Token} {text : List ℕ} → c ≡ code "\n" → Spelt ts text → Remark ts (c ∷ text)
    further : {c : ℕ} {ts : List Token} {text : List ℕ} → (c ≡ code "\n" → ⊥) → Remark ts text → Remark ts (c ∷ text)
