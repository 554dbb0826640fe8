-- The first token from a position of a text on, and its place: how the code goes through a text. Machinery; what it is of a permitted text is in proofs/Walking.
use Rattle.std.specs.Prelude.{Option, Some, None, Bool, true, false, not, cond, List, [], ◌∷◌, ℕ, suc, ◌+◌, eqb, drop}
use Rattle.clausetext.specs.declared.kind.Kind.{Kind}
use Rattle.clausetext.specs.declared.kind.Kind.TheVariants.{Blank, Percent, Lower, Upper, Further, Sign, Other}
use Rattle.clausetext.specs.declared.token.Lexeme.{Lexeme}
use Rattle.clausetext.specs.declared.token.Lexeme.TheVariants.{Word, Capital, Sign as Single}
use Rattle.clausetext.specs.Kinds.{kind_of, goes_on}

-- the letters, digits and `_` at the front
unfoldable pub word_length : List ℕ → ℕ
word_length [] = 0
word_length (c ∷ text) = cond (goes_on (kind_of c)) (suc (word_length text)) 0

-- a byte between tokens: the token that it begins, or whether a comment is begun
abbrev pub lexeme_by : Kind → ℕ → ℕ → (Bool → Option Lexeme) → Option Lexeme
lexeme_by Blank at stop rest = rest false
lexeme_by Percent at stop rest = rest true
lexeme_by Lower at stop rest = Some (Word at stop)
lexeme_by Upper at stop rest = Some (Capital at stop)
lexeme_by Further at stop rest = None
lexeme_by (Sign m) at stop rest = Some (Single m (at + 1))
lexeme_by Other at stop rest = None

-- and in a comment
abbrev pub lexeme_in : Bool → ℕ → Kind → ℕ → ℕ → (Bool → Option Lexeme) → Option Lexeme
lexeme_in true c k at stop rest = rest (not (eqb c 10))
lexeme_in false c k at stop rest = lexeme_by k at stop rest

unfoldable pub lexeme_from : Bool → ℕ → List ℕ → Option Lexeme
lexeme_from remark at [] = None
lexeme_from remark at (c ∷ text) =
    lexeme_in remark c (kind_of c) at (at + 1 + word_length text) (λ b. lexeme_from b (at + 1) text)

unfoldable pub lexeme_at : List ℕ → ℕ → Option Lexeme
lexeme_at text at = lexeme_from false at (drop at text)
