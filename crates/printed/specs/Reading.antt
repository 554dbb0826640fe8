-- What a printed answer says, its literals read as clause text is (document 02, order 1): a line for each disjunct, `or` before each but the first;
-- in a line literals, with `&` between them.
use Rattle.std.specs.Prelude.{cond, ◌≡◌, ℕ, eqb}
use mathlib.Core.List.{List, [], ◌∷◌, ◌++◌, map, flatten}
use Prim.Native.Char.{code}
use Rattle.clausetext.specs.Syntax.{Literal, Clause}
use Rattle.table.specs.Syntax.{Literal as LiteralSaid}
use Rattle.text.specs.Quoted.{bytes}
use Rattle.tptp.specs.Said.{predicates, functions, variables, literals_said}
use Rattle.naming.specs.Texts.{ReadAs}

-- the parts of a text before, between and after the places where a byte stands
abbrev pub begun : ℕ → List (List ℕ) → List (List ℕ)
begun c [] = (c ∷ []) ∷ []
begun c (part ∷ parts) = (c ∷ part) ∷ parts

unfoldable pub cut_at : ℕ → List ℕ → List (List ℕ)
cut_at sign [] = [] ∷ []
cut_at sign (c ∷ text) = cond (eqb c sign) ([] ∷ cut_at sign text) (begun c (cut_at sign text))

-- each part is a literal, by the tokens and the grammar of clause text
pub data Conjuncts : List (List ℕ) → List Literal → Type 0 where
  none : Conjuncts [] []
  more : {part : List ℕ} {l : Literal} {parts : List (List ℕ)} {ls : List Literal} → ReadAs part l → Conjuncts parts ls → Conjuncts (part ∷ parts) (l ∷ ls)

abbrev pub LineSays : List ℕ → List Literal → Type 0
LineSays line ls = Conjuncts (cut_at (code "&") line) ls

pub data FurtherLines : List (List ℕ) → List (List Literal) → Type 0 where
  none : FurtherLines [] []
  more : {line : List ℕ} {ls : List Literal} {lines : List (List ℕ)} {ds : List (List Literal)} → LineSays line ls → FurtherLines lines ds
      → FurtherLines ((bytes "or " ++ line) ∷ lines) (ls ∷ ds)

pub data Lines : List (List ℕ) → List (List Literal) → Type 0 where
  lines : {line : List ℕ} {ls : List Literal} {rest : List (List ℕ)} {ds : List (List Literal)} → LineSays line ls → FurtherLines rest ds
      → Lines (line ∷ rest) (ls ∷ ds)

abbrev pub AnswerSays : List ℕ → List (List Literal) → Type 0
AnswerSays text ds = Lines (cut_at (code "\n") text) ds

-- With numbers in place of names: a symbol has the number that its name has in a text's clauses (a name that they do not use would have the number
-- after all of them, which no answer of theirs has), a variable the number of its first use over the whole answer.
unfoldable pub answer_said : List Clause → List (List Literal) → List (List (LiteralSaid ℕ))
answer_said cs ds = map (literals_said (predicates cs) (functions cs) (variables (flatten ds))) ds

pub record PrintedSays (cs : List Clause) (text : List ℕ) (ds : List (List (LiteralSaid ℕ))) : Type 0 where
  pub spoken : List (List Literal)
  pub says : AnswerSays text spoken
  pub said : ds ≡ answer_said cs spoken
