-- The subset's grammar over tokens (document 02, order 1), each rule with what it says.
-- `Rule what from rest`: from the front of the tokens `from` the rule takes some that say `what`, and leaves `rest`.
use Rattle.std.specs.Prelude.{true, false, List, [], ◌∷◌, ℕ}
use Rattle.clausetext.specs.declared.kind.Mark.TheVariants.{Open, Close, Comma, Bar, Tilde, Dot}
use Rattle.clausetext.specs.Syntax.{Term, variable, application, Terms, nil, ◌then◌, Literal, Role, ascii, role_name, Clause}
use Rattle.clausetext.specs.Tokens.{Token, word, capital, mark}

-- a name with or without arguments; a term; one or more terms with `,` between them, up to the `)` after the last
mutual
  pub data Applied : List ℕ → Terms → List Token → List Token → Type 0 where
    bare : {f : List ℕ} {rest : List Token} → Applied f nil (word f ∷ rest) rest
    applied : {f : List ℕ} {ts : Terms} {from rest : List Token} → Arguments ts from rest → Applied f ts (word f ∷ mark Open ∷ from) rest

  pub data TermRule : Term → List Token → List Token → Type 0 where
    upper : {x : List ℕ} {rest : List Token} → TermRule (variable x) (capital x ∷ rest) rest
    lower : {f : List ℕ} {ts : Terms} {from rest : List Token} → Applied f ts from rest → TermRule (application f ts) from rest

  pub data Arguments : Terms → List Token → List Token → Type 0 where
    last : {t : Term} {from rest : List Token} → TermRule t from (mark Close ∷ rest) → Arguments (t then nil) from rest
    more : {t : Term} {ts : Terms} {from mid rest : List Token} → TermRule t from (mark Comma ∷ mid) → Arguments ts mid rest → Arguments (t then ts) from rest

-- at most one `~` before an atom
pub data LiteralRule : Literal → List Token → List Token → Type 0 where
  positive : {p : List ℕ} {ts : Terms} {from rest : List Token} → Applied p ts from rest → LiteralRule (record { negative = false; predicate = p; arguments = ts }) from rest
  negated : {p : List ℕ} {ts : Terms} {from rest : List Token} → Applied p ts from rest → LiteralRule (record { negative = true; predicate = p; arguments = ts }) (mark Tilde ∷ from) rest

-- literals with `|` between them
pub data Disjunction : List Literal → List Token → List Token → Type 0 where
  last : {l : Literal} {from rest : List Token} → LiteralRule l from rest → Disjunction (l ∷ []) from rest
  more : {l : Literal} {ls : List Literal} {from mid rest : List Token} → LiteralRule l from (mark Bar ∷ mid) → Disjunction ls mid rest → Disjunction (l ∷ ls) from rest

-- at most one pair of parentheses, around the whole disjunction
pub data Formula : List Literal → List Token → List Token → Type 0 where
  plain : {ls : List Literal} {from rest : List Token} → Disjunction ls from rest → Formula ls from rest
  bracketed : {ls : List Literal} {from rest : List Token} → Disjunction ls from (mark Close ∷ rest) → Formula ls (mark Open ∷ from) rest

-- `cnf(name,role,formula).`
abbrev pub cnf : List ℕ
cnf = ascii "cnf"

pub data ClauseRule : Clause → List Token → List Token → Type 0 where
  clause : {n : List ℕ} {r : Role} {ls : List Literal} {from rest : List Token} → Formula ls from (mark Close ∷ mark Dot ∷ rest)
      → ClauseRule (record { name = n; role = r; literals = ls })
      (word cnf ∷ mark Open ∷ word n ∷ mark Comma ∷ word (role_name r) ∷ mark Comma ∷ from)
      rest

-- clauses one after the other; a text without clauses is permitted
pub data Clauses : List Clause → List Token → Type 0 where
  none : Clauses [] []
  more : {c : Clause} {cs : List Clause} {from rest : List Token} → ClauseRule c from rest → Clauses cs rest → Clauses (c ∷ cs) from
