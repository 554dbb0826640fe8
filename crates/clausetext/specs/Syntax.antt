-- What a text says: clauses over names. A name is its bytes.
use Rattle.std.specs.Prelude.{Bool, List, [], ◌∷◌, ℕ}
use Prim.Native.Char.{code}
use Prim.Native.String.{String}

-- A term is a variable, or a function or constant with its arguments, each of them a term.
mutual
  pub data Term : Type 0 where
    variable : List ℕ → Term
    application : List ℕ → Terms → Term

  pub data Terms : Type 0 where
    nil : Terms
    ◌then◌ : Term → Terms → Terms

infixr 50 ◌then◌
-- A literal is an atom, a predicate with its arguments, and a sign.
pub record Literal : Type 0 where
  pub negative : Bool
  pub predicate : List ℕ
  pub arguments : Terms

pub data Role : Type 0 where
  Axiom Hypothesis NegatedConjecture : Role

-- the bytes of a text in ASCII
abbrev pub ascii : String → List ℕ
ascii String.[] = []
ascii (String.◌∷◌ c s) = code c ∷ ascii s

abbrev pub role_name : Role → List ℕ
role_name Axiom = ascii "axiom"
role_name Hypothesis = ascii "hypothesis"
role_name NegatedConjecture = ascii "negated_conjecture"

-- A clause has a name, a role and the literals of its disjunction.
pub record Clause : Type 0 where
  pub name : List ℕ
  pub role : Role
  pub literals : List Literal

-- a clause in the role negated_conjecture is a question
abbrev pub question : Role → ℕ
question Axiom = 0
question Hypothesis = 0
question NegatedConjecture = 1
