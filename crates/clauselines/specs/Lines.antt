-- The text of a table (document 02, order 2): one clause a line, ended by LF, as `cnf(c0,axiom,(p1(f1,f2) | ~ p2(X0))).`, numbers decimal.
use Rattle.std.specs.Prelude.{Bool, true, false, List, [], ◌∷◌, ◌++◌, ℕ, suc, length}
use Rattle.table.specs.Syntax.{Term, var, app, Terms, nil, ◌then◌, Literal, Clause, Table}
use Rattle.text.specs.Quoted.{bytes}
use Rattle.text.specs.Digits.{decimal_text}

-- a variable is `X` and its number, a function or constant `f` and its number, then its arguments
unfoldable mutual
  pub term_text : Term ℕ → List ℕ
  term_text (var x) = bytes "X" ++ decimal_text x
  term_text (app f ts) = bytes "f" ++ decimal_text f ++ arguments_text ts

  -- arguments stand in parentheses; where there are none, there are no parentheses
  pub arguments_text : Terms ℕ → List ℕ
  arguments_text nil = []
  arguments_text (t then ts) = bytes "(" ++ term_text t ++ further_text ts

  -- a comma before each further argument, and the parenthesis after the last
  pub further_text : Terms ℕ → List ℕ
  further_text nil = bytes ")"
  further_text (t then ts) = bytes "," ++ term_text t ++ further_text ts

-- a negative literal has `~` and a space before its atom
unfoldable pub sign_text : Bool → List ℕ
sign_text true = bytes "~ "
sign_text false = []

-- an atom is `p` and the predicate's number, then its arguments
unfoldable pub literal_text : Literal ℕ → List ℕ
literal_text l = sign_text l.negative ++ bytes "p" ++ decimal_text l.predicate ++ arguments_text l.arguments

-- `|` with a space on either side before each further literal
unfoldable pub alternatives_text : List (Literal ℕ) → List ℕ
alternatives_text [] = []
alternatives_text (l ∷ ls) = bytes " | " ++ literal_text l ++ alternatives_text ls

unfoldable pub literals_text : List (Literal ℕ) → List ℕ
literals_text [] = []
literals_text (l ∷ ls) = literal_text l ++ alternatives_text ls

-- the question is the negated_conjecture, every other clause an axiom
unfoldable pub role_text : Bool → List ℕ
role_text true = bytes "negated_conjecture"
role_text false = bytes "axiom"

-- a clause's line: its name is `c` and its number; its literals stand in parentheses, a single one too
unfoldable pub clause_text : (number : ℕ) → (asked : Bool) → Clause → List ℕ
clause_text number asked c =
    bytes "cnf(c" ++ decimal_text number ++ bytes "," ++ role_text asked ++ bytes ",(" ++ literals_text c.literals ++ bytes ")).\n"

-- clauses in the order of their numbers, from a number on, none of them the question
unfoldable pub axioms_text : ℕ → List Clause → List ℕ
axioms_text number [] = []
axioms_text number (c ∷ cs) = clause_text number false c ++ axioms_text (suc number) cs

-- the question is the last
unfoldable pub table_text : Table → List ℕ
table_text t = axioms_text 0 t.clauses ++ clause_text (length t.clauses) true t.question
