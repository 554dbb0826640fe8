-- Machinery: need not be believed, since proofs/Meaning shows that it is the one inverse of Encode (decode_encode, encode_decode).
-- What the words of a body say, as terms, literals, clauses and a table (Syntax). Prefix code read from the right with a stack: a variable is
-- pushed, a symbol takes as many terms off as it has arguments and is pushed. So the first term of a list of words is the term that stands
-- where the list begins, and the others are the terms after it, up to the next literal.
use Rattle.std.specs.Prelude.{false, cond, List, [], ◌∷◌, map, ℕ, zero, suc, eqb, take, drop}
use Rattle.words.specs.Fields.{kind_of, number_of, symbol_of, arity_of, negative_of, variables_of, following_of, restricted_of}
use Rattle.table.specs.Syntax.{Term, var, app, Terms, nil, ◌then◌, Literal, Clause, Table}

unfoldable pub first : {X : Type 0} → ℕ → Terms X → Terms X
first zero ts = nil
first (suc n) nil = nil
first (suc n) (t then ts) = t then first n ts

unfoldable pub rest : {X : Type 0} → ℕ → Terms X → Terms X
rest zero ts = ts
rest (suc n) nil = nil
rest (suc n) (t then ts) = rest n ts

-- a word before terms, by its kind: a variable, a function or constant, any other
unfoldable pub before : ℕ → ℕ → Terms ℕ → Terms ℕ
before zero w ts = var (number_of w) then ts
before (suc zero) w ts = app (symbol_of w) (first (arity_of w) ts) then rest (arity_of w) ts
before (suc (suc other)) w ts = nil

unfoldable pub terms_from : List ℕ → Terms ℕ
terms_from [] = nil
terms_from (w ∷ ws) = before (kind_of w) w (terms_from ws)

-- a literal's word before its arguments, and the literals after them
abbrev pub literal_of : ℕ → Terms ℕ → Literal ℕ
literal_of w ts = record { negative = negative_of w; predicate = symbol_of w; arguments = ts }

unfoldable pub before_literals : ℕ → Terms ℕ → List (Literal ℕ) → List (Literal ℕ)
before_literals w ts ls = cond (eqb (kind_of w) 2) (literal_of w ts ∷ ls) ls

unfoldable pub literals_from : List ℕ → List (Literal ℕ)
literals_from [] = []
literals_from (w ∷ ws) = before_literals w (terms_from ws) (literals_from ws)

-- a clause from its own words
unfoldable pub clause_of : List ℕ → Clause
clause_of [] = record { restricted = false; variables = 0; literals = [] }
clause_of (w ∷ ws) = record { restricted = restricted_of w; variables = variables_of w; literals = literals_from ws }

-- the clauses' words, one part for each clause; the number counts the words still to pass of the present clause
unfoldable pub parts_from : ℕ → List ℕ → List (List ℕ)
parts_from passing [] = []
parts_from (suc passing) (w ∷ ws) = parts_from passing ws
parts_from zero (w ∷ ws) = (w ∷ take (following_of w) ws) ∷ parts_from (following_of w) ws

unfoldable pub clauses_of : List ℕ → List Clause
clauses_of body = map clause_of (parts_from 0 body)

-- the last clause is the question
unfoldable pub with_question : Clause → List Clause → Table
with_question c [] = record { clauses = []; question = c }
with_question c (d ∷ ds) = record { clauses = c ∷ (with_question d ds).clauses; question = (with_question d ds).question }

unfoldable pub as_table : List Clause → Table
as_table [] = record { clauses = []; question = record { restricted = false; variables = 0; literals = [] } }
as_table (c ∷ cs) = with_question c cs

-- the table of a body
unfoldable pub table_of : List ℕ → Table
table_of body = as_table (clauses_of body)

-- the terms from a position of a body on, so many; and the term there
unfoldable pub terms_at : List ℕ → ℕ → ℕ → Terms ℕ
terms_at words count at = first count (terms_from (drop at words))

unfoldable pub head_term : Terms ℕ → Term ℕ
head_term nil = var 0
head_term (t then ts) = t

unfoldable pub term_at : List ℕ → ℕ → Term ℕ
term_at words at = head_term (terms_from (drop at words))
