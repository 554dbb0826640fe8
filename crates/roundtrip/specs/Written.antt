-- The clauses that the text of a table says (document 02, order 2), as order 1 reads clauses: names over numbers.
use Rattle.std.specs.Prelude.{List, [], ◌∷◌, ◌++◌, map, ℕ, suc, length}
use Rattle.text.specs.Quoted.{bytes}
use Rattle.text.specs.Digits.{decimal_text}
use Rattle.names.specs.Numbers.{Name}
use Rattle.table.specs.Syntax.{Term, var, app, Terms, nil, ◌then◌, Literal, Clause, Table}
use Rattle.clausetext.specs.Syntax.{variable, application, nil as none, ◌then◌ as ◌and◌, Term as TermSaid, Terms as TermsSaid, Literal as LiteralSaid, Role, Axiom, NegatedConjecture, Clause as ClauseSaid}

-- a predicate is `p`, a function or constant `f`, a variable `X`, a clause `c`, with its number in decimal
abbrev pub predicate_name : ℕ → Name
predicate_name n = bytes "p" ++ decimal_text n

abbrev pub function_name : ℕ → Name
function_name n = bytes "f" ++ decimal_text n

abbrev pub variable_name : ℕ → Name
variable_name n = bytes "X" ++ decimal_text n

abbrev pub clause_name : ℕ → Name
clause_name n = bytes "c" ++ decimal_text n

unfoldable mutual
  pub term_written : Term ℕ → TermSaid
  term_written (var x) = variable (variable_name x)
  term_written (app f ts) = application (function_name f) (terms_written ts)

  pub terms_written : Terms ℕ → TermsSaid
  terms_written nil = none
  terms_written (t then ts) = term_written t and terms_written ts

unfoldable pub literal_written : Literal ℕ → LiteralSaid
literal_written l =
    record { negative = l.negative; predicate = predicate_name l.predicate; arguments = terms_written l.arguments }

unfoldable pub clause_written : ℕ → Role → Clause → ClauseSaid
clause_written number role c = record { name = clause_name number; role = role; literals = map literal_written c.literals }

-- clauses in the order of their numbers, from a number on; the question is the last
unfoldable pub axioms_written : ℕ → List Clause → List ClauseSaid
axioms_written number [] = []
axioms_written number (c ∷ cs) = clause_written number Axiom c ∷ axioms_written (suc number) cs

unfoldable pub table_written : Table → List ClauseSaid
table_written t = axioms_written 0 t.clauses ++ (clause_written (length t.clauses) NegatedConjecture t.question ∷ [])
