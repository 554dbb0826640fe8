-- The table that a text stands for (document 02, order 1): names numbered by their first use, variable counts exact, the question last.
use Rattle.std.specs.Prelude.{false, List, [], ◌∷◌, ◌++◌, ℕ, length}
use Rattle.names.specs.Numbers.{Name, first_uses, number_in}
use Rattle.clausetext.specs.Syntax.{Term, variable, application, Terms, nil, ◌then◌, Literal, Role, Axiom, Hypothesis, NegatedConjecture, Clause}
use Rattle.table.specs.Syntax.{var, app, nil as none, ◌then◌ as ◌and◌, Term as TermSaid, Terms as TermsSaid, Literal as LiteralSaid, Clause as ClauseSaid, Table}

-- The uses of names in the order of the text. Constants are functions; clause names are no uses.
unfoldable mutual
  pub functions_of : Term → List Name
  functions_of (variable x) = []
  functions_of (application f ts) = f ∷ functions_in ts

  pub functions_in : Terms → List Name
  functions_in nil = []
  functions_in (t then ts) = functions_of t ++ functions_in ts

unfoldable mutual
  pub variables_of : Term → List Name
  variables_of (variable x) = x ∷ []
  variables_of (application f ts) = variables_in ts

  pub variables_in : Terms → List Name
  variables_in nil = []
  variables_in (t then ts) = variables_of t ++ variables_in ts

-- of the literals of a clause
unfoldable pub predicate_uses : List Literal → List Name
predicate_uses [] = []
predicate_uses (l ∷ ls) = l.predicate ∷ predicate_uses ls

unfoldable pub function_uses : List Literal → List Name
function_uses [] = []
function_uses (l ∷ ls) = functions_in l.arguments ++ function_uses ls

unfoldable pub variable_uses : List Literal → List Name
variable_uses [] = []
variable_uses (l ∷ ls) = variables_in l.arguments ++ variable_uses ls

-- of all clauses of a text
unfoldable pub of_all : (List Literal → List Name) → List Clause → List Name
of_all uses [] = []
of_all uses (c ∷ cs) = uses c.literals ++ of_all uses cs

-- Predicates and functions are each numbered by a name's first use in the text, variables within each clause.
abbrev pub predicates : List Clause → List Name
predicates cs = first_uses (of_all predicate_uses cs)

abbrev pub functions : List Clause → List Name
functions cs = first_uses (of_all function_uses cs)

abbrev pub variables : List Literal → List Name
variables ls = first_uses (variable_uses ls)

-- a term with numbers for its names
unfoldable mutual
  pub term_said : List Name → List Name → Term → TermSaid ℕ
  term_said fs vs (variable x) = var (number_in vs x)
  term_said fs vs (application f ts) = app (number_in fs f) (terms_said fs vs ts)

  pub terms_said : List Name → List Name → Terms → TermsSaid ℕ
  terms_said fs vs nil = none
  terms_said fs vs (t then ts) = term_said fs vs t and terms_said fs vs ts

unfoldable pub literal_said : List Name → List Name → List Name → Literal → LiteralSaid ℕ
literal_said ps fs vs l =
    record { negative = l.negative; predicate = number_in ps l.predicate; arguments = terms_said fs vs l.arguments }

unfoldable pub literals_said : List Name → List Name → List Name → List Literal → List (LiteralSaid ℕ)
literals_said ps fs vs [] = []
literals_said ps fs vs (l ∷ ls) = literal_said ps fs vs l ∷ literals_said ps fs vs ls

-- a clause has as many variables as it names, and no mark
unfoldable pub clause_said : List Name → List Name → List Literal → ClauseSaid
clause_said ps fs ls =
    record { restricted = false; variables = length (variables ls); literals = literals_said ps fs (variables ls) ls }

unfoldable pub clauses_said : List Name → List Name → List (List Literal) → List ClauseSaid
clauses_said ps fs [] = []
clauses_said ps fs (c ∷ cs) = clause_said ps fs c ∷ clauses_said ps fs cs

-- The negated_conjecture goes last: the clauses of the other roles, and the question.
abbrev pub besides : Role → List Literal → List (List Literal) → List (List Literal)
besides Axiom ls cs = ls ∷ cs
besides Hypothesis ls cs = ls ∷ cs
besides NegatedConjecture ls cs = cs

unfoldable pub stated : List Clause → List (List Literal)
stated [] = []
stated (c ∷ cs) = besides c.role c.literals (stated cs)

abbrev pub asking : Role → List Literal → List Literal → List Literal
asking Axiom ls asked = asked
asking Hypothesis ls asked = asked
asking NegatedConjecture ls asked = ls

unfoldable pub asked : List Clause → List Literal
asked [] = []
asked (c ∷ cs) = asking c.role c.literals (asked cs)

unfoldable pub table_said : List Clause → Table
table_said cs = record {
  clauses = clauses_said (predicates cs) (functions cs) (stated cs);
  question = clause_said (predicates cs) (functions cs) (asked cs);
}
