-- A table renumbered by first use (document 02, order 2): symbols over the whole table, each clause's variables within it, variable counts exact,
-- all marks off.
-- The order of use is that of the table's text: clauses in the order of their numbers, the question last, within each from left to right.
use Rattle.std.specs.Prelude.{false, cond, List, [], ◌∷◌, ◌++◌, map, ◌≡◌, ℕ, zero, suc, eqb, length}
use Rattle.table.specs.Limits.{Each}
use Rattle.table.specs.Syntax.{Term, var, app, Terms, nil, ◌then◌, Literal, Clause, Table, all_clauses}

-- the numbers known after one more use: a number that is not known yet becomes the last
unfoldable pub noted : List ℕ → ℕ → List ℕ
noted [] n = n ∷ []
noted (known ∷ more) n = cond (eqb known n) (known ∷ more) (known ∷ noted more n)

-- the different numbers of some uses, in the order of their first use, after numbers that are known already
unfoldable pub known_after : List ℕ → List ℕ → List ℕ
known_after known [] = known
known_after known (n ∷ ns) = known_after (noted known n) ns

abbrev pub first_uses : List ℕ → List ℕ
first_uses ns = known_after [] ns

-- how many numbers stand before this one
unfoldable pub number_in : List ℕ → ℕ → ℕ
number_in [] n = zero
number_in (known ∷ more) n = cond (eqb known n) zero (suc (number_in more n))

-- The uses of numbers from left to right. A number used with two arities is one number. Constants are functions.
unfoldable mutual
  pub functions_of : Term ℕ → List ℕ
  functions_of (var x) = []
  functions_of (app f ts) = f ∷ functions_in ts

  pub functions_in : Terms ℕ → List ℕ
  functions_in nil = []
  functions_in (t then ts) = functions_of t ++ functions_in ts

unfoldable mutual
  pub variables_of : Term ℕ → List ℕ
  variables_of (var x) = x ∷ []
  variables_of (app f ts) = variables_in ts

  pub variables_in : Terms ℕ → List ℕ
  variables_in nil = []
  variables_in (t then ts) = variables_of t ++ variables_in ts

-- of the literals of a clause
unfoldable pub predicate_uses : List (Literal ℕ) → List ℕ
predicate_uses [] = []
predicate_uses (l ∷ ls) = l.predicate ∷ predicate_uses ls

unfoldable pub function_uses : List (Literal ℕ) → List ℕ
function_uses [] = []
function_uses (l ∷ ls) = functions_in l.arguments ++ function_uses ls

unfoldable pub variable_uses : List (Literal ℕ) → List ℕ
variable_uses [] = []
variable_uses (l ∷ ls) = variables_in l.arguments ++ variable_uses ls

-- of clauses
unfoldable pub of_all : (List (Literal ℕ) → List ℕ) → List Clause → List ℕ
of_all uses [] = []
of_all uses (c ∷ cs) = uses c.literals ++ of_all uses cs

-- predicates and functions are each numbered over the whole table, variables within each clause
abbrev pub predicates : Table → List ℕ
predicates t = first_uses (of_all predicate_uses (all_clauses t))

abbrev pub functions : Table → List ℕ
functions t = first_uses (of_all function_uses (all_clauses t))

abbrev pub variables : Clause → List ℕ
variables c = first_uses (variable_uses c.literals)

-- other numbers for the functions and the variables of a term, and for the predicate of a literal
unfoldable mutual
  pub renamed_term : {X Y : Type 0} → (ℕ → ℕ) → (X → Y) → Term X → Term Y
  renamed_term function variable (var x) = var (variable x)
  renamed_term function variable (app f ts) = app (function f) (renamed_terms function variable ts)

  pub renamed_terms : {X Y : Type 0} → (ℕ → ℕ) → (X → Y) → Terms X → Terms Y
  renamed_terms function variable nil = nil
  renamed_terms function variable (t then ts) = renamed_term function variable t then renamed_terms function variable ts

unfoldable pub renamed_literal : {X Y : Type 0} → (ℕ → ℕ) → (ℕ → ℕ) → (X → Y) → Literal X → Literal Y
renamed_literal predicate function variable l =
    record { negative = l.negative; predicate = predicate l.predicate; arguments = renamed_terms function variable l.arguments }

-- a clause has as many variables as it uses, and no mark
unfoldable pub renumbered_clause : (ℕ → ℕ) → (ℕ → ℕ) → Clause → Clause
renumbered_clause predicate function c =
    record { restricted = false; variables = length (variables c); literals = map (renamed_literal predicate function (number_in (variables c))) c.literals }

unfoldable pub renumbered : Table → Table
renumbered t =
    record {
      clauses = map (renumbered_clause (number_in (predicates t)) (number_in (functions t))) t.clauses;
      question = renumbered_clause (number_in (predicates t)) (number_in (functions t)) t.question;
    }

-- a table that is numbered by first use already
unfoldable pub AlreadySo : Table → Type 0
AlreadySo t = renumbered t ≡ t

-- The same said directly: every number that is used is its own number by first use, each clause has as many variables as it uses, and none is marked
-- as restricted.
unfoldable pub OwnNumbers : List ℕ → Type 0
OwnNumbers uses = Each (λ n. number_in (first_uses uses) n ≡ n) uses

pub record ClauseInOrder (c : Clause) : Type 0 where
  pub numbers : OwnNumbers (variable_uses c.literals)
  pub count : c.variables ≡ length (variables c)
  pub unmarked : c.restricted ≡ false

pub record InOrder (t : Table) : Type 0 where
  pub predicate_numbers : OwnNumbers (of_all predicate_uses (all_clauses t))
  pub function_numbers : OwnNumbers (of_all function_uses (all_clauses t))
  pub clauses : Each ClauseInOrder (all_clauses t)
