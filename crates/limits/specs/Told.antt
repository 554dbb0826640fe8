-- What is said of a text that passes a limit: the file, the clause by its name, and the limit.
use Rattle.std.specs.Prelude.{Err, Bool, cond, List, [], ◌++◌, ℕ, ◌≤◌, ◌<◌, length, get_or, Option, Some, None}
use Rattle.clausetext.specs.Syntax.{Clause}
use Rattle.clausetext.specs.Texts.{Says, Verdicts}
use Rattle.naming.specs.Clauses.{names_of}
use Rattle.text.specs.Put.{Put}
use Rattle.text.specs.Quoted.{bytes}
use Rattle.limits.specs.declared.find.Limit.{Limit}
use Rattle.limits.specs.declared.find.Limit.TheVariants.{Literals, Arguments, Variables, Words, Clauses, Predicates, Functions, Total}
use Rattle.limits.specs.declared.find.Passed.{Passed}
use Rattle.limits.specs.Over.{is_nothing, Over, first_over}

-- after the clause's name
unfoldable pub limit_text : Option Limit → List ℕ
limit_text None = bytes "\n"
limit_text (Some Literals) = bytes " has more than 7 literals, the most that a clause may have\n"
limit_text (Some Arguments) = bytes " has a predicate or a function with more than 4 arguments, the most that one may have\n"
limit_text (Some Variables) = bytes " has more than 16 variables, the most that a clause may have\n"
limit_text (Some Words) = bytes " has more than 255 predicates, functions, constants and variables, each counted as often as it stands there\n"
limit_text (Some Clauses) = bytes " is one clause too many: a table may have 512, with the question\n"
limit_text (Some Predicates) = bytes " has a predicate too many: a table may have 4096\n"
limit_text (Some Functions) = bytes " has a function or constant too many: a table may have 4096\n"
limit_text (Some Total) = bytes " makes the table too long: it may have 15996 words, one for each clause, predicate, function, constant and variable that stands there\n"

-- 19
unfoldable pub over_text : List ℕ → Over → List ℕ
over_text file o =
    cond (is_nothing o.limit) (file ++ bytes ": the table passes no limit\n")
    (((file ++ bytes ": the clause ") ++ o.name) ++ limit_text o.limit)

-- what is written of a text: the line where it can be read, nothing where it is wrong
pub record Told (file text out : List ℕ) (at : ℕ) (out' : List ℕ) (r : ℕ) : Type 0 where
  pub over : length text ≤ 65536 → (cs : List Clause) → Says text cs → Put out at (over_text file (first_over [] cs)) out' r
  pub wrong : {place : ℕ} → Verdicts text (Err place) → Put out at [] out' r

-- the name of a clause, the so-many-th of its sort
pub record NamePut (text : List ℕ) (asked : Bool) (number : ℕ) (out : List ℕ) (at : ℕ) (out' : List ℕ) (r : ℕ) : Type 0 where
  pub put : (cs : List Clause) → Says text cs → number < length (names_of asked cs) → Put out at (get_or (names_of asked cs) number []) out' r

-- the line of a clause that passes a limit
pub record ClauseTold (file text : List ℕ) (p : Passed) (out : List ℕ) (at : ℕ) (out' : List ℕ) (r : ℕ) : Type 0 where
  pub put : (cs : List Clause) → Says text cs → p.number < length (names_of p.asked cs)
      → Put out at (((file ++ bytes ": the clause ") ++ get_or (names_of p.asked cs) p.number []) ++ limit_text (Some p.limit)) out' r
