-- The limit that a text passes, and the clause that passes it (document 02, order 1, status 19): the first clause in the order of the text with which
-- a limit of document 01 is passed. What the clause passes alone comes before what it passes together with the clauses before it.
use Rattle.std.specs.Prelude.{Bool, true, false, cond, List, [], ◌∷◌, ◌++◌, ℕ, max, ltb, length, Option, Some, None}
use Rattle.clausetext.specs.Syntax.{Literal, Clause}
use Rattle.names.specs.Numbers.{Name}
use Rattle.tptp.specs.Said.{predicates, functions, variables}
use Rattle.tptp.specs.Sketch.{Item, literals_items, clauses_items}
use Rattle.limits.specs.declared.find.Limit.{Limit}
use Rattle.limits.specs.declared.find.Limit.TheVariants.{Literals, Arguments, Variables, Words, Clauses, Predicates, Functions, Total}

-- Items are what a text has for each word of the file's body: a clause, a literal, a function or constant, a variable. `parts` of a literal or a
-- function are its arguments.
unfoldable pub most_parts : List Item → ℕ
most_parts [] = 0
most_parts (i ∷ is) = max i.parts (most_parts is)

-- a clause alone: at most 7 literals, 4 arguments, 16 variables, 255 words after the clause's own
unfoldable pub own_limit : List Literal → Option Limit
own_limit ls =
    cond (ltb 7 (length ls)) (Some Literals)
    (cond (ltb 4 (most_parts (literals_items ls))) (Some Arguments)
    (cond (ltb 16 (length (variables ls))) (Some Variables) (cond (ltb 255 (length (literals_items ls))) (Some Words) None)))

-- clauses together: at most 512, with 4,096 predicates, 4,096 functions, and 15,996 words, to which the file's trailer is added
unfoldable pub shared_limit : List Clause → Option Limit
shared_limit cs =
    cond (ltb 512 (length cs)) (Some Clauses)
    (cond (ltb 4096 (length (predicates cs))) (Some Predicates)
    (cond (ltb 4096 (length (functions cs))) (Some Functions) (cond (ltb 15996 (length (clauses_items cs))) (Some Total) None)))

abbrev pub or_else : Option Limit → Option Limit → Option Limit
or_else None other = other
or_else (Some limit) other = Some limit

abbrev pub is_nothing : Option Limit → Bool
is_nothing None = true
is_nothing (Some limit) = false

-- a limit and the name of the clause that passes it
pub record Over : Type 0 where
  pub limit : Option Limit
  pub name : Name

abbrev pub or_next : Option Limit → Name → Over → Over
or_next None name rest = rest
or_next (Some limit) name rest = record { limit = Some limit; name = name }

-- the limit passed by the last of some clauses
abbrev pub limit_with : List Clause → Clause → Option Limit
limit_with before c = or_else (own_limit c.literals) (shared_limit (before ++ (c ∷ [])))

-- clauses after others that pass none
unfoldable pub first_over : List Clause → List Clause → Over
first_over before [] = record { limit = None; name = [] }
first_over before (c ∷ cs) = or_next (limit_with before c) c.name (first_over (before ++ (c ∷ [])) cs)
