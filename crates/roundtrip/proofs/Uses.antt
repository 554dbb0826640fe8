-- The numbers that a table within document 01's limits uses are below them.
use mathlib.Core.List.{List, [], ◌∷◌}
use Prim.Native.Nat.{ℕ, ◌^◌, ◌<◌}
use Rattle.table.specs.Syntax.{Term, var, app, Terms, nil, ◌then◌, Literal, Clause}
use Rattle.table.specs.Limits.{TermWithin, TermsWithin, LiteralWithin, Each, ClauseWithin}
use Rattle.rules.proofs.Every.{All, end, ◌also◌, all_append}
use Rattle.roundtrip.specs.Renumbered.{functions_of, functions_in, variables_of, variables_in, predicate_uses, function_uses, variable_uses, of_all}

abbrev pub Symbol : ℕ → Type 0
Symbol n = n < 2 ^ 12

module _ (variables : ℕ) where
  mutual
    unfolding TermWithin functions_of

    functions-of : (t : Term ℕ) → TermWithin t variables → All Symbol (functions_of t)
    functions-of (var x) h = end
    functions-of (app f ts) h = h.0 also functions-in ts h.2

    functions-in : (ts : Terms ℕ) → TermsWithin ts variables → All Symbol (functions_in ts)
    functions-in nil h = end
    functions-in (t then ts) h = all_append (functions-of t h.0) (functions-in ts h.1)

  mutual
    unfolding TermWithin variables_of

    variables-of : (t : Term ℕ) → TermWithin t variables → All (λ x. x < variables) (variables_of t)
    variables-of (var x) h = h also end
    variables-of (app f ts) h = variables-in ts h.2

    variables-in : (ts : Terms ℕ) → TermsWithin ts variables → All (λ x. x < variables) (variables_in ts)
    variables-in nil h = end
    variables-in (t then ts) h = all_append (variables-of t h.0) (variables-in ts h.1)

  -- of the literals of a clause
  pub predicate_uses_lem : (ls : List (Literal ℕ)) → Each (LiteralWithin variables) ls → All Symbol (predicate_uses ls)
  unfolding Each predicate_uses
  predicate_uses_lem [] h = end
  predicate_uses_lem (l ∷ ls) h = h.0.predicate also predicate_uses_lem ls h.1

  pub function_uses_lem : (ls : List (Literal ℕ)) → Each (LiteralWithin variables) ls → All Symbol (function_uses ls)
  unfolding Each function_uses
  function_uses_lem [] h = end
  function_uses_lem (l ∷ ls) h = all_append (functions-in l.arguments h.0.arguments) (function_uses_lem ls h.1)

  pub variable_uses_lem : (ls : List (Literal ℕ)) → Each (LiteralWithin variables) ls → All (λ x. x < variables) (variable_uses ls)
  unfolding Each variable_uses
  variable_uses_lem [] h = end
  variable_uses_lem (l ∷ ls) h = all_append (variables-in l.arguments h.0.arguments) (variable_uses_lem ls h.1)

-- of clauses
module _ (uses : List (Literal ℕ) → List ℕ) (each : (variables : ℕ) (ls : List (Literal ℕ)) → Each (LiteralWithin variables) ls → All Symbol (uses ls)) where
  uses-of-all : (cs : List Clause) → Each ClauseWithin cs → All Symbol (of_all uses cs)
  unfolding Each of_all
  uses-of-all [] h = end
  uses-of-all (c ∷ cs) h = all_append (each c.variables c.literals h.0.literals) (uses-of-all cs h.1)

pub all_predicates : (cs : List Clause) → Each ClauseWithin cs → All Symbol (of_all predicate_uses cs)
all_predicates cs h = uses-of-all predicate_uses predicate_uses_lem cs h

pub all_functions : (cs : List Clause) → Each ClauseWithin cs → All Symbol (of_all function_uses cs)
all_functions cs h = uses-of-all function_uses function_uses_lem cs h
