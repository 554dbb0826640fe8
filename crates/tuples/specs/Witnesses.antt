-- The line on document 01's cases 1 and 7, and on a question without variables.
use Rattle.std.specs.Prelude.{List, [], ◌∷◌, ◌≡◌, ℕ}
use Rattle.text.specs.Quoted.{bytes}
use Rattle.naming.specs.Shown.{Names}
use Rattle.tuples.specs.Tuples.{values_in, answers_text}

abbrev named : List (List ℕ) → Names
named functions = record { functions = functions; predicates = []; variables = [] }

-- at(e,X): mat or eve
unfoldable pub TwoAlternatives : Type 0
TwoAlternatives =
    answers_text (bytes "f") (named ([] ∷ bytes "e" ∷ bytes "mat" ∷ bytes "eve" ∷ [])) 2 (0xC0000309 ∷ 0x8000A001 ∷ 0x40000001 ∷ 0 ∷ [])
    (0x80002001 ∷ 0x40000001 ∷ 0x40000002 ∷ 0x80002001 ∷ 0x40000001 ∷ 0x40000003 ∷ [])
    ≡ bytes "% SZS answers Tuple [([mat]|[eve])|_] for f\n"

-- p(f(g(Z),Z)): a variable that is used twice is told once, and what it stands for has a variable of its own
unfoldable pub OneAnswer : Type 0
OneAnswer =
    answers_text (bytes "f") (named ([] ∷ bytes "f" ∷ bytes "g" ∷ [])) 1 (0xC0000509 ∷ 0x80009001 ∷ 0x40002001 ∷ 0x40001002 ∷ 0 ∷ 0 ∷ [])
    (0x80001001 ∷ 0x40002001 ∷ 0x40001002 ∷ 0x40001002 ∷ 0 ∷ 0x40001002 ∷ 0 ∷ [])
    ≡ bytes "% SZS answers Tuple [[g(X0)]|_] for f\n"

-- two variables, in the order of their first use in the question
unfoldable pub TwoVariables : Type 0
TwoVariables = values_in (0x8000A001 ∷ 0 ∷ 1 ∷ []) 0 (0x80002001 ∷ 0x40000005 ∷ 0x40000004 ∷ []) ≡ (0x40000005 ∷ []) ∷ (0x40000004 ∷ []) ∷ []

-- no variables, no line
unfoldable pub NoVariables : Type 0
NoVariables = answers_text (bytes "f") (named []) 1 (0xC0000101 ∷ 0x80008001 ∷ []) (0x80000001 ∷ []) ≡ []
