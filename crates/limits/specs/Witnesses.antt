-- Limits on small texts: at each limit that a clause passes alone and one over it; of two clauses that pass one, the first; and 512 and 513 clauses.
use Rattle.std.specs.Prelude.{false, List, [], ◌∷◌, ◌≡◌, ℕ, zero, suc, replicate, Some, None}
use Rattle.clausetext.specs.Syntax.{Term, variable, application, Terms, nil, ◌then◌, Literal, Axiom, Clause}
use Rattle.text.specs.Quoted.{bytes}
use Rattle.limits.specs.declared.find.Limit.TheVariants.{Literals, Arguments, Variables, Words, Clauses}
use Rattle.limits.specs.Over.{own_limit, shared_limit, first_over}
use Rattle.limits.specs.Told.{over_text}

abbrev said : Terms → Literal
said ts = record { negative = false; predicate = bytes "on"; arguments = ts }

abbrev named : List ℕ → List Literal → Clause
named name ls = record { name = name; role = Axiom; literals = ls }

abbrev a : Term
a = application (bytes "may1") nil

abbrev small : Clause
small = named (bytes "small") (said (a then variable (bytes "T") then nil) ∷ [])

abbrev seven : List Literal
seven = replicate 7 (said nil)

abbrev long : Clause
long = named (bytes "long") (said nil ∷ seven)

-- so many functions, each around the next
unfoldable pub nested : ℕ → Term
nested zero = a
nested (suc n) = application (bytes "f") (nested n then nil)

abbrev four : Term → List Literal
four t = said (t then t then t then t then nil) ∷ []

abbrev wide : Clause
wide = named (bytes "wide") (said (application (bytes "f") (a then a then a then a then a then nil) then nil) ∷ [])

unfoldable pub LimitsTold : Type 0
LimitsTold =
    ((first_over [] (small ∷ small ∷ [])).limit ≡ None)
    × (first_over [] (small ∷ long ∷ wide ∷ []) ≡ record { limit = Some Literals; name = bytes "long" })
    × (first_over [] (small ∷ wide ∷ long ∷ []) ≡ record { limit = Some Arguments; name = bytes "wide" })
    × (over_text (bytes "f") (first_over [] (long ∷ [])) ≡ bytes "f: the clause long has more than 7 literals, the most that a clause may have\n")
    × (over_text (bytes "f") (first_over [] (small ∷ [])) ≡ bytes "f: the table passes no limit\n")

-- at a limit, and one over it; the seventeen variables stand in five literals
abbrev x : ℕ → Term
x n = variable (replicate n 88)

abbrev sixteen : List Literal
sixteen =
    said (x 1 then x 2 then x 3 then x 4 then nil) ∷ said (x 5 then x 6 then x 7 then x 8 then nil) ∷ said (x 9 then x 10 then x 11 then x 12 then nil)
    ∷ said (x 13 then x 14 then x 15 then x 16 then nil) ∷ []

unfoldable pub LimitsExact : Type 0
LimitsExact =
    (own_limit seven ≡ None)
    × (own_limit (said nil ∷ seven) ≡ Some Literals)
    × (own_limit (four a) ≡ None)
    × (own_limit (said (application (bytes "f") (a then a then a then a then nil) then nil) ∷ []) ≡ None)
    × (own_limit (said (a then a then a then a then a then nil) ∷ []) ≡ Some Arguments)
    × (own_limit sixteen ≡ None)
    × (own_limit (said (x 17 then nil) ∷ sixteen) ≡ Some Variables)
    × (own_limit (said (nested 253 then nil) ∷ []) ≡ None)
    × (own_limit (said (nested 254 then nil) ∷ []) ≡ Some Words)

unfoldable pub ClausesExact : Type 0
ClausesExact = (shared_limit (replicate 512 small) ≡ None) × (shared_limit (replicate 513 small) ≡ Some Clauses)
