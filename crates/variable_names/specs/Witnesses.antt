-- Names of variables in small texts: by first use in each clause, the question's last; none past a clause's variables, none past the clauses; the
-- last of sixteen, and none of seventeen.
use Rattle.std.specs.Prelude.{true, false, List, [], ◌∷◌, ◌≡◌, ℕ}
use Rattle.clausetext.specs.Syntax.{Term, variable, application, Terms, nil, ◌then◌, Literal, Role, Axiom, NegatedConjecture, Clause}
use Rattle.text.specs.Quoted.{bytes}
use Rattle.variable_names.specs.Named.{variable_name}

abbrev near : Term → Term → Literal
near a b = record { negative = true; predicate = bytes "near"; arguments = a then b then nil }

abbrev named : List ℕ → Role → List Literal → Clause
named name role ls = record { name = name; role = role; literals = ls }

abbrev east : Term
east = variable (bytes "East")

abbrev west : Term
west = variable (bytes "West")

abbrev who : Term
who = variable (bytes "Who")

abbrev may : Term
may = application (bytes "may") nil

-- the question stands first in the text
abbrev text : List Clause
text =
    named (bytes "asked") NegatedConjecture (near may who ∷ [])
    ∷ named (bytes "both") Axiom (near west east ∷ near east west ∷ [])
    ∷ named (bytes "one") Axiom (near (application (bytes "by") (east then nil)) may ∷ [])
    ∷ []

abbrev terms : List (List ℕ) → Terms
terms [] = nil
terms (x ∷ xs) = variable x then terms xs

abbrev alone : List (List ℕ) → List Clause
alone names = named (bytes "alone") Axiom (record { negative = false; predicate = bytes "all"; arguments = terms names } ∷ []) ∷ []

abbrev sixteen : List (List ℕ)
sixteen =
    bytes "A" ∷ bytes "B" ∷ bytes "C" ∷ bytes "D" ∷ bytes "E" ∷ bytes "F" ∷ bytes "G" ∷ bytes "H" ∷ bytes "I" ∷ bytes "J" ∷ bytes "K" ∷ bytes "L"
    ∷ bytes "M" ∷ bytes "N" ∷ bytes "O" ∷ bytes "P" ∷ []

unfoldable pub VariablesNamed : Type 0
VariablesNamed =
    (variable_name text 0 0 ≡ bytes "West")
    × (variable_name text 0 1 ≡ bytes "East")
    × (variable_name text 0 2 ≡ [])
    × (variable_name text 1 0 ≡ bytes "East")
    × (variable_name text 2 0 ≡ bytes "Who")
    × (variable_name text 3 0 ≡ [])
    × (variable_name (alone sixteen) 0 15 ≡ bytes "P")
    × (variable_name (alone (bytes "Q" ∷ sixteen)) 0 0 ≡ [])
