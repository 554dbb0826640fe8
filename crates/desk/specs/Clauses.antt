-- The table that the desk asks (document 02, order 14): a record becomes a clause, in the records' order: one fact at(day,house,slot), or two
-- alternatives, matinee first; the question is the last.
use Rattle.std.specs.Prelude.{Bool, true, false, List, [], ◌∷◌, map, ℕ, ◌+◌}
use Rattle.table.specs.Syntax.{Term, var, app, nil, ◌then◌, Literal, Clause, Table}
use Rattle.desk.specs.Records.{Record}
use Rattle.desk.specs.declared.Slot.{Slot}
use Rattle.desk.specs.declared.Slot.TheVariants.{Matinee as matinee, Evening as evening, Either as either}

-- constants: a day's number is its own, a house's follows 1,000, the slots follow 2,000
abbrev pub constant : {X : Type 0} → ℕ → Term X
constant n = app n nil

abbrev pub at_literal : {X : Type 0} → Bool → ℕ → ℕ → Term X → Literal X
at_literal negative day house slot =
    record { negative = negative; predicate = 1; arguments = constant day then constant (1000 + house) then slot then nil }

abbrev pub the_matinee : {X : Type 0} → Term X
the_matinee = constant 2001

abbrev pub the_evening : {X : Type 0} → Term X
the_evening = constant 2002

unfoldable pub alternatives : ℕ → ℕ → Slot → List (Literal ℕ)
alternatives day house matinee = at_literal false day house the_matinee ∷ []
alternatives day house evening = at_literal false day house the_evening ∷ []
alternatives day house either = at_literal false day house the_matinee ∷ at_literal false day house the_evening ∷ []

unfoldable pub clause_for : Record → Clause
clause_for r = record { restricted = false; variables = 0; literals = alternatives r.day r.house r.slot }

-- what is asked: matinee, evening, or a variable for any slot
unfoldable pub asked_slot : Slot → Term ℕ
asked_slot matinee = the_matinee
asked_slot evening = the_evening
asked_slot either = var 0

unfoldable pub asked_variables : Slot → ℕ
asked_variables matinee = 0
asked_variables evening = 0
asked_variables either = 1

unfoldable pub question : ℕ → ℕ → Slot → Clause
question day house asked =
    record { restricted = false; variables = asked_variables asked; literals = at_literal true day house (asked_slot asked) ∷ [] }

unfoldable pub desk_table : List Record → ℕ → ℕ → Slot → Table
desk_table rs day house asked = record { clauses = map clause_for rs; question = question day house asked }
