-- Document 01's case 1, its file, and a body for each kind of place, computed; restricted clauses, a restricted question, and what education sees.
use mathlib.Core.Path.{◌≡◌, refl}
use mathlib.Core.Bool.{Bool, true, false}
use mathlib.Core.List.{List, [], ◌∷◌, ◌++◌}
use mathlib.Core.Option.{none, some}
use Prim.Native.Nat.{ℕ}
use Rattle.table.specs.Body.{body_fault, starts}
use Rattle.words.specs.Fingerprint.{fingerprint}
use Rattle.table.specs.File.{judge, clause_part}
use Rattle.table.specs.Decode.{table_of, term_at}
use Rattle.table.specs.Encode.{body_words}
use Rattle.table.specs.Seen.{unrestricted}
use Rattle.table.specs.Syntax.{app, nil, Clause, Table}
use Rattle.table.proofs.Opened.{opened}

abbrev case_1 : List ℕ
case_1 =
    0xC0000602 ∷ 0x80002001 ∷ 0x40000001 ∷ 0x40000002 ∷ 0x80002001 ∷ 0x40000001 ∷ 0x40000003 ∷ 0xC0000309 ∷ 0x8000A001 ∷ 0x40000001 ∷ 0x00000000 ∷ []

case_1_read : body_fault 0 0 case_1 ≡ none
unfolding opened
case_1_read = refl

case_1_starts : starts 0 0 case_1 ≡ 0 ∷ 7 ∷ []
unfolding opened
case_1_starts = refl

case_1_decoded : body_words (table_of case_1) ≡ case_1
unfolding opened
case_1_decoded = refl

case_1_term : term_at case_1 9 ≡ app 1 nil
unfolding opened
case_1_term = refl

own_word : body_fault 0 0 (0xC0000401 ∷ 0x8000A001 ∷ 0x40000001 ∷ 0x40000002 ∷ []) ≡ some 0
unfolding opened
own_word = refl

wrong_word : body_fault 0 0 (0xC0000309 ∷ 0x8000A001 ∷ 0x40000001 ∷ 0x00000001 ∷ []) ≡ some 3
unfolding opened
wrong_word = refl

just_after : body_fault 0 0 (0xC0000209 ∷ 0x8000A001 ∷ 0x40000001 ∷ 0xC0000101 ∷ 0x80008001 ∷ []) ≡ some 3
unfolding opened
just_after = refl

left_over : body_fault 0 0 (0xC0000409 ∷ 0x8000A001 ∷ 0x40000001 ∷ 0x00000000 ∷ 0x00000000 ∷ []) ≡ some 4
unfolding opened
left_over = refl

case_1_file : List ℕ
case_1_file = case_1 ++ (7 ∷ 2 ∷ fingerprint case_1 ∷ 11 ∷ [])

case_1_accepted : judge case_1_file ≡ record { status = 0; place = 0; clauses = 2; question = 7 }
unfolding opened case_1_file
case_1_accepted = refl

case_1_question : clause_part case_1_file 1 ≡ record { start = 7; count = 4 }
unfolding opened case_1_file
case_1_question = refl

case_1_no_clause : clause_part case_1_file 2 ≡ record { start = 0; count = 0 }
unfolding opened case_1_file
case_1_no_clause = refl

-- a restricted clause and its question; bit 17 is still none of the fields
restricted_read : body_fault 0 0 (0xC0010101 ∷ 0x80000001 ∷ 0xC0000101 ∷ 0x80008001 ∷ []) ≡ none
unfolding opened
restricted_read = refl

bit_17 : body_fault 0 0 (0xC0020101 ∷ 0x80000001 ∷ 0xC0000101 ∷ 0x80008001 ∷ []) ≡ some 0
unfolding opened
bit_17 = refl

sealed_body : List ℕ → List ℕ
sealed_body body = body ++ (2 ∷ 2 ∷ fingerprint body ∷ 4 ∷ [])

restricted_accepted : judge (sealed_body (0xC0010101 ∷ 0x80000001 ∷ 0xC0000101 ∷ 0x80008001 ∷ [])) ≡ record { status = 0; place = 0; clauses = 2; question = 2 }
unfolding opened sealed_body
restricted_accepted = refl

restricted_question : judge (sealed_body (0xC0000101 ∷ 0x80000001 ∷ 0xC0010101 ∷ 0x80008001 ∷ [])) ≡ record { status = 21; place = 0; clauses = 0; question = 0 }
unfolding opened sealed_body
restricted_question = refl

-- a positive literal in the question comes first
positive_question : judge (sealed_body (0xC0000101 ∷ 0x80000001 ∷ 0xC0010101 ∷ 0x80000001 ∷ [])) ≡ record { status = 9; place = 0; clauses = 0; question = 0 }
unfolding opened sealed_body
positive_question = refl

restricted_not_found : clause_part (sealed_body (0xC0000101 ∷ 0x80000001 ∷ 0xC0010101 ∷ 0x80008001 ∷ [])) 0 ≡ record { start = 0; count = 0 }
unfolding opened sealed_body
restricted_not_found = refl

-- what education sees: restricted clauses go, the others keep their order; where nothing is restricted, all stays
about : Bool → ℕ → Clause
about mark predicate = record { restricted = mark; variables = 0; literals = record { negative = true; predicate = predicate; arguments = nil } ∷ [] }

told : List Clause → Table
told clauses = record { clauses = clauses; question = about false 0 }

restricted_goes : unrestricted (told (about false 3 ∷ about true 2 ∷ about false 1 ∷ about true 3 ∷ [])) ≡ told (about false 3 ∷ about false 1 ∷ [])
unfolding opened told about
restricted_goes = refl

unrestricted_stays : unrestricted (told (about false 3 ∷ about false 2 ∷ [])) ≡ told (about false 3 ∷ about false 2 ∷ [])
unfolding opened told about
unrestricted_stays = refl
