-- Order 11 on small tables, as one statement over the calls: case 1 at K = 2, and the refusals. proofs/RestartCases.antt proves it by computation.
use Rattle.std.specs.Prelude.{List, [], ◌∷◌, ◌++◌, map, ◌≡◌, ℕ}
use Rattle.table.specs.File.{table_in}
use Rattle.seen.specs.Copying.{seen_in}
use Rattle.hukolearu.specs.Calls.{refused, granted, SearchAsked, CheckAsked, check_call}
use Rattle.hukolearu.specs.Cases.{mat_or_eve, by_reduction, found, none, ample}
use Rattle.restart.specs.Restart.{SearchAccepted, search_on, check_on}

-- p or q; not q; ask p: the second clause concludes nothing
abbrev pub dead_end : List ℕ
dead_end =
    0xC0000202 ∷ 0x80000001 ∷ 0x80000002
    ∷ 0xC0000101 ∷ 0x80008002
    ∷ 0xC0000101 ∷ 0x80008001
    ∷ 0x00000005 ∷ 0x00000003 ∷ 0x14EBFE2D ∷ 0x00000007 ∷ []

abbrev pub searched : List ℕ → ℕ → ℕ → ℕ → SearchAsked
searched file bound budget room = record { file = file; bound = bound; budget = budget; proof_room = room; answer_room = 4096; work_room = 16384 }

abbrev pub checked : ℕ → List ℕ → CheckAsked
checked bound offered = record { file = mat_or_eve; bound = bound; offered = offered; answer_room = 4096; work_room = 16384 }

-- case 1's answer by a restart
abbrev pub answer : List ℕ
answer = 0x80002001 ∷ 0x40000001 ∷ 0x40000002 ∷ 0x80002001 ∷ 0x40000001 ∷ 0x40000003 ∷ []

-- found in 4 tries and not in 3; none with one extension; 230 words are too few; case 9, with a restart at K = 3 and another proof at K = 2; and a clause
-- without a positive literal
abbrev pub SearchCases : Type 0
SearchCases =
    map (search_on table_in)
    (searched mat_or_eve 2 ample 231 ∷ searched mat_or_eve 2 3 231 ∷ searched mat_or_eve 1 ample 231 ∷ searched mat_or_eve 2 ample 230
    ∷ searched by_reduction 3 ample 231 ∷ searched by_reduction 2 ample 231 ∷ searched dead_end 2 ample 231 ∷ [])
    ≡ found (0x40000000 ∷ 0x80000000 ∷ 0x00000001 ∷ []) 2 answer 4
    ∷ refused 11 0 3
    ∷ none 4
    ∷ refused 2 0 0
    ∷ found (0x40000000 ∷ 0x80000000 ∷ 0x40000001 ∷ 0x00000002 ∷ []) 1 (0x80000001 ∷ []) 5
    ∷ found (0x40000001 ∷ 0x40000200 ∷ 0x00000002 ∷ []) 1 (0x80000001 ∷ []) 5
    ∷ refused 22 3 0
    ∷ []

-- accepted; a positive leaf extended, a negative one restarted, restarted past the bound; another word of kind 2
abbrev pub CheckCases : Type 0
CheckCases =
    map (check_on table_in)
    (checked 2 (0x40000000 ∷ 0x80000000 ∷ 0x00000001 ∷ []) ∷ checked 2 (0x40000000 ∷ 0x40000001 ∷ []) ∷ checked 2 (0x80000000 ∷ [])
    ∷ checked 1 (0x40000000 ∷ 0x80000000 ∷ []) ∷ checked 2 (0x80000001 ∷ []) ∷ [])
    ≡ granted 3 [] 2 answer 0 ∷ refused 13 1 0 ∷ refused 13 0 0 ∷ refused 13 1 0 ∷ refused 12 0 0 ∷ []

-- under document 01's rules 80000000 is malformed
abbrev pub BaseCase : Type 0
BaseCase = check_call (checked 2 (0x40000000 ∷ 0x80000000 ∷ 0x00000001 ∷ [])) ≡ refused 12 1 0

-- the premises are met
abbrev pub AcceptedCase : Type 0
AcceptedCase = SearchAccepted (searched mat_or_eve 2 ample 231)

-- EDUCATION
-- case 1 with a restricted clause before it: the denial of r, which concludes nothing, and the fact at(e,mat)
abbrev pub secret_denial : List ℕ
secret_denial =
    0xC0010101 ∷ 0x80008005
    ∷ 0xC0000602 ∷ 0x80002001 ∷ 0x40000001 ∷ 0x40000002 ∷ 0x80002001 ∷ 0x40000001 ∷ 0x40000003
    ∷ 0xC0000309 ∷ 0x8000A001 ∷ 0x40000001 ∷ 0x00000000
    ∷ 0x00000009 ∷ 0x00000003 ∷ 0x697ED49A ∷ 0x0000000D ∷ []

abbrev pub secret_fact : List ℕ
secret_fact =
    0xC0010301 ∷ 0x80002001 ∷ 0x40000001 ∷ 0x40000002
    ∷ 0xC0000602 ∷ 0x80002001 ∷ 0x40000001 ∷ 0x40000002 ∷ 0x80002001 ∷ 0x40000001 ∷ 0x40000003
    ∷ 0xC0000309 ∷ 0x8000A001 ∷ 0x40000001 ∷ 0x00000000
    ∷ 0x0000000B ∷ 0x00000003 ∷ 0xD58D5C83 ∷ 0x0000000F ∷ []

-- 22 is judged on the whole file; the fact is not seen by education, but by collections
abbrev pub EducationCases : Type 0
EducationCases =
    map (search_on seen_in) (searched secret_denial 2 ample 231 ∷ searched secret_fact 2 ample 231 ∷ [])
    ++ map (search_on table_in) (searched secret_fact 2 ample 231 ∷ [])
    ≡ refused 22 0 0
    ∷ found (0x40000000 ∷ 0x80000000 ∷ 0x00000001 ∷ []) 2 answer 4
    ∷ found (0x40000000 ∷ []) 1 (0x80002001 ∷ 0x40000001 ∷ 0x40000002 ∷ []) 1
    ∷ []
