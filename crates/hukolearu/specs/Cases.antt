-- Document 01's questions to try, the starred ones, and order 3's, as one statement over the public calls: files as words, bounds, budgets and buffers in,
-- the six numbers and the words of proof and answer out. proofs/CallCases.antt proves it by computation.
use Rattle.std.specs.Prelude.{length, List, [], ◌∷◌, map, ◌≡◌, ℕ}
use Rattle.table.specs.File.{table_in}
use Rattle.rules.specs.Growing.{Larger}
use Rattle.hukolearu.specs.Status as Status
use Rattle.hukolearu.specs.Calls.{Given, refused, granted, SearchAsked, search_call, CheckAsked, check_call}
use Rattle.hukolearu.specs.Says.{SearchAccepted, CheckAccepted}
use Rattle.hukolearu.specs.CallDemands.{moved_word}

-- THE FILES. Bodies from document 01, trailers with their fingerprints.
-- at(e,mat) or at(e,eve); ask at(e,X)
abbrev pub mat_or_eve : List ℕ
mat_or_eve =
    0xC0000602 ∷ 0x80002001 ∷ 0x40000001 ∷ 0x40000002 ∷ 0x80002001 ∷ 0x40000001 ∷ 0x40000003
    ∷ 0xC0000309 ∷ 0x8000A001 ∷ 0x40000001 ∷ 0x00000000
    ∷ 0x00000007 ∷ 0x00000002 ∷ 0x1AE33758 ∷ 0x0000000B ∷ []

-- parent(X,mother(X)); ask parent(Y,Y)
abbrev pub own_mother : List ℕ
own_mother =
    0xC0000409 ∷ 0x80002001 ∷ 0x00000000 ∷ 0x40001001 ∷ 0x00000000
    ∷ 0xC0000309 ∷ 0x8000A001 ∷ 0x00000000 ∷ 0x00000000
    ∷ 0x00000005 ∷ 0x00000002 ∷ 0x31FE5519 ∷ 0x00000009 ∷ []

-- showing(d,h,mat); ask showing(d,h,eve)
abbrev pub other_time : List ℕ
other_time =
    0xC0000401 ∷ 0x80003001 ∷ 0x40000001 ∷ 0x40000002 ∷ 0x40000003
    ∷ 0xC0000401 ∷ 0x8000B001 ∷ 0x40000001 ∷ 0x40000002 ∷ 0x40000004
    ∷ 0x00000005 ∷ 0x00000002 ∷ 0x83223852 ∷ 0x0000000A ∷ []

-- p(f(X,g(Y))); ask p(f(g(Z),Z))
abbrev pub two_terms : List ℕ
two_terms =
    0xC0000511 ∷ 0x80001001 ∷ 0x40002001 ∷ 0x00000000 ∷ 0x40001002 ∷ 0x00000001
    ∷ 0xC0000509 ∷ 0x80009001 ∷ 0x40002001 ∷ 0x40001002 ∷ 0x00000000 ∷ 0x00000000
    ∷ 0x00000006 ∷ 0x00000002 ∷ 0xAE847808 ∷ 0x0000000C ∷ []

-- p(f(X,g(X),b)); ask p(f(a,g(Z),Z))
abbrev pub three_terms : List ℕ
three_terms =
    0xC0000609 ∷ 0x80001001 ∷ 0x40003001 ∷ 0x00000000 ∷ 0x40001002 ∷ 0x00000000 ∷ 0x40000004
    ∷ 0xC0000609 ∷ 0x80009001 ∷ 0x40003001 ∷ 0x40000003 ∷ 0x40001002 ∷ 0x00000000 ∷ 0x00000000
    ∷ 0x00000007 ∷ 0x00000002 ∷ 0x75D3423E ∷ 0x0000000E ∷ []

-- p or q; p or not q; ask p
abbrev pub by_reduction : List ℕ
by_reduction =
    0xC0000202 ∷ 0x80000001 ∷ 0x80000002
    ∷ 0xC0000202 ∷ 0x80000001 ∷ 0x80008002
    ∷ 0xC0000101 ∷ 0x80008001
    ∷ 0x00000006 ∷ 0x00000003 ∷ 0x34B70BAA ∷ 0x00000008 ∷ []

-- p(X,f(Y)) or p(g(Y),X) or not p(Y); p(Z); q(W); ask p(U,V) and q(U): an answer of two variables, a predicate at two arities,
-- a clause of three literals and a question of two goals
abbrev pub all_at_once : List ℕ
all_at_once =
    0xC0000A13 ∷ 0x80002001 ∷ 0x00000000 ∷ 0x40001001 ∷ 0x00000001 ∷ 0x80002001 ∷ 0x40001002 ∷ 0x00000001 ∷ 0x00000000 ∷ 0x80009001 ∷ 0x00000001
    ∷ 0xC0000209 ∷ 0x80001001 ∷ 0x00000000
    ∷ 0xC0000209 ∷ 0x80001002 ∷ 0x00000000
    ∷ 0xC0000512 ∷ 0x8000A001 ∷ 0x00000000 ∷ 0x00000001 ∷ 0x80009002 ∷ 0x00000000
    ∷ 0x00000011 ∷ 0x00000004 ∷ 0x29AB8D6B ∷ 0x00000017 ∷ []

-- order 3: p(a); r or p(a); r or s; not s; ask p(X) and r
abbrev pub told_twice : List ℕ
told_twice =
    0xC0000201 ∷ 0x80001001 ∷ 0x40000001
    ∷ 0xC0000302 ∷ 0x80000002 ∷ 0x80001001 ∷ 0x40000001
    ∷ 0xC0000202 ∷ 0x80000002 ∷ 0x80000003
    ∷ 0xC0000101 ∷ 0x80008003
    ∷ 0xC000030A ∷ 0x80009001 ∷ 0x00000000 ∷ 0x80008002
    ∷ 0x0000000C ∷ 0x00000005 ∷ 0x2B1B6773 ∷ 0x00000010 ∷ []

-- THE CALLS
pub data Call : Type 0 where
  search : SearchAsked → Call
  check : CheckAsked → Call

abbrev pub result : Call → Given
result (search a) = search_call a
result (check a) = check_call a

-- the least work and proof buffers, and the program's answer buffer
abbrev pub searched : List ℕ → ℕ → ℕ → Call
searched file bound budget =
    search (record { file = file; bound = bound; budget = budget; proof_room = 199; answer_room = 4096; work_room = 16384 })

abbrev pub checked : List ℕ → ℕ → List ℕ → Call
checked file bound offered = check (record { file = file; bound = bound; offered = offered; answer_room = 4096; work_room = 16384 })

-- where no budget is named
abbrev pub ample : ℕ
ample = 4294967295

-- THE RESULTS
abbrev pub found : List ℕ → ℕ → List ℕ → ℕ → Given
found proof disjuncts answer tries = granted (length proof) proof disjuncts answer tries

abbrev pub none : ℕ → Given
none tries = refused Status.none_found 0 tries

-- case 1, as printed
abbrev pub case_one : Given
case_one =
    found (0x40000000 ∷ 0x40000001 ∷ []) 2 (0x80002001 ∷ 0x40000001 ∷ 0x40000002 ∷ 0x80002001 ∷ 0x40000001 ∷ 0x40000003 ∷ []) 3

-- order 3's proof, which copies the question twice, has one disjunct: it is definite
abbrev pub once_told : Given
once_told =
    found (0x40000000 ∷ 0x40000001 ∷ 0x40000004 ∷ 0x40000002 ∷ 0x40000003 ∷ []) 1 (0x80001001 ∷ 0x40000001 ∷ 0x80000002 ∷ []) 7

abbrev pub starred_calls : List Call
starred_calls =
    searched mat_or_eve 2 3
    ∷ searched mat_or_eve 1 ample
    ∷ searched mat_or_eve 0 0
    ∷ searched mat_or_eve 2 2
    ∷ searched own_mother 1 ample
    ∷ searched other_time 1 ample
    ∷ searched two_terms 1 ample
    ∷ searched three_terms 1 ample
    ∷ searched by_reduction 2 ample
    ∷ searched by_reduction 1 ample
    ∷ checked mat_or_eve 2 (0x40000000 ∷ 0x40000001 ∷ 0x00000001 ∷ [])
    ∷ checked mat_or_eve 2 (0x40000000 ∷ [])
    ∷ checked mat_or_eve 2 (0x80000000 ∷ [])
    ∷ checked other_time 1 (0x40000000 ∷ [])
    ∷ searched told_twice 5 ample
    ∷ checked told_twice 5 once_told.proof
    ∷ []

abbrev pub starred_results : List Given
starred_results =
    case_one
    ∷ none 4
    ∷ none 0
    ∷ refused Status.ran_out 0 2
    ∷ none 1
    ∷ none 1
    ∷ found (0x40000000 ∷ []) 1
    (0x80001001 ∷ 0x40002001 ∷ 0x40001002 ∷ 0x40001002 ∷ 0x00000000 ∷ 0x40001002 ∷ 0x00000000 ∷ []) 1
    ∷ none 1
    ∷ found (0x40000000 ∷ 0x40000201 ∷ 0x00000002 ∷ []) 1 (0x80000001 ∷ []) 3
    ∷ none 2
    ∷ refused 13 2 0
    ∷ refused 15 1 0
    ∷ refused 12 0 0
    ∷ refused 14 0 0
    ∷ once_told
    ∷ granted 5 [] 1 once_told.answer 0
    ∷ []

abbrev pub StarredCases : Type 0
StarredCases = map result starred_calls ≡ starred_results

-- Beside them: case 1's proof and answer checked; a question with all that the starred ones lack; buffers and bounds at their limits and one past.
abbrev pub lent : ℕ → ℕ → ℕ → ℕ → Call
lent bound proof answer work =
    search (record { file = mat_or_eve; bound = bound; budget = 3; proof_room = proof; answer_room = answer; work_room = work })

abbrev pub further_calls : List Call
further_calls =
    checked mat_or_eve 2 (0x40000000 ∷ 0x40000001 ∷ [])
    ∷ searched all_at_once 5 6
    ∷ searched all_at_once 4 ample
    ∷ lent 2 199 6 16384
    ∷ lent 2 199 5 16384
    ∷ lent 33 199 6 16384
    ∷ lent 33 198 6 16384
    ∷ lent 33 198 6 16383
    ∷ check (record { file = mat_or_eve; bound = 33; offered = []; answer_room = 0; work_room = 16384 })
    ∷ check (record { file = mat_or_eve; bound = 33; offered = []; answer_room = 0; work_room = 16383 })
    ∷ searched (0x00000000 ∷ mat_or_eve) 2 3
    ∷ []

abbrev pub further_results : List Given
further_results =
    granted 2 [] 2 case_one.answer 0
    ∷ found (0x40000000 ∷ 0x40000003 ∷ 0x40000002 ∷ 0x40000001 ∷ 0x40000002 ∷ []) 2
    (0x80002001 ∷ 0x00000000 ∷ 0x40001001 ∷ 0x00000001 ∷ 0x80001002 ∷ 0x00000000
    ∷ 0x80002001 ∷ 0x40001002 ∷ 0x00000001 ∷ 0x00000000 ∷ 0x80001002 ∷ 0x40001002 ∷ 0x00000001 ∷ []) 6
    ∷ none 10
    ∷ case_one
    ∷ refused Status.answer_too_long 0 3
    ∷ refused Status.bound_too_high 0 0
    ∷ refused Status.proof_too_short 0 0
    ∷ refused Status.work_too_short 0 0
    ∷ refused Status.bound_too_high 0 0
    ∷ refused Status.work_too_short 0 0
    ∷ refused 5 0 0
    ∷ []

abbrev pub FurtherCases : Type 0
FurtherCases = map result further_calls ≡ further_results

-- Inputs that pass all checks there are: case 1, searched and checked.
abbrev pub AcceptedCases : Type 0
AcceptedCases =
    SearchAccepted (record { file = mat_or_eve; bound = 2; budget = 3; proof_room = 199; answer_room = 4096; work_room = 16384 })
    × CheckAccepted (record { file = mat_or_eve; bound = 2; offered = case_one.proof; answer_room = 4096; work_room = 16384 })

-- Case 1 with a clause added before the others, at(e,mat): the proof moved along is accepted with the same answer, and a search finds another.
abbrev pub mat_also : List ℕ
mat_also =
    0xC0000301 ∷ 0x80002001 ∷ 0x40000001 ∷ 0x40000002
    ∷ 0xC0000602 ∷ 0x80002001 ∷ 0x40000001 ∷ 0x40000002 ∷ 0x80002001 ∷ 0x40000001 ∷ 0x40000003
    ∷ 0xC0000309 ∷ 0x8000A001 ∷ 0x40000001 ∷ 0x00000000
    ∷ 0x0000000B ∷ 0x00000003 ∷ 0xABEBAFF6 ∷ 0x0000000F ∷ []

abbrev pub GrownCase : Type 0
GrownCase =
    (grown : Larger (table_in mat_or_eve) (table_in mat_also))
    × (map (moved_word grown) case_one.proof ≡ 0x40000001 ∷ 0x40000002 ∷ [])
    × (result (checked mat_also 2 (0x40000001 ∷ 0x40000002 ∷ [])) ≡ result (checked mat_or_eve 2 case_one.proof))
    × (result (searched mat_also 2 1) ≡ found (0x40000000 ∷ []) 1 (0x80002001 ∷ 0x40000001 ∷ 0x40000002 ∷ []) 1)
