-- Order 5 as one statement over the public calls, in the manner of the starred cases: proofs that are refused for a clash (14) or for a circle (20),
-- each worked out by hand in docs/orders/05.md. proofs/CallCases.antt proves it by computation.
use Rattle.std.specs.Prelude.{List, [], ◌∷◌, map, ◌≡◌, ℕ}
use Rattle.hukolearu.specs.Calls.{Given, refused}
use Rattle.hukolearu.specs.Cases.{own_mother, other_time, three_terms, Call, result, searched, checked, ample, none}

-- p(X,f(X),a); ask p(Y,Y,b)
abbrev pub circle_then_clash : List ℕ
circle_then_clash =
    0xC0000509 ∷ 0x80003001 ∷ 0x00000000 ∷ 0x40001003 ∷ 0x00000000 ∷ 0x40000001
    ∷ 0xC0000409 ∷ 0x8000B001 ∷ 0x00000000 ∷ 0x00000000 ∷ 0x40000002
    ∷ 0x00000006 ∷ 0x00000002 ∷ 0xF0CB188E ∷ 0x0000000B ∷ []

-- p(a,X,f(X)); ask p(b,Y,Y)
abbrev pub clash_then_circle : List ℕ
clash_then_circle =
    0xC0000509 ∷ 0x80003001 ∷ 0x40000001 ∷ 0x00000000 ∷ 0x40001003 ∷ 0x00000000
    ∷ 0xC0000409 ∷ 0x8000B001 ∷ 0x40000002 ∷ 0x00000000 ∷ 0x00000000
    ∷ 0x00000006 ∷ 0x00000002 ∷ 0xCF624FCE ∷ 0x0000000B ∷ []

-- p(g(X,f(X)),a); ask p(g(Y,Y),b)
abbrev pub circle_inside : List ℕ
circle_inside =
    0xC0000609 ∷ 0x80002001 ∷ 0x40002004 ∷ 0x00000000 ∷ 0x40001003 ∷ 0x00000000 ∷ 0x40000001
    ∷ 0xC0000509 ∷ 0x8000A001 ∷ 0x40002004 ∷ 0x00000000 ∷ 0x00000000 ∷ 0x40000002
    ∷ 0x00000007 ∷ 0x00000002 ∷ 0x22D4FE38 ∷ 0x0000000D ∷ []

-- p(X,X); ask p(a,b)
abbrev pub bound_to_two : List ℕ
bound_to_two =
    0xC0000309 ∷ 0x80002001 ∷ 0x00000000 ∷ 0x00000000
    ∷ 0xC0000301 ∷ 0x8000A001 ∷ 0x40000001 ∷ 0x40000002
    ∷ 0x00000004 ∷ 0x00000002 ∷ 0x98B98E4E ∷ 0x00000008 ∷ []

-- p(f); ask p(f(a))
abbrev pub two_arities : List ℕ
two_arities =
    0xC0000201 ∷ 0x80001001 ∷ 0x40000003
    ∷ 0xC0000301 ∷ 0x80009001 ∷ 0x40001003 ∷ 0x40000001
    ∷ 0x00000003 ∷ 0x00000002 ∷ 0xD6E988CB ∷ 0x00000007 ∷ []

-- p(X,X); q(W,f(W)); ask p(Y,Z) and q(Y,Z)
abbrev pub bound_before : List ℕ
bound_before =
    0xC0000309 ∷ 0x80002001 ∷ 0x00000000 ∷ 0x00000000
    ∷ 0xC0000409 ∷ 0x80002002 ∷ 0x00000000 ∷ 0x40001003 ∷ 0x00000000
    ∷ 0xC0000612 ∷ 0x8000A001 ∷ 0x00000000 ∷ 0x00000001 ∷ 0x8000A002 ∷ 0x00000000 ∷ 0x00000001
    ∷ 0x00000009 ∷ 0x00000003 ∷ 0xC2851C9B ∷ 0x00000010 ∷ []

-- the first clause entered by its first literal
abbrev pub one_step : List ℕ → Call
one_step file = checked file 1 (0x40000000 ∷ [])

abbrev pub reason_calls : List Call
reason_calls =
    -- cases 6, 5 and 8 of document 01
    one_step other_time
    ∷ one_step own_mother
    ∷ one_step three_terms
    ∷ one_step circle_then_clash
    ∷ one_step clash_then_circle
    ∷ one_step circle_inside
    ∷ one_step bound_to_two
    ∷ one_step two_arities
    ∷ checked bound_before 2 (0x40000000 ∷ 0x40000001 ∷ [])
    -- the search treats both as a failed try
    ∷ searched circle_then_clash 1 ample
    ∷ searched clash_then_circle 1 ample
    ∷ searched bound_before 2 ample
    ∷ []

abbrev pub reason_results : List Given
reason_results =
    refused 14 0 0
    ∷ refused 20 0 0
    ∷ refused 14 0 0
    ∷ refused 20 0 0
    ∷ refused 14 0 0
    ∷ refused 20 0 0
    ∷ refused 14 0 0
    ∷ refused 14 0 0
    ∷ refused 20 1 0
    ∷ none 1
    ∷ none 1
    ∷ none 2
    ∷ []

abbrev pub ReasonCases : Type 0
ReasonCases = map result reason_calls ≡ reason_results
