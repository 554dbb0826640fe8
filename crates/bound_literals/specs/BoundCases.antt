-- Cases by computation, on document 01's case 1 (at(e,mat) or at(e,eve); ask at(e,X)) and its questions 7 and 8: what literals are before the first step,
-- after one and after all of them; steps that cannot be taken.
use Rattle.std.specs.Prelude.{List, [], ◌∷◌, map, ◌≡◌, ℕ}
use Rattle.std.proofs.Math.Option.{Option, none, some}
use Rattle.words.specs.Steps.{step_of}
use Rattle.table.specs.Syntax.{Table}
use Rattle.table.specs.Decode.{table_of}
use Rattle.rules.specs.Setting.{base}
use Rattle.rules.specs.Machinery.Play.{Play, begin}
use Rattle.bound_literals.specs.Bound.{play_from, words_after, slots_of}

abbrev pub mat_or_eve : Table
mat_or_eve = table_of (0xC0000602 ∷ 0x80002001 ∷ 0x40000001 ∷ 0x40000002 ∷ 0x80002001 ∷ 0x40000001 ∷ 0x40000003 ∷ 0xC0000309 ∷ 0x8000A001 ∷ 0x40000001 ∷ 0 ∷ [])

-- p(f(X,g(Y))); ask p(f(g(Z),Z))
abbrev pub two_terms : Table
two_terms =
    table_of (0xC0000511 ∷ 0x80001001 ∷ 0x40002001 ∷ 0 ∷ 0x40001002 ∷ 1 ∷ 0xC0000509 ∷ 0x80009001 ∷ 0x40002001 ∷ 0x40001002 ∷ 0 ∷ 0 ∷ [])

abbrev pub play_of : Table → List ℕ → Option Play
play_of t steps = play_from (base t 32) (begin t) (map step_of steps)

abbrev pub words_by : Table → List ℕ → Option Play → ℕ → ℕ → List ℕ
words_by t steps none copy number = []
words_by t steps (some p) copy number = words_after t (map step_of steps) p copy number

abbrev pub words_of : Table → List ℕ → ℕ → ℕ → List ℕ
words_of t steps copy number = words_by t steps (play_of t steps) copy number

-- The question's literal before any step, when X is free; after the first, when it is bound to mat; the second copy of the question's; the other literal
-- of the clause's copy; a copy that is not made, and a literal that a copy has not.
abbrev pub MatOrEveCase : Type 0
MatOrEveCase =
    words_of mat_or_eve [] 0 0
    ∷ words_of mat_or_eve (0x40000000 ∷ []) 0 0
    ∷ words_of mat_or_eve (0x40000000 ∷ 0x40000001 ∷ []) 2 0
    ∷ words_of mat_or_eve (0x40000000 ∷ []) 1 1
    ∷ words_of mat_or_eve (0x40000000 ∷ []) 2 0
    ∷ words_of mat_or_eve (0x40000000 ∷ []) 1 2
    ∷ []
    ≡ (0x8000A001 ∷ 0x40000001 ∷ 0 ∷ [])
    ∷ (0x8000A001 ∷ 0x40000001 ∷ 0x40000002 ∷ [])
    ∷ (0x8000A001 ∷ 0x40000001 ∷ 0x40000003 ∷ [])
    ∷ (0x80002001 ∷ 0x40000001 ∷ 0x40000003 ∷ [])
    ∷ []
    ∷ []
    ∷ []

-- A variable of copy 1 that stays free is number 1 of that copy: 17, in the copy's own literal and in the question's.
abbrev pub TwoTermsCase : Type 0
TwoTermsCase =
    words_of two_terms (0x40000000 ∷ []) 0 0 ∷ words_of two_terms (0x40000000 ∷ []) 1 0 ∷ []
    ≡ (0x80009001 ∷ 0x40002001 ∷ 0x40001002 ∷ 0x40001002 ∷ 17 ∷ 0x40001002 ∷ 17 ∷ [])
    ∷ (0x80001001 ∷ 0x40002001 ∷ 0x40001002 ∷ 0x40001002 ∷ 17 ∷ 0x40001002 ∷ 17 ∷ [])
    ∷ []

-- A reduction at the start, where there is no ancestor, and a word that is no step cannot be taken: nothing is written.
abbrev pub NotTakenCase : Type 0
NotTakenCase =
    slots_of mat_or_eve (map step_of (1 ∷ [])) (play_of mat_or_eve (1 ∷ [])) ∷ slots_of mat_or_eve (map step_of (0x80000000 ∷ [])) (play_of mat_or_eve (0x80000000 ∷ [])) ∷ []
    ≡ [] ∷ [] ∷ []
