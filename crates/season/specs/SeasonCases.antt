-- Order 13 on a small table: every result and every refusal happens, and the promises' premises are met. proofs/Cases.antt proves it by computation.
use Rattle.std.specs.Prelude.{true, false, List, [], ◌∷◌, map, ◌≡◌, ℕ}
use Rattle.table.specs.File.{table_in}
use Rattle.table.specs.Limits.{Words}
use Rattle.rules.specs.Growing.{Inserted}
use Rattle.hukolearu.specs.Says.{SearchAccepted}
use Rattle.season.specs.Season.{Entry, SeasonAsked, single_asked, refused, run_of, entries_fit, refused_report, report_of, proof_after, answer_after}
use Rattle.season.specs.Promises.{Reports, Found, with_entries, with_table}
use Rattle.season.specs.declared.Report.{Report}

-- at(e,mat) or at(e,eve); q(c); ask at(e,X)
abbrev pub small_table : List ℕ
small_table =
    0xC0000602 ∷ 0x80002001 ∷ 0x40000001 ∷ 0x40000002 ∷ 0x80002001 ∷ 0x40000001 ∷ 0x40000003
    ∷ 0xC0000201 ∷ 0x80001002 ∷ 0x40000005
    ∷ 0xC0000309 ∷ 0x8000A001 ∷ 0x40000001 ∷ 0x00000000
    ∷ 0x0000000A ∷ 0x00000003 ∷ 0x1EDD7F44 ∷ 0x0000000E ∷ []

-- at(e,X), and behind it q(X)
abbrev pub questions : List ℕ
questions = 0xC0000309 ∷ 0x8000A001 ∷ 0x40000001 ∷ 0x00000000 ∷ 0xC0000209 ∷ 0x80009002 ∷ 0x00000000 ∷ []

-- at(e,X) with K = 2, found indefinite in 3 tries; q(X), definite in 1; at(e,X) with K = 1, none in 4, and with 2 tries; then refused: both as one
-- question, a bound of 33, past the list, no words at all
abbrev pub entries : List ℕ
entries =
    0 ∷ 4 ∷ 2 ∷ 100
    ∷ 4 ∷ 3 ∷ 1 ∷ 100
    ∷ 0 ∷ 4 ∷ 1 ∷ 100
    ∷ 0 ∷ 4 ∷ 2 ∷ 2
    ∷ 0 ∷ 7 ∷ 2 ∷ 100
    ∷ 4 ∷ 3 ∷ 33 ∷ 100
    ∷ 7 ∷ 1 ∷ 2 ∷ 100
    ∷ 4 ∷ 0 ∷ 1 ∷ 1
    ∷ []

abbrev pub asked : List ℕ → List ℕ → ℕ → ℕ → ℕ → SeasonAsked
asked table words proof_room answer_room work_room =
    record { table = table; entries = words; list = questions; proof_room = proof_room; answer_room = answer_room; work_room = work_room }

abbrev pub calls : List SeasonAsked
calls =
    asked small_table entries 199 6 16384
    ∷ asked small_table entries 199 5 16384
    ∷ asked small_table [] 199 6 16384
    ∷ asked [] (0 ∷ []) 198 6 16383
    ∷ asked [] (0 ∷ []) 198 6 16384
    ∷ asked [] (0 ∷ []) 199 6 16384
    ∷ asked small_table (0 ∷ []) 199 6 16384
    ∷ []

abbrev pub reports : List Report
reports =
    record { status = 0; place = 0; definite = 1; indefinite = 1; none = 1; ranout = 1; toolong = 0; refused = 4; tries = 10 }
    ∷ record { status = 0; place = 0; definite = 1; indefinite = 0; none = 1; ranout = 1; toolong = 1; refused = 4; tries = 10 }
    ∷ refused_report 0 0
    ∷ refused_report 1 0
    ∷ refused_report 2 0
    ∷ refused_report 4 0
    ∷ refused_report 23 0
    ∷ []

abbrev pub SeasonCases : Type 0
SeasonCases = map report_of calls ≡ reports

-- q's proof and answer stand over the front of at's
abbrev pub BufferCases : Type 0
BufferCases =
    (proof_after (asked small_table entries 199 6 16384) (9 ∷ 9 ∷ 9 ∷ []) ≡ 0x40000001 ∷ 0x40000002 ∷ 9 ∷ [])
    × (answer_after (asked small_table entries 199 6 16384) (9 ∷ 9 ∷ 9 ∷ 9 ∷ 9 ∷ 9 ∷ 9 ∷ [])
    ≡ 0x80001002 ∷ 0x40000005 ∷ 0x40000002 ∷ 0x80002001 ∷ 0x40000001 ∷ 0x40000003 ∷ 9 ∷ [])

-- 4,096 entries and not one more, and no words left over
abbrev pub EntryCases : Type 0
EntryCases = map entries_fit (0 ∷ 4 ∷ 5 ∷ 16384 ∷ 16385 ∷ 16388 ∷ []) ≡ true ∷ true ∷ false ∷ true ∷ false ∷ false ∷ []

-- q(X), and the same question restricted: 21, which counts as refused
abbrev pub MarkCase : Type 0
MarkCase =
    report_of
    (record {
      table = small_table;
      entries = 0 ∷ 3 ∷ 1 ∷ 100 ∷ 3 ∷ 3 ∷ 1 ∷ 100 ∷ [];
      list = 0xC0000209 ∷ 0x80009002 ∷ 0x00000000 ∷ 0xC0010209 ∷ 0x80009002 ∷ 0x00000000 ∷ [];
      proof_room = 199;
      answer_room = 6;
      work_room = 16384;
    })
    ≡ record { status = 0; place = 0; definite = 1; indefinite = 0; none = 0; ranout = 0; toolong = 0; refused = 1; tries = 1 }

-- the same table with r added
abbrev pub larger_table : List ℕ
larger_table =
    0xC0000602 ∷ 0x80002001 ∷ 0x40000001 ∷ 0x40000002 ∷ 0x80002001 ∷ 0x40000001 ∷ 0x40000003
    ∷ 0xC0000101 ∷ 0x80000007
    ∷ 0xC0000201 ∷ 0x80001002 ∷ 0x40000005
    ∷ 0xC0000309 ∷ 0x8000A001 ∷ 0x40000001 ∷ 0x00000000
    ∷ 0x0000000C ∷ 0x00000004 ∷ 0x25BC8759 ∷ 0x00000010 ∷ []

abbrev pub at_question : Entry
at_question = record { place = 0; count = 4; bound = 2; budget = 100 }

abbrev pub past_the_list : Entry
past_the_list = record { place = 7; count = 1; bound = 2; budget = 100 }

-- the premises of a larger table that takes nothing back, and of a bad question that changes nothing
abbrev pub GrownCase : Type 0
GrownCase =
    Words small_table × Words larger_table × Words questions
    × Reports (asked small_table entries 199 6 16384) × Reports (with_table (asked small_table entries 199 6 16384) larger_table)
    × Inserted (table_in small_table).clauses (table_in larger_table).clauses
    × SearchAccepted (single_asked (with_table (asked small_table entries 199 6 16384) larger_table) at_question)
    × Found (run_of (asked small_table entries 199 6 16384) at_question).result

abbrev pub BadCase : Type 0
BadCase =
    Reports (with_entries (asked small_table entries 199 6 16384) (at_question ∷ past_the_list ∷ at_question ∷ []))
    × ((run_of (asked small_table entries 199 6 16384) past_the_list).result ≡ refused)
