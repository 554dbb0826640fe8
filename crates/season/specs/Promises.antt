-- What the season report promises (document 02, order 13), over all that it can be asked. Nothing is proved here; proofs/Promises.antt proves each of them.
use Rattle.std.specs.Prelude.{cond, List, [], ◌∷◌, ◌++◌, ◌↔◌, ◌⊎◌, ◌≢◌, ◌≡◌, ℕ, ◌+◌, ◌≤◌, ◌<◌, length}
use Rattle.std.proofs.Math.Option.{none}
use Rattle.table.specs.File.{table_in}
use Rattle.table.specs.Limits.{Words}
use Rattle.rules.specs.Growing.{Inserted}
use Rattle.hukolearu.specs.Status as Status
use Rattle.hukolearu.specs.Door.{work_after}
use Rattle.hukolearu.specs.Calls.{Given, search_call, search_with, at_front}
use Rattle.hukolearu.specs.Says.{SearchAccepted}
use Rattle.hukolearu.specs.CallDemands.{search_status}
use Rattle.season.specs.Season.{Entry, entries_of, SeasonAsked, file_with, question_at, points_inside, single_asked, definite, indefinite, none_found, ran_out, too_long, refused, run_of, runs_of, how_many, tries_of, season_fault, report_of, proof_after, answer_after, work_left, season_with}
use Rattle.season.specs.declared.Report.{Report}

-- the table and the entries pass the checks of input: status 0
abbrev pub Reports : SeasonAsked → Type 0
Reports a = season_fault a ≡ none

abbrev pub StatusZeroExactly : Type 0
StatusZeroExactly = (a : SeasonAsked) → ((report_of a).status ≡ Status.done) ↔ Reports a

-- The first six add up to the number of questions,
abbrev pub SixAddUp : Type 0
SixAddUp =
    (a : SeasonAsked) → Reports a
    → (report_of a).definite + (report_of a).indefinite + (report_of a).none + (report_of a).ranout + (report_of a).toolong + (report_of a).refused
    ≡ length (entries_of a.entries)

-- each is the number of those with that result,
abbrev pub EachIsCounted : Type 0
EachIsCounted =
    (a : SeasonAsked) → Reports a
    → ((report_of a).definite ≡ how_many definite (runs_of a)) × ((report_of a).indefinite ≡ how_many indefinite (runs_of a))
    × ((report_of a).none ≡ how_many none_found (runs_of a)) × ((report_of a).ranout ≡ how_many ran_out (runs_of a))
    × ((report_of a).toolong ≡ how_many too_long (runs_of a)) × ((report_of a).refused ≡ how_many refused (runs_of a))
    × ((report_of a).tries ≡ tries_of (runs_of a))

-- which is what its single run gives.
pub record Single (a : SeasonAsked) (e : Entry) (status : ℕ) : Type 0 where
  pub inside : e.place + e.count ≤ length a.list
  pub status_is : search_status (single_asked a e) ≡ status

abbrev pub disjuncts_of : SeasonAsked → Entry → ℕ
disjuncts_of a e = (search_call (single_asked a e)).outcome.disjuncts

abbrev pub DefiniteExactly : Type 0
DefiniteExactly =
    (a : SeasonAsked) (e : Entry) → ((run_of a e).result ≡ definite) ↔ (Single a e Status.done × (disjuncts_of a e ≡ 1))

abbrev pub IndefiniteExactly : Type 0
IndefiniteExactly =
    (a : SeasonAsked) (e : Entry) → ((run_of a e).result ≡ indefinite) ↔ (Single a e Status.done × (disjuncts_of a e ≢ 1))

abbrev pub NoneExactly : Type 0
NoneExactly = (a : SeasonAsked) (e : Entry) → ((run_of a e).result ≡ none_found) ↔ Single a e Status.none_found

abbrev pub RanOutExactly : Type 0
RanOutExactly = (a : SeasonAsked) (e : Entry) → ((run_of a e).result ≡ ran_out) ↔ Single a e Status.ran_out

abbrev pub TooLongExactly : Type 0
TooLongExactly = (a : SeasonAsked) (e : Entry) → ((run_of a e).result ≡ too_long) ↔ Single a e Status.answer_too_long

-- Refused are those that point past the list, and those whose run is refused by its bound or its file: 3, 4 to 9, or 21.
abbrev pub RefusedInput : ℕ → Type 0
RefusedInput status = ((3 ≤ status) × (status ≤ 9)) ⊎ (status ≡ 21)

abbrev pub RefusedExactly : Type 0
RefusedExactly =
    (a : SeasonAsked) → Reports a → (e : Entry)
    → ((run_of a e).result ≡ refused)
    ↔ ((length a.list < e.place + e.count)
    ⊎ ((e.place + e.count ≤ length a.list) × RefusedInput (search_status (single_asked a e))))

-- The tries of an entry are its single run's; one that points past the list has none.
abbrev pub TriesExactly : Type 0
TriesExactly =
    (a : SeasonAsked) (e : Entry)
    → (e.place + e.count ≤ length a.list → (run_of a e).tries ≡ (search_call (single_asked a e)).outcome.tries)
    × (length a.list < e.place + e.count → (run_of a e).tries ≡ 0)

-- THE BUFFERS
-- one run after the other, each lent the buffers as the one before left them
pub record Buffers : Type 0 where
  pub proof : List ℕ
  pub answer : List ℕ
  pub work : List ℕ

abbrev pub left_by : Given → Buffers → Buffers
left_by g b = record { proof = at_front g.proof b.proof; answer = at_front g.answer b.answer; work = work_after b.work }

unfoldable pub ran_in : SeasonAsked → Entry → Buffers → Buffers
ran_in a e b =
    cond (points_inside a.list e)
    (left_by (search_call (search_with (file_with a.table (question_at a.list e)) e.bound e.budget b.proof b.answer b.work)) b)
    b

unfoldable pub in_turn : SeasonAsked → List Entry → Buffers → Buffers
in_turn a [] b = b
in_turn a (e ∷ es) b = in_turn a es (ran_in a e b)

-- The buffers end as those runs in turn leave them; the work words are zeroed, with no runs too.
abbrev pub BuffersInTurn : Type 0
BuffersInTurn =
    (table entries list proof answer work : List ℕ) → Reports (season_with table entries list proof answer work)
    → (proof_after (season_with table entries list proof answer work) proof
    ≡ (in_turn (season_with table entries list proof answer work) (entries_of entries) (record { proof = proof; answer = answer; work = work })).proof)
    × (answer_after (season_with table entries list proof answer work) answer
    ≡ (in_turn (season_with table entries list proof answer work) (entries_of entries) (record { proof = proof; answer = answer; work = work })).answer)
    × (work_left (season_with table entries list proof answer work) work
    ≡ work_after (in_turn (season_with table entries list proof answer work) (entries_of entries) (record { proof = proof; answer = answer; work = work })).work)

-- ONE BAD QUESTION
-- so many entries as words
unfoldable pub words_of : List Entry → List ℕ
words_of [] = []
words_of (e ∷ es) = e.place ∷ e.count ∷ e.bound ∷ e.budget ∷ words_of es

abbrev pub with_entries : SeasonAsked → List Entry → SeasonAsked
with_entries a es =
    record {
      table = a.table;
      entries = words_of es;
      list = a.list;
      proof_room = a.proof_room;
      answer_room = a.answer_room;
      work_room = a.work_room;
    }

abbrev pub one_refused_more : Report → Report
one_refused_more r =
    record {
      status = r.status;
      place = r.place;
      definite = r.definite;
      indefinite = r.indefinite;
      none = r.none;
      ranout = r.ranout;
      toolong = r.toolong;
      refused = 1 + r.refused;
      tries = r.tries;
    }

-- One that is bad counts as refused and doesn't stop the rest: without it the report and the buffers are the same, but for the one refused.
abbrev pub BadChangesNothing : Type 0
BadChangesNothing =
    (a : SeasonAsked) (before after : List Entry) (bad : Entry) → Reports (with_entries a (before ++ (bad ∷ after))) → (run_of a bad).result ≡ refused
    → (report_of (with_entries a (before ++ (bad ∷ after))) ≡ one_refused_more (report_of (with_entries a (before ++ after))))
    × ((proof : List ℕ) → proof_after (with_entries a (before ++ (bad ∷ after))) proof ≡ proof_after (with_entries a (before ++ after)) proof)
    × ((answer : List ℕ) → answer_after (with_entries a (before ++ (bad ∷ after))) answer ≡ answer_after (with_entries a (before ++ after)) answer)

-- A LARGER TABLE
abbrev pub with_table : SeasonAsked → List ℕ → SeasonAsked
with_table a table =
    record {
      table = table;
      entries = a.entries;
      list = a.list;
      proof_room = a.proof_room;
      answer_room = a.answer_room;
      work_room = a.work_room;
    }

-- found, its answer fitting or not
abbrev pub Found : ℕ → Type 0
Found result = (result ≡ definite) ⊎ ((result ≡ indefinite) ⊎ (result ≡ too_long))

-- With clauses added to the table, question by question, where its run is still accepted: what was found is found, or the budget ends; never "none".
abbrev pub NothingTakenBack : Type 0
NothingTakenBack =
    (a : SeasonAsked) (larger : List ℕ) → Words a.table → Words larger → Words a.list → Reports a → Reports (with_table a larger)
    → Inserted (table_in a.table).clauses (table_in larger).clauses
    → (e : Entry) → SearchAccepted (single_asked (with_table a larger) e) → Found (run_of a e).result
    → Found (run_of (with_table a larger) e).result ⊎ ((run_of (with_table a larger) e).result ≡ ran_out)
