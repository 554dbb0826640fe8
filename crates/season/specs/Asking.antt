-- Machinery: what the season's functions promise one another. The public contract rests on none of this: a reader of it need not believe it.
use Rattle.std.specs.Prelude.{Bool, cond, ◌&&◌, List, [], ◌∷◌, ◌++◌, map, ◌≡◌, ℕ, ◌+◌, ◌*◌, ◌≤◌, eqb, leb, length, take, get_or}
use Rattle.words.specs.Fingerprint.{fingerprint}
use Rattle.table.specs.Build.{trailer_words}
use Rattle.table.specs.File.{judge, table_in, trailer}
use Rattle.rules.specs.Setting.{base}
use Rattle.rules.specs.Machinery.Play.{search_for}
use Rattle.hukolearu.specs.Calls.{Given, search_given, at_front}
use Rattle.season.specs.Season.{Entry, entries_of, own_part, file_with, question_at, points_inside, definite, indefinite, none_found, ran_out, too_long, refused, Run, ran, not_run, one_if, counted, proof_left, answer_left}
use Rattle.season.specs.declared.Report.{Report}
use Rattle.season.specs.declared.ask.Ended.{Ended}
use Rattle.season.specs.declared.tally.Kind.{Kind}
use Rattle.season.specs.declared.tally.Kind.TheVariants.{Definite, Indefinite, NoneFound, RanOut, TooLong, Refused}

-- a question as the one clause of a file
abbrev pub alone : List ℕ → List ℕ
alone question = question ++ trailer_words question 0 1

-- a question's file is searched: its bound and the file pass the checks of input
unfoldable pub admits : List ℕ → List ℕ → ℕ → Bool
admits table question bound = leb bound 32 && eqb (judge (file_with table question)).status 0

-- a search past the door
abbrev pub search_inside : List ℕ → ℕ → ℕ → ℕ → Given
search_inside file room bound budget = search_given (base (table_in file) bound) room (search_for (base (table_in file) bound) budget)

unfoldable pub question_run : List ℕ → List ℕ → ℕ → ℕ → ℕ → Run
question_run table question room bound budget =
    cond (admits table question bound) (ran (search_inside (file_with table question) room bound budget)) not_run

unfoldable pub entry_run : List ℕ → List ℕ → ℕ → Entry → Run
entry_run table list room e =
    cond (points_inside list e) (question_run table (question_at list e) room e.bound e.budget) not_run

-- the entry whose words begin at a place
abbrev pub entry_at : List ℕ → ℕ → Entry
entry_at words at =
    record { place = get_or words at 0; count = get_or words (at + 1) 0; bound = get_or words (at + 2) 0; budget = get_or words (at + 3) 0 }

-- an accepted table whose own part stands at the front of the call's own memory, with its fingerprint
pub record Tabled (table file : List ℕ) (begun : ℕ) : Type 0 where
  pub judged : (judge table).status ≡ 0
  pub long : length file ≡ 16000
  pub stands : take (trailer table 0) file ≡ own_part table
  pub mixed : begun ≡ fingerprint (own_part table)

-- buffers that are long enough for a search
pub record Lent (proof work : List ℕ) : Type 0 where
  pub enough : 199 ≤ length proof
  pub room : length work ≡ 16384

-- a question's file stands at the front of the memory
pub record Put (table question : List ℕ) (begun words : ℕ) (file : List ℕ) : Type 0 where
  pub tabled : Tabled table file begun
  pub within : words ≤ 16000
  pub front : take words file ≡ file_with table question

-- the six results as the report's order numbers them
abbrev pub number_of : Kind → ℕ
number_of Definite = definite
number_of Indefinite = indefinite
number_of NoneFound = none_found
number_of RanOut = ran_out
number_of TooLong = too_long
number_of Refused = refused

-- a run's numbers, and its words at the front of the proof and answer buffers
pub record Ran (run : Run) (r : Ended) (proof proof' answer answer' : List ℕ) : Type 0 where
  pub result : number_of r.result ≡ run.result
  pub tries : r.tries ≡ run.tries
  pub steps : proof' ≡ at_front run.proof proof
  pub words : answer' ≡ at_front run.answer answer

-- one run more is counted
abbrev pub counting : Report → ℕ → ℕ → Report
counting report result tries =
    record {
      status = report.status;
      place = report.place;
      definite = report.definite + one_if (eqb result definite);
      indefinite = report.indefinite + one_if (eqb result indefinite);
      none = report.none + one_if (eqb result none_found);
      ranout = report.ranout + one_if (eqb result ran_out);
      toolong = report.toolong + one_if (eqb result too_long);
      refused = report.refused + one_if (eqb result refused);
      tries = report.tries + tries;
    }

unfoldable pub tallied : List Run → Report → Report
tallied [] report = report
tallied (run ∷ runs) report = tallied runs (counting report run.result run.tries)

-- no more of each result than of something, and no more tries than each could have
pub record Few (most : ℕ) (report : Report) : Type 0 where
  pub definite : report.definite ≤ most
  pub indefinite : report.indefinite ≤ most
  pub none : report.none ≤ most
  pub ranout : report.ranout ≤ most
  pub toolong : report.toolong ≤ most
  pub refused : report.refused ≤ most
  pub tries : report.tries ≤ most * 4294967295

-- the report of all entries, and the buffers as their runs in turn leave them
pub record Reported (table entries list : List ℕ) (report : Report) (proof proof' answer answer' : List ℕ) : Type 0 where
  pub numbers : report ≡ counted (map (entry_run table list (length answer)) (entries_of entries))
  pub steps : proof' ≡ proof_left (map (entry_run table list (length answer)) (entries_of entries)) proof
  pub words : answer' ≡ answer_left (map (entry_run table list (length answer)) (entries_of entries)) answer
