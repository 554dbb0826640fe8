-- What is promised of an answer printed in the names of a text. Each is proved in proofs/Promises.
use Rattle.std.specs.Prelude.{Bool, List, [], ◌↔◌, ◌≡◌, ℕ, ◌≤◌, length, take}
use Rattle.words.specs.declared.Step.{Step}
use Rattle.table.specs.Syntax.{Literal, Clause as ClauseSaid}
use Rattle.table.specs.Limits.{Within}
use Rattle.table.specs.File.{table_in}
use Rattle.clausetext.specs.Syntax.{Clause}
use Rattle.clausetext.specs.Texts.{Says}
use Rattle.tptp.specs.Said.{predicates, functions, table_said}
use Rattle.tptp.specs.Reads.{Reads}
use Rattle.tptp.specs.declared.TextRead.{TextRead}
use Rattle.naming.specs.Shown.{Names, names_in, shown}
use Rattle.naming.specs.Noting.{Tells, Indexed}
use Rattle.rules.specs.Setting.{Profile, over}
use Rattle.rules.specs.Tableau.{Closed}
use Rattle.rules.specs.Answer.{disjuncts_in}
use Rattle.rules.specs.Verdict.{Answers}
use Rattle.hukolearu.specs.Status as Status
use Rattle.hukolearu.specs.Calls.{SearchAsked, search_call, CheckAsked, check_call}
use Rattle.hukolearu.specs.Says.{SearchAccepted, CheckAccepted}
use Rattle.hukolearu.specs.CallDemands.{search_status, check_status}
use Rattle.smallest.specs.Smallest.{smallest_call}
use Rattle.smallest.specs.SmallestDemands.{smallest_status}
use Rattle.printed.specs.Reading.{PrintedSays}

-- the names of a text's clauses by their numbers, and none for a variable
abbrev pub names_said : List Clause → Names
names_said cs = record { functions = functions cs; predicates = predicates cs; variables = [] }

-- what is printed for the words of an answer to a question, in names (`naming::show::words`)
abbrev pub printed : Names → ClauseSaid → List ℕ → List ℕ
printed names question words = shown names (length question.literals) 0 [] words

-- a text says the disjuncts that are read in an answer's words, and nothing else
abbrev pub SaysTheAnswer : List Clause → List ℕ → List ℕ → Type 0
SaysTheAnswer cs text words = (ds : List (List (Literal ℕ))) → PrintedSays cs text ds ↔ (ds ≡ disjuncts_in (table_said cs).question words)

-- So of what is printed for every answer of a closed tableau over the table of a text, by any profile's rules.
unfoldable pub PrintedIsTheAnswer : Type 0
PrintedIsTheAnswer =
    (text : List ℕ) (cs : List Clause) → Says text cs → Within (table_said cs)
    → (rules : Profile) (bound : ℕ) → bound ≤ 32 → (steps : List Step) (c : Closed (over rules (table_said cs) bound) steps)
    → (count : ℕ) (words : List ℕ) → Answers (table_said cs) c.tableau count words
    → SaysTheAnswer cs (printed (names_said cs) (table_said cs).question words) words

-- By an index of the text the same is printed, whatever the words.
unfoldable pub SameByIndex : Type 0
SameByIndex =
    (text index : List ℕ) (cs : List Clause) → Tells text index cs → (question : ClauseSaid) (words : List ℕ)
    → printed (names_in text index []) question words ≡ printed (names_said cs) question words

-- No text says two answers.
unfoldable pub OneAnswerSaid : Type 0
OneAnswerSaid =
    (cs : List Clause) (text : List ℕ) (ds es : List (List (Literal ℕ))) → PrintedSays cs text ds → PrintedSays cs text es → ds ≡ es

-- So of the answer at the smallest bound (order 6), over any file that holds the table of the text.
unfoldable pub SmallestInNames : Type 0
SmallestInNames =
    (text : List ℕ) (cs : List Clause) (a : SearchAsked) → Says text cs → table_in a.file ≡ table_said cs → SearchAccepted a → smallest_status a ≡ Status.done
    → SaysTheAnswer cs (printed (names_said cs) (table_said cs).question (smallest_call a).given.answer) (smallest_call a).given.answer

-- The calls one after the other: a text that was read into a file without a refusal, an index of it, and a search over the file, one for the smallest
-- bound (order 6), or a check, that gave an answer. Nothing is asked of what the index call said: it makes an index of every such text.
pub record Asked (text index file : List ℕ) (cs : List Clause) : Type 0 where
  pub says : Says text cs
  pub buffer : List ℕ
  pub left : List ℕ
  pub outcome : TextRead
  pub reads : Reads text buffer outcome left
  pub accepted : outcome.status ≡ 0
  pub written : file ≡ take outcome.words left
  pub made : Bool
  pub indexed : Indexed text index made

-- the words of an answer over a file are printed so, by the index
abbrev pub SaidByIndex : List ℕ → List ℕ → List ℕ → List Clause → List ℕ → Type 0
SaidByIndex text index file cs words = SaysTheAnswer cs (printed (names_in text index []) (table_in file).question words) words

unfoldable pub FoundIsPrinted : Type 0
FoundIsPrinted =
    (text index : List ℕ) (cs : List Clause) (a : SearchAsked) → Asked text index a.file cs → SearchAccepted a → search_status a ≡ Status.done
    → SaidByIndex text index a.file cs (search_call a).answer

unfoldable pub SmallestIsPrinted : Type 0
SmallestIsPrinted =
    (text index : List ℕ) (cs : List Clause) (a : SearchAsked) → Asked text index a.file cs → SearchAccepted a → smallest_status a ≡ Status.done
    → SaidByIndex text index a.file cs (smallest_call a).given.answer

unfoldable pub AcceptedIsPrinted : Type 0
AcceptedIsPrinted =
    (text index : List ℕ) (cs : List Clause) (a : CheckAsked) → Asked text index a.file cs → CheckAccepted a → check_status a ≡ Status.done
    → SaidByIndex text index a.file cs (check_call a).answer
