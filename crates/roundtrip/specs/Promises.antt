-- What is promised of reading a table's text back (document 02, order 2). Each is proved in proofs/Promises.
use Rattle.std.specs.Prelude.{false, List, map, ◌↔◌, ◌≡◌, ℕ, ◌≤◌, length, take}
use Rattle.words.specs.declared.Step.{Step}
use Rattle.table.specs.Syntax.{Table, all_clauses}
use Rattle.table.specs.Encode.{literals_words, file_words}
use Rattle.table.specs.Decode.{literals_from}
use Rattle.table.specs.Build.{at_front}
use Rattle.table.specs.Limits.{Each, Within, FileWithin, Words}
use Rattle.table.specs.File.{judge, table_in}
use Rattle.clausetext.specs.Texts.{Says}
use Rattle.tptp.specs.declared.TextRead.{TextRead}
use Rattle.tptp.specs.Said.{table_said}
use Rattle.tptp.specs.Reads.{Reads}
use Rattle.clauselines.specs.Lines.{table_text}
use Rattle.clauselines.specs.Call.{write_call}
use Rattle.rules.specs.Setting.{Profile, over}
use Rattle.rules.specs.Tableau.{Tableau, start, Closed}
use Rattle.rules.specs.Order.{First}
use Rattle.rules.specs.Verdict.{Refusal, CheckVerdict, accepted, refused, Checks, Answers}
use Rattle.roundtrip.specs.Renumbered.{number_in, predicates, functions, renamed_literal, renumbered, AlreadySo, InOrder}
use Rattle.roundtrip.specs.Written.{table_written}

-- The text of a table within document 01's limits is permitted, and says its clauses; these stand for the table renumbered.
unfoldable pub TextSays : Type 0
TextSays = (t : Table) → Within t → Says (table_text t) (table_written t)

unfoldable pub SaysRenumbered : Type 0
SaysRenumbered = (t : Table) → Within t → table_said (table_written t) ≡ renumbered t

-- The renumbered table is one that a file can hold, and its file is as long as the old.
pub record HeldAsWell (t u : Table) : Type 0 where
  pub fits : FileWithin u
  pub long : length (file_words u) ≡ length (file_words t)

unfoldable pub RenumberedFits : Type 0
RenumberedFits = (t : Table) → FileWithin t → HeldAsWell t (renumbered t)

-- what reading gives: status 0 and these words at the front of the file buffer, later words unchanged
pub record ReadAs (words buffer : List ℕ) (r : TextRead) (left : List ℕ) : Type 0 where
  pub numbers : r ≡ record { status = 0; place = 0; words = length words }
  pub written : left ≡ at_front words buffer

-- an accepted file, whose text has at most 65,536 bytes, and room for the file
pub record Returns (file buffer : List ℕ) : Type 0 where
  pub words : Words file
  pub accepted : (judge file).status ≡ 0
  pub short : length (table_text (table_in file)) ≤ 65536
  pub room : length file ≤ length buffer

-- Reading back gives the file of the renumbered table, fingerprint and trailer included; there is such a reading, and no other.
unfoldable pub ReadsBack : Type 0
ReadsBack =
    (file buffer : List ℕ) → Returns file buffer → (r : TextRead) (left : List ℕ)
    → Reads (table_text (table_in file)) buffer r left ↔ ReadAs (file_words (renumbered (table_in file))) buffer r left

-- The two calls, one after the other: what the first call leaves at the front of its buffer, as many bytes as it tells, is a text that the
-- second reads so.
pub record Written (file text buffer : List ℕ) : Type 0 where
  pub words : Words file
  pub status : (write_call file (length text)).outcome.status ≡ 0
  pub short : (write_call file (length text)).outcome.bytes ≤ 65536
  pub room : length file ≤ length buffer

abbrev pub text_left : List ℕ → List ℕ → List ℕ
text_left file text = take (write_call file (length text)).outcome.bytes (at_front (write_call file (length text)).text text)

unfoldable pub WrittenReadsBack : Type 0
WrittenReadsBack =
    (file text buffer : List ℕ) → Written file text buffer → (r : TextRead) (left : List ℕ)
    → Reads (text_left file text) buffer r left ↔ ReadAs (file_words (renumbered (table_in file))) buffer r left

-- A file already so comes back word for word.
unfoldable pub ComesBack : Type 0
ComesBack =
    (file buffer : List ℕ) → Returns file buffer → AlreadySo (table_in file) → (r : TextRead) (left : List ℕ)
    → Reads (table_text (table_in file)) buffer r left ↔ ReadAs file buffer r left

-- A file that comes back word for word was already so.
unfoldable pub OnlyIfSo : Type 0
OnlyIfSo =
    (file buffer : List ℕ) → Returns file buffer → (r : TextRead) (left : List ℕ)
    → Reads (table_text (table_in file)) buffer r left → take r.words left ≡ file → AlreadySo (table_in file)

-- It is so exactly where its numbers are in the order of their first use, its variable counts exact, and no clause restricted.
unfoldable pub SoWhereInOrder : Type 0
SoWhereInOrder = (t : Table) → AlreadySo t ↔ InOrder t

-- The text carries no mark, so a file read back has all marks off (order 8).
unfoldable pub MarksOff : Type 0
MarksOff =
    (file buffer : List ℕ) → Returns file buffer → (r : TextRead) (left : List ℕ) → Reads (table_text (table_in file)) buffer r left
    → Each (λ c. c.restricted ≡ false) (all_clauses (table_in (take r.words left)))

-- Renumbering twice is renumbering once.
unfoldable pub TwiceIsOnce : Type 0
TwiceIsOnce = (t : Table) → AlreadySo (renumbered t)

-- A proof over the old table is a proof over the renumbered one and the other way: the same steps are closed within the same bound,
unfoldable pub SameProofs : Type 0
SameProofs =
    (rules : Profile) (t : Table) (bound : ℕ) (steps : List Step)
    → Closed (over rules t bound) steps ↔ Closed (over rules (renumbered t) bound) steps

-- the first of them in the stated order is the same,
unfoldable pub SameFirst : Type 0
SameFirst =
    (rules : Profile) (t : Table) (bound : ℕ) (steps : List Step)
    → First (over rules t bound) steps ↔ First (over rules (renumbered t) bound) steps

-- and so for the file that was read back.
unfoldable pub SameProofsReadBack : Type 0
SameProofsReadBack =
    (file buffer : List ℕ) → Returns file buffer → (r : TextRead) (left : List ℕ) → Reads (table_text (table_in file)) buffer r left
    → (rules : Profile) (bound : ℕ) (steps : List Step)
    → Closed (over rules (table_in file) bound) steps ↔ Closed (over rules (table_in (take r.words left)) bound) steps

-- The checker says the same of the same steps over the old table and the renumbered one: it accepts both, with the same copies of the
-- question, or refuses both for the same reason at the same place; by document 01's rules and by any other profile.
pub data SaysTheSame : CheckVerdict → CheckVerdict → Type 0 where
  accepts : {x y : Tableau} → x.questions ≡ y.questions → SaysTheSame (accepted x) (accepted y)
  refuses : {r : Refusal} {place : ℕ} → SaysTheSame (refused r place) (refused r place)

unfoldable pub SameVerdicts : Type 0
SameVerdicts =
    (rules : Profile) (t : Table) (bound : ℕ) (steps : List Step) (c d : CheckVerdict) → Checks (over rules t bound) (start t) 0 steps c
    → Checks (over rules (renumbered t) bound) (start (renumbered t)) 0 steps d → SaysTheSame c d

-- The answer of a proof over the renumbered table has the numbers by first use of its symbols, and is the same otherwise: as many disjuncts, the same
-- variables.
unfoldable pub answer_renumbered : Table → List ℕ → List ℕ
answer_renumbered t words =
    literals_words (map (renamed_literal (number_in (predicates t)) (number_in (functions t)) (λ x. x)) (literals_from words))

unfoldable pub SameAnswers : Type 0
SameAnswers =
    (rules : Profile) (t : Table) (bound : ℕ) (steps : List Step) → Within t → bound ≤ 32
    → (c : Closed (over rules t bound) steps) (d : Closed (over rules (renumbered t) bound) steps) (n m : ℕ) (ws vs : List ℕ)
    → Answers t c.tableau n ws → Answers (renumbered t) d.tableau m vs → (m ≡ n) × (vs ≡ answer_renumbered t ws)
