-- What is promised of reading a table's text back.
use borrow.Author.Tests.{eqb-true, eqb-false}
use mathlib.Core.Bool.{Bool, true, false, cond}
use mathlib.Core.List.{List, ◌++◌}
use mathlib.Core.Logic.{◌↔◌}
use mathlib.Core.Path.{◌≡◌, refl, sym, ap, ◌∙◌}
use Prim.Native.Nat.{ℕ, ◌≤◌}
use native.Mathlib.Omega.{arith}
use lib.Dec.{eqb, leb}
use lib.ListN.{length, take, drop, length-append}
use lib.Seq.{take-append_seam}
use Rattle.table.specs.Syntax.{Literal, Table}
use Rattle.table.specs.Encode.{literals_words, file_words}
use Rattle.table.specs.Decode.{literals_from}
use Rattle.table.specs.Limits.{FileWithin}
use Rattle.table.specs.File.{judge, table_in}
use Rattle.table.proofs.Encoding.{literals_decoded}
use Rattle.table.proofs.FileEncoding.{file_within, file_encoded, file_decoded}
use Rattle.clausetext.specs.Syntax.{Clause}
use Rattle.clausetext.specs.Texts.{Says, questions}
use Rattle.tptp.specs.declared.TextRead.{TextRead}
use Rattle.tptp.specs.Said.{table_said}
use Rattle.tptp.specs.Reads.{Fits, Answered, read, Reads, fine}
use Rattle.tptp.specs.Promises.{OneOutcome}
use Rattle.tptp.proofs.Promises.{one_outcome}
use Rattle.clauselines.specs.Lines.{table_text}
use Rattle.clauselines.specs.Call.{Given, refused, granted, if_it_fits, write_call}
use Rattle.words.specs.declared.Step.{Step}
use Rattle.rules.specs.Setting.{over}
use Rattle.rules.specs.Tableau.{Closed}
use Rattle.rules.specs.Answer.{disjuncts, joined, numbered, answer_words}
use Rattle.rules.proofs.Reading.{answer_within}
use Rattle.roundtrip.specs.Renumbered.{renumbered, AlreadySo}
use Rattle.roundtrip.specs.Written.{table_written}
use Rattle.roundtrip.specs.Promises.{TextSays, SaysRenumbered, RenumberedFits, ReadAs, Returns, ReadsBack, Written, text_left, WrittenReadsBack, ComesBack, OnlyIfSo, SoWhereInOrder, MarksOff, TwiceIsOnce, SameVerdicts, SameProofs, SameFirst, SameProofsReadBack, answer_renumbered, SameAnswers}
use Rattle.roundtrip.proofs.Spelling as Spelling
use Rattle.roundtrip.proofs.Saying as Saying
use Rattle.roundtrip.proofs.Saying.{one_question}
use Rattle.roundtrip.proofs.Limits.{file_long, renumbered_unmarked, renumbered_file}
use Rattle.roundtrip.proofs.Twice as Twice
use Rattle.roundtrip.proofs.InOrder as InOrder
use Rattle.roundtrip.proofs.SameProofs as Proofs
use Rattle.roundtrip.proofs.Verdicts as Verdicts
use Rattle.roundtrip.proofs.Answers.{same_count, answer-renumbered}

pub text_says : TextSays
unfolding TextSays
text_says t h = Spelling.text_says t h

pub says_renumbered : SaysRenumbered
unfolding SaysRenumbered
says_renumbered t h = Saying.says_renumbered t h

pub renumbered_fits : RenumberedFits
unfolding RenumberedFits
renumbered_fits t h = record { fits = renumbered_file t h; long = file_long t }

pub so_where_in_order : SoWhereInOrder
unfolding SoWhereInOrder
so_where_in_order t = InOrder.so_where_in_order t

pub twice_is_once : TwiceIsOnce
unfolding TwiceIsOnce AlreadySo
twice_is_once t = Twice.twice_is_once t

-- a table that a file can hold fits into a buffer as long as its file
table_fits : (t : Table) (room : ℕ) → FileWithin t → length (file_words t) ≤ room → Fits t room
unfolding file_words
table_fits t room h k = record {
  within = h.table;
  short = simp length-append (omega (arith, h.short));
  room = k;
}

-- what a text says is read so
abbrev outcome : List ℕ → TextRead
outcome words = record { status = 0; place = 0; words = length words }

read_as : {cs : List Clause} {text buffer : List ℕ} (u : Table) → length text ≤ 65536 → Says text cs → Answered cs buffer (outcome (file_words u)) (file_words u ++ drop (length (file_words u)) buffer)
    → (r : TextRead) (left : List ℕ) → Reads text buffer r left ↔ ReadAs (file_words u) buffer r left
unfolding OneOutcome
read_as {cs} {text} {buffer} u short says a r left = (
  λ x. (let s = one_outcome text buffer r (outcome (file_words u)) left (file_words u ++ drop (length (file_words u)) buffer) x (fine short says a) in record { numbers = s.numbers; written = s.words }),
  λ x. rw (x.numbers, x.written) (fine short says a),
)

answered : (u : Table) (cs : List Clause) (buffer : List ℕ) → table_said cs ≡ u → questions cs ≡ 1 → FileWithin u → length (file_words u) ≤ length buffer
    → Answered cs buffer (outcome (file_words u)) (file_words u ++ drop (length (file_words u)) buffer)
answered u cs buffer e one h room =
    rw (← e) (read one (rw e (table_fits u (length buffer) h room)) (rw e h.question))

-- an accepted file, and the table in it
module _ {file buffer : List ℕ} (a : Returns file buffer) where
  table-in : FileWithin (table_in file)
  table-in = file_within file a.words a.accepted

  words-in : file ≡ file_words (table_in file)
  words-in = file_encoded file a.words a.accepted

  room_back : length (file_words (renumbered (table_in file))) ≤ length buffer
  room_back = rw (file_long (table_in file), ← words-in) a.room

  back : (r : TextRead) (left : List ℕ) → Reads (table_text (table_in file)) buffer r left ↔ ReadAs (file_words (renumbered (table_in file))) buffer r left
  back = read_as (renumbered (table_in file)) a.short (Spelling.text_says (table_in file) table-in.table)
      (answered (renumbered (table_in file)) (table_written (table_in file)) buffer (Saying.says_renumbered (table_in file) table-in.table) (one_question (table_in file))
      (renumbered_file (table_in file) table-in) room_back)

  so-words : AlreadySo (table_in file) → file_words (renumbered (table_in file)) ≡ file
  unfolding AlreadySo
  so-words so = ap (λ (t : Table). file_words t) so ∙ sym words-in

  pub front_back : (r : TextRead) (left : List ℕ) → Reads (table_text (table_in file)) buffer r left → take r.words left ≡ file_words (renumbered (table_in file))
  front_back r left x =
      let b : ReadAs (file_words (renumbered (table_in file))) buffer r left = (back r left).0 x in
      rw (b.numbers, b.written) (take-append_seam (file_words (renumbered (table_in file))) (drop (length (file_words (renumbered (table_in file)))) buffer))

  pub table_back : (r : TextRead) (left : List ℕ) → Reads (table_text (table_in file)) buffer r left → table_in (take r.words left) ≡ renumbered (table_in file)
  table_back r left x = ap (λ (ws : List ℕ). table_in ws) (front_back r left x) ∙ file_decoded (renumbered (table_in file)) (renumbered_file (table_in file) table-in).table

pub reads_back : ReadsBack
unfolding ReadsBack
reads_back file buffer a r left = back a r left

-- a text that was written is the table's
abbrev Told : List ℕ → Given → Type 0
Told file g = (g.outcome.status ≡ 0) → ((judge file).status ≡ 0) × (g.outcome.bytes ≡ length (table_text (table_in file))) × (g.text ≡ table_text (table_in file))

told_written : (file : List ℕ) (room : ℕ) → Told file (write_call file room)
unfolding write_call if_it_fits
told_written file room = go (eqb (judge file).status 0) refl (leb (length (table_text (table_in file))) room)
  where
    go : (b : Bool) → eqb (judge file).status 0 ≡ b → (c : Bool)
        → Told file (cond b (cond c (granted (table_text (table_in file))) (refused 16 0)) (refused (judge file).status (judge file).place))
    go true e true = λ z. (eqb-true (judge file).status 0 e, refl, refl)
    go true e false = λ z. absurd (omega arith)
    go false e c = λ z. absurd (eqb-false (judge file).status 0 e z)

written_back : (file text buffer : List ℕ) → Written file text buffer → (r : TextRead) (left : List ℕ)
    → Reads (text_left file text) buffer r left ↔ ReadAs (file_words (renumbered (table_in file))) buffer r left
written_back file text buffer a r left =
    let t = told_written file (length text) a.status in
    let whole : text_left file text ≡ table_text (table_in file) =
    rw (t.1, t.2) (take-append_seam (table_text (table_in file)) (drop (length (table_text (table_in file))) text)) in
    rw whole (back (record { words = a.words; accepted = t.0; short = rw (← t.1) a.short; room = a.room }) r left)

pub written_reads_back : WrittenReadsBack
unfolding WrittenReadsBack
written_reads_back file text buffer a r left = written_back file text buffer a r left

pub comes_back : ComesBack
unfolding ComesBack
comes_back file buffer a so r left = rw (so-words a so) at (back a r left)

pub only_if_so : OnlyIfSo
unfolding OnlyIfSo AlreadySo
only_if_so file buffer a r left x same = sym (table_back a r left x) ∙ ap (λ (ws : List ℕ). table_in ws) same

pub marks_off : MarksOff
unfolding MarksOff
marks_off file buffer a r left x = rw (table_back a r left x) (renumbered_unmarked (table_in file))

pub same_verdicts : SameVerdicts
unfolding SameVerdicts
same_verdicts rules t bound steps c d x y = Verdicts.same_verdicts rules t bound steps c d x y

pub same_proofs : SameProofs
unfolding SameProofs
same_proofs rules t bound steps = Proofs.same_proofs rules t bound steps

pub same_first : SameFirst
unfolding SameFirst
same_first rules t bound steps =
    let same : (other : List Step) → Closed (over rules t bound) other ↔ Closed (over rules (renumbered t) bound) other = Proofs.same_proofs rules t bound in
    (λ h. ((same steps).0 h.0, λ other c. h.1 other ((same other).1 c)), λ h. ((same steps).1 h.0, λ other c. h.1 other ((same other).0 c)))

pub same_proofs_read_back : SameProofsReadBack
unfolding SameProofsReadBack
same_proofs_read_back file buffer a r left x rules bound steps = rw (table_back a r left x) (Proofs.same_proofs rules (table_in file) bound steps)

pub same_answers : SameAnswers
unfolding SameAnswers answer_renumbered answer_words
same_answers rules t bound steps within low c d n m ws vs a b =
    let old : List (Literal ℕ) = numbered (joined (disjuncts a.by t c.tableau)) in
    let read : literals_from ws ≡ numbered (joined (disjuncts a.by t c.tableau)) =
    ap (λ (us : List ℕ). literals_from us) a.written ∙ literals_decoded old (omega arith) (answer_within (over rules t bound) within low c a.by a.general) in
    let new = answer-renumbered rules t bound steps c d a.by b.by a.general b.general in (
      same_count rules t bound steps c d a.by a.general m vs b ∙ sym a.counted,
      rw read (b.written ∙ ap (λ (ls : List (Literal ℕ)). literals_words ls) new),
    )
