-- What is promised of reading a text.
use Rattle.std.specs.Prelude.{Err}
use mathlib.Core.Bool.{false}
use mathlib.Core.List.{List}
use mathlib.Core.Logic.{◌↔◌}
use mathlib.Core.Path.{◌≡◌, refl, sym, ap, ◌∙◌}
use Prim.Native.Nat.{ℕ, ◌+◌, ◌≤◌}
use native.Mathlib.Omega.{arith}
use lib.ListN.{length, drop, length-append}
use lib.Seq.{take-append_seam, drop-append_seam}
use Rattle.clausetext.specs.Syntax.{Clause}
use Rattle.clausetext.specs.Texts.{Verdict, counts, Says, Verdicts}
use Rattle.clausetext.proofs.Judgement.{only_verdict}
use Rattle.clausetext.proofs.OneReading.{one_reading}
use Rattle.table.specs.declared.Judgement.{Judgement}
use Rattle.table.specs.Syntax.{Table}
use Rattle.table.specs.Encode.{body_words, file_words}
use Rattle.table.specs.Limits.{FileWithin}
use Rattle.table.specs.File.{judge, table_in}
use Rattle.table.proofs.FileEncoding.{file_accepted, file_decoded}
use Rattle.tptp.specs.Said.{clause_said, table_said}
use Rattle.tptp.specs.declared.TextRead.{TextRead}
use Rattle.tptp.specs.Reads.{Fits, Denied, Answered, unasked, over, positive, read, Reads, wrong, fine}
use Rattle.tptp.specs.Promises.{Same, OneOutcome, WrongExactly, Exactly, StatusExactly, Written, FileAccepted, RefusalChangesNothing}

same : {r : TextRead} {f : List ℕ} → Same r r f f
same = record { numbers = refl; words = refl }

answered_once : {cs : List Clause} {file : List ℕ} {r s : TextRead} {f g : List ℕ} → Answered cs file r f → Answered cs file s g → Same r s f g
answered_once (unasked a) (unasked b) = same
answered_once (unasked a) (over b c) = absurd (a b)
answered_once (unasked a) (positive b c d) = absurd (a b)
answered_once (unasked a) (read b c d) = absurd (a b)
answered_once (over a b) (unasked c) = absurd (c a)
answered_once (over a b) (over c d) = same
answered_once (over a b) (positive c d e) = absurd (b d)
answered_once (over a b) (read c d e) = absurd (b d)
answered_once (positive a b c) (unasked d) = absurd (d a)
answered_once (positive a b c) (over d e) = absurd (e b)
answered_once (positive a b c) (positive d e f) = same
answered_once (positive a b c) (read d e f) = absurd (c f)
answered_once (read a b c) (unasked d) = absurd (d a)
answered_once (read a b c) (over d e) = absurd (e b)
answered_once (read a b c) (positive d e f) = absurd (f c)
answered_once (read a b c) (read d e f) = same

wrong_fine : {text : List ℕ} {place : ℕ} {cs : List Clause} → Verdicts text (Err place) → length text ≤ 65536 → Says text cs → ⊥
wrong_fine w h y =
    let e : Err _ ≡ counts _ _ = sym (only_verdict w) ∙ only_verdict (Verdicts.fine h y) in
    let z : ◌≡◌ {A = ℕ} 0 1 = cc in omega arith

one : {text file : List ℕ} {r s : TextRead} {f g : List ℕ} → Reads text file r f → Reads text file s g → Same r s f g
one (wrong {place = p} a) (wrong {place = q} b) =
    let e : ◌≡◌ {A = Verdict} (Err p) (Err q) = sym (only_verdict a) ∙ only_verdict b in
    let z : p ≡ q = cc in record { numbers = rw z; words = refl }
one (wrong a) (fine h y b) = absurd (wrong_fine a h y)
one (fine h y a) (wrong b) = absurd (wrong_fine b h y)
one (fine h y a) (fine k z b) = answered_once a (rw (one_reading z y) at b)

pub one_outcome : OneOutcome
unfolding OneOutcome
one_outcome text file r s left other a b = one a b

-- the statuses
answered_status : {cs : List Clause} {file : List ℕ} {r : TextRead} {left : List ℕ} → Answered cs file r left → r.status ≡ 17 → ⊥
answered_status (unasked a) e = omega arith
answered_status (over a b) e = omega arith
answered_status (positive a b c) e = omega arith
answered_status (read a b c) e = omega arith

told_wrong : {text file : List ℕ} {r : TextRead} {left : List ℕ} → Reads text file r left → r.status ≡ 17 ↔ Verdicts text (Err r.place)
told_wrong (wrong a) = (λ e. a, λ v. refl)
told_wrong (fine h y a) = (λ e. absurd (answered_status a e), λ v. absurd (wrong_fine v h y))

pub wrong_exactly : WrongExactly
unfolding WrongExactly
wrong_exactly text file r left a = told_wrong a

exactly : {cs : List Clause} {file : List ℕ} {r : TextRead} {left : List ℕ} → Answered cs file r left → Exactly cs (length file) r
exactly (unasked a) = record {
  eighteen = (λ e. a, λ q. refl);
  nineteen = (λ e. absurd (omega arith), λ q. absurd (a q.0));
  nine = (λ e. absurd (omega arith), λ q. absurd (a q.0));
  zero = (λ e. absurd (omega arith), λ q. absurd (a q.0));
}
exactly (over a b) = record {
  eighteen = (λ e. absurd (omega arith), λ q. absurd (q a));
  nineteen = (λ e. (a, b), λ q. refl);
  nine = (λ e. absurd (omega arith), λ q. absurd (b q.1));
  zero = (λ e. absurd (omega arith), λ q. absurd (b q.1));
}
exactly (positive a b c) = record {
  eighteen = (λ e. absurd (omega arith), λ q. absurd (q a));
  nineteen = (λ e. absurd (omega arith), λ q. absurd (q.1 b));
  nine = (λ e. (a, b, c), λ q. refl);
  zero = (λ e. absurd (omega arith), λ q. absurd (c q.2));
}
exactly (read a b c) = record {
  eighteen = (λ e. absurd (omega arith), λ q. absurd (q a));
  nineteen = (λ e. absurd (omega arith), λ q. absurd (q.1 b));
  nine = (λ e. absurd (omega arith), λ q. absurd (q.2 c));
  zero = (λ e. (a, b, c), λ q. refl);
}

answered_as : {text file : List ℕ} {r : TextRead} {left : List ℕ} {cs : List Clause} → length text ≤ 65536 → Says text cs → Reads text file r left → Answered cs file r left
answered_as h y (wrong a) = absurd (wrong_fine a h y)
answered_as h y (fine k z a) = rw (one_reading z y) at a

pub status_exactly : StatusExactly
unfolding StatusExactly
status_exactly text file r left cs h y a = exactly (answered_as h y a)

-- the text carries no mark
said_unmarked : (cs : List Clause) → (table_said cs).question.restricted ≡ false
unfolding table_said clause_said
said_unmarked cs = refl

-- a file that is written
module _ (t : Table) (room : ℕ) (f : Fits t room) (d : Denied t) (u : t.question.restricted ≡ false) where
  file_long : length (file_words t) ≡ length (body_words t) + 4
  unfolding file_words
  file_long = length-append (body_words t) _

  fits-file : FileWithin t
  fits-file = record { table = f.within; question = d; unmarked = u; short = omega (arith, f.short, file_long) }

  written-accepted : (judge (file_words t)).status ≡ 0
  written-accepted = ap (λ (j : Judgement). j.status) (file_accepted t fits-file)

  written-table : table_in (file_words t) ≡ t
  written-table = file_decoded t f.within

written : {cs : List Clause} {file : List ℕ} {r : TextRead} {left : List ℕ} → Answered cs file r left → r.status ≡ 0 → Written cs file left r.words
written (unasked a) e = absurd (omega arith)
written (over a b) e = absurd (omega arith)
written (positive a b c) e = absurd (omega arith)
written {cs} {file} (read a b c) e = record {
  judged = rw (take-append_seam (file_words (table_said cs)) (drop (length (file_words (table_said cs))) file)) (written-accepted (table_said cs) (length file) b c (said_unmarked cs));
  table = rw (take-append_seam (file_words (table_said cs)) (drop (length (file_words (table_said cs))) file)) (written-table (table_said cs) (length file) b c (said_unmarked cs));
  later = drop-append_seam (file_words (table_said cs)) (drop (length (file_words (table_said cs))) file);
}

told_written : {text file : List ℕ} {r : TextRead} {left : List ℕ} {cs : List Clause} → Says text cs → Reads text file r left → r.status ≡ 0 → Written cs file left r.words
told_written y (wrong a) e = absurd (omega arith)
told_written y (fine h z a) e = written (rw (one_reading z y) at a) e

pub file_accepted_as_said : FileAccepted
unfolding FileAccepted
file_accepted_as_said text file r left cs y a e = told_written y a e

answered_kept : {cs : List Clause} {file : List ℕ} {r : TextRead} {left : List ℕ} → Answered cs file r left → (r.status ≡ 0 → ⊥) → left ≡ file
answered_kept (unasked a) e = refl
answered_kept (over a b) e = refl
answered_kept (positive a b c) e = refl
answered_kept (read a b c) e = absurd (e refl)

kept : {text file : List ℕ} {r : TextRead} {left : List ℕ} → Reads text file r left → (r.status ≡ 0 → ⊥) → left ≡ file
kept (wrong a) e = refl
kept (fine h y a) e = answered_kept a e

pub refusal_changes_nothing : RefusalChangesNothing
unfolding RefusalChangesNothing
refusal_changes_nothing text file r left a e = kept a e
