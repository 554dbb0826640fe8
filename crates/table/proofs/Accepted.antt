-- What an accepted file is: each check of document 01 holds of it.
use mathlib.Core.Path.{◌≡◌, refl, ap}
use mathlib.Core.Bool.{Bool, true, false, cond}
use mathlib.Core.List.{List}
use mathlib.Core.Option.{Option, none, some}
use Prim.Native.Nat.{ℕ, ◌≤◌}
use native.Mathlib.Omega.{arith}
use lib.Dec.{eqb, leb}
use lib.ListN.{length}
use borrow.Author.Tests.{eqb-true, leb-true}
use Rattle.words.specs.Fingerprint.{fingerprint}
use Rattle.table.specs.Body.{body_fault, last_of, any_positive}
use Rattle.table.specs.File.{body_of, trailer, clause_starts, size_fits, trailer_fits, fingerprint_fits, clauses_fit, question_words, question_restricted, refused, judge_read, judge_body, judge}
use Rattle.table.specs.declared.Judgement.{Judgement}
use Rattle.table.proofs.Bools.{and_left, and_right}
use Rattle.table.proofs.Files.{TrailerRight, trailer_right}

pub record Accepted (file : List ℕ) : Type 0 where
  pub least : 6 ≤ length file
  pub most : length file ≤ 16000
  pub right : TrailerRight file
  pub fingerprints : fingerprint (body_of file) ≡ trailer file 2
  pub sound : body_fault 0 0 (body_of file) ≡ none
  pub count : length (clause_starts file) ≡ trailer file 1
  pub last : last_of 0 (clause_starts file) ≡ trailer file 0
  pub negative : any_positive (question_words file) ≡ false
  pub unmarked : question_restricted file ≡ false
  pub clauses : (judge file).clauses ≡ trailer file 1
  pub question : (judge file).question ≡ trailer file 0

-- a choice of status 0, where the other side is a refusal
taken : (b : Bool) (x : Judgement) (status : ℕ) → (status ≡ 0 → ⊥) → (cond b x (refused status 0)).status ≡ 0 → b ≡ true
taken true x status n e = refl
taken false x status n e = absurd (n e)

untaken : (b : Bool) (x : Judgement) (status : ℕ) → (status ≡ 0 → ⊥) → (cond b (refused status 0) x).status ≡ 0 → b ≡ false
untaken true x status n e = absurd (n e)
untaken false x status n e = refl

module _ (file : List ℕ) (z : (judge file).status ≡ 0) where
  sized : size_fits file ≡ true
  unfolding judge
  sized = taken (size_fits file) _ 4 (omega arith) z

  trailed : trailer_fits file ≡ true
  unfolding judge
  trailed = taken (trailer_fits file) _ 5 (omega arith) (rw sized at z)

  body-judged : judge file ≡ judge_body file
  unfolding judge
  body-judged = rw (sized, trailed)

  printed : fingerprint_fits file ≡ true
  unfolding judge_body
  printed = taken (fingerprint_fits file) _ 6 (omega arith) (rw body-judged at z)

  read-judged : judge file ≡ judge_read file (body_fault 0 0 (body_of file))
  unfolding judge_body
  read-judged = rw (body-judged, printed)

  faultless : (o : Option ℕ) → (judge_read file o).status ≡ 0 → o ≡ none
  unfolding judge_read
  faultless (some place) e = absurd (omega arith)
  faultless none e = refl

  whole : body_fault 0 0 (body_of file) ≡ none
  whole = faultless (body_fault 0 0 (body_of file)) (rw read-judged at z)

  counted : clauses_fit file ≡ true
  unfolding judge_read
  counted = taken (clauses_fit file) _ 8 (omega arith) (rw (read-judged, whole) at z)

  asked : any_positive (question_words file) ≡ false
  unfolding judge_read
  asked = untaken (any_positive (question_words file)) _ 9 (omega arith) (rw (read-judged, whole, counted) at z)

  question-open : question_restricted file ≡ false
  unfolding judge_read
  question-open = untaken (question_restricted file) _ 21 (omega arith) (rw (read-judged, whole, counted, asked) at z)

  judged : judge file ≡ record { status = 0; place = 0; clauses = trailer file 1; question = trailer file 0 }
  unfolding judge_read
  judged = rw (read-judged, whole, counted, asked, question-open)

  pub accepted : Accepted file
  unfolding size_fits fingerprint_fits clauses_fit
  accepted = record {
    least = leb-true 6 (length file) (and_left _ (leb (length file) 16000) sized);
    most = leb-true (length file) 16000 (and_right (leb 6 (length file)) _ sized);
    right = trailer_right file trailed;
    fingerprints = eqb-true _ _ printed;
    sound = whole;
    count = eqb-true _ _ (and_left _ (eqb (last_of 0 (clause_starts file)) (trailer file 0)) counted);
    last = eqb-true _ _ (and_right (eqb (length (clause_starts file)) (trailer file 1)) _ counted);
    negative = asked;
    unmarked = question-open;
    clauses = ap (λ (j : Judgement). j.clauses) judged;
    question = ap (λ (j : Judgement). j.question) judged;
  }
