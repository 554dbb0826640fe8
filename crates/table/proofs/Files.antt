-- The trailer, the counts and the question of a file, one law for each outcome, with premises as the code has them.
use mathlib.Core.Path.{◌≡◌, refl, sym, ap, ◌∙◌}
use mathlib.Core.Bool.{Bool, true, false, ◌&&◌}
use mathlib.Core.List.{List}
use mathlib.Core.Option.{Option, none, some}
use Prim.Native.Nat.{ℕ, ◌-◌, ◌≤◌, ◌<◌}
use native.Mathlib.Omega.{arith}
use lib.Dec.{eqb, leb, ltb}
use lib.ListN.{length, take, drop, get_or}
use lib.Seq.{length-take-le}
use borrow.Author.Tests.{eq-eqb, ne_eqb, le-leb, lt-leb, eqb-true, leb-true, ltb-true}
use Rattle.words.specs.Fields.{restricted_of}
use Rattle.words.specs.Fingerprint.{fingerprint}
use Rattle.table.specs.Body.{body_fault, last_of, any_positive, positive}
use Rattle.table.specs.File.{body_of, trailer, clause_starts, size_fits, trailer_fits, fingerprint_fits, clauses_fit, question_words, question_restricted, refused, judge_read, judge_body, judge}
use Rattle.table.specs.Readers.{body_read}
use Rattle.table.specs.declared.Judgement.{Judgement}
use Rattle.table.proofs.Bools.{and_left, and_right}
use Rattle.std.specs.List.{list_any}
use Rattle.table.proofs.Bodies.{part_from, positive_any}

pub record TrailerRight (file : List ℕ) : Type 0 where
  pub whole : trailer file 3 ≡ length file - 4
  pub some : 1 ≤ trailer file 1
  pub few : trailer file 1 ≤ 512
  pub below : trailer file 0 < trailer file 3

pub trailer_right : (file : List ℕ) → trailer_fits file ≡ true → TrailerRight file
unfolding trailer_fits
trailer_right file e =
    let low = and_left _ (ltb (trailer file 0) (trailer file 3)) e in
    let few = and_left _ (leb (trailer file 1) 512) low in
    record {
      whole = eqb-true _ _ (and_left _ (leb 1 (trailer file 1)) few);
      some = leb-true _ _ (and_right (eqb (trailer file 3) (length file - 4)) _ few);
      few = leb-true _ _ (and_right (eqb (trailer file 3) (length file - 4) && leb 1 (trailer file 1)) _ low);
      below = ltb-true _ _ (and_right (eqb (trailer file 3) (length file - 4) && leb 1 (trailer file 1) && leb (trailer file 1) 512) _ e);
    }

-- the body is as long as the file without its trailer
pub body_length : (file : List ℕ) → length file - 4 ≡ length (body_of file)
body_length file = sym (length-take-le (length file - 4) file (omega arith))

-- the question begins within the body, and its words are the last
module _ (file : List ℕ) {t0 q0 : ℕ} (e0 : t0 ≡ trailer file 0) (w0 : q0 ≡ t0) where
  pub question_within : trailer_fits file ≡ true → q0 ≤ length (body_of file)
  question_within fits =
      let right = trailer_right file fits in omega (arith, right.whole, right.below, body_length file)

  pub question_last : {a : Bool} → a ≡ list_any positive (take (length (body_of file) - q0) (drop q0 (body_of file))) → a ≡ any_positive (question_words file)
  question_last ea =
      ea
      ∙ positive_any (take (length (body_of file) - q0) (drop q0 (body_of file)))
      ∙ ap (λ (l : List ℕ). any_positive l) (part_from (body_of file) q0)
      ∙ ap (λ (n : ℕ). any_positive (drop n (body_of file))) (w0 ∙ e0)

  -- its own word stands in the file
  pub question_in : trailer_fits file ≡ true → q0 < length file
  question_in fits = let right = trailer_right file fits in omega (arith, right.whole, right.below)

  pub question_mark : {m : Bool} → m ≡ restricted_of (get_or file q0 0) → m ≡ question_restricted file
  question_mark em = em ∙ ap (λ (n : ℕ). restricted_of (get_or file n 0)) (w0 ∙ e0)

pub ruleset question_laws = (body_length, question_within, question_last, question_in, question_mark)

-- a body read with a fault keeps its status and place; one read with status 0 has no fault
pub keep_fault : (file : List ℕ) {read : Judgement} (o : Option ℕ) → read ≡ body_read (body_of file) o → (read.status ≡ 0 → ⊥) → read ≡ judge_read file o
unfolding judge_read
keep_fault file (some place) e n = e
keep_fault file none e n = absurd (n (ap (λ (j : Judgement). j.status) e))

pub no_fault : (body : List ℕ) {read : Judgement} (o : Option ℕ) → read ≡ body_read body o → read.status ≡ 0 → o ≡ none
no_fault body none e z = refl
no_fault body (some place) e z =
    let k : ◌≡◌ {A = ℕ} 7 0 = sym (ap (λ (j : Judgement). j.status) e) ∙ z in absurd (omega arith)

module _ (file : List ℕ) {read : Judgement} (o : Option ℕ) (e : read ≡ body_read (body_of file) o) (z : read.status ≡ 0) where
  sound : o ≡ none
  sound = no_fault (body_of file) o e z

  counts : read.clauses ≡ length (clause_starts file)
  counts = ap (λ (j : Judgement). j.clauses) (rw sound at e)

  begins : read.question ≡ last_of 0 (clause_starts file)
  begins = ap (λ (j : Judgement). j.question) (rw sound at e)

  module _ {q1 t1 : ℕ} (e1 : t1 ≡ trailer file 1) (w1 : q1 ≡ t1) where
    pub count_differs : (read.clauses ≡ q1 → ⊥) → {r : Judgement} → r ≡ refused 8 0 → r ≡ judge_read file o
    unfolding judge_read clauses_fit
    count_differs n er =
        rw (sound, ne_eqb (length (clause_starts file)) (trailer file 1) (λ p. n (counts ∙ p ∙ sym e1 ∙ sym w1)), er)

    module _ (p1 : read.clauses ≡ q1) {q0 t0 : ℕ} (e0 : t0 ≡ trailer file 0) (w0 : q0 ≡ t0) where
      same_count : eqb (length (clause_starts file)) (trailer file 1) ≡ true
      same_count = eq-eqb (length (clause_starts file)) (trailer file 1) (sym counts ∙ p1 ∙ w1 ∙ e1)

      pub start_differs : (read.question ≡ q0 → ⊥) → {r : Judgement} → r ≡ refused 8 0 → r ≡ judge_read file o
      unfolding judge_read clauses_fit
      start_differs n er =
          rw (sound, same_count, ne_eqb (last_of 0 (clause_starts file)) (trailer file 0) (λ p. n (begins ∙ p ∙ sym e0 ∙ sym w0)), er)

      module _ (p0 : read.question ≡ q0) where
        same_start : eqb (last_of 0 (clause_starts file)) (trailer file 0) ≡ true
        same_start = eq-eqb (last_of 0 (clause_starts file)) (trailer file 0) (sym begins ∙ p0 ∙ w0 ∙ e0)

        question_is : read.question ≡ trailer file 0
        question_is = p0 ∙ w0 ∙ e0

        module _ {a : Bool} (ea : a ≡ any_positive (question_words file)) where
          pub question_refused : a ≡ true → {r : Judgement} → r ≡ refused 9 0 → r ≡ judge_read file o
          unfolding judge_read clauses_fit
          question_refused t er = rw (sound, same_count, same_start, sym ea ∙ t, er)

          module _ (t : a ≡ false) {m : Bool} (em : m ≡ question_restricted file) where
            pub mark_refused : m ≡ true → {r : Judgement} → r ≡ refused 21 0 → r ≡ judge_read file o
            unfolding judge_read clauses_fit
            mark_refused u er = rw (sound, same_count, same_start, sym ea ∙ t, sym em ∙ u, er)

            pub file_accepted : m ≡ false → read ≡ judge_read file o
            unfolding judge_read clauses_fit
            file_accepted u =
                rw (sound, same_count, same_start, sym ea ∙ t, sym em ∙ u)
                (λ i. record { status = z i; place = ap (λ (j : Judgement). j.place) (rw sound at e) i; clauses = (p1 ∙ w1 ∙ e1) i; question = question_is i })

pub ruleset read_laws = (keep_fault, count_differs, start_differs, question_refused, mark_refused, file_accepted)

-- the fingerprint, then the body; the size, then the trailer
module _ (file : List ℕ) where
  pub body_short : length file ≤ 16000 → length (body_of file) ≤ 16000
  body_short h = omega (arith, body_length file)

  module _ {f t2 : ℕ} (ef : f ≡ fingerprint (body_of file)) (e2 : t2 ≡ trailer file 2) where
    pub fingerprint_differs : (f ≡ t2 → ⊥) → {r : Judgement} → r ≡ refused 6 0 → r ≡ judge_body file
    unfolding judge_body fingerprint_fits
    fingerprint_differs n er =
        rw (ne_eqb (fingerprint (body_of file)) (trailer file 2) (λ p. n (ef ∙ p ∙ sym e2)), er)

    pub fingerprint_same : f ≡ t2 → {r : Judgement} → r ≡ judge_read file (body_fault 0 0 (body_of file)) → r ≡ judge_body file
    unfolding judge_body fingerprint_fits
    fingerprint_same p er = rw (eq-eqb (fingerprint (body_of file)) (trailer file 2) (sym ef ∙ p ∙ e2), er)

  pub file_short : length file < 6 → {r : Judgement} → r ≡ refused 4 0 → r ≡ judge file
  unfolding judge size_fits
  file_short h er = rw (lt-leb 6 (length file) h, er)

  module _ (least : 6 ≤ length file) where
    pub file_long : 16000 < length file → {r : Judgement} → r ≡ refused 4 0 → r ≡ judge file
    unfolding judge size_fits
    file_long h er = rw (le-leb 6 (length file) least, lt-leb (length file) 16000 h, er)

    module _ (most : length file ≤ 16000) {t : Bool} (et : t ≡ trailer_fits file) where
      pub trailer_wrong : t ≡ false → {r : Judgement} → r ≡ refused 5 0 → r ≡ judge file
      unfolding judge size_fits
      trailer_wrong p er = rw (le-leb 6 (length file) least, le-leb (length file) 16000 most, sym et ∙ p, er)

      pub trailer_good : t ≡ true → {r : Judgement} → r ≡ judge_body file → r ≡ judge file
      unfolding judge size_fits
      trailer_good p er = rw (le-leb 6 (length file) least, le-leb (length file) 16000 most, sym et ∙ p, er)

pub judged_trailer : (file : List ℕ) {t : Bool} → t ≡ trailer_fits file → t ≡ true → trailer_fits file ≡ true
judged_trailer file et p = sym et ∙ p

pub ruleset judge_laws = (body_length, body_short, fingerprint_differs, fingerprint_same, file_short, file_long, trailer_wrong, trailer_good, judged_trailer)
