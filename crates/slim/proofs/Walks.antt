-- The clauses of an accepted file passed one by one: where each stands, and what words it has. One law for each outcome, with premises as the code has them.
use lib.ListN.{length, take, drop, get_or, length-append}
use lib.Seq.{take-suc, take_all, split_at, take-append_seam, drop-append_seam, get_or-append-add}
use mathlib.Core.List.{List, [], ◌∷◌, ◌++◌, append_assoc}
use mathlib.Core.Path.{◌≡◌, refl, sym, ap, ◌∙◌}
use native.Mathlib.Decide.{dec_lt}
use native.Mathlib.Nat.{add-zero}
use native.Mathlib.Numerals.{add-one}
use native.Mathlib.Omega.{arith}
use Prim.Native.Nat.{ℕ, zero, suc, ◌+◌, ◌-◌, ◌≤◌, ◌<◌}
use Rattle.words.specs.Fields.{following_of}
use Rattle.words.specs.Fingerprint.{fingerprint}
use Rattle.words.proofs.Packed.{clause_following}
use Rattle.table.specs.Syntax.{Clause, Table, all_clauses}
use Rattle.table.specs.Encode.{literals_words, clause_words, clauses_words, body_words, file_words}
use Rattle.table.specs.File.{table_in}
use Rattle.table.specs.Limits.{Each, ClauseWithin, FileWithin}
use Rattle.table.proofs.Accepted.{accepted}
use Rattle.table.proofs.FileEncoding.{clauses_append, body_split, file_encoded, file_within}
use Rattle.table.proofs.Building.{clauses_snoc, question_place}
use Rattle.slim.specs.Dropping.{clause_no}
use Rattle.slim.specs.Walking.{Ready, Passed}

-- what holds of each holds of the one at a place
pub each_at : {A : Type 0} (P : A → Type 0) (xs : List A) (n : ℕ) (other : A) → n < length xs → Each P xs → P (get_or xs n other)
unfolding Each
each_at P [] n other h e = absurd (omega arith)
each_at P (x ∷ xs) zero other h e = e.0
each_at P (x ∷ xs) (suc n) other h e = each_at P xs n other (omega arith) e.1

pub each_left : {A : Type 0} (P : A → Type 0) (xs ys : List A) → Each P (xs ++ ys) → Each P xs
unfolding Each
each_left P [] ys e = tt
each_left P (x ∷ xs) ys e = (e.0, each_left P xs ys e.1)

pub each_right : {A : Type 0} (P : A → Type 0) (xs ys : List A) → Each P (xs ++ ys) → Each P ys
unfolding Each
each_right P [] ys e = e
each_right P (x ∷ xs) ys e = each_right P xs ys e.1

-- a clause's own word tells how many words it has
pub own_length : (c : Clause) (ws : List ℕ) → ClauseWithin c → following_of (get_or (clause_words c ++ ws) 0 0) + 1 ≡ length (clause_words c)
unfolding clause_words
own_length c ws h =
    let e = clause_following (length c.literals) c.variables (length (literals_words c.literals)) (omega (arith, h.few)) (omega (arith, h.variables)) (omega (arith, h.follow)) c.restricted in
    rw e (add-one (length (literals_words c.literals)))

pub clause_some : (c : Clause) → 1 ≤ length (clause_words c)
unfolding clause_words
clause_some c = omega arith

-- a clause that stands behind words, and words behind it
module _ (front : List ℕ) (c : Clause) (back : List ℕ) (within : ClauseWithin c) {at end : ℕ} {file : List ℕ} (e : file ≡ front ++ (clause_words c ++ back)) (place : at ≡ length front)
    (ends : end ≡ at + (following_of (get_or file at 0) + 1)) where
  word-there : get_or file at 0 ≡ get_or (clause_words c ++ back) 0 0
  word-there =
      rw (e, place)
      (ap (λ (n : ℕ). get_or (front ++ (clause_words c ++ back)) n 0) (sym (add-zero (length front))) ∙ get_or-append-add front (clause_words c ++ back) 0 0)

  pub stands_end : end ≡ at + length (clause_words c)
  stands_end = ends ∙ rw word-there (ap (λ (n : ℕ). at + n) (own_length c back within))

  pub stands_words : take (end - at) (drop at file) ≡ clause_words c
  stands_words =
      let n : end - at ≡ length (clause_words c) = omega (arith, stands_end) in
      rw (n, e, place, drop-append_seam front (clause_words c ++ back)) (take-append_seam (clause_words c) back)

  pub stands_in : at < length file
  stands_in = rw e (omega (arith, length-append front (clause_words c ++ back), length-append (clause_words c) back, clause_some c))

  pub stands_within : end ≤ length file
  stands_within = rw e (omega (arith, stands_end, length-append front (clause_words c ++ back), length-append (clause_words c) back))

-- the words of a file up to a clause before the question, and behind it
abbrev trailing : Table → List ℕ
trailing t = length (clauses_words t.clauses) ∷ length (all_clauses t) ∷ fingerprint (body_words t) ∷ length (body_words t) ∷ []

abbrev behind_clause : Table → ℕ → List ℕ
behind_clause t n = clauses_words (drop (suc n) t.clauses) ++ (clause_words t.question ++ trailing t)

clauses_split : (t : Table) (n : ℕ) → n < length t.clauses
    → clauses_words t.clauses ≡ clauses_words (take n t.clauses) ++ (clause_words (clause_no t n) ++ clauses_words (drop (suc n) t.clauses))
unfolding clauses_words
clauses_split t n h =
    ap (λ (cs : List Clause). clauses_words cs) (split_at t.clauses n t.question h)
    ∙ clauses_append (take n t.clauses) (clause_no t n ∷ drop (suc n) t.clauses)

file_split : (t : Table) → FileWithin t → file_words t ≡ clauses_words t.clauses ++ (clause_words t.question ++ trailing t)
unfolding file_words
file_split t h =
    ap (λ (ws : List ℕ). ws ++ trailing t) (body_split t h) ∙ append_assoc (clauses_words t.clauses) (clause_words t.question) (trailing t)

module _ (file : List ℕ) (question : ℕ) (r : Ready file question) where
  pub within : FileWithin (table_in file)
  within = file_within file r.small r.accepted

  pub asked_at : question ≡ length (clauses_words (table_in file).clauses)
  asked_at = r.asks ∙ question_place file r.small r.accepted

  pub file_short : length file ≤ 16000
  file_short = (accepted file r.accepted).most

  pub clauses_few : length (table_in file).clauses < 512
  unfolding all_clauses
  clauses_few = omega (arith, within.table.few, length-append (table_in file).clauses ((table_in file).question ∷ []))

  pub clauses_within : Each ClauseWithin (table_in file).clauses
  unfolding all_clauses
  clauses_within = each_left ClauseWithin (table_in file).clauses ((table_in file).question ∷ []) within.table.clauses

  pub question_within : ClauseWithin (table_in file).question
  unfolding all_clauses Each
  question_within = (each_right ClauseWithin (table_in file).clauses ((table_in file).question ∷ []) within.table.clauses).0

  pub walk_begin : Passed (table_in file) 0 0
  unfolding clauses_words
  walk_begin = record { below = omega arith; place = refl }

  module _ (number at : ℕ) (p : Passed (table_in file) number at) where
    -- a clause before the question
    standing : number < length (table_in file).clauses → file ≡ clauses_words (take number (table_in file).clauses) ++ (clause_words (clause_no (table_in file) number) ++ behind_clause (table_in file) number)
    standing h =
        let t = table_in file in
        let c = clause_words (clause_no (table_in file) number) in
        let front = clauses_words (take number (table_in file).clauses) in
        let back = clauses_words (drop (suc number) (table_in file).clauses) in
        let rest = clause_words (table_in file).question ++ trailing (table_in file) in
        file_encoded file r.small r.accepted
        ∙ file_split t within
        ∙ ap (λ (ws : List ℕ). ws ++ (clause_words (table_in file).question ++ trailing (table_in file))) (clauses_split t number h)
        ∙ append_assoc front (c ++ back) rest
        ∙ ap (λ (ws : List ℕ). front ++ ws) (append_assoc c back rest)

    further : number < length (table_in file).clauses → at + length (clause_words (clause_no (table_in file) number)) ≤ question
    further h =
        let t = table_in file in
        omega (
          arith,
          asked_at,
          p.place,
          ap (λ (ws : List ℕ). length ws) (clauses_split t number h),
          length-append (clauses_words (take number t.clauses)) (clause_words (clause_no t number) ++ clauses_words (drop (suc number) t.clauses)),
          length-append (clause_words (clause_no t number)) (clauses_words (drop (suc number) t.clauses)),
        )

    all_passed : length (table_in file).clauses ≤ number → at ≡ question
    all_passed h =
        p.place ∙ ap (λ (cs : List Clause). length (clauses_words cs)) (take_all number (table_in file).clauses h) ∙ sym asked_at

    pub walk_below : at < question → number < length (table_in file).clauses
    walk_below h = inside (dec_lt number (length (table_in file).clauses))
      where
        inside : Dec (number < length (table_in file).clauses) → number < length (table_in file).clauses
        inside (yes k) = k
        inside (no n) = let k : length (table_in file).clauses ≤ number = omega arith in absurd (omega (arith, all_passed k))

    pub walk_before : number < length (table_in file).clauses → at < question
    walk_before h = omega (arith, further h, clause_some (clause_no (table_in file) number))

    pub walk_ended : length (table_in file).clauses ≤ number → question ≤ at
    walk_ended h = omega (arith, all_passed h)

    pub walk_done : question ≤ at → number ≡ length (table_in file).clauses
    walk_done h = outside (dec_lt number (length (table_in file).clauses))
      where
        outside : Dec (number < length (table_in file).clauses) → number ≡ length (table_in file).clauses
        outside (yes k) = absurd (omega (arith, further k, clause_some (clause_no (table_in file) number)))
        outside (no n) = omega (arith, p.below)

    pub passed_at_most : at ≤ question
    passed_at_most = at_most (dec_lt number (length (table_in file).clauses))
      where
        at_most : Dec (number < length (table_in file).clauses) → at ≤ question
        at_most (yes k) = omega (arith, further k)
        at_most (no n) = omega (arith, all_passed (omega arith))

    pub walk_in : at < question → at < length file
    walk_in h =
        let k = walk_below h in
        stands_in (clauses_words (take number (table_in file).clauses)) (clause_no (table_in file) number) (behind_clause (table_in file) number) (each_at ClauseWithin (table_in file).clauses number (table_in file).question k clauses_within) (standing k) p.place refl

    module _ (end : ℕ) (e : end ≡ at + (following_of (get_or file at 0) + 1)) (h : at < question) where
      pub clause_end : end ≡ at + length (clause_words (clause_no (table_in file) number))
      clause_end =
          let k = walk_below h in
          stands_end (clauses_words (take number (table_in file).clauses)) (clause_no (table_in file) number) (behind_clause (table_in file) number) (each_at ClauseWithin (table_in file).clauses number (table_in file).question k clauses_within) (standing k) p.place e

      pub walk_words : take (end - at) (drop at file) ≡ clause_words (clause_no (table_in file) number)
      walk_words =
          let k = walk_below h in
          stands_words (clauses_words (take number (table_in file).clauses)) (clause_no (table_in file) number) (behind_clause (table_in file) number) (each_at ClauseWithin (table_in file).clauses number (table_in file).question k clauses_within) (standing k) p.place e

      pub walk_within : end ≤ length file
      walk_within =
          let k = walk_below h in
          stands_within (clauses_words (take number (table_in file).clauses)) (clause_no (table_in file) number) (behind_clause (table_in file) number) (each_at ClauseWithin (table_in file).clauses number (table_in file).question k clauses_within) (standing k) p.place e

      pub walk_next : Passed (table_in file) (number + 1) end
      walk_next =
          let t = table_in file in
          let k = walk_below h in
          let c = clause_no (table_in file) number in
          let z : clauses_words (take (number + 1) t.clauses) ≡ clauses_words (take number t.clauses) ++ clause_words (clause_no t number) =
          ap (λ (n : ℕ). clauses_words (take n t.clauses)) (add-one number)
          ∙ ap (λ (cs : List Clause). clauses_words cs) (take-suc t.clauses number t.question k)
          ∙ clauses_snoc (take number t.clauses) c
          in
          record {
            below = omega arith;
            place = clause_end ∙ omega (arith, p.place, ap (λ (ws : List ℕ). length ws) z, length-append (clauses_words (take number t.clauses)) (clause_words c));
          }

  -- the question
  asking : file ≡ clauses_words (table_in file).clauses ++ (clause_words (table_in file).question ++ trailing (table_in file))
  asking = file_encoded file r.small r.accepted ∙ file_split (table_in file) within

  pub question_in : question < length file
  question_in = stands_in (clauses_words (table_in file).clauses) (table_in file).question (trailing (table_in file)) question_within asking asked_at refl

  module _ (end : ℕ) (e : end ≡ question + (following_of (get_or file question 0) + 1)) where
    pub question_words_lem : take (end - question) (drop question file) ≡ clause_words (table_in file).question
    question_words_lem = stands_words (clauses_words (table_in file).clauses) (table_in file).question (trailing (table_in file)) question_within asking asked_at e

    pub question_inside : end ≤ length file
    question_inside = stands_within (clauses_words (table_in file).clauses) (table_in file).question (trailing (table_in file)) question_within asking asked_at e

    pub question_length : end ≡ question + length (clause_words (table_in file).question)
    question_length = stands_end (clauses_words (table_in file).clauses) (table_in file).question (trailing (table_in file)) question_within asking asked_at e

    pub question_room : end + 4 ≤ length file
    question_room =
        rw asking
        (omega (
          arith,
          asked_at,
          question_length,
          length-append (clauses_words (table_in file).clauses) (clause_words (table_in file).question ++ trailing (table_in file)),
          length-append (clause_words (table_in file).question) (trailing (table_in file)),
        ))
