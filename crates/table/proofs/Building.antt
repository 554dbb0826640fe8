-- Building a file: words copied behind those that stand, clauses one by one, and the sealed file of a table, which is accepted and says that table.
use mathlib.Core.Path.{◌≡◌, refl, sym, ap, ◌∙◌}
use mathlib.Core.List.{List, [], ◌∷◌, ◌++◌, append_assoc, append-nil}
use Prim.Native.Nat.{ℕ, zero, suc, ◌+◌, ◌^◌, ◌≤◌, ◌<◌}
use native.Mathlib.Numerals.{add-one}
use native.Mathlib.Omega.{arith}
use lib.ListN.{length, take, drop, get_or, set, length-append, length-drop}
use lib.Seq.{paste, paste-zero, paste-suc, length-paste, take-length, take-append_seam, drop-append_seam, drop-append-add, drop-drop, drop-cons, set-append_seam, append_snoc}
use Rattle.table.specs.Build.{at_front, behind, trailer_words, sealed}
use Rattle.table.specs.Encode.{clause_words, clauses_words, body_words, file_words}
use Rattle.table.specs.File.{body_of, table_in, clause_starts, clause_part, judge}
use Rattle.table.specs.Limits.{Each, FileWithin, Words}
use Rattle.table.specs.Syntax.{Clause, Table, all_clauses}
use Rattle.table.specs.declared.Judgement.{Judgement}
use Rattle.table.proofs.Files.{body_length}
use Rattle.table.proofs.Positions.{words_from}
use Rattle.table.proofs.Lookups.{part_found}
use Rattle.table.proofs.BodyDecoding.{clause_encoded, table_encoded}
use Rattle.table.proofs.AcceptedTable.{body_words_lem, body_readable, clause_stands, clause_sound_in_file, clause_numbered}
use Rattle.table.proofs.FileEncoding.{clauses_append, body_split, file_accepted, file_decoded, file_encoded, file_within}

-- so many of the words have been copied
pub record Copying (file : List ℕ) (at : ℕ) (words : List ℕ) (i : ℕ) (copied : List ℕ) : Type 0 where
  pub within : i ≤ length words
  pub stands : copied ≡ paste file at words i
  pub long : length copied ≡ length file

module _ {file words : List ℕ} {at : ℕ} (room : at + length words ≤ length file) where
  pub copy_begin : Copying file at words 0 file
  copy_begin = record { within = omega arith; stands = paste-zero file at words; long = refl }

  module _ {i : ℕ} {copied : List ℕ} (g : Copying file at words i copied) where
    pub copy_in : i < length words → at + i < length copied
    copy_in h = omega (arith, g.long)

    pub copy_next : i < length words → Copying file at words (i + 1) (set copied (at + i) (get_or words i 0))
    copy_next h =
        let e : set copied (at + i) (get_or words i 0) ≡ paste file at words (i + 1) =
        rw (g.stands, add-one) (paste-suc file at words i 0 (omega arith) h)
        in
        record {
          within = omega arith;
          stands = e;
          long = ap length e ∙ length-paste file at words (i + 1) (omega arith) (omega arith);
        }

    pub copy_done : length words ≤ i → copied ≡ behind file at words
    copy_done h =
        let z : i ≡ length words = omega (arith, g.within) in
        g.stands ∙ rw (z, take-length)

-- words that stand at the front, and more behind them
pub more_behind : (done more buffer : List ℕ) → behind (at_front done buffer) (length done) more ≡ at_front (done ++ more) buffer
more_behind done more buffer =
    rw (take-append_seam done (drop (length done) buffer), drop-append-add done (drop (length done) buffer) (length more), drop-drop (length more) (length done) buffer, length-append done more, append_assoc)

pub front_long : (words buffer : List ℕ) → length words ≤ length buffer → length (at_front words buffer) ≡ length buffer
front_long words buffer h = omega (arith, length-append words (drop (length words) buffer), length-drop (length words) buffer)

-- one word more
pub word_behind : (done buffer : List ℕ) (w : ℕ) → length done < length buffer → set (at_front done buffer) (length done) w ≡ at_front (done ++ (w ∷ [])) buffer
word_behind done buffer w h =
    let z : length (done ++ (w ∷ [])) ≡ suc (length done) = omega (arith, length-append done (w ∷ [])) in
    ap (λ (ws : List ℕ). set (done ++ ws) (length done) w) (drop-cons buffer (length done) 0 h)
    ∙ set-append_seam done (get_or buffer (length done) 0) (drop (suc (length done)) buffer) w
    ∙ sym (append_snoc done w (drop (suc (length done)) buffer))
    ∙ ap (λ (n : ℕ). done ++ (w ∷ []) ++ drop n buffer) (sym z)

-- one clause more
pub clauses_snoc : (cs : List Clause) (c : Clause) → clauses_words (cs ++ (c ∷ [])) ≡ clauses_words cs ++ clause_words c
unfolding clauses_words
clauses_snoc cs c = clauses_append cs (c ∷ []) ∙ rw append-nil

-- a table's body that is sealed is the table's file: it is accepted, and it says that table
pub sealed_file : (t : Table) (buffer : List ℕ)
    → sealed (at_front (body_words t) buffer) (length (body_words t)) (length (clauses_words t.clauses)) (length (all_clauses t)) ≡ at_front (file_words t) buffer
unfolding file_words
sealed_file t buffer =
    ap (λ (ws : List ℕ). behind (at_front (body_words t) buffer) (length (body_words t)) (trailer_words ws (length (clauses_words t.clauses)) (length (all_clauses t))))
    (take-append_seam (body_words t) (drop (length (body_words t)) buffer))
    ∙ more_behind (body_words t) (trailer_words (body_words t) (length (clauses_words t.clauses)) (length (all_clauses t))) buffer

pub record SaysTable (t : Table) (file : List ℕ) : Type 0 where
  pub front : take (length (file_words t)) file ≡ file_words t
  pub long : length (file_words t) ≡ length (body_words t) + 4
  pub judged : judge (file_words t) ≡ record { status = 0; place = 0; clauses = length (all_clauses t); question = length (clauses_words t.clauses) }
  pub table : table_in (file_words t) ≡ t

pub says_table : (t : Table) → FileWithin t → (buffer : List ℕ) → SaysTable t (at_front (file_words t) buffer)
unfolding file_words
says_table t h buffer =
    record {
      front = take-append_seam (file_words t) (drop (length (file_words t)) buffer);
      long = length-append (body_words t) (trailer_words (body_words t) (length (clauses_words t.clauses)) (length (all_clauses t)));
      judged = file_accepted t h;
      table = file_decoded t h.table;
    }

-- the words of an accepted file's clauses
each_drop : {A : Type 0} (P : A → Type 0) (n : ℕ) (xs : List A) → Each P xs → Each P (drop n xs)
unfolding Each
each_drop P zero xs h = h
each_drop P (suc n) [] h = h
each_drop P (suc n) (x ∷ xs) h = each_drop P n xs h.1

before_question : (t : Table) → FileWithin t → take (length (clauses_words t.clauses)) (file_words t) ≡ clauses_words t.clauses
unfolding file_words
before_question t h =
    rw (body_split t h, append_assoc) (take-append_seam (clauses_words t.clauses) _)

module _ (file : List ℕ) (small : Words file) (z : (judge file).status ≡ 0) where
  pub words_of_clause : (number : ℕ) (other : Clause) → number < (judge file).clauses
      → words_from file (get_or (clause_starts file) number 0) ≡ clause_words (get_or (all_clauses (table_in file)) number other)
  words_of_clause number other h =
      let s = get_or (clause_starts file) number 0 in
      let inside : s < length file = omega (arith, (clause_stands file z number h).inside, body_length file) in
      let own = drop-cons file s 0 inside in
      let sound = rw add-one at (clause_sound_in_file file z number h) in
      let words = rw own at (each_drop (λ (w : ℕ). w < 2 ^ 32) s file small) in
      let encoded = clause_encoded (get_or file s 0) (drop (suc s) file) sound words in
      rw (clause_numbered file z number h other, own) (sym encoded)

  pub looked_up_words : (number : ℕ) (other : Clause) → number < (judge file).clauses
      → take (clause_part file number).count (drop (clause_part file number).start file) ≡ clause_words (get_or (all_clauses (table_in file)) number other)
  looked_up_words number other h = rw (part_found file number z h, add-one) (words_of_clause number other h)

  -- the clauses before the question, and the question
  pub question_place : (judge file).question ≡ length (clauses_words (table_in file).clauses)
  question_place =
      ap (λ (ws : List ℕ). (judge ws).question) (file_encoded file small z)
      ∙ ap (λ (j : Judgement). j.question) (file_accepted (table_in file) (file_within file small z))

  pub words_before_question : take (judge file).question file ≡ clauses_words (table_in file).clauses
  words_before_question =
      let t = table_in file in
      let h = file_within file small z in
      ap (λ (n : ℕ). take n file) question_place
      ∙ ap (λ (ws : List ℕ). take (length (clauses_words (table_in file).clauses)) ws) (file_encoded file small z)
      ∙ before_question t h

  pub words_of_question : drop (judge file).question (body_of file) ≡ clause_words (table_in file).question
  words_of_question =
      let t = table_in file in
      let body : body_of file ≡ clauses_words (table_in file).clauses ++ clause_words (table_in file).question =
      sym (table_encoded (body_of file) (body_readable file z) (body_words_lem file z small)) ∙ body_split t (file_within file small z)
      in
      ap (λ (n : ℕ). drop n (body_of file)) question_place
      ∙ ap (λ (ws : List ℕ). drop (length (clauses_words (table_in file).clauses)) ws) body
      ∙ drop-append_seam (clauses_words t.clauses) (clause_words t.question)
