-- The slimmer file written, and what the call then says, one law for each outcome.
use lib.ListN.{length, take, drop, get_or, replicate, length-append, length-replicate}
use lib.Seq.{length-take-le}
use mathlib.Core.Bool.{Bool, true, false}
use mathlib.Core.List.{List, [], ◌∷◌, ◌++◌}
use mathlib.Core.Path.{◌≡◌, refl, sym, ap, ◌∙◌}
use native.Mathlib.Omega.{arith}
use borrow.Author.Tests.{eq-eqb, ne_eqb, le-leb, lt-leb}
use mir.Syntax.{w32}
use mir.Val.{Fits}
use Prim.Native.Nat.{ℕ, ◌+◌, ◌-◌, ◌≤◌, ◌<◌}
use Rattle.words.specs.Fields.{following_of}
use Rattle.table.specs.Syntax.{Table, all_clauses}
use Rattle.table.specs.Build.{at_front, behind, trailer_words, sealed}
use Rattle.table.specs.Encode.{clause_words, clauses_words, body_words, file_words}
use Rattle.table.specs.File.{judge, table_in}
use Rattle.table.specs.declared.Judgement.{Judgement}
use Rattle.table.proofs.AcceptedTable.{words_each, accepted_count}
use Rattle.table.proofs.Building.{more_behind, front_long, sealed_file}
use Rattle.slim.specs.Dropping.{with_flag, chosen, remaining}
use Rattle.slim.specs.Rounds.{kept_flags}
use Rattle.slim.specs.Call.{slim_table, numbers_up_to, old_numbers, Given, refused, granted, if_it_fits, slim_call}
use Rattle.slim.specs.Walking.{Ready, kept_words, kept_numbers, Sized, Told}
use Rattle.slim.specs.declared.Slimmed.{Slimmed}
use Rattle.slim.specs.declared.writing.Size.{Size}
use Rattle.slim.proofs.Flags.{chosen_length, numbers_length}
use Rattle.slim.proofs.Copying.{body_words_lem}
use Rattle.slim.proofs.Walks.{file_short, clauses_few, question_in, question_words_lem, question_inside}

-- no more are chosen than there are
pub chosen_few : {A : Type 0} (fs : List Bool) (xs : List A) → length (chosen fs xs) ≤ length xs
unfolding chosen with_flag
chosen_few [] xs = omega arith
chosen_few (f ∷ fs) [] = omega arith
chosen_few (true ∷ fs) (x ∷ xs) = let h = chosen_few fs xs in omega arith
chosen_few (false ∷ fs) (x ∷ xs) = let h = chosen_few fs xs in omega arith

pub file_long : (t : Table) → length (file_words t) ≡ length (body_words t) + 4
unfolding file_words
file_long t =
    length-append (body_words t) (trailer_words (body_words t) (length (clauses_words t.clauses)) (length (all_clauses t)))

module _ (file : List ℕ) (question : ℕ) (present : List Bool) (r : Ready file question) where
  pub flags_few : length present ≡ length (table_in file).clauses → length present ≤ 512
  flags_few l = omega (arith, clauses_few file question r)

  pub few_clauses : (size : Size) → Sized (remaining (table_in file) present) size → size.clauses ≤ 512
  unfolding remaining all_clauses
  few_clauses size s =
      let t = table_in file in
      omega (arith, s.clauses, length-append (chosen present t.clauses) (t.question ∷ []), chosen_few present t.clauses, clauses_few file question r)

  pub clauses_fit : (size : Size) → Sized (remaining (table_in file) present) size → Fits w32 size.clauses
  clauses_fit size s = record { fits = omega (arith, few_clauses size s) }

-- the slimmer file is written
module _ (file : List ℕ) (question : ℕ) (present : List Bool) (before : List ℕ) (size : Size) (r : Ready file question)
    (l : length present ≡ length (table_in file).clauses) (s : Sized (remaining (table_in file) present) size) (room : size.body + 4 ≤ length before) where
  body-long : size.body ≡ length (kept_words (table_in file) present) + length (clause_words (table_in file).question)
  unfolding remaining
  body-long =
      s.body
      ∙ ap (λ (ws : List ℕ). length ws) (body_words_lem (remaining (table_in file) present))
      ∙ length-append (kept_words (table_in file) present) (clause_words (table_in file).question)

  pub begins_at : size.question ≡ length (kept_words (table_in file) present)
  unfolding remaining
  begins_at = s.question

  pub begins_small : size.question ≤ 16000
  begins_small = omega (arith, s.short, begins_at, body-long)

  pub kept_room : length (kept_words (table_in file) present) ≤ length before
  kept_room = omega (arith, body-long)

  module _ (end : ℕ) (e : end ≡ question + (following_of (get_or file question 0) + 1)) (copied : List ℕ) (c : copied ≡ at_front (kept_words (table_in file) present) before) where
    part : take (end - question) (drop question file) ≡ clause_words (table_in file).question
    part = question_words_lem file question r end e

    copied-long : length copied ≡ length before
    copied-long = ap length c ∙ front_long (kept_words (table_in file) present) before kept_room

    pub append_room : size.question + length (take (end - question) (drop question file)) ≤ length copied
    append_room = omega (arith, begins_at, ap (λ (ws : List ℕ). length ws) part, body-long, copied-long)

    module _ (whole : List ℕ) (w : whole ≡ behind copied size.question (take (end - question) (drop question file))) where
      whole-stands : whole ≡ at_front (body_words (remaining (table_in file) present)) before
      unfolding remaining
      whole-stands =
          w
          ∙ rw (part, c, begins_at, body_words_lem (remaining (table_in file) present)) (more_behind (kept_words (table_in file) present) (clause_words (table_in file).question) before)

      pub whole_long : length whole ≡ length before
      whole_long = ap length whole-stands ∙ front_long (body_words (remaining (table_in file) present)) before (omega (arith, s.body))

      pub write_done : {sealed' : List ℕ} → sealed' ≡ sealed whole size.body size.question size.clauses → sealed' ≡ at_front (file_words (remaining (table_in file) present)) before
      write_done q =
          let u = remaining (table_in file) present in
          q ∙ rw (whole-stands, s.body, s.question, s.clauses) (sealed_file u before)

pub ruleset write_laws = (file_short, question_in, question_inside, kept_room, begins_small, few_clauses, append_room, whole_long, write_done)

-- what fits, and what does not
module _ (t : Table) (present : List Bool) (size : Size) (p : present ≡ kept_flags t) (s : Sized (remaining t present) size) where
  left : slim_table t ≡ remaining t present
  unfolding slim_table
  left = rw p

  words-told : length (file_words (slim_table t)) ≡ size.body + 4
  words-told = rw left (file_long (remaining t present) ∙ omega (arith, s.body))

  module _ (l : length present ≡ length t.clauses) where
    numbers-told : old_numbers t ≡ kept_numbers present ++ (length present ∷ [])
    unfolding old_numbers
    numbers-told = rw (← p, l)

    pub clauses_told : length (old_numbers t) ≡ size.clauses
    unfolding remaining all_clauses
    clauses_told =
        ap length numbers-told
        ∙ omega (
          arith,
          length-append (kept_numbers present) (length present ∷ []),
          chosen_length present (numbers_up_to (length present)) t.clauses (numbers_length (length present) ∙ l),
          s.clauses,
          length-append (chosen present t.clauses) (t.question ∷ []),
        )

    pub numbers_room : (numbers : List ℕ) → size.clauses ≤ length numbers → length (kept_numbers present) + 1 ≤ length numbers
    numbers_room numbers h = omega (arith, clauses_told, ap length numbers-told, length-append (kept_numbers present) (length present ∷ []))

    module _ (slimmer numbers : List ℕ) where
      pub file_too_long : {r : Slimmed} → r ≡ (refused 16 0).outcome → length slimmer < size.body + 4 → Told (if_it_fits t (length slimmer) (length numbers)) r slimmer slimmer numbers numbers
      unfolding if_it_fits
      file_too_long {r} e h =
          let z : if_it_fits t (length slimmer) (length numbers) ≡ refused 16 0 = rw (lt-leb (length (file_words (slim_table t))) (length slimmer) (omega (arith, words-told))) in
          rw z (record { outcome = e; file = refl; old = refl })

      pub numbers_too_many : {r : Slimmed} → r ≡ (refused 16 0).outcome → size.body + 4 ≤ length slimmer → length numbers < size.clauses → Told (if_it_fits t (length slimmer) (length numbers)) r slimmer slimmer numbers numbers
      unfolding if_it_fits
      numbers_too_many {r} e h k =
          let z : if_it_fits t (length slimmer) (length numbers) ≡ refused 16 0 =
          rw (le-leb (length (file_words (slim_table t))) (length slimmer) (omega (arith, words-told)), lt-leb (length (old_numbers t)) (length numbers) (omega (arith, clauses_told)))
          in
          rw z (record { outcome = e; file = refl; old = refl })

      pub all_told : size.body + 4 ≤ length slimmer → size.clauses ≤ length numbers → {slimmer' numbers' : List ℕ} → slimmer' ≡ at_front (file_words (remaining t present)) slimmer
          → numbers' ≡ at_front (kept_numbers present ++ (length present ∷ [])) numbers
          → Told (if_it_fits t (length slimmer) (length numbers)) (record { status = 0; place = 0; words = size.body + 4; clauses = size.clauses }) slimmer slimmer' numbers numbers'
      unfolding if_it_fits
      all_told h k a b =
          let z : if_it_fits t (length slimmer) (length numbers) ≡ granted (file_words (slim_table t)) (old_numbers t) =
          rw (le-leb (length (file_words (slim_table t))) (length slimmer) (omega (arith, words-told)), le-leb (length (old_numbers t)) (length numbers) (omega (arith, clauses_told)))
          in
          rw z
          (record {
            outcome = rw (words-told, clauses_told);
            file = rw left a;
            old = rw numbers-told b;
          })

-- a file that is accepted
module _ (file : List ℕ) {j : Judgement} (e : j ≡ judge file) (z : j.status ≡ 0) (small : (i : ℕ) → Fits w32 (get_or file i 0)) where
  pub file_ready : Ready file j.question
  file_ready = record { accepted = rw e at z; small = words_each file (λ i. (small i).fits); asks = rw e }

  rules_counted : j.clauses ≡ length (table_in file).clauses + 1
  unfolding all_clauses
  rules_counted =
      rw e (sym (accepted_count file file_ready.accepted) ∙ length-append (table_in file).clauses ((table_in file).question ∷ []))

  pub question_counted : 1 ≤ j.clauses
  question_counted = omega (arith, rules_counted)

  pub rules_few : j.clauses ≤ 512
  rules_few = omega (arith, rules_counted, clauses_few file j.question file_ready)

  pub flags_count : j.clauses - 1 ≡ length (take (j.clauses - 1) (replicate 512 false))
  flags_count = sym (length-take-le (j.clauses - 1) (replicate 512 false) (omega (arith, rules_few, length-replicate 512 false)))

  pub flags_long : length (take (j.clauses - 1) (replicate 512 false)) ≡ length (table_in file).clauses
  flags_long = sym flags_count ∙ omega (arith, rules_counted)

pub ruleset accepted_laws = (file_ready, question_counted, rules_few, flags_count, flags_long)

-- the file's own refusals, and what is told of an accepted file
module _ (file slimmer numbers : List ℕ) {j : Judgement} (e : j ≡ judge file) where
  pub file_refused : (j.status ≡ 0 → ⊥) → slim_call file (length slimmer) (length numbers) ≡ refused j.status j.place
  unfolding slim_call
  file_refused n = rw (← e, ne_eqb j.status 0 n)

  file_granted : j.status ≡ 0 → slim_call file (length slimmer) (length numbers) ≡ if_it_fits (table_in file) (length slimmer) (length numbers)
  unfolding slim_call
  file_granted z = rw (← e, eq-eqb j.status 0 z)

  module _ (n : j.status ≡ 0 → ⊥) where
    pub refused_outcome : {r : Slimmed} → r ≡ (refused j.status j.place).outcome → r ≡ (slim_call file (length slimmer) (length numbers)).outcome
    refused_outcome q = q ∙ ap (λ (g : Given). g.outcome) (sym (file_refused n))

    pub refused_file : slimmer ≡ at_front (slim_call file (length slimmer) (length numbers)).file slimmer
    refused_file = rw (file_refused n)

    pub refused_numbers : numbers ≡ at_front (slim_call file (length slimmer) (length numbers)).numbers numbers
    refused_numbers = rw (file_refused n)

  module _ (z : j.status ≡ 0) {r : Slimmed} {slimmer' numbers' : List ℕ} (told : Told (if_it_fits (table_in file) (length slimmer) (length numbers)) r slimmer slimmer' numbers numbers') where
    pub granted_outcome : r ≡ (slim_call file (length slimmer) (length numbers)).outcome
    granted_outcome = told.outcome ∙ ap (λ (g : Given). g.outcome) (sym (file_granted z))

    pub granted_file : slimmer' ≡ at_front (slim_call file (length slimmer) (length numbers)).file slimmer
    granted_file = told.file ∙ ap (λ (g : Given). at_front g.file slimmer) (sym (file_granted z))

    pub granted_numbers : numbers' ≡ at_front (slim_call file (length slimmer) (length numbers)).numbers numbers
    granted_numbers = told.old ∙ ap (λ (g : Given). at_front g.numbers numbers) (sym (file_granted z))

pub ruleset call_laws = (refused_outcome, refused_file, refused_numbers, granted_outcome, granted_file, granted_numbers)
