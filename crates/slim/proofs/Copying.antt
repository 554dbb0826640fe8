-- The clauses that are kept counted and written, one law for each outcome.
use lib.ListN.{length, take, drop, get_or, set, length-append}
use mathlib.Core.Bool.{Bool, true, false, not}
use mathlib.Core.List.{List, [], ◌∷◌, ◌++◌}
use mathlib.Core.Path.{◌≡◌, refl, sym, ap, ◌∙◌}
use native.Mathlib.Omega.{arith}
use borrow.Author.Tests.{not-true, not-false}
use mir.Syntax.{w32, w64}
use mir.Val.{Fits}
use Prim.Native.Nat.{ℕ, ◌+◌, ◌-◌, ◌≤◌, ◌<◌}
use Rattle.words.specs.Fields.{following_of}
use Rattle.table.specs.Syntax.{Clause, Table, all_clauses}
use Rattle.table.specs.Build.{at_front, behind}
use Rattle.table.specs.Encode.{clause_words, clauses_words, body_words}
use Rattle.table.specs.File.{table_in}
use Rattle.table.proofs.Building.{more_behind, word_behind, front_long, clauses_snoc}
use Rattle.table.proofs.FileEncoding.{clauses_append}
use Rattle.slim.specs.Dropping.{chosen, remaining, clause_no}
use Rattle.slim.specs.Call.{numbers_up_to}
use Rattle.slim.specs.Walking.{Ready, Passed, kept_words, kept_numbers, Sized}
use Rattle.slim.proofs.Flags.{chosen_taken, chosen_left, chosen_split, chosen_all, numbers_length, number_at}
use Rattle.slim.proofs.Sweeping.{present_of}
use Rattle.slim.proofs.Walks.{file_short, clauses_few, walk_begin, walk_below, walk_done, walk_in, walk_words, walk_within, walk_next, clause_end, passed_at_most, question_in, question_inside, question_length, question_room}

-- a table's body is its clauses and its question
pub body_words_lem : (t : Table) → body_words t ≡ clauses_words t.clauses ++ clause_words t.question
unfolding body_words all_clauses
body_words_lem t = clauses_snoc t.clauses t.question

-- so many clauses have been passed, and what is kept of them counted
pub record Counting (t : Table) (present : List Bool) (number at words clauses : ℕ) : Type 0 where
  pub passed : Passed t number at
  pub word_count : words ≡ length (clauses_words (present_of t present number))
  pub clause_count : clauses ≡ length (present_of t present number)
  pub less : words ≤ at
  pub fewer : clauses ≤ number

module _ (file : List ℕ) (question : ℕ) (present : List Bool) (r : Ready file question) (l : length present ≡ length (table_in file).clauses) where
  pub count_begin : Counting (table_in file) present 0 0 0 0
  unfolding chosen clauses_words
  count_begin = record { passed = walk_begin file question r; word_count = refl; clause_count = refl; less = omega arith; fewer = omega arith }

  module _ (number at words clauses : ℕ) (g : Counting (table_in file) present number at words clauses) where
    passed-most : at ≤ question
    passed-most = passed_at_most file question r number at g.passed

    pub count_at : at < question → at < length file
    count_at h = walk_in file question r number at g.passed h

    pub count_in : at < question → number < length present
    count_in h = omega (arith, walk_below file question r number at g.passed h)

    module _ (end : ℕ) (e : end ≡ at + (following_of (get_or file at 0) + 1)) (h : at < question) where
      pub count_within : end ≤ length file
      count_within = walk_within file question r number at g.passed end e h

      pub count_words_fit : Fits w64 (words + (end - at))
      count_words_fit = record { fits = omega (arith, g.less, count_within, file_short file question r) }

      pub count_clauses_fit : Fits w64 (clauses + 1)
      count_clauses_fit = record { fits = omega (arith, g.fewer, g.passed.below, clauses_few file question r) }

      pub count_past : not (get_or present number false) ≡ true → Counting (table_in file) present (number + 1) end words clauses
      count_past f =
          let t = table_in file in
          let same = chosen_left present t.clauses number t.question (walk_below file question r number at g.passed h) l (not-true (get_or present number false) f) in
          record {
            passed = walk_next file question r number at g.passed end e h;
            word_count = rw same g.word_count;
            clause_count = rw same g.clause_count;
            less = omega (arith, g.less);
            fewer = omega (arith, g.fewer);
          }

      pub count_next : not (get_or present number false) ≡ false → Counting (table_in file) present (number + 1) end (words + (end - at)) (clauses + 1)
      count_next f =
          let t = table_in file in
          let more = chosen_taken present t.clauses number t.question (walk_below file question r number at g.passed h) l (not-false (get_or present number false) f) in
          let ends = clause_end file question r number at g.passed end e h in
          record {
            passed = walk_next file question r number at g.passed end e h;
            word_count = rw (more, clauses_snoc (present_of t present number) (clause_no t number)) (omega (arith, g.word_count, ends, length-append (clauses_words (present_of t present number)) (clause_words (clause_no t number))));
            clause_count = rw more (omega (arith, g.clause_count, length-append (present_of t present number) (clause_no t number ∷ [])));
            less = omega (arith, g.less);
            fewer = omega (arith, g.fewer);
          }

    module _ (h : question ≤ at) (end : ℕ) (e : end ≡ question + (following_of (get_or file question 0) + 1)) where
      pub measured_body_fits : Fits w64 (words + (end - question))
      measured_body_fits = record { fits = omega (arith, g.less, passed-most, question_inside file question r end e, file_short file question r) }

      pub measured : Sized (remaining (table_in file) present) (record { question = words; body = words + (end - question); clauses = clauses + 1 })
      unfolding remaining all_clauses
      measured =
          let t = table_in file in
          let u = remaining (table_in file) present in
          let all = chosen_all present t.clauses number (walk_done file question r number at g.passed h) l in
          let ks = chosen present t.clauses in
          let many : clauses ≡ length (chosen present (table_in file).clauses) = g.clause_count ∙ rw all in
          let long : words ≡ length (clauses_words (chosen present (table_in file).clauses)) = g.word_count ∙ rw all in
          record {
            question = long;
            body = omega (arith, long, question_length file question r end e, ap (λ (ws : List ℕ). length ws) (body_words_lem u), length-append (clauses_words ks) (clause_words t.question));
            clauses = omega (arith, many, length-append ks (t.question ∷ []));
            short = omega (arith, g.less, passed-most, question_room file question r end e, file_short file question r);
          }

    pub measured_clauses_fit : Fits w64 (clauses + 1)
    measured_clauses_fit = record { fits = omega (arith, g.fewer, g.passed.below, clauses_few file question r) }

pub ruleset count_laws = (file_short, question_in, question_inside, count_begin, count_at, count_in, count_within, count_words_fit, count_clauses_fit, count_past, count_next, measured_body_fits, measured_clauses_fit, measured)

-- so many clauses have been passed, and what is kept of them stands at the front
pub record Copied (t : Table) (present : List Bool) (before : List ℕ) (number at words : ℕ) (slimmer : List ℕ) : Type 0 where
  pub passed : Passed t number at
  pub word_count : words ≡ length (clauses_words (present_of t present number))
  pub less : words ≤ at
  pub stands : slimmer ≡ at_front (clauses_words (present_of t present number)) before

kept_split : (t : Table) (present : List Bool) (number : ℕ) → length (clauses_words (present_of t present number)) ≤ length (kept_words t present)
kept_split t present number =
    let front = present_of t present number in
    let back = chosen (drop number present) (drop number t.clauses) in
    let z = ap (λ (cs : List Clause). clauses_words cs) (chosen_split number present t.clauses) ∙ clauses_append front back in
    omega (arith, ap (λ (ws : List ℕ). length ws) z, length-append (clauses_words front) (clauses_words back))

module _ (file : List ℕ) (question : ℕ) (present : List Bool) (before : List ℕ) (r : Ready file question) (l : length present ≡ length (table_in file).clauses)
    (room : length (kept_words (table_in file) present) ≤ length before) where
  pub copy_begin : Copied (table_in file) present before 0 0 0 before
  unfolding chosen clauses_words
  copy_begin = record { passed = walk_begin file question r; word_count = refl; less = omega arith; stands = refl }

  module _ (number at words : ℕ) (slimmer : List ℕ) (g : Copied (table_in file) present before number at words slimmer) where
    pub copy_length : length slimmer ≡ length before
    copy_length =
        ap length g.stands
        ∙ front_long (clauses_words (present_of (table_in file) present number)) before (omega (arith, kept_split (table_in file) present number))

    pub copy_at : at < question → at < length file
    copy_at h = walk_in file question r number at g.passed h

    pub copy_in : at < question → number < length present
    copy_in h = omega (arith, walk_below file question r number at g.passed h)

    module _ (end : ℕ) (e : end ≡ at + (following_of (get_or file at 0) + 1)) (h : at < question) where
      pub copy_within : end ≤ length file
      copy_within = walk_within file question r number at g.passed end e h

      pub copy_words_fit : Fits w64 (words + (end - at))
      copy_words_fit = record { fits = omega (arith, g.less, copy_within, file_short file question r) }

      pub copy_past : not (get_or present number false) ≡ true → Copied (table_in file) present before (number + 1) end words slimmer
      copy_past f =
          let t = table_in file in
          let same = chosen_left present t.clauses number t.question (walk_below file question r number at g.passed h) l (not-true (get_or present number false) f) in
          record {
            passed = walk_next file question r number at g.passed end e h;
            word_count = rw same g.word_count;
            less = omega (arith, g.less);
            stands = rw same g.stands;
          }

      module _ (f : not (get_or present number false) ≡ false) where
        more : clauses_words (present_of (table_in file) present (number + 1)) ≡ clauses_words (present_of (table_in file) present number) ++ clause_words (clause_no (table_in file) number)
        more =
            let t = table_in file in
            ap (λ (cs : List Clause). clauses_words cs) (chosen_taken present t.clauses number t.question (walk_below file question r number at g.passed h) l (not-false (get_or present number false) f))
            ∙ clauses_snoc (present_of t present number) (clause_no t number)

        part : take (end - at) (drop at file) ≡ clause_words (clause_no (table_in file) number)
        part = walk_words file question r number at g.passed end e h

        long : length (clauses_words (present_of (table_in file) present (number + 1))) ≡ words + length (take (end - at) (drop at file))
        long =
            ap (λ (ws : List ℕ). length ws) more
            ∙ omega (arith, g.word_count, ap (λ (ws : List ℕ). length ws) part, length-append (clauses_words (present_of (table_in file) present number)) (clause_words (clause_no (table_in file) number)))

        pub copy_room : words + length (take (end - at) (drop at file)) ≤ length slimmer
        copy_room = omega (arith, long, copy_length, kept_split (table_in file) present (number + 1))

        pub copy_next : {after : List ℕ} → after ≡ behind slimmer words (take (end - at) (drop at file)) → Copied (table_in file) present before (number + 1) end (words + (end - at)) after
        copy_next s =
            let done = clauses_words (present_of (table_in file) present number) in
            record {
              passed = walk_next file question r number at g.passed end e h;
              word_count = omega (arith, long, ap (λ (ws : List ℕ). length ws) part, clause_end file question r number at g.passed end e h);
              less = omega (arith, g.less);
              stands =
                  s
                  ∙ rw (part, g.stands, g.word_count, more) (more_behind done (clause_words (clause_no (table_in file) number)) before);
            }

    pub copy_done : question ≤ at → slimmer ≡ at_front (kept_words (table_in file) present) before
    copy_done h =
        let all = chosen_all present (table_in file).clauses number (walk_done file question r number at g.passed h) l in
        g.stands ∙ rw all

pub ruleset copy_laws = (file_short, copy_begin, copy_length, copy_at, copy_in, copy_within, copy_words_fit, copy_past, copy_room, copy_next, copy_done)

-- so many flags have been looked at, and the numbers of those that are set stand at the front
abbrev numbers_of : List Bool → ℕ → List ℕ
numbers_of present next = chosen (take next present) (take next (numbers_up_to (length present)))

pub record Numbered (present : List Bool) (before : List ℕ) (next kept : ℕ) (numbers : List ℕ) : Type 0 where
  pub below : next ≤ length present
  pub count : kept ≡ length (numbers_of present next)
  pub fewer : kept ≤ next
  pub stands : numbers ≡ at_front (numbers_of present next) before

module _ (present : List Bool) (before : List ℕ) (few : length present ≤ 512) (room : length (kept_numbers present) + 1 ≤ length before) where
  pub number_begin : Numbered present before 0 0 before
  unfolding chosen
  number_begin = record { below = omega arith; count = refl; fewer = omega arith; stands = refl }

  module _ (next kept : ℕ) (numbers : List ℕ) (g : Numbered present before next kept numbers) where
    fits-still : length (numbers_of present next) ≤ length (kept_numbers present)
    fits-still =
        let back = chosen (drop next present) (drop next (numbers_up_to (length present))) in
        omega (arith, ap (λ (ws : List ℕ). length ws) (chosen_split next present (numbers_up_to (length present))), length-append (numbers_of present next) back)

    pub number_length : length numbers ≡ length before
    number_length = ap length g.stands ∙ front_long (numbers_of present next) before (omega (arith, fits-still))

    pub number_in : kept < length numbers
    number_in = omega (arith, g.count, number_length, fits-still)

    pub number_fits : next < length present → Fits w32 next
    number_fits h = record { fits = omega arith }

    pub number_count_fits : Fits w64 (kept + 1)
    number_count_fits = record { fits = omega (arith, g.fewer, g.below) }

    pub number_past : next < length present → not (get_or present next false) ≡ true → Numbered present before (next + 1) kept numbers
    number_past h f =
        let same = chosen_left present (numbers_up_to (length present)) next 0 (omega (arith, numbers_length (length present))) (sym (numbers_length (length present))) (not-true (get_or present next false) f) in
        record { below = omega arith; count = rw same g.count; fewer = omega (arith, g.fewer); stands = rw same g.stands }

    stored : (w : ℕ) → set numbers kept w ≡ at_front (numbers_of present next ++ (w ∷ [])) before
    stored w = rw (g.stands, g.count) (word_behind (numbers_of present next) before w (omega (arith, fits-still)))

    pub number_next : next < length present → not (get_or present next false) ≡ false → Numbered present before (next + 1) (kept + 1) (set numbers kept next)
    number_next h f =
        let taken = chosen_taken present (numbers_up_to (length present)) next 0 (omega (arith, numbers_length (length present))) (sym (numbers_length (length present))) (not-false (get_or present next false) f) in
        let more : numbers_of present (next + 1) ≡ numbers_of present next ++ (next ∷ []) = taken ∙ rw (number_at (length present) next h) in
        record {
          below = omega arith;
          count = rw more (omega (arith, g.count, length-append (numbers_of present next) (next ∷ [])));
          fewer = omega (arith, g.fewer);
          stands = rw more (stored next);
        }

    pub number_last_fits : length present ≤ next → Fits w32 next
    number_last_fits h = record { fits = omega (arith, g.below) }

    pub number_done : length present ≤ next → set numbers kept next ≡ at_front (kept_numbers present ++ (length present ∷ [])) before
    number_done h =
        let z : next ≡ length present = omega (arith, g.below) in
        let all = chosen_all present (numbers_up_to (length present)) next (z ∙ sym (numbers_length (length present))) (sym (numbers_length (length present))) in
        stored next ∙ rw (all, z)

pub ruleset number_laws = (number_begin, number_length, number_in, number_fits, number_count_fits, number_past, number_next, number_last_fits, number_done)
