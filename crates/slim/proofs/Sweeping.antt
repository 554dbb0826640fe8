-- The kinds of the clauses still present marked, and dead clauses dropped, one law for each outcome.
use lib.ListN.{length, take, drop, get_or, set, replicate, length-replicate, get_or-replicate}
use mathlib.Core.Bool.{Bool, true, false, not, ◌&&◌}
use mathlib.Core.List.{List, [], ◌∷◌, ◌++◌}
use mathlib.Core.Path.{◌≡◌, refl, sym, ap, ◌∙◌}
use native.Mathlib.Omega.{arith}
use borrow.Author.Tests.{not-true, not-false}
use Prim.Native.Nat.{ℕ, ◌+◌, ◌-◌, ◌≤◌, ◌<◌}
use Rattle.words.specs.Fields.{following_of}
use Rattle.table.specs.Syntax.{Clause, Table, all_clauses}
use Rattle.table.specs.Encode.{clauses_words, body_words}
use Rattle.table.specs.File.{table_in}
use Rattle.table.specs.Limits.{Each, ClauseWithin}
use Rattle.table.proofs.Encoding.{each_append}
use Rattle.table.proofs.Building.{clauses_snoc}
use Rattle.slim.specs.Dropping.{some_of, chosen, remaining, clause_no, dead}
use Rattle.slim.specs.Rounds.{survives, round}
use Rattle.slim.specs.Walking.{Ready, Passed, marking, Marked, Marks, lonely, Swept}
use Rattle.slim.proofs.Flags.{some_append, flagged, flagged_none, flagged_next, flagged_now, flagged_still, flagged_length, flagged_all, chosen_taken, chosen_left, chosen_all, each_chosen}
use Rattle.slim.proofs.Partners.{dead_marked}
use Rattle.slim.proofs.Walks.{each_at, clauses_within, question_within, file_short, walk_begin, walk_below, walk_done, walk_in, walk_words, walk_within, walk_next, question_in, question_words_lem, question_inside}

-- what is still present of the first clauses
abbrev pub present_of : Table → List Bool → ℕ → List Clause
present_of t present number = chosen (take number present) (take number t.clauses)

and_false : (b : Bool) → (b && false) ≡ false
and_false true = refl
and_false false = refl

marks_more : {words more : List ℕ} {before after : List Bool} → Marks words before → Marked more before after → Marks (words ++ more) after
marks_more {words} {more} {before} {after} m k =
    record {
      long = k.long;
      shows = λ i h. k.marks i h ∙ rw (m.shows i h) (sym (some_append (marking i) words more));
    }

pub record Shown (t : Table) (present : List Bool) (number at : ℕ) (marks : List Bool) : Type 0 where
  pub passed : Passed t number at
  pub shown : Marks (clauses_words (present_of t present number)) marks

module _ (file : List ℕ) (question : ℕ) (present : List Bool) (r : Ready file question) (l : length present ≡ length (table_in file).clauses) where
  pub show_begin : (marks : List Bool) → marks ≡ replicate 65536 false → Shown (table_in file) present 0 0 marks
  unfolding chosen clauses_words some_of
  show_begin marks e =
      record {
        passed = walk_begin file question r;
        shown = record { long = ap length e ∙ length-replicate 65536 false; shows = λ k h. rw e (get_or-replicate 65536 k false false h) };
      }

  module _ (number at : ℕ) (marks : List Bool) (g : Shown (table_in file) present number at marks) where
    pub show_long : length marks ≡ 65536
    show_long = g.shown.long

    pub show_at : at < question → at < length file
    show_at h = walk_in file question r number at g.passed h

    pub show_in : at < question → number < length present
    show_in h = omega (arith, walk_below file question r number at g.passed h)

    module _ (end : ℕ) (e : end ≡ at + (following_of (get_or file at 0) + 1)) (h : at < question) where
      pub show_within : end ≤ length file
      show_within = walk_within file question r number at g.passed end e h

      pub show_past : not (get_or present number false) ≡ true → Shown (table_in file) present (number + 1) end marks
      show_past f =
          let t = table_in file in
          let same = chosen_left present t.clauses number t.question (walk_below file question r number at g.passed h) l (not-true (get_or present number false) f) in
          record { passed = walk_next file question r number at g.passed end e h; shown = rw same g.shown }

      pub show_next : not (get_or present number false) ≡ false → {after : List Bool} → Marked (take (end - at) (drop at file)) marks after → Shown (table_in file) present (number + 1) end after
      show_next f k =
          let t = table_in file in
          let more = chosen_taken present t.clauses number t.question (walk_below file question r number at g.passed h) l (not-false (get_or present number false) f) in
          let words = rw (walk_words file question r number at g.passed end e h) at k in
          record {
            passed = walk_next file question r number at g.passed end e h;
            shown = rw (more, clauses_snoc (present_of t present number) (clause_no t number)) (marks_more g.shown words);
          }

    pub show_done : question ≤ at → {end : ℕ} → end ≡ question + (following_of (get_or file question 0) + 1) → {after : List Bool}
        → Marked (take (end - question) (drop question file)) marks after → Marks (body_words (remaining (table_in file) present)) after
    unfolding body_words all_clauses remaining
    show_done h {end} e k =
        let t = table_in file in
        let all = chosen_all present t.clauses number (walk_done file question r number at g.passed h) l in
        let words = rw (question_words_lem file question r end e) at k in
        rw (clauses_snoc (chosen present t.clauses) t.question) (marks_more (rw all at g.shown) words)

pub blank_length : {before : List Bool} (after : List Bool) → before ≡ replicate 65536 false → length after ≡ 65536 → length after ≡ length before
blank_length after e f = f ∙ sym (ap length e ∙ length-replicate 65536 false)

pub ruleset show_laws = (blank_length, file_short, question_in, question_inside, show_begin, show_long, show_at, show_in, show_within, show_past, show_next, show_done)

-- the clauses still present are within the limits
pub remaining_within : (t : Table) (present : List Bool) → Each ClauseWithin t.clauses → ClauseWithin t.question → Each ClauseWithin (all_clauses (remaining t present))
unfolding remaining all_clauses Each
remaining_within t present h q =
    each_append ClauseWithin (chosen present t.clauses) (t.question ∷ []) (each_chosen ClauseWithin present t.clauses h) (q, tt)

-- so many clauses have been looked at
pub record Sweeping (t : Table) (before : List Bool) (number at : ℕ) (dropped : Bool) (present : List Bool) : Type 0 where
  pub passed : Passed t number at
  pub flags : present ≡ flagged before (survives t before) number
  pub still : dropped ≡ false → present ≡ before

module _ (file : List ℕ) (question : ℕ) (before : List Bool) (marks : List Bool) (r : Ready file question) (l : length before ≡ length (table_in file).clauses)
    (m : Marks (body_words (remaining (table_in file) before)) marks) where
  pub sweep_begin : Sweeping (table_in file) before 0 0 false before
  sweep_begin =
      record { passed = walk_begin file question r; flags = flagged_none before (survives (table_in file) before); still = λ _. refl }

  pub marks_long : length marks ≡ 65536
  marks_long = m.long

  module _ (number at : ℕ) (dropped : Bool) (present : List Bool) (g : Sweeping (table_in file) before number at dropped present) where
    pub sweep_length : length present ≡ length before
    sweep_length = ap length g.flags ∙ flagged_length before (survives (table_in file) before) number (omega (arith, g.passed.below))

    pub sweep_at : at < question → at < length file
    sweep_at h = walk_in file question r number at g.passed h

    pub sweep_in : at < question → number < length present
    sweep_in h = omega (arith, sweep_length, walk_below file question r number at g.passed h)

    module _ (end : ℕ) (e : end ≡ at + (following_of (get_or file at 0) + 1)) (h : at < question) where
      pub sweep_within : end ≤ length file
      sweep_within = walk_within file question r number at g.passed end e h

      below : number < length before
      below = omega (arith, walk_below file question r number at g.passed h)

      flag_now : get_or present number false ≡ get_or before number false
      flag_now = rw g.flags (flagged_now before (survives (table_in file) before) number below)

      kept_flag : survives (table_in file) before number ≡ get_or before number false → Sweeping (table_in file) before (number + 1) end dropped present
      kept_flag s =
          record {
            passed = walk_next file question r number at g.passed end e h;
            flags = g.flags ∙ flagged_still before (survives (table_in file) before) number below s;
            still = g.still;
          }

      pub sweep_past : not (get_or present number false) ≡ true → Sweeping (table_in file) before (number + 1) end dropped present
      unfolding survives
      sweep_past f =
          let off = sym flag_now ∙ not-true (get_or present number false) f in
          kept_flag (rw off)

      -- whether the clause is dead
      is_dead : {alone : Bool} → alone ≡ some_of (lonely marks) (take (end - at) (drop at file)) → dead (remaining (table_in file) before) (clause_no (table_in file) number) ≡ alone
      is_dead s =
          let t = table_in file in
          let each = clauses_within file question r in
          let u = remaining_within t before each (question_within file question r) in
          let c = each_at ClauseWithin t.clauses number t.question (omega (arith, below)) each in
          sym (s ∙ rw (walk_words file question r number at g.passed end e h) (dead_marked (remaining t before) u marks m (clause_no t number) c))

      pub sweep_keeps : not (get_or present number false) ≡ false → {alone : Bool} → alone ≡ some_of (lonely marks) (take (end - at) (drop at file)) → not alone ≡ true
          → Sweeping (table_in file) before (number + 1) end dropped present
      unfolding survives
      sweep_keeps f {alone} s n =
          let on = sym flag_now ∙ not-false (get_or present number false) f in
          kept_flag (rw (on, is_dead s ∙ not-true alone n))

      pub sweep_drops : not (get_or present number false) ≡ false → {alone : Bool} → alone ≡ some_of (lonely marks) (take (end - at) (drop at file)) → not alone ≡ false
          → Sweeping (table_in file) before (number + 1) end true (set present number false)
      unfolding survives
      sweep_drops f {alone} s n =
          let dies : survives (table_in file) before number ≡ false = rw (is_dead s ∙ not-false alone n) (and_false (get_or before number false)) in
          record {
            passed = walk_next file question r number at g.passed end e h;
            flags = rw (g.flags, ← dies) (flagged_next before (survives (table_in file) before) number below);
            still = λ z. let x : ◌≡◌ {A = ℕ} 0 1 = cc in absurd (omega arith);
          }

    pub sweep_done : question ≤ at → Swept (table_in file) before present dropped
    unfolding round
    sweep_done h =
        let z = walk_done file question r number at g.passed h in
        record {
          made = g.flags ∙ rw z (flagged_all before (survives (table_in file) before) (length (table_in file).clauses) (omega arith));
          still = g.still;
        }

pub ruleset sweep_laws = (file_short, marks_long, sweep_begin, sweep_length, sweep_at, sweep_in, sweep_within, sweep_past, sweep_keeps, sweep_drops, sweep_done)
