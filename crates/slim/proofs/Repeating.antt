-- A clause compared with the earlier ones, and the flags of the clauses that repeat none, one law for each outcome.
use lib.ListN.{length, take, drop, get_or, set}
use mathlib.Core.Bool.{Bool, true, false, not}
use mathlib.Core.List.{List}
use mathlib.Core.Path.{◌≡◌, refl, sym, ap, ◌∙◌}
use native.Mathlib.Omega.{arith}
use Prim.Native.Nat.{ℕ, ◌+◌, ◌-◌, ◌≤◌, ◌<◌}
use Rattle.words.specs.Fields.{following_of}
use Rattle.table.specs.Syntax.{Clause, Table}
use Rattle.table.specs.Encode.{clause_words}
use Rattle.table.specs.File.{table_in}
use Rattle.slim.specs.Dropping.{some_of, clause_no, same_words, repeats}
use Rattle.slim.specs.Rounds.{unrepeated}
use Rattle.slim.specs.Walking.{Ready, Passed}
use Rattle.slim.proofs.Flags.{some_next, some_front, flagged, flagged_none, flagged_next, flagged_length, flagged_all}
use Rattle.slim.proofs.Walks.{file_short, walk_begin, walk_below, walk_before, walk_done, walk_in, walk_words, walk_within, walk_next}

abbrev matches : Table → ℕ → Clause → Bool
matches t number c = same_words (clause_words c) (clause_words (clause_no t number))

-- so many earlier clauses differ, and the next of them begins here
pub record Differs (t : Table) (number i next : ℕ) : Type 0 where
  pub few : i ≤ number
  pub passed : Passed t i next
  pub none_yet : some_of (matches t number) (take i t.clauses) ≡ false

module _ (file : List ℕ) (question number at : ℕ) (r : Ready file question) (p : Passed (table_in file) number at) (h : at < question) where
  pub differs_begin : Differs (table_in file) number 0 0
  unfolding some_of
  differs_begin = record { few = omega arith; passed = walk_begin file question r; none_yet = refl }

  module _ (i next : ℕ) (g : Differs (table_in file) number i next) (k : i < number) where
    earlier : next < question
    earlier = walk_before file question r i next g.passed (omega (arith, walk_below file question r number at p h))

    pub differs_in : next < length file
    differs_in = walk_in file question r i next g.passed earlier

    module _ (end after : ℕ) (e : end ≡ at + (following_of (get_or file at 0) + 1)) (f : after ≡ next + (following_of (get_or file next 0) + 1)) where
      pub differs_within : after ≤ length file
      differs_within = walk_within file question r i next g.passed after f earlier

      -- the earlier clause's words against this one's
      compared : {same : Bool} → same ≡ same_words (take (after - next) (drop next file)) (take (end - at) (drop at file)) → some_of (matches (table_in file) number) (take (i + 1) (table_in file).clauses) ≡ same
      compared s =
          let t = table_in file in
          some_next (matches (table_in file) number) t.clauses i t.question (omega (arith, walk_below file question r number at p h))
          ∙ rw g.none_yet
          (sym (s ∙ rw (walk_words file question r i next g.passed after f earlier, walk_words file question r number at p end e h)))

      pub differs_next : {same : Bool} → same ≡ same_words (take (after - next) (drop next file)) (take (end - at) (drop at file)) → same ≡ false → Differs (table_in file) number (i + 1) after
      differs_next s z = record { few = omega arith; passed = walk_next file question r i next g.passed after f earlier; none_yet = compared s ∙ z }

      pub differs_found : {same : Bool} → same ≡ same_words (take (after - next) (drop next file)) (take (end - at) (drop at file)) → same ≡ true → true ≡ repeats (table_in file) number
      unfolding repeats
      differs_found s z = sym (some_front (matches (table_in file) number) (table_in file).clauses (i + 1) number (omega arith) (compared s ∙ z))

  pub differs_done : (i next : ℕ) → Differs (table_in file) number i next → number ≤ i → false ≡ repeats (table_in file) number
  unfolding repeats
  differs_done i next g k = let z : i ≡ number = omega (arith, g.few) in sym (rw z at g.none_yet)

pub ruleset differs_laws = (file_short, walk_in, walk_within, differs_begin, differs_in, differs_within, differs_next, differs_found, differs_done)

-- so many clauses have their flag
pub record First (t : Table) (before : List Bool) (number at : ℕ) (present : List Bool) : Type 0 where
  pub passed : Passed t number at
  pub flags : present ≡ flagged before (λ n. not (repeats t n)) number

module _ (file : List ℕ) (question : ℕ) (before : List Bool) (r : Ready file question) (l : length before ≡ length (table_in file).clauses) where
  pub first_begin : First (table_in file) before 0 0 before
  first_begin = record { passed = walk_begin file question r; flags = flagged_none before (λ n. not (repeats (table_in file) n)) }

  module _ (number at : ℕ) (present : List Bool) (g : First (table_in file) before number at present) where
    pub first_length : length present ≡ length before
    first_length = ap length g.flags ∙ flagged_length before (λ n. not (repeats (table_in file) n)) number (omega (arith, g.passed.below))

    pub first_in : at < question → number < length present
    first_in h = omega (arith, first_length, walk_below file question r number at g.passed h)

    pub first_at : at < question → at < length file
    first_at h = walk_in file question r number at g.passed h

    pub first_next : at < question → {repeated : Bool} {end : ℕ} → repeated ≡ repeats (table_in file) number → end ≡ at + (following_of (get_or file at 0) + 1)
        → First (table_in file) before (number + 1) end (set present number (not repeated))
    first_next h {repeated} {end} q e =
        record {
          passed = walk_next file question r number at g.passed end e h;
          flags = rw (g.flags, q) (flagged_next before (λ n. not (repeats (table_in file) n)) number (omega (arith, walk_below file question r number at g.passed h)));
        }

    pub first_done : question ≤ at → present ≡ unrepeated (table_in file)
    unfolding unrepeated
    first_done h =
        let z = walk_done file question r number at g.passed h in
        g.flags ∙ rw z (flagged_all before (λ n. not (repeats (table_in file) n)) (length (table_in file).clauses) (omega arith))

pub ruleset first_laws = (file_short, first_begin, first_length, first_in, first_at, first_next, first_done)
