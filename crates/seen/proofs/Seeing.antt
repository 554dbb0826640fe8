-- The clauses that education sees, flagged one by one, and the file made of them: one law for each outcome, with premises as the code has them.
use lib.ListN.{length, take, drop, get_or, set, length-map}
use lib.Seq.{take-suc, take_all, get_or-take, get_or-drop}
use mathlib.Core.Bool.{Bool, not}
use mathlib.Core.List.{List, [], ◌∷◌, ◌++◌, map, map-append}
use mathlib.Core.Path.{◌≡◌, refl, sym, ap, ◌∙◌}
use native.Mathlib.Nat.{add-zero}
use native.Mathlib.Omega.{arith}
use borrow.Author.Tests.{eq-eqb, ne_eqb}
use Prim.Native.Nat.{ℕ, zero, suc, ◌+◌, ◌-◌, ◌≤◌, ◌<◌}
use Rattle.words.specs.Fields.{following_of, restricted_of}
use Rattle.words.proofs.Packed.{clause_restricted}
use Rattle.table.specs.Syntax.{Clause, Table}
use Rattle.table.specs.Seen.{unrestricted_of, unrestricted}
use Rattle.table.specs.Build.{at_front}
use Rattle.table.specs.Encode.{literals_words, clause_words, file_words}
use Rattle.table.specs.File.{judge, table_in}
use Rattle.table.specs.Limits.{ClauseWithin}
use Rattle.table.specs.declared.Judgement.{Judgement}
use Rattle.table.proofs.Desks.{by_marks}
use Rattle.slim.specs.Dropping.{with_flag, chosen, remaining, clause_no}
use Rattle.slim.specs.Rounds.{flags_up_to}
use Rattle.slim.specs.Walking.{Ready, Passed, Sized}
use Rattle.slim.specs.declared.writing.Size.{Size}
use Rattle.slim.proofs.Flags.{flagged, flagged_none, flagged_next, flagged_length, flagged_all}
use Rattle.slim.proofs.Telling.{file_long, accepted_laws}
use Rattle.slim.proofs.Walks.{each_at, file_short, clauses_within, walk_begin, walk_below, walk_done, walk_in, walk_words, walk_next}
use Rattle.seen.specs.Copying.{seen_flag, seen_flags, seen_file, seen_part}

-- a clause's own word carries its mark
own_mark : (c : Clause) → ClauseWithin c → restricted_of (get_or (clause_words c) 0 0) ≡ c.restricted
unfolding clause_words
own_mark c h =
    clause_restricted (length c.literals) c.variables (length (literals_words c.literals)) (omega (arith, h.few)) (omega (arith, h.variables)) (omega (arith, h.follow)) c.restricted

-- the flags one by one are the flags of all
flags_map : {A : Type 0} (f : A → Bool) (xs : List A) (other : A) (n : ℕ) → n ≤ length xs → flags_up_to n (λ i. f (get_or xs i other)) ≡ map f (take n xs)
unfolding flags_up_to
flags_map f xs other zero h = refl
flags_map f xs other (suc n) h =
    ap (λ (bs : List Bool). bs ++ (f (get_or xs n other) ∷ [])) (flags_map f xs other n (omega arith))
    ∙ sym (map-append f (take n xs) (get_or xs n other ∷ []))
    ∙ ap (map f) (sym (take-suc xs n other (omega arith)))

-- what they choose
seen_chosen : (cs : List Clause) → chosen (map seen_flag cs) cs ≡ unrestricted_of cs
unfolding chosen with_flag
seen_chosen =
    by_marks (λ cs ds. chosen (map seen_flag cs) cs ≡ ds) refl
    (λ c cs ds e h. ap (λ (b : Bool). with_flag (not b) c (chosen (map seen_flag cs) cs)) e ∙ h)
    (λ c cs ds e h. ap (λ (b : Bool). with_flag (not b) c (chosen (map seen_flag cs) cs)) e ∙ ap (λ (xs : List Clause). c ∷ xs) h)

pub seen_remaining : (t : Table) → remaining t (seen_flags t) ≡ unrestricted t
unfolding remaining seen_flags unrestricted
seen_remaining t = ap (λ (cs : List Clause). record { clauses = cs; question = t.question }) (seen_chosen t.clauses)

-- so many clauses have their flag
pub record Flagged (t : Table) (before : List Bool) (number at : ℕ) (present : List Bool) : Type 0 where
  pub passed : Passed t number at
  pub flags : present ≡ flagged before (λ n. seen_flag (clause_no t n)) number

module _ (file : List ℕ) (question : ℕ) (before : List Bool) (r : Ready file question) (l : length before ≡ length (table_in file).clauses) where
  abbrev flag : ℕ → Bool
  flag n = seen_flag (clause_no (table_in file) n)

  pub flag_begin : Flagged (table_in file) before 0 0 before
  flag_begin = record { passed = walk_begin file question r; flags = flagged_none before flag }

  module _ (number at : ℕ) (present : List Bool) (g : Flagged (table_in file) before number at present) where
    pub flag_length : length present ≡ length before
    flag_length = ap length g.flags ∙ flagged_length before flag number (omega (arith, g.passed.below))

    pub flag_in : at < question → number < length present
    flag_in h = omega (arith, flag_length, walk_below file question r number at g.passed h)

    pub flag_at : at < question → at < length file
    flag_at h = walk_in file question r number at g.passed h

    mark-there : at < question → restricted_of (get_or file at 0) ≡ (clause_no (table_in file) number).restricted
    mark-there h =
        let t = table_in file in
        let c = clause_no (table_in file) number in
        let end = at + (following_of (get_or file at 0) + 1) in
        let within = each_at ClauseWithin t.clauses number t.question (walk_below file question r number at g.passed h) (clauses_within file question r) in
        let first : get_or file at 0 ≡ get_or (take (end - at) (drop at file)) 0 0 =
        sym (get_or-take (end - at) (drop at file) 0 0 (omega arith) ∙ get_or-drop at file 0 0 ∙ ap (λ (n : ℕ). get_or file n 0) (add-zero at)) in
        ap restricted_of (first ∙ ap (λ (ws : List ℕ). get_or ws 0 0) (walk_words file question r number at g.passed end refl h)) ∙ own_mark c within

    pub flag_next : at < question → {mark : Bool} {end : ℕ} → mark ≡ restricted_of (get_or file at 0) → end ≡ at + (following_of (get_or file at 0) + 1)
        → Flagged (table_in file) before (number + 1) end (set present number (not mark))
    flag_next h {mark} {end} q e =
        record {
          passed = walk_next file question r number at g.passed end e h;
          flags =
              rw (g.flags, q, mark-there h) (flagged_next before flag number (omega (arith, walk_below file question r number at g.passed h)));
        }

    pub flag_done : question ≤ at → present ≡ seen_flags (table_in file)
    unfolding seen_flags
    flag_done h =
        let t = table_in file in
        let z = walk_done file question r number at g.passed h in
        g.flags
        ∙ rw z (flagged_all before flag (length t.clauses) (omega arith))
        ∙ flags_map seen_flag t.clauses t.question (length t.clauses) (omega arith)
        ∙ ap (map seen_flag) (take_all (length t.clauses) t.clauses (omega arith))

pub ruleset flag_laws = (file_short, flag_begin, flag_length, flag_in, flag_at, flag_next, flag_done)

pub flags_many : (t : Table) → length (seen_flags t) ≡ length t.clauses
unfolding seen_flags
flags_many t = length-map t.clauses seen_flag

-- the file of what is seen
module _ (file : List ℕ) {present : List Bool} (p : present ≡ seen_flags (table_in file)) where
  same-file : file_words (remaining (table_in file) present) ≡ seen_file file
  same-file = ap (λ (t : Table). file_words t) (ap (λ (bs : List Bool). remaining (table_in file) bs) p ∙ seen_remaining (table_in file))

  pub seen_long : length present ≡ length (table_in file).clauses
  seen_long = ap length p ∙ flags_many (table_in file)

  module _ {size : Size} (s : Sized (remaining (table_in file) present) size) where
    pub seen_room : (before : List ℕ) → length before ≡ 16000 → size.body + 4 ≤ length before
    seen_room before e = omega (arith, s.short)

    pub seen_words : size.body + 4 ≡ length (seen_file file)
    seen_words = omega (arith, s.body, file_long (remaining (table_in file) present), ap length same-file)

  pub seen_written : (before : List ℕ) {after : List ℕ} → after ≡ at_front (file_words (remaining (table_in file) present)) before → after ≡ at_front (seen_file file) before
  seen_written before e = e ∙ ap (λ (ws : List ℕ). at_front ws before) same-file

pub ruleset seen_laws = (seen_long, seen_room)

-- nothing is copied of a file that is refused
module _ (file : List ℕ) {j : Judgement} (e : j ≡ judge file) where
  module _ (n : j.status ≡ 0 → ⊥) where
    refused-part : seen_part file ≡ []
    unfolding seen_part
    refused-part = rw (← e, ne_eqb j.status 0 n)

    pub refused_words : 0 ≡ length (seen_part file)
    refused_words = rw refused-part

    pub refused_copy : (before : List ℕ) → before ≡ at_front (seen_part file) before
    refused_copy before = rw refused-part

  module _ (z : j.status ≡ 0) where
    accepted-part : seen_file file ≡ seen_part file
    unfolding seen_part
    accepted-part = rw (← e, eq-eqb j.status 0 z)

    pub accepted_words : {words : ℕ} → words ≡ length (seen_file file) → words ≡ length (seen_part file)
    accepted_words w = w ∙ ap length accepted-part

    pub accepted_copy : (before : List ℕ) {copy : List ℕ} → copy ≡ at_front (seen_file file) before → copy ≡ at_front (seen_part file) before
    accepted_copy before c = c ∙ ap (λ (ws : List ℕ). at_front ws before) accepted-part

pub ruleset copy_laws = (accepted_laws, refused_words, refused_copy, accepted_words, accepted_copy)
