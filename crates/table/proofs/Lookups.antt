-- The lookup of a clause, one law for each outcome, with premises as the code has them.
use mathlib.Core.Path.{◌≡◌, sym, ◌∙◌}
use mathlib.Core.List.{List}
use mathlib.Core.Option.{none}
use Prim.Native.Nat.{ℕ, ◌+◌, ◌-◌, ◌*◌, ◌≤◌, ◌<◌}
use native.Mathlib.Omega.{arith}
use lib.ListN.{length, take, drop, get_or}
use lib.Seq.{get_or-take}
use mir.Syntax.{w32, w64}
use mir.Val.{Fits}
use denote.Ref.{Bor}
use borrow.Author.Tests.{eq-eqb, ne_eqb, lt-ltb, le-ltb}
use Rattle.words.specs.Fields.{following_of}
use Rattle.table.specs.Body.{body_fault}
use Rattle.table.specs.File.{body_of, clause_starts, judge, Part, part_from, clause_part, Stands}
use Rattle.table.specs.Readers.{BeginsAt}
use Rattle.table.specs.declared.Judgement.{Judgement}
use Rattle.table.proofs.Accepted.{accepted}
use Rattle.table.proofs.Files.{body_length}

module _ (file : List ℕ) (z : (judge file).status ≡ 0) where
  pub file_holds : 4 ≤ length file
  file_holds = omega (arith, (accepted file z).least)

  pub body_sound : body_fault 0 0 (body_of file) ≡ none
  body_sound = (accepted file z).sound

  module _ {number : ℕ} (h : number < (judge file).clauses) where
    pub number_below : number < length (clause_starts file)
    number_below = omega (arith, (accepted file z).count, (accepted file z).clauses)

  module _ {number s : ℕ} (b : BeginsAt (body_of file) number s) where
    pub start_in : s < length file
    start_in = omega (arith, b.fits, body_length file)

    pub start_small : Fits w64 (s * 4)
    start_small = record { fits = omega (arith, start_in, (accepted file z).most) }

    pub start_word : Fits w32 s
    start_word = record { fits = omega (arith, start_in, (accepted file z).most) }

    own_word : get_or (body_of file) s 0 ≡ get_or file s 0
    own_word = get_or-take (length file - 4) file s 0 (omega (arith, b.fits, body_length file))

    module _ {f g : ℕ} (ef : f ≡ following_of (get_or file s 0)) (eg : g ≡ f) where
      pub stop_in : s + (g + 1) ≤ length file
      stop_in = let k = rw own_word at b.fits in omega (arith, body_length file)

      pub stop_small : Fits w64 (s + (g + 1))
      stop_small = record { fits = omega (arith, stop_in, (accepted file z).most) }

module _ (file : Bor (List ℕ)) {number s : ℕ} (b : BeginsAt (body_of file.now) number s) {f g : ℕ} (ef : f ≡ following_of (get_or file.now s 0)) (eg : g ≡ f) where
  pub part_stands : Stands file (part_from file.now (get_or (clause_starts file.now) number 0)) (record { ref_ptr = (file.ref_ptr.0, s * 4 + file.ref_ptr.1); now = take (s + (g + 1) - s) (drop s file.now) })
  part_stands = record {
    words =
        let n : s + (g + 1) - s ≡ following_of (get_or file.now s 0) + 1 = omega arith in rw (← b.place, n);
    place = rw (← b.place);
  }

-- the part of a clause by the judgement of its file
module _ (file : List ℕ) (number : ℕ) where
  none-refused : ((judge file).status ≡ 0 → ⊥) → clause_part file number ≡ record { start = 0; count = 0 }
  unfolding clause_part
  none-refused n = rw (ne_eqb (judge file).status 0 n)

  none_above : (judge file).status ≡ 0 → (judge file).clauses ≤ number → clause_part file number ≡ record { start = 0; count = 0 }
  unfolding clause_part
  none_above z h = rw (eq-eqb (judge file).status 0 z, le-ltb number (judge file).clauses h)

  pub part_found : (judge file).status ≡ 0 → number < (judge file).clauses → clause_part file number ≡ part_from file (get_or (clause_starts file) number 0)
  unfolding clause_part
  part_found z h = rw (eq-eqb (judge file).status 0 z, lt-ltb number (judge file).clauses h)

-- the part of length 0
abbrev nothing : Bor (List ℕ) → Bor (List ℕ)
nothing file = record { ref_ptr = (file.ref_ptr.0, 0 * 4 + file.ref_ptr.1); now = take (0 - 0) (drop 0 file.now) }

nothing_stands : (file : Bor (List ℕ)) (part : Part) → part ≡ record { start = 0; count = 0 } → Stands file part (nothing file)
nothing_stands file part p = record { words = rw p; place = rw p }

module _ (file : Bor (List ℕ)) (number : ℕ) {j : Judgement} (e : j ≡ judge file.now) where
  pub file_refused : (j.status ≡ 0 → ⊥) → Stands file (clause_part file.now number) (nothing file)
  file_refused n = nothing_stands file _ (none-refused file.now number (rw e at n))

  module _ (z : j.status ≡ 0) where
    pub number_refused : j.clauses ≤ number → Stands file (clause_part file.now number) (nothing file)
    number_refused h = nothing_stands file _ (none_above file.now number (rw e at z) (rw e at h))

    pub judged_accepted : (judge file.now).status ≡ 0
    judged_accepted = rw e at z

    module _ (h : number < j.clauses) where
      pub judged_below : number < (judge file.now).clauses
      judged_below = rw e at h

      pub looked_up : {r : Bor (List ℕ)} → Stands file (part_from file.now (get_or (clause_starts file.now) number 0)) r → Stands file (clause_part file.now number) r
      looked_up s = rw (part_found file.now number judged_accepted judged_below) s

module _ (file : List ℕ) (number : ℕ) {j : Judgement} (e : j ≡ judge file) where
  pub place_of_none : (j.status ≡ 0 → ⊥) → 0 ≡ (clause_part file number).start
  place_of_none n = rw (none-refused file number (rw e at n))

  module _ (z : j.status ≡ 0) where
    pub place_above : j.clauses ≤ number → 0 ≡ (clause_part file number).start
    place_above h = rw (none_above file number (rw e at z) (rw e at h))

    pub place_found : number < j.clauses → {s : ℕ} → BeginsAt (body_of file) number s → s ≡ (clause_part file number).start
    place_found h b = rw (part_found file number (rw e at z) (rw e at h)) b.place

-- the contract of lookup permits one result: its words and its place in memory
pub one_part : (file : Bor (List ℕ)) (part : Part) (r s : Bor (List ℕ)) → Stands file part r → Stands file part s → (r.now ≡ s.now) × (r.ref_ptr ≡ s.ref_ptr)
one_part file part r s hr hs = (hr.words ∙ sym hs.words, hr.place ∙ sym hs.place)

pub ruleset part_laws = (body_length, file_holds, body_sound, number_below, start_in, start_small, stop_in, stop_small, part_stands)

pub ruleset place_laws = (start_word, judged_accepted, judged_below, place_of_none, place_above, place_found)

pub ruleset lookup_laws = (file_refused, number_refused, judged_accepted, judged_below, looked_up)
