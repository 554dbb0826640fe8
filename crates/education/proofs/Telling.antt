-- What education's calls tell, by what collections' tell of the copy: one law for each outcome.
use lib.Dec.{eqb}
use lib.ListN.{length, take, drop, get_or}
use lib.Seq.{take-append_seam}
use mathlib.Core.List.{List, []}
use mathlib.Core.Option.{Option, none, some}
use mathlib.Core.Path.{◌≡◌, refl, sym, ap, ◌∙◌}
use native.Mathlib.Omega.{arith}
use borrow.Author.Tests.{eq-eqb, eqb-true}
use mir.Syntax.{w32}
use mir.Val.{Fits}
use Prim.Native.Nat.{ℕ, ◌≤◌}
use Rattle.rules.specs.Setting.{Profile, every_leaf}
use Rattle.rules.proofs.Unify.Tests.{decide}
use Rattle.table.specs.Build.{at_front}
use Rattle.table.specs.File.{judge, table_in}
use Rattle.table.specs.Limits.{Words, FileWithin}
use Rattle.table.specs.declared.Judgement.{Judgement}
use Rattle.table.proofs.AcceptedTable.{words_each}
use Rattle.table.proofs.Desks.{seen_within}
use Rattle.table.proofs.FileEncoding.{file_accepted, file_within, file_decoded}
use Rattle.slim.proofs.Telling.{file_long}
use Rattle.hukolearu.specs.Door.{Fault, first_fault, checks, behind, Admitted}
use Rattle.hukolearu.specs.Calls.{Given, refused_by, SearchAsked, inputs_by, search_by, CheckAsked, check_inputs, check_by}
use Rattle.hukolearu.specs.declared.door.Inputs.{Inputs}
use Rattle.hukolearu.proofs.CallsTold as CallsTold
use Rattle.hukolearu.proofs.DoorLaws.{passed}
use Rattle.education.specs.Education.{education_by, education_search, education_check_by, education_check}
use Rattle.seen.specs.Copying.{seen_in, seen_file, seen_part}
use Rattle.education.specs.Promises.{with_file, check_with_file, HoldsTheSeen, SearchAsIfAlone, CheckAsIfAlone}

-- a call that is not accepted gives nothing of what lies past the door
pub refused_alike : (file : List ℕ) (i : Inputs) → ¬ Admitted file i → (g h : Given)
    → behind (first_fault (checks file i)) refused_by g ≡ behind (first_fault (checks file i)) refused_by h
unfolding behind
refused_alike file i n g h = go (first_fault (checks file i)) refl
  where
    go : (x : Option Fault) → first_fault (checks file i) ≡ x → behind x refused_by g ≡ behind x refused_by h
    go none e = absurd (n (passed file i e))
    go (some fault) e = refl

module _ (rules : Profile) where
  pub search_refused : (a : SearchAsked) → ((judge a.file).status ≡ 0 → ⊥) → education_by rules a ≡ search_by rules a
  unfolding education_by search_by
  search_refused a n = refused_alike a.file (inputs_by rules a) (λ ok. n ok.good_file) _ _

  pub check_refused : (a : CheckAsked) → ((judge a.file).status ≡ 0 → ⊥) → education_check_by rules a ≡ check_by rules a
  unfolding education_check_by check_by
  check_refused a n = refused_alike a.file (check_inputs a) (λ ok. n ok.good_file) _ _

  -- an accepted file, and one that holds what is seen of it
  pub search_alone_by : (a : SearchAsked) (seen : List ℕ) → (judge a.file).status ≡ 0 → HoldsTheSeen a.file seen → education_by rules a ≡ search_by rules (with_file a seen)
  unfolding education_by search_by
  search_alone_by a seen z h = rw (h.table, eq-eqb (judge a.file).status 0 z, eq-eqb (judge seen).status 0 h.accepted)

  pub check_alone_by : (a : CheckAsked) (seen : List ℕ) → (judge a.file).status ≡ 0 → HoldsTheSeen a.file seen
      → education_check_by rules a ≡ check_by rules (check_with_file a seen)
  unfolding education_check_by check_by
  check_alone_by a seen z h = rw (h.table, eq-eqb (judge a.file).status 0 z, eq-eqb (judge seen).status 0 h.accepted)

-- by document 01's
pub base_search : (a : SearchAsked) → education_by every_leaf a ≡ education_search a
unfolding education_by education_search
base_search a = refl

pub base_check : (a : CheckAsked) → education_check_by every_leaf a ≡ education_check a
unfolding education_check_by education_check
base_check a = refl

pub search_alone : SearchAsIfAlone
search_alone a seen z h = sym (base_search a) ∙ search_alone_by every_leaf a seen z h ∙ CallsTold.base_search (with_file a seen)

pub check_alone : CheckAsIfAlone
check_alone a seen z h = sym (base_check a) ∙ check_alone_by every_leaf a seen z h ∙ CallsTold.base_check (check_with_file a seen)

pub seen_holds : (file : List ℕ) → Words file → (judge file).status ≡ 0 → HoldsTheSeen file (seen_file file)
seen_holds file small z =
    let within : FileWithin (seen_in file) = seen_within (table_in file) (file_within file small z) in
    record {
      accepted = ap (λ (j : Judgement). j.status) (file_accepted (seen_in file) within);
      table = file_decoded (seen_in file) within.table;
    }

-- the copy: no words of a file that is refused, else the file of what is seen
module _ (file : List ℕ) {words : ℕ} (w : words ≡ length (seen_part file)) where
  accepted-long : (judge file).status ≡ 0 → 4 ≤ words
  unfolding seen_part
  accepted-long z =
      let e : seen_part file ≡ seen_file file = rw (eq-eqb (judge file).status 0 z) in
      omega (arith, w, ap length e, file_long (seen_in file))

  pub copy_refused : words ≡ 0 → (judge file).status ≡ 0 → ⊥
  copy_refused e z = omega (arith, accepted-long z)

  pub copy_accepted : (words ≡ 0 → ⊥) → (judge file).status ≡ 0
  unfolding seen_part
  copy_accepted n =
      decide (eqb (judge file).status 0)
      (λ t. eqb-true (judge file).status 0 t)
      (λ f. let e : seen_part file ≡ [] = rw f in absurd (n (w ∙ ap length e)))

  pub copy_there : (words ≡ 0 → ⊥) → (before : List ℕ) {copy : List ℕ} → copy ≡ at_front (seen_part file) before → take words copy ≡ seen_file file
  unfolding seen_part
  copy_there n before c =
      let e : seen_part file ≡ seen_file file = rw (eq-eqb (judge file).status 0 (copy_accepted n)) in
      let long : words ≡ length (seen_file file) = w ∙ ap length e in
      rw (c, e, long) (take-append_seam (seen_file file) (drop (length (seen_file file)) before))

-- what the calls then tell
module _ (file : List ℕ) (small : (i : ℕ) → Fits w32 (get_or file i 0)) {words : ℕ} (w : words ≡ length (seen_part file)) where
  file-words : Words file
  file-words = words_each file (λ i. (small i).fits)

  pub copy_short : (words ≡ 0 → ⊥) → words ≤ 16000
  unfolding seen_part
  copy_short n =
      let z = copy_accepted file w n in
      let e : seen_part file ≡ seen_file file = rw (eq-eqb (judge file).status 0 z) in
      let within = seen_within (table_in file) (file_within file file-words z) in
      omega (arith, w, ap length e, file_long (seen_in file), within.short)

  module _ (n : words ≡ 0 → ⊥) (before : List ℕ) {copy : List ℕ} (c : copy ≡ at_front (seen_part file) before) where
    copy_holds : HoldsTheSeen file (take words copy)
    copy_holds = rw (copy_there file w n before c) (seen_holds file file-words (copy_accepted file w n))

    pub search_copy : (rules : Profile) (a : SearchAsked) → a.file ≡ file → education_by rules a ≡ search_by rules (with_file a (take words copy))
    search_copy rules a e = search_alone_by rules a (take words copy) (rw e (copy_accepted file w n)) (rw e copy_holds)

    pub check_copy : (rules : Profile) (a : CheckAsked) → a.file ≡ file → education_check_by rules a ≡ check_by rules (check_with_file a (take words copy))
    check_copy rules a e = check_alone_by rules a (take words copy) (rw e (copy_accepted file w n)) (rw e copy_holds)
