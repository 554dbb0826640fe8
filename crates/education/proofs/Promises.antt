-- The promises of order 8 hold: each statement of specs/Promises.antt is proved.
use mathlib.Core.List.{List, [], ◌∷◌, map}
use mathlib.Core.Path.{◌≡◌, refl, sym, ap, ◌∙◌}
use Prim.Native.Nat.{ℕ, ◌≤◌}
use native.Mathlib.Omega.{arith}
use borrow.Author.Tests.{eq-eqb}
use lib.ListN.{length, length-append}
use Rattle.words.specs.Steps.{step_of}
use Rattle.table.specs.Syntax.{Clause, Table, all_clauses}
use Rattle.table.specs.Seen.{unrestricted_of, unrestricted}
use Rattle.table.specs.File.{judge, table_in}
use Rattle.table.specs.Limits.{ClauseWithin, Within}
use Rattle.table.proofs.AcceptedTable.{accepted_within}
use Rattle.table.proofs.Desks.{passed_over, by_marks, nothing_restricted, each_seen, fewer_seen}
use Rattle.table.proofs.Encoding.{each_append}
use Rattle.slim.proofs.Walks.{each_left, each_right}
use Rattle.rules.specs.Setting.{every_leaf}
use Rattle.rules.specs.Growing.{Inserted, at_end as none-inserted, kept as kept-inserted, added as one-inserted, Larger, moved}
use Rattle.rules.specs.Machinery.Play.{check, search_for}
use Rattle.rules.proofs.ClosedTableaux.{larger_bound, larger_table}
use Rattle.rules.proofs.Demands.{larger_budget}
use Rattle.hukolearu.specs.Door.{first_fault, checks}
use Rattle.hukolearu.specs.Calls.{room_of, refused_by, search_given, check_given, SearchAsked, search_inputs, search_setting, search_call, CheckAsked, check_inputs, check_setting, check_call}
use Rattle.hukolearu.specs.Says.{SearchAccepted, CheckAccepted, CheckSays}
use Rattle.hukolearu.proofs.Accepts.{asks_negative}
use Rattle.hukolearu.proofs.DoorLaws.{inside}
use Rattle.hukolearu.proofs.Says.{one_check_outcome}
use Rattle.hukolearu.proofs.CallDemands.{search_says, check_says, closed_said, some_said, said_again, behind_either, out_status}
use Rattle.hukolearu.proofs.DemandsOf.{search_demands, check_demands}
use Rattle.education.specs.Education.{search_seen, check_seen, education_search, education_check}
use Rattle.seen.specs.Copying.{seen_in, seen_file}
use Rattle.education.specs.Promises as Promises
use Rattle.education.specs.Promises.{MoreRestricted, at_end, kept, added}
use Rattle.education.proofs.Telling.{refused_alike, search_alone, check_alone, seen_holds}

-- nothing is learnt
pub search_tells_nothing : Promises.SearchTellsNothing
unfolding education_search
search_tells_nothing f g zf zg same bound budget proof answer work = rw (same, eq-eqb (judge f).status 0 zf, eq-eqb (judge g).status 0 zg)

pub check_tells_nothing : Promises.CheckTellsNothing
unfolding education_check
check_tells_nothing f g zf zg same bound offered answer work = rw (same, eq-eqb (judge f).status 0 zf, eq-eqb (judge g).status 0 zg)

one_kept : (c : Clause) (cs ds : List Clause) → unrestricted_of cs ≡ unrestricted_of ds → unrestricted_of (c ∷ cs) ≡ unrestricted_of (c ∷ ds)
unfolding unrestricted_of
one_kept c cs ds e = rw e

same_seen : {cs ds : List Clause} → MoreRestricted cs ds → unrestricted_of cs ≡ unrestricted_of ds
same_seen at_end = refl
same_seen (kept {c} {cs} {ds} r) = one_kept c cs ds (same_seen r)
same_seen (added {c} {cs} {ds} e r) = same_seen r ∙ sym (passed_over c ds e)

pub restricted_do_not_show : Promises.RestrictedDoNotShow
unfolding unrestricted
restricted_do_not_show t u more same = rw (same_seen more, same)

pub restricted_change_nothing : Promises.RestrictedChangeNothing
restricted_change_nothing f g zf zg more same =
    let e = restricted_do_not_show (table_in f) (table_in g) more same in
    (search_tells_nothing f g zf zg e, check_tells_nothing f g zf zg e)

-- the demands
pub search_given_lem : (a : SearchAsked) → SearchAccepted a → education_search a ≡ search_given (search_seen a) a.answer_room (search_for (search_seen a) a.budget)
unfolding education_search
search_given_lem a ok = inside ok refused_by (search_given (search_seen a) a.answer_room (search_for (search_seen a) a.budget))

pub check_given_lem : (a : CheckAsked) → CheckAccepted a
    → education_check a ≡ check_given (seen_in a.file) (length a.offered) a.answer_room (check (check_seen a) (map step_of a.offered))
unfolding education_check
check_given_lem a ok =
    inside ok refused_by (check_given (seen_in a.file) (length a.offered) a.answer_room (check (check_seen a) (map step_of a.offered)))

limits_seen : (t : Table) → Within t → Within (unrestricted t)
unfolding all_clauses unrestricted
limits_seen t h =
    let q = t.question ∷ [] in
    let cs = unrestricted_of t.clauses in
    record {
      few = omega (arith, h.few, fewer_seen t.clauses, length-append t.clauses q, length-append cs q);
      clauses = each_append ClauseWithin cs q (each_seen ClauseWithin t.clauses (each_left ClauseWithin t.clauses q h.clauses)) (each_right ClauseWithin t.clauses q h.clauses);
    }

pub within_seen : (file : List ℕ) → (judge file).status ≡ 0 → Within (seen_in file)
within_seen file z = limits_seen (table_in file) (accepted_within file z)

pub search_meets_the_demands : Promises.SearchMeetsTheDemands
unfolding unrestricted
search_meets_the_demands =
    search_demands every_leaf seen_in (λ a ok. within_seen a.file ok.good_file) (λ a ok. ok.low_bound) (λ a ok. asks_negative a.file ok.good_file) search_given_lem

pub check_meets_the_demands : Promises.CheckMeetsTheDemands
unfolding unrestricted
check_meets_the_demands =
    check_demands every_leaf seen_in (λ a ok. within_seen a.file ok.good_file) (λ a ok. ok.low_bound) (λ a ok. asks_negative a.file ok.good_file) check_given_lem

pub same_with_larger_budget : Promises.SameWithLargerBudget
unfolding education_search
same_with_larger_budget a larger n l =
    let S = search_seen a in
    behind_either (first_fault (checks a.file (search_inputs a)))
    (λ k. ap (search_given S a.answer_room) (larger_budget S a.budget larger (λ e. k (out_status S a.answer_room a.budget e)) l)) n

-- collections
all_seen : (file : List ℕ) → Promises.NothingRestricted file → seen_in file ≡ table_in file
unfolding unrestricted
all_seen file h = ap (λ (cs : List Clause). record { clauses = cs; question = (table_in file).question }) (nothing_restricted (table_in file).clauses h)

pub same_search : Promises.SameSearch
unfolding education_search search_call
same_search a h = rw (all_seen a.file h)

pub same_check : Promises.SameCheck
unfolding education_check check_call
same_check a h = rw (all_seen a.file h)

pub same_refusals : Promises.SameRefusals
unfolding education_search search_call education_check check_call
same_refusals = (
  λ a n. refused_alike a.file (search_inputs a) n _ _,
  λ a n. refused_alike a.file (check_inputs a) n _ _,
)

put_back_lem : (cs : List Clause) → Inserted (unrestricted_of cs) cs
put_back_lem = by_marks (λ cs ds. Inserted ds cs) none-inserted (λ c cs ds e h. one-inserted h) (λ c cs ds e h. kept-inserted h)

pub whole_is_larger : Promises.WholeIsLarger
unfolding unrestricted
whole_is_larger t = record { clauses = put_back_lem t.clauses; question = refl }

pub proofs_move_back : Promises.ProofsMoveBack
proofs_move_back a b ok ok' grown l more same z =
    let room : room_of a.answer_room ≤ room_of b.answer_room = omega arith in
    let says : CheckSays (check_setting b) b.offered (room_of b.answer_room) (education_check a) =
    rw same (said_again every_leaf grown (accepted_within b.file ok'.good_file) ok'.low_bound l a.offered room (check_meets_the_demands.says a ok) z) in
    one_check_outcome (check_setting b) b.offered (room_of b.answer_room) (check_says b ok') says

pub found_by_both : Promises.FoundByBoth
found_by_both a b ok ok' same l once =
    let c = closed_said (search_seen a) (search_meets_the_demands.says a ok) once in
    let grown : Larger (seen_in a.file) (table_in b.file) = rw same (whole_is_larger (table_in a.file)) in
    let d = (larger_table grown c.1).0 in
    some_said (search_setting b) (search_says b ok') (map (moved grown) c.0) (larger_bound l d).0

-- as if the file held nothing else
pub search_as_if_alone : Promises.SearchAsIfAlone
search_as_if_alone = search_alone

pub check_as_if_alone : Promises.CheckAsIfAlone
check_as_if_alone = check_alone

pub some_file_holds_the_seen : Promises.SomeFileHoldsTheSeen
some_file_holds_the_seen file small z = (seen_file file, seen_holds file small z)
