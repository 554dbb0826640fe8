-- The demands hold of every call that gives what the rules say of the table that it sees.
use mathlib.Core.List.{List, map}
use mathlib.Core.Path.{◌≡◌, sym, ap, ◌∙◌}
use Prim.Native.Nat.{ℕ, ◌≤◌}
use native.Mathlib.Omega.{arith}
use lib.ListN.{length}
use Rattle.table.specs.File.{table_in}
use Rattle.table.specs.Limits.{Within}
use Rattle.table.specs.Syntax.{Table}
use Rattle.table.proofs.AcceptedTable.{accepted_within}
use Rattle.rules.specs.Setting.{Profile, every_leaf, read_steps}
use Rattle.rules.specs.Truth.{AllNegative}
use Rattle.rules.specs.Growing.{moved}
use Rattle.rules.specs.Machinery.Play.{check, search_for}
use Rattle.rules.proofs.ClosedTableaux.{larger_bound, larger_table}
use Rattle.rules.proofs.Demands.{larger_budget}
use Rattle.hukolearu.specs.Calls.{Given, room_of, search_given, check_given, SearchAsked, CheckAsked}
use Rattle.hukolearu.specs.Says.{SearchSays, CheckSays}
use Rattle.hukolearu.specs.DemandsOf as DemandsOf
use Rattle.hukolearu.specs.DemandsOf.{search_rules, check_rules, SearchDemands, CheckDemands}
use Rattle.hukolearu.proofs.Accepts.{asks_negative}
use Rattle.hukolearu.proofs.Says.{search_accepted, check_accepted, search_given_lem, check_given_lem, one_check_outcome}
use Rattle.hukolearu.proofs.CallDemands.{out_exactly, none_said, found_said, closed_said, some_said, accepted_said, found_holds, checked_holds, out_status, said_again}

module _ (profile : Profile) (seen : List ℕ → Table) where
  module _ {accepted : SearchAsked → Type 0} {call : SearchAsked → Given}
      (within : (a : SearchAsked) → accepted a → Within (seen a.file))
      (low : (a : SearchAsked) → accepted a → a.bound ≤ 32)
      (negative : (a : SearchAsked) → accepted a → AllNegative (seen a.file).question.literals)
      (gives : (a : SearchAsked) → accepted a → call a ≡ search_given (search_rules profile seen a) a.answer_room (search_for (search_rules profile seen a) a.budget)) where
    search_says : (a : SearchAsked) → accepted a → SearchSays (search_rules profile seen a) a.budget (room_of a.answer_room) (call a)
    search_says a ok = rw (gives a ok) (search_given_lem (search_rules profile seen a) a.budget a.answer_room)

    pub search_demands : SearchDemands profile seen accepted call
    search_demands = record {
      says = search_says;
      ran_out_exactly = λ a ok e tries s. out_exactly (search_rules profile seen a) (search_says a ok) s;
      none_exactly = λ a ok n. none_said (search_rules profile seen a) (search_says a ok) n;
      first_found = λ a ok z. found_said (search_rules profile seen a) (within a ok) (low a ok) (search_says a ok) z;
      answers_hold = λ I a ok hold z. found_holds I (search_rules profile seen a) (within a ok) (low a ok) (negative a ok) hold (search_says a ok) z;
      larger_budget = λ a larger ok ok' n l.
          let S = search_rules profile seen a in
          gives _ ok'
          ∙ ap (search_given S a.answer_room)
          (larger_budget S a.budget larger (λ e. n (ap (λ (g : Given). g.outcome.status) (gives a ok) ∙ out_status S a.answer_room a.budget e)) l)
          ∙ sym (gives a ok);
      never_none = λ a b ok ok' grown l once.
          let c = closed_said (search_rules profile seen a) (search_says a ok) once in
          let d = (larger_table grown c.1).0 in
          some_said (search_rules profile seen b) (search_says b ok') (map (moved grown) c.0) (larger_bound l d).0;
    }

  module _ {accepted : CheckAsked → Type 0} {call : CheckAsked → Given}
      (within : (a : CheckAsked) → accepted a → Within (seen a.file))
      (low : (a : CheckAsked) → accepted a → a.bound ≤ 32)
      (negative : (a : CheckAsked) → accepted a → AllNegative (seen a.file).question.literals)
      (gives : (a : CheckAsked) → accepted a → call a ≡ check_given (seen a.file) (length a.offered) a.answer_room (check (check_rules profile seen a) (read_steps profile a.offered))) where
    check_says : (a : CheckAsked) → accepted a → CheckSays (check_rules profile seen a) a.offered (room_of a.answer_room) (call a)
    check_says a ok = rw (gives a ok) (check_given_lem (check_rules profile seen a) a.offered a.answer_room)

    pub check_demands : CheckDemands profile seen accepted call
    check_demands = record {
      says = check_says;
      accepts_exactly = λ a ok. accepted_said (check_rules profile seen a) a.offered (check_says a ok);
      answers_hold = λ I a ok hold z. checked_holds I (check_rules profile seen a) (within a ok) (low a ok) (negative a ok) hold (check_says a ok) z;
      accepted_again = λ a b ok ok' grown l more same z.
          let room : room_of a.answer_room ≤ room_of b.answer_room = omega arith in
          let says : CheckSays (check_rules profile seen b) b.offered (room_of b.answer_room) (call a) =
          rw same (said_again profile grown (within b ok') (low b ok') l a.offered room (check_says a ok) z) in
          one_check_outcome (check_rules profile seen b) b.offered (room_of b.answer_room) (check_says b ok') says;
    }

-- document 01's calls
pub base_search_meets : DemandsOf.BaseSearchMeets
base_search_meets =
    search_demands every_leaf table_in
    (λ a ok. accepted_within a.file ok.good_file)
    (λ a ok. ok.low_bound)
    (λ a ok. asks_negative a.file ok.good_file)
    search_accepted

pub base_check_meets : DemandsOf.BaseCheckMeets
base_check_meets =
    check_demands every_leaf table_in
    (λ a ok. accepted_within a.file ok.good_file)
    (λ a ok. ok.low_bound)
    (λ a ok. asks_negative a.file ok.good_file)
    check_accepted
