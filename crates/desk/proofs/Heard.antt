-- What a question hears, from the promises of the public search: how the stated order goes (Going), and that there is one ending alone.
use borrow.Author.Tests.{lt-ltb, le-ltb}
use lib.ListN.{length}
use mathlib.Core.Bool.{Bool, true, false}
use mathlib.Core.List.{List}
use mathlib.Core.Path.{◌≡◌, refl, sym, ◌∙◌, ap, subst}
use native.Mathlib.Omega.{arith}
use Prim.Native.Nat.{ℕ, ◌≤◌, ◌<◌}
use Rattle.table.specs.File.{judge, table_in}
use Rattle.table.specs.Syntax.{Table}
use Rattle.rules.specs.Tableau.{start}
use Rattle.rules.specs.Setting.{base}
use Rattle.rules.specs.Order.{Ending, found, nothing}
use Rattle.rules.proofs.Demands.{one_ending}
use Rattle.hukolearu.specs.Calls.{Given, search_with, search_call}
use Rattle.hukolearu.specs.declared.Outcome.{Outcome}
use Rattle.hukolearu.specs.Says.{SearchAccepted, SearchSays, ran_out, none_found, found_fitting, found_too_long}
use Rattle.hukolearu.proofs.CallDemands.{search_says}
use Rattle.desk.specs.Records.{Record}
use Rattle.desk.specs.declared.Slot.{Slot}
use Rattle.desk.specs.Desk.{tries_for}
use Rattle.desk.specs.Clauses.{desk_table}
use Rattle.desk.specs.Asking.{settled_by, asks, status_for, heard}
use Rattle.desk.specs.declared.ask.Answer.{Answer}
use Rattle.desk.specs.declared.ask.Answer.TheVariants.{BudgetEnded, Found, NoneFound}
use Rattle.desk.proofs.Going.{Search, Ends, goes}
use Rattle.desk.proofs.Bools.{clash}

-- the desk's search passes all checks of input
abbrev outcome : List ℕ → ℕ → Given
outcome file budget = search_call (asks file budget)

pub status_is : (file : List ℕ) (budget : ℕ) (proof answer work : List ℕ) {o : Outcome} → length proof ≡ 199 → length answer ≡ 8 → length work ≡ 16384
    → o ≡ (search_call (search_with file 2 budget proof answer work)).outcome → o.status ≡ status_for file budget
status_is file budget proof answer work p a w e =
    ap (λ (r : Outcome). r.status) e ∙ rw (p, a, w)

says : (t : Table) (file : List ℕ) (budget : ℕ) → (judge file).status ≡ 0 → table_in file ≡ t → SearchSays (base t 2) budget 8 (outcome file budget)
says t file budget z e =
    let a : SearchAccepted (asks file budget) =
    record { enough_work = omega arith; enough_proof = omega arith; low_bound = omega arith; good_file = z } in
    subst (λ (u : Table). SearchSays (base u 2) budget 8 (outcome file budget)) e (search_says (asks file budget) a)

-- the status, by how the order ends and how many tries it needs
module _ (t : Table) (budget : ℕ) {ending : Ending} {tries : ℕ} (went : Search t (start t) ending tries) where
  same : {e : Ending} {n : ℕ} → Search t (start t) e n → (e ≡ ending) × (n ≡ tries)
  same {e} {n} s = one_ending (base t 2) e ending n tries s went

  out-said : {g : Given} {room : ℕ} → SearchSays (base t 2) budget room g → g.outcome.status ≡ 11 → budget < tries
  out-said (ran_out s l) z = omega (arith, (same s).1)
  out-said (none_found s l) z = absurd (omega arith)
  out-said (found_fitting s l c a f) z = absurd (omega arith)
  out-said (found_too_long s l c a f) z = absurd (omega arith)

  enough-said : {g : Given} {room : ℕ} → SearchSays (base t 2) budget room g → (g.outcome.status ≡ 11 → ⊥) → tries ≤ budget
  enough-said (ran_out s l) n = absurd (n refl)
  enough-said (none_found s l) n = omega (arith, (same s).1)
  enough-said (found_fitting s l c a f) n = omega (arith, (same s).1)
  enough-said (found_too_long s l c a f) n = omega (arith, (same s).1)

  none_said : {g : Given} {room : ℕ} → SearchSays (base t 2) budget room g → g.outcome.status ≡ 10 → ending ≡ nothing
  none_said (ran_out s l) z = absurd (omega arith)
  none_said (none_found s l) z = sym (same s).0
  none_said (found_fitting s l c a f) z = absurd (omega arith)
  none_said (found_too_long s l c a f) z = absurd (omega arith)

  some_said : {g : Given} {room : ℕ} → SearchSays (base t 2) budget room g → (g.outcome.status ≡ 11 → ⊥) → (g.outcome.status ≡ 10 → ⊥) → ending ≡ nothing → ⊥
  some_said (ran_out s l) n m e = n refl
  some_said (none_found s l) n m e = m refl
  some_said (found_fitting s l c a f) n m e = clash (cc (same s).0)
  some_said (found_too_long s l c a f) n m e = clash (cc (same s).0)

-- so it is as the records say
settled_not : (b : Bool) {e : Ending} → Ends b e → e ≡ nothing → b ≡ false
settled_not true {e} so h = absurd (subst (λ (d : Ending). Ends true d) h so)
settled_not false so h = refl

settled_so : (b : Bool) (e : Ending) → Ends b e → (e ≡ nothing → ⊥) → b ≡ true
settled_so true e so h = refl
settled_so false (found steps) so h = absurd so
settled_so false nothing so h = absurd (h refl)

module _ (rs : List Record) (day house : ℕ) (asked : Slot) (file : List ℕ) (budget : ℕ) (z : (judge file).status ≡ 0) (e : table_in file ≡ desk_table rs day house asked) where
  abbrev hears : Answer → Type 0
  hears a = a ≡ heard budget (tries_for day house asked rs) (settled_by day house asked rs)

  pub hears_ended : (outcome file budget).outcome.status ≡ 11 → hears BudgetEnded
  unfolding heard
  hears_ended h =
      let t = desk_table rs day house asked in
      let w = goes rs day house asked in
      let l = out-said t budget w.searched (says t file budget z e) h in
      rw (lt-ltb budget (tries_for day house asked rs) l)

  module _ (n : (outcome file budget).outcome.status ≡ 11 → ⊥) where
    enough : tries_for day house asked rs ≤ budget
    enough = enough-said (desk_table rs day house asked) budget (goes rs day house asked).searched (says (desk_table rs day house asked) file budget z e) n

    pub hears_none : (outcome file budget).outcome.status ≡ 10 → hears NoneFound
    unfolding heard
    hears_none h =
        let w = goes rs day house asked in
        let b = settled_not (settled_by day house asked rs) w.so (none_said (desk_table rs day house asked) budget w.searched (says (desk_table rs day house asked) file budget z e) h) in
        rw (le-ltb budget (tries_for day house asked rs) enough, b)

    pub hears_found : ((outcome file budget).outcome.status ≡ 10 → ⊥) → hears Found
    unfolding heard
    hears_found m =
        let w = goes rs day house asked in
        let b = settled_so (settled_by day house asked rs) w.ending w.so (some_said (desk_table rs day house asked) budget w.searched (says (desk_table rs day house asked) file budget z e) n m) in
        rw (le-ltb budget (tries_for day house asked rs) enough, b)
