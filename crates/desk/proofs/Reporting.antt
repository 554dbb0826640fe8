-- What is reported, from what the questions hear.
use borrow.Author.Tests.{not-true, not-false}
use lib.Dec.{ltb}
use mathlib.Core.Bool.{Bool, true, false, not, cond, ◌&&◌, ◌||◌}
use mathlib.Core.List.{List, [], ◌∷◌}
use mathlib.Core.Path.{◌≡◌, refl, sym, ◌∙◌}
use Prim.Native.Nat.{ℕ}
use Rattle.desk.specs.Records.{Record, records_of, acceptable}
use Rattle.desk.specs.declared.Slot.{Slot}
use Rattle.desk.specs.declared.Slot.TheVariants.{Matinee as matinee, Evening as evening, Either as either}
use Rattle.desk.specs.Desk.{same_slot, is_of, recorded, settles, tries_for, slots_reported, reported, desk_says}
use Rattle.desk.specs.Asking.{settled_by, heard, any_reported, evening_reported, NeitherRecorded}
use Rattle.desk.specs.declared.Report.{Report}
use Rattle.desk.specs.declared.Report.TheVariants.{Refused, RanOut, Matinee, Evening, MatineeAndEvening, Either, NotRecorded}
use Rattle.desk.specs.declared.ask.Answer.{Answer}
use Rattle.desk.specs.declared.ask.Answer.TheVariants.{BudgetEnded, Found, NoneFound}
use Rattle.desk.proofs.Bools.{clash, never, or_none}

-- an answer, and the tests that it tells of
abbrev of_tests : Bool → Bool → Answer
of_tests out settled = cond out BudgetEnded (cond settled Found NoneFound)

was_out : (o s : Bool) {a : Answer} → a ≡ of_tests o s → a ≡ BudgetEnded → o ≡ true
was_out true s e f = refl
was_out false true e f = clash (cc)
was_out false false e f = clash (cc)

was_found : (o s : Bool) {a : Answer} → a ≡ of_tests o s → a ≡ Found → (o ≡ false) × (s ≡ true)
was_found true s e f = clash (cc)
was_found false true e f = (refl, refl)
was_found false false e f = clash (cc)

was_none : (o s : Bool) {a : Answer} → a ≡ of_tests o s → a ≡ NoneFound → (o ≡ false) × (s ≡ false)
was_none true s e f = clash (cc)
was_none false true e f = clash (cc)
was_none false false e f = (refl, refl)

-- what settles a question is what is recorded
module _ (day house : ℕ) where
  matinee-settled : (rs : List Record) → settled_by day house matinee rs ≡ recorded day house matinee rs
  unfolding settled_by recorded settles
  matinee-settled [] = refl
  matinee-settled (r ∷ rs) = rw (matinee-settled rs)

  evening-settled : (rs : List Record) → settled_by day house evening rs ≡ recorded day house evening rs
  unfolding settled_by recorded settles
  evening-settled [] = refl
  evening-settled (r ∷ rs) = rw (evening-settled rs)

  one_more : (o m e a : Bool) (s : Slot) → (o && same_slot matinee s) || m ≡ false → (o && same_slot evening s) || e ≡ false
      → (o && true) || a ≡ (o && same_slot either s) || a
  unfolding same_slot
  one_more false m e a s h k = refl
  one_more true m e a matinee h k = never (sym h)
  one_more true m e a evening h k = never (sym k)
  one_more true m e a either h k = refl

  any_settled : (rs : List Record) → recorded day house matinee rs ≡ false → recorded day house evening rs ≡ false
      → settled_by day house either rs ≡ recorded day house either rs
  unfolding settled_by recorded settles
  any_settled [] m e = refl
  any_settled (r ∷ rs) m e =
      let later = any_settled rs (or_none (is_of day house r && same_slot matinee r.slot) (recorded day house matinee rs) m)
      (or_none (is_of day house r && same_slot evening r.slot) (recorded day house evening rs) e) in
      rw later (one_more (is_of day house r) (recorded day house matinee rs) (recorded day house evening rs) (recorded day house either rs) r.slot m e)

-- a report that hangs on a budget and on one more test
module _ (yes' no' : Report) (o s : Bool) {a : Answer} (e : a ≡ of_tests o s) where
  report-out : a ≡ BudgetEnded → RanOut ≡ cond o RanOut (cond s yes' no')
  report-out f = rw (was_out o s e f)

  report-found : a ≡ Found → yes' ≡ cond o RanOut (cond s yes' no')
  report-found f = let w = was_found o s e f in rw (w.0, w.1)

  report_none : a ≡ NoneFound → no' ≡ cond o RanOut (cond s yes' no')
  report_none f = let w = was_none o s e f in rw (w.0, w.1)

-- the question for any slot, where neither is recorded
module _ (rs : List Record) (day house third : ℕ) (n : NeitherRecorded rs day house) {a : Answer}
    (e : a ≡ heard third (tries_for day house either rs) (settled_by day house either rs)) where
  asked-any : a ≡ of_tests (ltb third (tries_for day house either rs)) (recorded day house either rs)
  unfolding heard
  asked-any = e ∙ rw (any_settled day house rs n.no_matinee n.no_evening)

  pub any_out : a ≡ BudgetEnded → RanOut ≡ any_reported rs day house third
  any_out f = report-out Either NotRecorded (ltb third (tries_for day house either rs)) (recorded day house either rs) asked-any f

  pub any_found : a ≡ Found → Either ≡ any_reported rs day house third
  any_found f = report-found Either NotRecorded (ltb third (tries_for day house either rs)) (recorded day house either rs) asked-any f

  pub any_none : a ≡ NoneFound → NotRecorded ≡ any_reported rs day house third
  any_none f = report_none Either NotRecorded (ltb third (tries_for day house either rs)) (recorded day house either rs) asked-any f

pub ruleset any_laws = (any_out, any_found, any_none)

-- the question for evening, beside a matinee and without
module _ (rs : List Record) (day house second third : ℕ) {a : Answer}
    (e : a ≡ heard second (tries_for day house evening rs) (settled_by day house evening rs)) where
  asked-evening : a ≡ of_tests (ltb second (tries_for day house evening rs)) (recorded day house evening rs)
  unfolding heard
  asked-evening = e ∙ rw (evening-settled day house rs)

  pub evening_out : (stated : Bool) → a ≡ BudgetEnded → RanOut ≡ evening_reported stated rs day house second third
  evening_out stated f = rw (was_out (ltb second (tries_for day house evening rs)) (recorded day house evening rs) asked-evening f)

  pub both_found : a ≡ Found → MatineeAndEvening ≡ evening_reported true rs day house second third
  unfolding slots_reported
  both_found f = let w = was_found (ltb second (tries_for day house evening rs)) (recorded day house evening rs) asked-evening f in rw (w.0, w.1)

  pub evening_none : a ≡ NoneFound → Matinee ≡ evening_reported true rs day house second third
  unfolding slots_reported
  evening_none f = let w = was_none (ltb second (tries_for day house evening rs)) (recorded day house evening rs) asked-evening f in rw (w.0, w.1)

  pub evening_found : a ≡ Found → Evening ≡ evening_reported false rs day house second third
  unfolding slots_reported
  evening_found f = let w = was_found (ltb second (tries_for day house evening rs)) (recorded day house evening rs) asked-evening f in rw (w.0, w.1)

  pub neither_found : recorded day house matinee rs ≡ false → a ≡ NoneFound → NeitherRecorded rs day house
  neither_found m f = record { no_matinee = m; no_evening = (was_none (ltb second (tries_for day house evening rs)) (recorded day house evening rs) asked-evening f).1 }

  pub neither_reported : {r : Report} → a ≡ NoneFound → r ≡ any_reported rs day house third → r ≡ evening_reported false rs day house second third
  unfolding slots_reported
  neither_reported f h = let w = was_none (ltb second (tries_for day house evening rs)) (recorded day house evening rs) asked-evening f in rw (w.0, w.1) h

pub ruleset evening_laws = (evening_out, both_found, evening_none, evening_found, neither_found, neither_reported)

-- the whole
module _ (words : List ℕ) (day house first second third : ℕ) where
  pub desk_refuses : {q : Bool} → q ≡ acceptable words day house → not q ≡ true → Refused ≡ desk_says words day house first second third
  unfolding desk_says
  desk_refuses {q} e n = rw (sym e ∙ not-true q n)

  module _ {q : Bool} (acc : q ≡ acceptable words day house) (n : not q ≡ false) where
    pub taken_in : acceptable words day house ≡ true
    taken_in = sym acc ∙ not-false q n

    module _ {a : Answer} (e : a ≡ heard first (tries_for day house matinee (records_of words)) (settled_by day house matinee (records_of words))) where
      asked-matinee : a ≡ of_tests (ltb first (tries_for day house matinee (records_of words))) (recorded day house matinee (records_of words))
      unfolding heard
      asked-matinee = e ∙ rw (matinee-settled day house (records_of words))

      pub desk_out : a ≡ BudgetEnded → RanOut ≡ desk_says words day house first second third
      unfolding desk_says reported
      desk_out f = rw (taken_in, was_out (ltb first (tries_for day house matinee (records_of words))) (recorded day house matinee (records_of words)) asked-matinee f)

      pub desk_matinee : {r : Report} → a ≡ Found → r ≡ evening_reported true (records_of words) day house second third → r ≡ desk_says words day house first second third
      unfolding desk_says reported
      desk_matinee f h =
          let w = was_found (ltb first (tries_for day house matinee (records_of words))) (recorded day house matinee (records_of words)) asked-matinee f in
          rw (taken_in, w.0, w.1) h

      pub no_matinee_recorded : a ≡ NoneFound → recorded day house matinee (records_of words) ≡ false
      no_matinee_recorded f = (was_none (ltb first (tries_for day house matinee (records_of words))) (recorded day house matinee (records_of words)) asked-matinee f).1

      pub desk_without : {r : Report} → a ≡ NoneFound → r ≡ evening_reported false (records_of words) day house second third → r ≡ desk_says words day house first second third
      unfolding desk_says reported
      desk_without f h =
          let w = was_none (ltb first (tries_for day house matinee (records_of words))) (recorded day house matinee (records_of words)) asked-matinee f in
          rw (taken_in, w.0, w.1) h

pub ruleset desk_laws = (desk_refuses, taken_in, desk_out, desk_matinee, no_matinee_recorded, desk_without)
