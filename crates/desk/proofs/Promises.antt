-- The desk's promises, proved: each statement of specs/Promises.antt from the definition of what the desk says.
use borrow.Author.Tests.{ltb-true, lt-ltb, eq-eqb}
use lib.Dec.{eqb, ltb}
use lib.ListN.{length}
use mathlib.Core.Bool.{Bool, true, false, cond, ◌&&◌, ◌||◌}
use mathlib.Core.List.Memᴰ
use mathlib.Core.List.{List, [], ◌∷◌, Memᴰ}
use mathlib.Core.Logic.{◌↔◌, ◌⊎◌, inl, inr, ◌≢◌}
use mathlib.Core.Path.{◌≡◌, refl, sym, ◌∙◌, ap}
use native.Mathlib.Omega.{arith}
use Prim.Native.Nat.{ℕ, ◌+◌, ◌*◌, ◌≤◌, ◌<◌}
use Rattle.desk.specs.Records.{Record, records_of, acceptable}
use Rattle.desk.specs.declared.Slot.{Slot}
use Rattle.desk.specs.declared.Slot.TheVariants.{Matinee as matinee, Evening as evening, Either as either}
use Rattle.desk.specs.Desk.{same_slot, is_of, recorded, named, settles, taken, spent, tries_for, slots_reported, reported, desk_says, values_of}
use Rattle.desk.specs.Promises
use Rattle.desk.specs.Promises.{Recorded, NeitherStated}
use Rattle.desk.specs.declared.Report.{Report}
use Rattle.desk.specs.declared.Report.TheVariants.{Refused, RanOut, Either, NotRecorded}
use Rattle.desk.proofs.Looking.{is_of_lem, accepted_words}
use Rattle.desk.proofs.Bools.{clash, never, and_left, and_right, or_cases, or_left, or_right}
use Rattle.desk.proofs.Words.{records_counted}

-- a record of that day and house has this slot, and the test of it
same_slot_lem : (s u : Slot) → same_slot s u ≡ true → u ≡ s
unfolding same_slot
same_slot_lem matinee matinee e = refl
same_slot_lem matinee evening e = never e
same_slot_lem matinee either e = never e
same_slot_lem evening matinee e = never e
same_slot_lem evening evening e = refl
same_slot_lem evening either e = never e
same_slot_lem either matinee e = never e
same_slot_lem either evening e = never e
same_slot_lem either either e = refl

slot_same : (s : Slot) → same_slot s s ≡ true
unfolding same_slot
slot_same matinee = refl
slot_same evening = refl
slot_same either = refl

module _ (day house : ℕ) (slot : Slot) where
  is-recorded : (rs : List Record) → recorded day house slot rs ≡ true → Recorded day house slot rs
  unfolding recorded is_of
  is-recorded [] e = never e
  is-recorded (r ∷ rs) e = go (or_cases (is_of day house r && same_slot slot r.slot) (recorded day house slot rs) e) (is-recorded rs)
    where
      go : (is_of day house r && same_slot slot r.slot ≡ true) ⊎ (recorded day house slot rs ≡ true)
          → (recorded day house slot rs ≡ true → Recorded day house slot rs) → Recorded day house slot (r ∷ rs)
      go (inl h) more =
          let here = is_of_lem day house r (and_left (is_of day house r) (same_slot slot r.slot) h) in
          (r, Memᴰ.head refl, here.0, here.1, same_slot_lem slot r.slot (and_right (is_of day house r) (same_slot slot r.slot) h))
      go (inr h) more = let m = more h in (m.0, Memᴰ.tail m.1, m.2, m.3, m.4)

  recorded-is : (rs : List Record) → Recorded day house slot rs → recorded day house slot rs ≡ true
  unfolding recorded is_of
  recorded-is [] m = absurd (Memᴰ.not-nil m.1)
  recorded-is (r ∷ rs) m = go (Memᴰ.cases_cons m.1) (recorded-is rs)
    where
      go : (m.0 ≡ r) ⊎ Memᴰ m.0 rs → (Recorded day house slot rs → recorded day house slot rs ≡ true)
          → (eqb r.day day && eqb r.house house && same_slot slot r.slot) || recorded day house slot rs ≡ true
      go (inl e) more =
          let d : r.day ≡ day = ap (λ (k : Record). k.day) (sym e) ∙ m.2 in
          let h : r.house ≡ house = ap (λ (k : Record). k.house) (sym e) ∙ m.3 in
          let s : r.slot ≡ slot = ap (λ (k : Record). k.slot) (sym e) ∙ m.4 in
          or_left (eqb r.day day && eqb r.house house && same_slot slot r.slot) (recorded day house slot rs)
          (rw (eq-eqb r.day day d, eq-eqb r.house house h, s, slot_same slot))
      go (inr i) more = or_right (is_of day house r && same_slot slot r.slot) (recorded day house slot rs) (more (m.0, i, m.2, m.3, m.4))

  not-recorded : (rs : List Record) → recorded day house slot rs ≡ false → ¬ Recorded day house slot rs
  not-recorded rs e m = never (sym e ∙ recorded-is rs m)

-- the report by its six tests: three budgets that ended, and what is recorded
unfoldable picked : Bool → Bool → Bool → Bool → Bool → Bool → Report
picked a b c m e x = cond a RanOut (cond b RanOut (slots_reported m e (cond c RanOut (cond x Either NotRecorded))))

out_because : (a b c m e x : Bool) → picked a b c m e x ≡ RanOut → (a ≡ true) ⊎ ((b ≡ true) ⊎ (((m ≡ false) × (e ≡ false)) × (c ≡ true)))
unfolding picked slots_reported
out_because true b c m e x h = inl refl
out_because false true c m e x h = inr (inl refl)
out_because false false c true true x h = clash (cc)
out_because false false c true false x h = clash (cc)
out_because false false c false true x h = clash (cc)
out_because false false true false false x h = inr (inr ((refl, refl), refl))
out_because false false false false false true h = clash (cc)
out_because false false false false false false h = clash (cc)

because_out : (a b c m e x : Bool) → (a ≡ true) ⊎ ((b ≡ true) ⊎ (((m ≡ false) × (e ≡ false)) × (c ≡ true))) → picked a b c m e x ≡ RanOut
unfolding picked slots_reported
because_out a b c m e x (inl h) = rw h
because_out true b c m e x (inr (inl h)) = refl
because_out false b c m e x (inr (inl h)) = rw h
because_out true b c m e x (inr (inr h)) = refl
because_out false true c m e x (inr (inr h)) = refl
because_out false false c m e x (inr (inr h)) = rw (h.0.0, h.0.1, h.1)

-- what is reported where no budget ended
pub record Shows (m e x : Bool) (r : Report) : Type 0 where
  pub matinee_shown : ((values_of r).matinee ≡ 1) ↔ (m ≡ true)
  pub evening_shown : ((values_of r).evening ≡ 1) ↔ (e ≡ true)
  pub either_shown : ((values_of r).either ≡ 1) ↔ (((m ≡ false) × (e ≡ false)) × (x ≡ true))
  pub nothing_shown : (r ≡ NotRecorded) ↔ (((m ≡ false) × (e ≡ false)) × (x ≡ false))

yes_yes : {A B : Type 0} → A → B → A ↔ B
yes_yes a b = (λ _. b, λ _. a)

no_no : {A B : Type 0} → (A → ⊥) → (B → ⊥) → A ↔ B
no_no a b = (λ x. absurd (a x), λ x. absurd (b x))

shown : (a b c m e x : Bool) → picked a b c m e x ≢ RanOut → Shows m e x (picked a b c m e x)
unfolding picked slots_reported
shown true b c m e x h = absurd (h refl)
shown false true c m e x h = absurd (h refl)
shown false false c true true x h =
    record {
      matinee_shown = yes_yes refl refl;
      evening_shown = yes_yes refl refl;
      either_shown = no_no (λ z. omega arith) (λ z. never (sym z.0.0));
      nothing_shown = no_no (λ z. clash (cc)) (λ z. never (sym z.0.0));
    }
shown false false c true false x h =
    record {
      matinee_shown = yes_yes refl refl;
      evening_shown = no_no (λ z. omega arith) (λ z. never z);
      either_shown = no_no (λ z. omega arith) (λ z. never (sym z.0.0));
      nothing_shown = no_no (λ z. clash (cc)) (λ z. never (sym z.0.0));
    }
shown false false c false true x h =
    record {
      matinee_shown = no_no (λ z. omega arith) (λ z. never z);
      evening_shown = yes_yes refl refl;
      either_shown = no_no (λ z. omega arith) (λ z. never (sym z.0.1));
      nothing_shown = no_no (λ z. clash (cc)) (λ z. never (sym z.0.1));
    }
shown false false true false false x h = absurd (h refl)
shown false false false false false true h =
    record {
      matinee_shown = no_no (λ z. omega arith) (λ z. never z);
      evening_shown = no_no (λ z. omega arith) (λ z. never z);
      either_shown = yes_yes refl ((refl, refl), refl);
      nothing_shown = no_no (λ z. clash (cc)) (λ z. never (sym z.1));
    }
shown false false false false false false h =
    record {
      matinee_shown = no_no (λ z. omega arith) (λ z. never z);
      evening_shown = no_no (λ z. omega arith) (λ z. never z);
      either_shown = no_no (λ z. omega arith) (λ z. never z.1);
      nothing_shown = yes_yes refl ((refl, refl), refl);
    }

module _ (words : List ℕ) (day house forMatinee forEvening forAny : ℕ) where
  abbrev rs : List Record
  rs = records_of words

  abbrev said : Report
  said = desk_says words day house forMatinee forEvening forAny

  abbrev by_tests : Report
  by_tests =
      picked (ltb forMatinee (tries_for day house matinee rs)) (ltb forEvening (tries_for day house evening rs)) (ltb forAny (tries_for day house either rs))
      (recorded day house matinee rs) (recorded day house evening rs) (recorded day house either rs)

  said_is : acceptable words day house ≡ true → said ≡ by_tests
  unfolding desk_says reported picked
  said_is a = rw a

  -- where it is acceptable, it is not refused
  not_refused : (a b c m e x : Bool) → picked a b c m e x ≢ Refused
  unfolding picked slots_reported
  not_refused true b c m e x h = clash (cc)
  not_refused false true c m e x h = clash (cc)
  not_refused false false c true true x h = clash (cc)
  not_refused false false c true false x h = clash (cc)
  not_refused false false c false true x h = clash (cc)
  not_refused false false true false false x h = clash (cc)
  not_refused false false false false false true h = clash (cc)
  not_refused false false false false false false h = clash (cc)

  refused-then : (a : Bool) → acceptable words day house ≡ a → said ≡ Refused → a ≡ false
  refused-then true h e = absurd (not_refused _ _ _ _ _ _ (sym (said_is h) ∙ e))
  refused-then false h e = refl

  then-refused : acceptable words day house ≡ false → said ≡ Refused
  unfolding desk_says
  then-refused a = rw a

  neither-stated : (recorded day house matinee rs ≡ false) × (recorded day house evening rs ≡ false) → NeitherStated day house rs
  neither-stated h = (not-recorded day house matinee rs h.0, not-recorded day house evening rs h.1)

  unrecorded : (slot : Slot) → ¬ Recorded day house slot rs → recorded day house slot rs ≡ false
  unrecorded slot n = go (recorded day house slot rs) refl
    where
      go : (b : Bool) → recorded day house slot rs ≡ b → b ≡ false
      go true e = absurd (n (is-recorded day house slot rs e))
      go false e = refl

  stated-neither : NeitherStated day house rs → (recorded day house matinee rs ≡ false) × (recorded day house evening rs ≡ false)
  stated-neither n = (unrecorded matinee n.0, unrecorded evening n.1)

pub refused_exactly : Promises.RefusedExactly
refused_exactly words day house fm fe fa =
    (refused-then words day house fm fe fa (acceptable words day house) refl, then-refused words day house fm fe fa)

pub ran_out_exactly : Promises.RanOutExactly
ran_out_exactly words day house fm fe fa a = (λ h. go (out_because _ _ _ _ _ _ (sym (said_is words day house fm fe fa a) ∙ h)), λ h. said_is words day house fm fe fa a ∙ because_out _ _ _ _ _ _ (back h))
  where
    go : (ltb fm (tries_for day house matinee (records_of words)) ≡ true) ⊎ ((ltb fe (tries_for day house evening (records_of words)) ≡ true)
        ⊎ (((recorded day house matinee (records_of words) ≡ false) × (recorded day house evening (records_of words) ≡ false)) × (ltb fa (tries_for day house either (records_of words)) ≡ true)))
        → (fm < tries_for day house matinee (records_of words)) ⊎ ((fe < tries_for day house evening (records_of words))
        ⊎ (NeitherStated day house (records_of words) × (fa < tries_for day house either (records_of words))))
    go (inl h) = inl (ltb-true _ _ h)
    go (inr (inl h)) = inr (inl (ltb-true _ _ h))
    go (inr (inr h)) = inr (inr (neither-stated words day house fm fe fa h.0, ltb-true _ _ h.1))

    back : (fm < tries_for day house matinee (records_of words)) ⊎ ((fe < tries_for day house evening (records_of words))
        ⊎ (NeitherStated day house (records_of words) × (fa < tries_for day house either (records_of words))))
        → (ltb fm (tries_for day house matinee (records_of words)) ≡ true) ⊎ ((ltb fe (tries_for day house evening (records_of words)) ≡ true)
        ⊎ (((recorded day house matinee (records_of words) ≡ false) × (recorded day house evening (records_of words) ≡ false)) × (ltb fa (tries_for day house either (records_of words)) ≡ true)))
    back (inl h) = inl (lt-ltb _ _ h)
    back (inr (inl h)) = inr (inl (lt-ltb _ _ h))
    back (inr (inr h)) = inr (inr (stated-neither words day house fm fe fa h.0, lt-ltb _ _ h.1))

module _ (words : List ℕ) (day house fm fe fa : ℕ) (a : acceptable words day house ≡ true) (n : desk_says words day house fm fe fa ≢ RanOut) where
  shows : Shows (recorded day house matinee (records_of words)) (recorded day house evening (records_of words)) (recorded day house either (records_of words)) (desk_says words day house fm fe fa)
  shows = rw (said_is words day house fm fe fa a) (shown _ _ _ _ _ _ (λ h. n (said_is words day house fm fe fa a ∙ h)))

pub matinee_exactly : Promises.MatineeExactly
matinee_exactly words day house fm fe fa a n =
    let s = (shows words day house fm fe fa a n).matinee_shown in
    (λ h. is-recorded day house matinee (records_of words) (s.0 h), λ h. s.1 (recorded-is day house matinee (records_of words) h))

pub evening_exactly : Promises.EveningExactly
evening_exactly words day house fm fe fa a n =
    let s = (shows words day house fm fe fa a n).evening_shown in
    (λ h. is-recorded day house evening (records_of words) (s.0 h), λ h. s.1 (recorded-is day house evening (records_of words) h))

pub either_exactly : Promises.EitherExactly
either_exactly words day house fm fe fa a n =
    let s = (shows words day house fm fe fa a n).either_shown in (
      λ h. let t = s.0 h in (neither-stated words day house fm fe fa t.0, is-recorded day house either (records_of words) t.1),
      λ h. s.1 (stated-neither words day house fm fe fa h.0, recorded-is day house either (records_of words) h.1),
    )

pub not_recorded_exactly : Promises.NotRecordedExactly
not_recorded_exactly words day house fm fe fa a n =
    let s = (shows words day house fm fe fa a n).nothing_shown in (
      λ h. let t = s.0 h in (neither-stated words day house fm fe fa t.0, not-recorded day house either (records_of words) t.1),
      λ h. s.1 (stated-neither words day house fm fe fa h.0, unrecorded words day house fm fe fa either h.1),
    )

-- a record takes four tries at most
few_taken : (asked slot : Slot) → taken asked slot ≤ 4
unfolding taken
few_taken matinee matinee = omega arith
few_taken matinee evening = omega arith
few_taken matinee either = omega arith
few_taken evening matinee = omega arith
few_taken evening evening = omega arith
few_taken evening either = omega arith
few_taken either matinee = omega arith
few_taken either evening = omega arith
few_taken either either = omega arith

few_named : (slot : Slot) → named slot ≤ 2
unfolding named
few_named matinee = omega arith
few_named evening = omega arith
few_named either = omega arith

few_spent : (o s : Bool) (asked slot : Slot) (later : ℕ) → spent o s asked slot later ≤ 4 + later
unfolding spent
few_spent false s asked slot later = omega (arith, few_named slot)
few_spent true false asked slot later = omega (arith, few_taken asked slot)
few_spent true true asked slot later = omega (arith, few_taken asked slot)

pub few_tries : (day house : ℕ) (asked : Slot) (rs : List Record) → tries_for day house asked rs ≤ 4 * length rs
unfolding tries_for
few_tries day house asked [] = omega arith
few_tries day house asked (r ∷ rs) =
    omega (arith, few_spent (is_of day house r) (settles asked r.slot) asked r.slot (tries_for day house asked rs), few_tries day house asked rs)

pub few_tries_asked : (words : List ℕ) (day house : ℕ) → acceptable words day house ≡ true → (asked : Slot) → tries_for day house asked (records_of words) ≤ 2000
few_tries_asked words day house a asked =
    let i = accepted_words words day house a in
    omega (arith, few_tries day house asked (records_of words), records_counted words i.in_range, i.few)

pub always_enough : Promises.AlwaysEnough
always_enough words day house fm fe fa m e x = go (acceptable words day house) refl
  where
    go : (a : Bool) → acceptable words day house ≡ a → desk_says words day house fm fe fa ≢ RanOut
    go false a h = let f = then-refused words day house fm fe fa a in clash (cc)
    go true a h = out ((ran_out_exactly words day house fm fe fa a).0 h)
      where
        out : (fm < tries_for day house matinee (records_of words)) ⊎ ((fe < tries_for day house evening (records_of words))
            ⊎ (NeitherStated day house (records_of words) × (fa < tries_for day house either (records_of words)))) → ⊥
        out (inl h) = omega (arith, few_tries_asked words day house a matinee)
        out (inr (inl h)) = omega (arith, few_tries_asked words day house a evening)
        out (inr (inr h)) = omega (arith, few_tries_asked words day house a either, h.1)
