-- What is found is stated, by truth alone: an answer found holds in every finite interpretation where the records' clauses hold, so in one where
-- at(day,house,slot) is true of everything but what is asked, and of that exactly where a record states it.
use borrow.Author.Tests.{eqb-true, eq-eqb, ne_eqb}
use lib.Dec.{eqb}
use mathlib.Core.Bool.{Bool, true, false, cond, ◌&&◌, ◌||◌}
use mathlib.Core.List.{List, [], ◌∷◌, map}
use mathlib.Core.Path.{◌≡◌, refl, sym, ◌∙◌, ap, ap₂, subst}
use native.Mathlib.Omega.{arith}
use Prim.Native.Nat.{ℕ, zero, suc, ◌+◌, ◌≤◌, ◌<◌}
use Rattle.table.specs.Syntax.{Term, var, app, Terms, nil, ◌then◌, under, unders, Literal, literal_under, Table}
use Rattle.table.specs.Encode.{file_words}
use Rattle.table.specs.File.{table_in}
use Rattle.table.specs.Limits.{Within}
use Rattle.table.specs.declared.Judgement.{Judgement}
use Rattle.table.proofs.Building.{says_table}
use Rattle.rules.specs.Substitution.{Variable, Substitution}
use Rattle.rules.specs.Tableau.{copy_of}
use Rattle.rules.specs.Setting.{base}
use Rattle.rules.specs.Answer.{positive, disjunct, per_copy, same_disjunct, firsts_by, disjuncts, disjuncts_in}
use Rattle.rules.specs.Truth.{Interpretation, Assignment, value, values, atom_true, literal_true, some_true, all_true, some_all_true, Holds, AllHold, AnswerHolds, TrueAnswer}
use Rattle.rules.proofs.Demands.{answer_is_most_general}
use Rattle.rules.proofs.Every.{All, end, ◌also◌}
use Rattle.rules.proofs.Firsts.{firsts_all, all_back}
use Rattle.rules.proofs.Sameness.{disjuncts_told}
use Rattle.hukolearu.specs.Calls.{Given, search_call}
use Rattle.hukolearu.specs.Says.{SearchAccepted, SearchSays, ran_out, none_found, found_fitting, found_too_long}
use Rattle.hukolearu.proofs.CallDemands.{search_says, found_answers_hold}
use Rattle.desk.proofs.Words.{file_within}
use Rattle.desk.proofs.Bools.{clash, never, and_left, and_right, or_right}
use Rattle.desk.specs.Records.{Record, slot_of, records_of}
use Rattle.desk.specs.declared.Slot.{Slot}
use Rattle.desk.specs.declared.Slot.TheVariants.{Matinee as matinee, Evening as evening, Either as either}
use Rattle.desk.specs.Desk.{same_slot, is_of, recorded}
use Rattle.desk.specs.Asking.{Intake, Asked, asks, status_for}
use Rattle.desk.specs.Clauses.{alternatives, clause_for, asked_slot, question, desk_table}

-- a term under a substitution has the value that it has where each variable has its term's value
module _ (I : Interpretation) (b : Assignment I Variable) (ρ : ℕ → Term Variable) where
  abbrev after : ℕ → ℕ
  after x = value I b.element (ρ x)

  value_within : (t : Term Variable) → value I b.element t < I.size
  unfolding value
  value_within (var x) = b.within x
  value_within (app f ts) = I.within f _

  mutual
    unfolding value under

    value_under : (t : Term ℕ) → value I b.element (under ρ t) ≡ value I after t
    value_under (var x) = refl
    value_under (app f ts) = ap (I.function f) (values-under ts)

    values-under : (ts : Terms ℕ) → values I b.element (unders ρ ts) ≡ values I after ts
    values-under nil = refl
    values-under (t then ts) = ap₂ ◌∷◌ (value_under t) (values-under ts)

  abbrev afterwards : Assignment I ℕ
  afterwards = record { element = after; within = λ x. value_within (ρ x) }

  atom_under : (l : Literal ℕ) → atom_true I b.element (literal_under ρ l) ≡ atom_true I after l
  unfolding atom_true literal_under
  atom_under l = ap (I.predicate l.predicate) (values-under l.arguments)

  all_under : (ls : List (Literal ℕ)) → all_true I b.element (map (literal_under ρ) ls) ≡ all_true I after ls
  unfolding all_true
  all_under [] = refl
  all_under (l ∷ ls) = ap₂ ◌&&◌ (atom_under l) (all_under ls)

  some_under : (ds : List (List (Literal ℕ))) → some_all_true I b.element (map (map (literal_under ρ)) ds) ≡ some_all_true I after ds
  unfolding some_all_true
  some_under [] = refl
  some_under (d ∷ ds) = ap₂ ◌||◌ (all_under d) (some_under ds)

-- where disjuncts are instances of an answer that holds, one of them is true
holds_of : (I : Interpretation) (b : Assignment I Variable) (ρ : ℕ → Term Variable) (ds : List (List (Literal ℕ))) {es : List (List (Literal Variable))}
    → es ≡ map (map (literal_under ρ)) ds → AnswerHolds I ds → some_all_true I b.element es ≡ true
unfolding AnswerHolds
holds_of I b ρ ds e h = ap (some_all_true I b.element) e ∙ some_under I b ρ ds ∙ h (afterwards I b ρ)

-- the number of the constant for a slot that is asked for
abbrev slot_number : Slot → ℕ
slot_number matinee = 2001
slot_number evening = 2002
slot_number either = 0

-- three elements for what is asked, and one for everything else; the predicate is true of everything but that, and of that where it is recorded
module _ (rs : List Record) (day house : ℕ) (asked : Slot) where
  abbrev stated : Bool
  stated = recorded day house asked rs

  abbrev element : ℕ → ℕ
  element f = cond (eqb f day) 1 (cond (eqb f (1000 + house)) 2 (cond (eqb f (slot_number asked)) 3 0))

  abbrev unless : Bool → Bool
  unless same = cond same stated true

  unfoldable true_of : List ℕ → Bool
  true_of [] = true
  true_of (x ∷ []) = true
  true_of (x ∷ y ∷ []) = true
  true_of (x ∷ y ∷ z ∷ more) = unless (eqb x 1 && eqb y 2 && eqb z 3)

  few : (a b c : Bool) → cond a 1 (cond b 2 (cond c 3 0)) < 4
  few true b c = omega arith
  few false true c = omega arith
  few false false true = omega arith
  few false false false = omega arith

  abbrev by_records : Interpretation
  by_records =
      record {
        size = 4;
        function = λ f vs. element f;
        predicate = λ p vs. true_of vs;
        not_empty = omega arith;
        within = λ f vs. few (eqb f day) (eqb f (1000 + house)) (eqb f (slot_number asked));
      }

  -- an element that is one of the three tells the symbol
  is_day : (f : ℕ) → eqb (element f) 1 ≡ true → f ≡ day
  is_day f e = go (eqb f day) (eqb f (1000 + house)) (eqb f (slot_number asked)) refl e
    where
      go : (a b c : Bool) → eqb f day ≡ a → eqb (cond a 1 (cond b 2 (cond c 3 0))) 1 ≡ true → f ≡ day
      go true b c h k = eqb-true f day h
      go false true c h k = never k
      go false false true h k = never k
      go false false false h k = never k

  is_house : (f : ℕ) → eqb (element f) 2 ≡ true → f ≡ 1000 + house
  is_house f e = go (eqb f day) (eqb f (1000 + house)) (eqb f (slot_number asked)) refl e
    where
      go : (a b c : Bool) → eqb f (1000 + house) ≡ b → eqb (cond a 1 (cond b 2 (cond c 3 0))) 2 ≡ true → f ≡ 1000 + house
      go true b c h k = never k
      go false true c h k = eqb-true f (1000 + house) h
      go false false true h k = never k
      go false false false h k = never k

  is_slot : (f : ℕ) → eqb (element f) 3 ≡ true → f ≡ slot_number asked
  is_slot f e = go (eqb f day) (eqb f (1000 + house)) (eqb f (slot_number asked)) refl e
    where
      go : (a b c : Bool) → eqb f (slot_number asked) ≡ c → eqb (cond a 1 (cond b 2 (cond c 3 0))) 3 ≡ true → f ≡ slot_number asked
      go true b c h k = never k
      go false true c h k = never k
      go false false true h k = eqb-true f (slot_number asked) h
      go false false false h k = never k

  unless_true : (same : Bool) → (same ≡ true → stated ≡ true) → unless same ≡ true
  unless_true true h = h refl
  unless_true false h = refl

  -- an atom of a record, in this interpretation
  abbrev atom_at : ℕ → ℕ → ℕ → Bool
  atom_at d h n = unless (eqb (element d) 1 && eqb (element (1000 + h)) 2 && eqb (element n) 3)

  other_true : (d h n : ℕ) → (n ≡ slot_number asked → ⊥) → atom_at d h n ≡ true
  other_true d h n differ =
      unless_true (eqb (element d) 1 && eqb (element (1000 + h)) 2 && eqb (element n) 3)
      (λ e. absurd (differ (is_slot n (and_right (eqb (element d) 1 && eqb (element (1000 + h)) 2) (eqb (element n) 3) e))))

  own_true : (d h n : ℕ) → (d ≡ day → h ≡ house → stated ≡ true) → atom_at d h n ≡ true
  own_true d h n so =
      unless_true (eqb (element d) 1 && eqb (element (1000 + h)) 2 && eqb (element n) 3)
      (λ e. let both = and_left (eqb (element d) 1 && eqb (element (1000 + h)) 2) (eqb (element n) 3) e in
      let there : 1000 + h ≡ 1000 + house = is_house (1000 + h) (and_right (eqb (element d) 1) (eqb (element (1000 + h)) 2) both) in
      so (is_day d (and_left (eqb (element d) 1) (eqb (element (1000 + h)) 2) both)) (omega arith))

-- every record's clause holds there
module _ (rs : List Record) (day house : ℕ) where
  clause-holds : (asked : Slot) → (asked ≡ either → ⊥) → (d h : ℕ) (s : Slot) → (d ≡ day → h ≡ house → same_slot asked s ≡ true → recorded day house asked rs ≡ true)
      → Holds (by_records rs day house asked) (clause_for (record { day = d; house = h; slot = s }))
  unfolding Holds some_true literal_true atom_true value true_of clause_for alternatives same_slot
  clause-holds matinee n d h matinee so a = rw (own_true rs day house matinee d h 2001 (λ x y. so x y refl))
  clause-holds matinee n d h evening so a = rw (other_true rs day house matinee d h 2002 (λ z. omega arith))
  clause-holds matinee n d h either so a =
      or_right (atom_at rs day house matinee d h 2001) (atom_at rs day house matinee d h 2002 || false) (rw (other_true rs day house matinee d h 2002 (λ z. omega arith)))
  clause-holds evening n d h matinee so a = rw (other_true rs day house evening d h 2001 (λ z. omega arith))
  clause-holds evening n d h evening so a = rw (own_true rs day house evening d h 2002 (λ x y. so x y refl))
  clause-holds evening n d h either so a = rw (other_true rs day house evening d h 2001 (λ z. omega arith))
  clause-holds either n d h s so a = absurd (n refl)

  all_hold : (asked : Slot) → (asked ≡ either → ⊥) → (xs : List Record) → (recorded day house asked xs ≡ true → recorded day house asked rs ≡ true)
      → AllHold (by_records rs day house asked) (map clause_for xs)
  unfolding AllHold recorded is_of
  all_hold asked n [] more = tt
  all_hold asked n (r ∷ xs) more = (
    clause-holds asked n r.day r.house r.slot
        (λ d h s. more (rw (eq-eqb r.day day d, eq-eqb r.house house h, s))),
    all_hold asked n xs (λ e. more (or_right (is_of day house r && same_slot asked r.slot) (recorded day house asked xs) e)),
  )

-- a question for one slot has no variables: each disjunct of its answer is what was asked
module _ (I : Interpretation) (a : Variable → ℕ) (τ : Substitution) (day house : ℕ) where
  abbrev asked_true : ℕ → Bool
  asked_true n = I.predicate 1 (I.function day [] ∷ I.function (1000 + house) [] ∷ I.function n [] ∷ [])

  and-true : (b : Bool) → (b && true) ≡ b
  and-true true = refl
  and-true false = refl

  all_asked : (asked : Slot) → (asked ≡ either → ⊥) → (copies : List ℕ)
      → All (λ d. all_true I a d ≡ asked_true (slot_number asked)) (map (disjunct τ (question day house asked)) copies)
  unfolding all_true atom_true value disjunct positive copy_of literal_under under question asked_slot
  all_asked asked n [] = end
  all_asked matinee n (c ∷ cs) = and-true (asked_true 2001) also all_asked matinee n cs
  all_asked evening n (c ∷ cs) = and-true (asked_true 2002) also all_asked evening n cs
  all_asked either n (c ∷ cs) = absurd (n refl)

  -- said once each, under some substitution, they are what was asked all the same
  one_asked : (b : Bool) {es : List (List (Literal Variable))} → All (λ d. all_true I a d ≡ b) es → some_all_true I a es ≡ true → b ≡ true
  unfolding some_all_true
  one_asked b end e = never e
  one_asked true (h also hs) e = refl
  one_asked false (◌also◌ {xs = es} h hs) e = one_asked false hs (sym (ap (λ (x : Bool). x || some_all_true I a es) h) ∙ e)

-- so what is asked is recorded
slot_high : (asked : Slot) → (asked ≡ either → ⊥) → 2000 < slot_number asked
slot_high matinee n = omega arith
slot_high evening n = omega arith
slot_high either n = absurd (n refl)

asked_recorded : (rs : List Record) (day house : ℕ) (asked : Slot) → day ≤ 366 → house ≤ 999 → (asked ≡ either → ⊥)
    → asked_true (by_records rs day house asked) (λ x. 0) var day house (slot_number asked) ≡ true → recorded day house asked rs ≡ true
unfolding true_of
asked_recorded rs day house asked d h n e =
    let high = slot_high asked n in
    let one : element rs day house asked day ≡ 1 = rw (eq-eqb day day refl) in
    let two : element rs day house asked (1000 + house) ≡ 2 = rw (ne_eqb (1000 + house) day (λ z. omega arith), eq-eqb (1000 + house) (1000 + house) refl) in
    let three : element rs day house asked (slot_number asked) ≡ 3 =
    rw (ne_eqb (slot_number asked) day (λ z. omega arith), ne_eqb (slot_number asked) (1000 + house) (λ z. omega arith), eq-eqb (slot_number asked) (slot_number asked) refl) in
    rw (one, two, three) at e

-- what the search says with status 0, and that its answer is true
module _ (rs : List Record) (day house : ℕ) (asked : Slot) (d : day ≤ 366) (h : house ≤ 999) (one-slot : asked ≡ either → ⊥)
    (limits : Within (desk_table rs day house asked)) where
  abbrev I : Interpretation
  I = by_records rs day house asked

  said-stated : {budget room : ℕ} {g : Given} → SearchSays (base (desk_table rs day house asked) 2) budget room g → g.outcome.status ≡ 0
      → TrueAnswer I (question day house asked) g.outcome.disjuncts g.answer → recorded day house asked rs ≡ true
  unfolding disjuncts per_copy firsts_by desk_table
  said-stated (ran_out s l) z true_answer = absurd (omega arith)
  said-stated (none_found s l) z true_answer = absurd (omega arith)
  said-stated (found_too_long s l c a f) z true_answer = absurd (omega arith)
  said-stated (found_fitting {steps} {tries} {count} {words} s l c a f) z true_answer =
      let general = answer_is_most_general (base (desk_table rs day house asked) 2) limits (omega arith) steps c count words a c.unifiable.by c.unifiable.solves in
      let none : Assignment I Variable = record { element = λ x. 0; within = λ x. omega arith } in
      let some-true = holds_of I none general.0 (disjuncts_in (question day house asked) words) refl true_answer.holds in
      let all = firsts_all same_disjunct [] _ end (all_asked I (λ x. 0) c.unifiable.by day house asked one-slot c.tableau.questions) in
      let said = all_back disjuncts_told (map (map (literal_under general.0)) (disjuncts_in (question day house asked) words)) (rw general.1 at all) in
      asked_recorded rs day house asked d h one-slot (one_asked I (λ x. 0) c.unifiable.by day house _ said some-true)

-- A matinee or an evening that the search finds is stated by a record: from the truth of answers alone.
pub found_is_stated : (words : List ℕ) (day house : ℕ) (slot : Slot) → Intake words → Asked day house → (slot ≡ either → ⊥) → (budget : ℕ)
    → status_for (file_words (desk_table (records_of words) day house slot)) budget ≡ 0 → recorded day house slot (records_of words) ≡ true
unfolding desk_table
found_is_stated words day house slot intake asked one budget z =
    let rs = records_of words in
    let t = desk_table (records_of words) day house slot in
    let within = file_within words day house slot intake asked.day_few asked.house_few in
    let file = file_words (desk_table (records_of words) day house slot) in
    let says = says_table t within [] in
    let ok : SearchAccepted (asks file budget) =
    record { enough_work = omega arith; enough_proof = omega arith; low_bound = omega arith; good_file = ap (λ (j : Judgement). j.status) says.judged } in
    let hold : AllHold (by_records rs day house slot) (table_in file).clauses =
    rw says.table (all_hold rs day house slot one rs (λ e. e)) in
    let true_answer = found_answers_hold (by_records rs day house slot) (asks file budget) ok hold z in
    said-stated rs day house slot asked.day_few asked.house_few one within.table
    (subst (λ (u : Table). SearchSays (base u 2) budget 8 (search_call (asks file budget))) says.table (search_says (asks file budget) ok))
    z
    (subst (λ (u : Table). TrueAnswer (by_records rs day house slot) u.question (search_call (asks file budget)).outcome.disjuncts (search_call (asks file budget)).answer) says.table true_answer)
