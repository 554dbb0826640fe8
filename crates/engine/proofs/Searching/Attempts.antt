-- One candidate, tried: it fails at once, or ends as the search below it does.
use mathlib.Core.Path.{◌≡◌, refl, ◌∙◌}
use mathlib.Core.List.{List, ◌∷◌, map}
use mathlib.Core.Option.{none, some}
use Prim.Native.Nat.{ℕ, suc, ◌+◌, ◌-◌, ◌≤◌, ◌<◌}
use native.Mathlib.Omega.{arith}
use lib.ListN.{length, take, drop, get_or}
use lib.Seq.{drop-cons}
use Rattle.words.specs.Steps.{step_word}
use Rattle.words.specs.declared.Step.{Step}
use Rattle.rules.specs.Machinery.Run.{Result as RunResult, no_way, search, one}
use Rattle.rules.specs.Machinery.Play.{Play, Performed, goes_on, perform, afterwards, onwards, check_from, plays}
use Rattle.rules.proofs.System.Steps.{one_fails, one_found, one_no_way, one_ran_out}
use Rattle.unification.specs.Places.{most_leaves, step_places}
use Rattle.unification.specs.State.{copies_of, count_of}
use Rattle.unification.specs.Good.{Good, Undone}
use Rattle.tableaux.specs.Ready.{Stands, Later}
use Rattle.engine.specs.Performing.{Comes}
use Rattle.engine.specs.Searching.{without, setting_at, question_at, room_at, Treats, step_by, Onward, Takes, Restored, Again, Noting, Finds, Leaves, Tells, Treated, Attempted}
use Rattle.engine.specs.declared.search.Ending.{Ending}
use Rattle.engine.specs.declared.search.Ending.TheVariants.{Found, Nothing, Out}
use Rattle.engine.specs.declared.search.Move.{Move}
use Rattle.engine.specs.declared.search.Searched.{Searched}
use Rattle.engine.specs.declared.search.Task.{Task}
use Rattle.tableaux.specs.declared.tableau.Place.{Place}
use Rattle.index.proofs.Linking.{linked_same}
use Rattle.std.specs.Prelude.{Result, Ok, Err}
use Rattle.unification.specs.declared.unify.Unmet.{Unmet}
use Rattle.unification.specs.declared.unify.Unmet.TheVariants.{Clash, Circle}
use Rattle.engine.proofs.Searching.Again.{count_kept, later_then, taken_back}

-- no way, by an ending that is known
module _ (f m : List ℕ) (task : Task) (place : Place) (r : Searched) (p : Play) (result : RunResult Step) where
  pub nothing_told : (e : Ending) → e ≡ Nothing → Tells e f m task place r p result → result ≡ no_way r.left
  nothing_told Found z h = let y : ◌≡◌ {A = ℕ} 0 1 = cc in absurd (omega arith)
  nothing_told Nothing z h = h
  nothing_told Out z h = let y : ◌≡◌ {A = ℕ} 0 1 = cc in absurd (omega arith)

  pub tell_nothing : (e : Ending) → e ≡ Nothing → result ≡ no_way r.left → Tells e f m task place r p result
  tell_nothing Found z h = let y : ◌≡◌ {A = ℕ} 0 1 = cc in absurd (omega arith)
  tell_nothing Nothing z h = h
  tell_nothing Out z h = let y : ◌≡◌ {A = ℕ} 0 1 = cc in absurd (omega arith)

-- a step that fails leads nowhere
comes_nowhere : (f m : List ℕ) (question : ℕ) (e : Unmet) (o : Performed) → Comes f m question (Err e) o → afterwards o ≡ none
unfolding afterwards
comes_nowhere f m question Clash o c = rw c
comes_nowhere f m question Circle o c = rw c

goes_some : (o : Performed) (q : Play) → o ≡ goes_on q → afterwards o ≡ some q
unfolding afterwards
goes_some o q e = rw e

module _ {f m m₁ : List ℕ} {task : Task} {place : Place} (treats : Treats f m task place) (candidate : Move) {taken : Result Place Unmet} (takes : Takes f m m₁ task place candidate taken) where
  pub attempt_restores : {count : ℕ} → count ≡ count_of m → ((g : List ℕ) × Good g m₁) × (count ≤ count_of m₁)
  attempt_restores e = ((f, takes.good), omega (arith, takes.later.more))

  back : {m₂ m₃ : List ℕ} {count copies : ℕ} → Later m m₂ place → count ≡ count_of m → copies ≡ copies_of m → Restored f m₂ m₃ count copies → Again f m m₃ place
  back {m₂} {m₃} {count} {copies} later ec es restored =
      let undone : Undone f m₂ restored.between (count_of m) = rw ec at restored.undone in
      rw (restored.exit, es) (taken_back treats.ready later undone)

  module _ {m₃ : List ℕ} {count copies : ℕ} {why : Unmet} (failed : taken ≡ Err why) (ec : count ≡ count_of m) (es : copies ≡ copies_of m) where
    pub attempt_failed : (left : ℕ) → Restored f m₁ m₃ count copies → {r : Searched} → r ≡ without Nothing left → Attempted f m m₃ task place candidate left r
    attempt_failed left restored e =
        rw e
        (record {
          leaves = back takes.later ec es restored;
          within = omega arith;
          tells = λ p stands depth enough. one_fails (plays (setting_at f task)) depth left p (step_by candidate)
              (comes_nowhere f m₁ (question_at f task) why _ (let c = takes.comes p stands in rw failed at c));
        })

  module _ {next : Place} (met : taken ≡ Ok next) where
    onward : Onward f m m₁ task place next
    onward = takes.onward next met

    pub attempt_treats : Treats f m₁ task next
    attempt_treats =
        record {
          asked = treats.asked;
          ready = onward.ready;
          linked = λ few. linked_same takes.good.size takes.later.notes (treats.linked (omega (arith, few, count_kept takes.later)));
        }

    pub attempt_falls : room_at f m₁ task next < room_at f m task place
    attempt_falls = onward.falls

    module _ {m₂ : List ℕ} {left : ℕ} {r : Searched} (treated : Treated f m₁ m₂ task next left r) where
      few_steps : place.steps ≤ most_leaves
      few_steps = omega (arith, treats.ready.taken, treats.ready.room, treats.ready.good.copies)

      abbrev below : ℕ → Play → RunResult Step
      below depth q = search (plays (setting_at f task)) depth left q

      module _ (p : Play) (stands : Stands f m (question_at f task) place p.tableau p.bindings) (depth : ℕ) (enough : room_at f m task place ≤ depth) where
        leads_on : (q : Play) × (perform (setting_at f task) p (step_by candidate) ≡ goes_on q) × Stands f m₁ (question_at f task) next q.tableau q.bindings
        leads_on = let c = takes.comes p stands in rw met at c

        leads : afterwards (perform (setting_at f task) p (step_by candidate)) ≡ some leads_on.0
        leads = goes_some _ leads_on.0 leads_on.1

        told : Tells r.ending f m₂ task next r leads_on.0 (below depth leads_on.0)
        told =
            let deep : suc (depth - 1) ≡ depth = omega (arith, onward.falls) in
            rw deep at (treated.tells leads_on.0 leads_on.2 (depth - 1) (omega (arith, onward.falls)))

      -- what was found below is found here, a step earlier
      found_here : Noting f m₁ m₂ next r → (p q : Play) → perform (setting_at f task) p (step_by candidate) ≡ goes_on q → (depth : ℕ)
          → Finds f m₂ task next r q (below depth q) → Finds f m₂ task place r p (one (plays (setting_at f task)) depth left p (step_by candidate))
      unfolding check_from onwards
      found_here noting p q e depth h =
          let n = onward.steps in
          let k = few_steps in
          let inside : step_places + place.steps < length m₂ = omega (arith, noting.good.size) in
          let further : step_places + next.steps ≡ suc (step_places + place.steps) = omega arith in
          let step : get_or m₂ (step_places + place.steps) 0 ≡ step_word (step_by candidate) = noting.earlier place.steps (omega arith) ∙ takes.noted in
          let later : take (length h.path) (drop (suc (step_places + place.steps)) m₂) ≡ map step_word h.path = rw further at h.noted in
          record {
            path = step_by candidate ∷ h.path;
            play = h.play;
            says = one_found (plays (setting_at f task)) depth left p (step_by candidate) q (goes_some _ q e) h.path r.left h.says;
            passes = λ at. rw e (h.passes (suc at));
            bindings = h.bindings;
            questions = h.questions;
            count = h.count ∙ omega arith;
            noted = rw (drop-cons m₂ (step_places + place.steps) 0 inside, step, later);
          }

      pub attempt_ended : (r.ending ≡ Nothing → ⊥) → Attempted f m m₂ task place candidate left r
      attempt_ended settled =
          record {
            leaves = left_so r.ending settled treated.leaves;
            within = treated.within;
            tells = λ p stands depth enough.
                let q = leads_on p stands depth enough in
                go r.ending settled treated.leaves p q.0 q.1 depth (told p stands depth enough);
          }
        where
          left_so : (e : Ending) → (e ≡ Nothing → ⊥) → Leaves e f m₁ m₂ next r → Leaves e f m m₂ place r
          left_so Found s l =
              let n = onward.steps in
              record { good = l.good; earlier = λ i h. l.earlier i (omega arith) ∙ takes.later.steps i h; marks = λ v h. l.marks v h ∙ takes.later.marks v h }
          left_so Nothing s l = absurd (s refl)
          left_so Out s l = λ few. l (omega (arith, few, count_kept takes.later))

          go : (e : Ending) → (e ≡ Nothing → ⊥) → Leaves e f m₁ m₂ next r → (p q : Play) → perform (setting_at f task) p (step_by candidate) ≡ goes_on q → (depth : ℕ)
              → Tells e f m₂ task next r q (below depth q) → Tells e f m₂ task place r p (one (plays (setting_at f task)) depth left p (step_by candidate))
          go Found s l p q e depth h = found_here l p q e depth h
          go Nothing s l p q e depth h = absurd (s refl)
          go Out s l p q e depth h = λ z. one_ran_out (plays (setting_at f task)) depth left p (step_by candidate) q (goes_some _ q e) (h z)

      module _ (nothing : r.ending ≡ Nothing) where
        again : Again f m₁ m₂ next
        again = rw nothing at treated.leaves

        later : Later m m₂ place
        later = let n = onward.steps in later_then onward.leaves (omega arith) takes.later again.later

        pub attempt_good_below : Good f m₂
        attempt_good_below = again.good

        pub attempt_restores_below : {count : ℕ} → count ≡ count_of m → ((g : List ℕ) × Good g m₂) × (count ≤ count_of m₂)
        attempt_restores_below e = ((f, again.good), omega (arith, later.more))

        pub attempt_none : {m₃ : List ℕ} {count copies : ℕ} → count ≡ count_of m → copies ≡ copies_of m → Restored f m₂ m₃ count copies → Attempted f m m₃ task place candidate left r
        attempt_none {m₃} ec es restored =
            record {
              leaves = rw nothing (back later ec es restored);
              within = treated.within;
              tells = λ p stands depth enough.
                  let q = leads_on p stands depth enough in
                  let said : below depth q.0 ≡ no_way r.left = nothing_told f m₂ task next r q.0 (below depth q.0) r.ending nothing (told p stands depth enough) in
                  tell_nothing f m₃ task place r p _ r.ending nothing (one_no_way (plays (setting_at f task)) depth left p (step_by candidate) q.0 (leads p stands depth enough) r.left said);
            }
