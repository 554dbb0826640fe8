-- Candidates tried in turn: how far a loop over them has come, and how it ends, against what the rules say of the row.
use mathlib.Core.Path.{◌≡◌, refl, sym, ap, ◌∙◌}
use mathlib.Core.List.{List, [], ◌∷◌, ◌++◌}
use Prim.Native.Nat.{ℕ, zero, suc, ◌-◌, ◌≤◌, ◌<◌}
use native.Mathlib.Omega.{arith}
use lib.ListN.{length}
use Rattle.words.specs.declared.Step.{Step}
use Rattle.rules.specs.Machinery.Run.{Program, Result, way, no_way, ran_out, after, spend, in_turn, one, row}
use Rattle.rules.specs.Machinery.Play.{Play, plays}
use Rattle.rules.proofs.System.Steps.{row_end, row_step, row_no_budget, row_found, row_goes_on, row_runs_out}
use Rattle.tableaux.specs.Ready.{open_leaves, Ready, Stands}
use Rattle.engine.specs.Searching.{without, setting_at, question_at, room_at, Treats, step_by, Again, Finds, Leaves, Tells, Attempted, Rowed}
use Rattle.engine.specs.declared.search.Ending.{Ending}
use Rattle.engine.specs.declared.search.Ending.TheVariants.{Found, Nothing, Out}
use Rattle.engine.specs.declared.search.Move.{Move}
use Rattle.engine.specs.declared.search.Searched.{Searched}
use Rattle.engine.specs.declared.search.Task.{Task}
use Rattle.tableaux.specs.declared.tableau.Place.{Place}
use Rattle.index.specs.Places.{most_noted}
use Rattle.index.specs.Noting.{count_at}
use Rattle.index.proofs.Linking.{linked_same}
use Rattle.engine.proofs.Searching.Again.{count_kept, open_stays, ready_again, stands_again, again_none, again_then}
use Rattle.engine.proofs.Searching.Attempts.{tell_nothing}

-- a row, and another after it
module _ (S : Program) (depth : ℕ) (s : S.State) where
  further : (a : Result S.Move) (xs ys : List S.Move) → ((budget : ℕ) → row S depth budget s (xs ++ ys) ≡ after (row S depth budget s xs) (λ left. row S depth left s ys))
      → after a (λ left. row S depth left s (xs ++ ys)) ≡ after (after a (λ left. row S depth left s xs)) (λ left. row S depth left s ys)
  unfolding after
  further (way p left) xs ys h = refl
  further (no_way left) xs ys h = h left
  further ran_out xs ys h = refl

  pub row_append : (xs ys : List S.Move) (budget : ℕ) → row S depth budget s (xs ++ ys) ≡ after (row S depth budget s xs) (λ left. row S depth left s ys)
  unfolding row in_turn after spend
  row_append [] ys budget = refl
  row_append (x ∷ xs) ys zero = refl
  row_append (x ∷ xs) ys (suc budget) =
      row_step S depth budget s x (xs ++ ys)
      ∙ further (one S depth budget s x) xs ys (row_append xs ys)
      ∙ ap (λ (a : Result S.Move). after a (λ left. row S depth left s ys)) (sym (row_step S depth budget s x xs))

-- another result that the rules come to
finds_by : {f m' : List ℕ} {task : Task} {place : Place} {r : Searched} {p : Play} {result other : Result Step}
    → (other ≡ result) → Finds f m' task place r p result → Finds f m' task place r p other
finds_by e h =
    record {
      path = h.path;
      play = h.play;
      says = e ∙ h.says;
      passes = h.passes;
      bindings = h.bindings;
      questions = h.questions;
      count = h.count;
      noted = h.noted;
    }

pub tells_by : (f m' : List ℕ) (task : Task) (place : Place) (r : Searched) (p : Play) {result other : Result Step} (e : Ending)
    → other ≡ result → Tells e f m' task place r p result → Tells e f m' task place r p other
tells_by f m' task place r p Found same h = finds_by same h
tells_by f m' task place r p Nothing same h = same ∙ h
tells_by f m' task place r p Out same h = λ z. same ∙ h z

-- the room at a place is again what it was
pub room_again : {f m m' : List ℕ} {place : Place} (task : Task) → Ready f m place → Again f m m' place → room_at f m' task place ≡ room_at f m task place
room_again {f} {m} {m'} {place} task ready again =
    let same : length (open_leaves f m' place) ≡ length (open_leaves f m place) = ap length (open_stays ready.noted again.later place.head) in
    omega (arith, again.copies)

pub treats_again : {f m m' : List ℕ} {task : Task} {place : Place} → Treats f m task place → Again f m m' place → Treats f m' task place
treats_again treats again =
    record {
      asked = treats.asked;
      ready = ready_again treats.ready again;
      linked = λ few. linked_same again.good.size again.later.notes (treats.linked (omega (arith, few, count_kept again.later)));
    }

-- so far the candidates up to the rest have failed
pub record Rowing (f m₀ m : List ℕ) (task : Task) (place : Place) (tries left : ℕ) (all rest : List Step) : Type 0 where
  pub again : Again f m₀ m place
  pub within : left ≤ tries
  pub same :
      (p : Play) → Stands f m₀ (question_at f task) place p.tableau p.bindings → (depth : ℕ) → room_at f m₀ task place ≤ depth
      → row (plays (setting_at f task)) depth tries p all ≡ row (plays (setting_at f task)) depth left p rest

module _ {f m₀ : List ℕ} {task : Task} {place : Place} (treats : Treats f m₀ task place) where
  pub rowing_begin : (tries : ℕ) (all : List Step) → Rowing f m₀ m₀ task place tries tries all all
  rowing_begin tries all = record { again = again_none treats.ready.good; within = omega arith; same = λ p stands depth enough. refl }

  pub rowing_by : {m : List ℕ} {tries left : ℕ} {all rest other : List Step} → other ≡ rest → Rowing f m₀ m task place tries left all other → Rowing f m₀ m task place tries left all rest
  rowing_by {m} {tries} {left} {all} e rowing =
      record {
        again = rowing.again;
        within = rowing.within;
        same = λ p stands depth enough. rowing.same p stands depth enough ∙ ap (row (plays (setting_at f task)) depth left p) e;
      }

  module _ {m : List ℕ} {tries left : ℕ} {all : List Step} where
    pub rowing_end : Rowing f m₀ m task place tries left all [] → {r : Searched} → r ≡ without Nothing left → Rowed f m₀ m task place tries r all
    rowing_end rowing e =
        rw e
        (record {
          leaves = rowing.again;
          within = rowing.within;
          tells = λ p stands depth enough. rowing.same p stands depth enough ∙ row_end (plays (setting_at f task)) depth left p;
        })

    pub rowing_out : {step : Step} {rest : List Step} → Rowing f m₀ m task place tries left all (step ∷ rest) → left ≡ 0
        → {r : Searched} → r ≡ without Out left → Rowed f m₀ m task place tries r all
    rowing_out {step} {rest} rowing z e =
        rw e
        (record {
          leaves = λ few. z;
          within = rowing.within;
          tells = λ p stands depth enough y. rowing.same p stands depth enough ∙ row_no_budget (plays (setting_at f task)) depth left p step rest z;
        })

    -- the rest of the row ends it
    pub rowing_then : {rest : List Step} → Rowing f m₀ m task place tries left all rest → {m' : List ℕ} {r : Searched} → Rowed f m m' task place left r rest → Rowed f m₀ m' task place tries r all
    rowing_then rowing {m'} {r} rowed =
        record {
          leaves = go r.ending rowed.leaves;
          within = omega (arith, rowed.within, rowing.within);
          tells = λ p stands depth enough. tells_by f m' task place r p r.ending (rowing.same p stands depth enough)
              (rowed.tells p (stands_again treats.ready rowing.again p stands) depth (omega (arith, room_again task treats.ready rowing.again)));
        }
      where
        go : (e : Ending) → Leaves e f m m' place r → Leaves e f m₀ m' place r
        go Found l = record { good = l.good; earlier = λ i h. l.earlier i h ∙ rowing.again.later.steps i h; marks = λ v h. l.marks v h ∙ rowing.again.later.marks v h }
        go Nothing l = again_then rowing.again l
        go Out l = λ few. l (omega (arith, few, count_kept rowing.again.later))

    -- a search by scans is given up
    pub rowing_given_up : {rest : List Step} → Rowing f m₀ m task place tries left all rest → most_noted < count_at m₀ → (left ≡ 0 → ⊥)
        → {r : Searched} → r ≡ without Out left → Rowed f m₀ m task place tries r all
    rowing_given_up rowing scans some e =
        rw e
        (record {
          leaves = λ few. absurd (omega arith);
          within = rowing.within;
          tells = λ p stands depth enough z. absurd (some z);
        })

    module _ (candidate : Move) {rest : List Step} (rowing : Rowing f m₀ m task place tries left all (step_by candidate ∷ rest)) (some : left ≡ 0 → ⊥)
        {m' : List ℕ} {r : Searched} (attempted : Attempted f m m' task place candidate (left - 1) r) where
      abbrev rowed : ℕ → Play → Result Step
      rowed depth p = row (plays (setting_at f task)) depth tries p all

      tried : (p : Play) → Stands f m₀ (question_at f task) place p.tableau p.bindings → (depth : ℕ) → room_at f m₀ task place ≤ depth
          → Tells r.ending f m' task place r p (one (plays (setting_at f task)) depth (left - 1) p (step_by candidate))
      tried p stands depth enough =
          attempted.tells p (stands_again treats.ready rowing.again p stands) depth
          (omega (arith, room_again task treats.ready rowing.again))

      pub rowing_ended : (r.ending ≡ Nothing → ⊥) → Rowed f m₀ m' task place tries r all
      rowing_ended settled =
          record {
            leaves = left_so r.ending settled attempted.leaves;
            within = omega (arith, attempted.within, rowing.within);
            tells = λ p stands depth enough. told r.ending p depth settled (tried p stands depth enough) (rowing.same p stands depth enough);
          }
        where
          left_so : (e : Ending) → (e ≡ Nothing → ⊥) → Leaves e f m m' place r → Leaves e f m₀ m' place r
          left_so Found s l = record { good = l.good; earlier = λ i h. l.earlier i h ∙ rowing.again.later.steps i h; marks = λ v h. l.marks v h ∙ rowing.again.later.marks v h }
          left_so Nothing s l = absurd (s refl)
          left_so Out s l = λ few. l (omega (arith, few, count_kept rowing.again.later))

          told : (e : Ending) (p : Play) (depth : ℕ) → (e ≡ Nothing → ⊥) → Tells e f m' task place r p (one (plays (setting_at f task)) depth (left - 1) p (step_by candidate))
              → rowed depth p ≡ row (plays (setting_at f task)) depth left p (step_by candidate ∷ rest) → Tells e f m' task place r p (rowed depth p)
          told Found p depth s h same =
              finds_by (same ∙ row_found (plays (setting_at f task)) depth left p (step_by candidate) rest h.path r.left (omega arith) h.says ∙ sym h.says) h
          told Nothing p depth s h same = absurd (s refl)
          told Out p depth s h same = λ z. same ∙ row_runs_out (plays (setting_at f task)) depth left p (step_by candidate) rest (omega arith) (h z)

      module _ (none : r.ending ≡ Nothing) where
        pub rowing_on : Rowing f m₀ m' task place tries r.left all rest
        rowing_on =
            let back : Again f m m' place = rw none at attempted.leaves in
            record {
              again = again_then rowing.again back;
              within = omega (arith, attempted.within, rowing.within);
              same = λ p stands depth enough.
                  let said : one (plays (setting_at f task)) depth (left - 1) p (step_by candidate) ≡ no_way r.left = rw none at (tried p stands depth enough) in
                  rowing.same p stands depth enough
                  ∙ row_goes_on (plays (setting_at f task)) depth left p (step_by candidate) rest r.left (omega arith) said;
            }

    -- the last candidate
    pub rowing_last : (candidate : Move) → Rowing f m₀ m task place tries left all (step_by candidate ∷ []) → (left ≡ 0 → ⊥)
        → {m' : List ℕ} {r : Searched} → Attempted f m m' task place candidate (left - 1) r → Rowed f m₀ m' task place tries r all
    rowing_last candidate rowing some {m'} {r} attempted = go r.ending refl
      where
        ended : r.ending ≡ Nothing → Rowed f m₀ m' task place tries r all
        ended none =
            let on = rowing_on candidate rowing some attempted none in
            record {
              leaves = rw none on.again;
              within = on.within;
              tells = λ p stands depth enough. tell_nothing f m' task place r p _ r.ending none (on.same p stands depth enough ∙ row_end (plays (setting_at f task)) depth r.left p);
            }

        go : (e : Ending) → r.ending ≡ e → Rowed f m₀ m' task place tries r all
        go Found e = rowing_ended candidate rowing some attempted (λ z. let y : ◌≡◌ {A = ℕ} 0 1 = cc in absurd (omega arith))
        go Nothing e = ended e
        go Out e = rowing_ended candidate rowing some attempted (λ z. let y : ◌≡◌ {A = ℕ} 0 1 = cc in absurd (omega arith))
