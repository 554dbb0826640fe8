-- The search of an accepted file: what it begins with, and what it comes to.
use mathlib.Core.Bool.{Bool, true, false, and-eq-true_iff}
use mathlib.Core.Path.{◌≡◌, sym, ap, ◌∙◌}
use mathlib.Core.List.{List, [], ◌∷◌}
use Prim.Native.Nat.{ℕ, ◌+◌, ◌-◌, ◌/◌, ◌^◌, ◌≤◌, ◌<◌}
use native.Mathlib.Omega.{arith}
use borrow.Author.Tests.{eq-eqb, eqb-true, ltb-false}
use lib.Dec.{eqb, ltb}
use lib.ListN.{length, take, get_or, set}
use lib.Seq.{get_or-set_same}
use Rattle.table.specs.Body.{last_of, starts}
use Rattle.table.specs.File.{judge, table_in}
use Rattle.table.specs.Syntax.{Clause}
use Rattle.table.proofs.Accepted.{accepted}
use Rattle.table.proofs.AcceptedTable.{body_readable, question_start, accepted_within}
use Rattle.rules.specs.Machinery.Play.{begin, check, plays, reported, search_for}
use Rattle.rules.specs.Machinery.Run.{search}
use Rattle.rules.specs.Tableau.{start, hang, copy_of}
use Rattle.rules.specs.Setting.{profile_of, longest_proof}
use Rattle.rules.specs.Verdict.{SearchVerdict, runs_out}
use Rattle.rules.proofs.Unify.Tests.{decide}
use Rattle.rules.proofs.Demands.{passed_closed, proof_is_short, larger_budget}
use Rattle.rules.proofs.Search.{any_depth_says, steps_left_few}
use Rattle.unification.specs.Places.{most_leaves, step_places, work_words}
use Rattle.engine.specs.Ended.{setting_for}
use Rattle.unification.specs.State.{start_at, copies_of, ClauseAt, bindings_of}
use Rattle.tableaux.specs.Leaves.{questions_among}
use Rattle.tableaux.specs.Ready.{open_leaves, Stands, NotesKept, Begun}
use Rattle.index.specs.Places.{most_noted, noted_place}
use Rattle.index.specs.Noting.{Few, count_at, Linked}
use Rattle.index.proofs.Linking.{linked_same}
use Rattle.engine.proofs.Literals.Entries.{few_literals}
use Rattle.engine.specs.Searching.{question_at, Asked, room_at, Treats, Leaves, Tells, Treated, LinkedFor, Ends, RanBy, Ran, early_tries, settled_by}
use Rattle.engine.specs.declared.Conditions.{Conditions}
use Rattle.engine.specs.declared.search.Ending.{Ending}
use Rattle.engine.specs.declared.search.Ending.TheVariants.{Found, Nothing, Out}
use Rattle.engine.specs.declared.search.Searched.{Searched}
use Rattle.engine.specs.declared.search.Task.{Task}
use Rattle.tableaux.specs.declared.tableau.Place.{Place}
use Rattle.engine.proofs.Literals.Places.{question_placed}

longest : (restarts : Bool) → longest_proof (profile_of restarts) ≤ most_leaves
longest true = omega arith
longest false = omega arith

-- an accepted file
module _ (f : List ℕ) (z : (judge f).status ≡ 0) {question : ℕ} (eq : question ≡ (judge f).question) where
  fits : length f - 4 ≤ length f
  fits = omega arith

  pub file_least : 4 ≤ length f
  file_least = omega (arith, (accepted f z).least)

  pub file_most : length f ≤ 16000
  file_most = (accepted f z).most

  pub question_last : question ≡ last_of 0 (starts 0 0 (take (length f - 4) f))
  question_last = eq ∙ sym (question_start f z)

  pub question_clause : ClauseAt f question
  question_clause = rw question_last (question_placed f (length f - 4) fits (body_readable f z)).0

  pub file_literals : Few (take (length f - 4) f)
  file_literals = few_literals f (length f - 4) fits (body_readable f z)

  -- the start stands for the rules' own
  module _ {m : List ℕ} {place : Place} (begun : Begun f m question place) where
    begins : open_leaves f m place ≡ (start (table_in f)).leaves
    unfolding start
    begins =
        let asked = (question_placed f (length f - 4) fits (body_readable f z)).1 in
        begun.leaves ∙ rw question_last (ap (λ (c : Clause). hang [] (copy_of 0 c)) asked)

    first-question : questions_among m question (copies_of m) ≡ 0 ∷ []
    unfolding questions_among
    first-question = rw (begun.copies, eq-eqb (start_at m 0) question begun.start)

    pub begun_stands : Stands f m question place (begin (table_in f)).tableau (begin (table_in f)).bindings
    unfolding begin start bindings_of
    begun_stands =
        record {
          leaves = sym begins;
          bindings = rw begun.nothing_bound;
          extensions = sym begun.copies;
          questions = sym first-question;
        }

  module _ (small : (i : ℕ) → get_or f i 0 < 2 ^ 32) (conditions : Conditions) (low : conditions.bound ≤ 32) where
    abbrev task : Task
    task = record { body = length f - 4; question = question; bound = conditions.bound; restarts = conditions.restarts }

    pub file_asked : Asked f task
    file_asked =
        record {
          fits = fits;
          short = omega (arith, file_most);
          readable = body_readable f z;
          small = small;
          low = low;
          asks = question_last;
        }

    module _ {m : List ℕ} {place : Place} (begun : Begun f m question place) where
      pub run_treats : {m₀ : List ℕ} → LinkedFor f m₀ → NotesKept m₀ m → Treats f m task place
      run_treats linked kept =
          record { asked = file_asked; ready = begun.ready; linked = λ few. linked_same begun.ready.good.size kept (linked (omega (arith, few, kept noted_place (omega arith) (omega arith)))) }

      enough : room_at f m task place ≤ most_leaves
      enough = omega (arith, begun.ready.taken, begun.ready.room, begun.copies, begun.steps)

      stands : Stands f m (question_at f task) place (begin (table_in f)).tableau (begin (table_in f)).bindings
      stands = rw question_last at (begun_stands begun)

      deep : (budget : ℕ) → search_for (setting_for f conditions) budget ≡ reported budget (search (plays (setting_for f conditions)) 232 budget (begin (table_in f)))
      deep budget =
          any_depth_says (setting_for f conditions) 232 budget (omega (arith, steps_left_few (setting_for f conditions) (accepted_within f z) low, longest conditions.restarts))

      module _ {m₀ m' : List ℕ} (kept : NotesKept m₀ m) {budget : ℕ} {r : Searched} (treated : Treated f m m' task place budget r) where
        pub run_ends : Ran f m₀ m' question conditions budget r
        unfolding reported check
        run_ends = record { within = treated.within; ends = go r.ending treated.leaves (treated.tells (begin (table_in f)) stands most_leaves enough) }
          where
            go : (e : Ending) → Leaves e f m m' place r → Tells e f m' task place r (begin (table_in f)) (search (plays (setting_for f conditions)) 232 budget (begin (table_in f)))
                → RanBy e f m₀ m' question conditions budget r
            go Found l h =
                let steps : r.steps ≡ length h.path = omega (arith, h.count, begun.steps) in
                let from : step_places + place.steps ≡ step_places = omega (arith, begun.steps) in
                record {
                  proof = h.path;
                  play = h.play;
                  says = deep budget ∙ ap (reported budget) h.says;
                  within = treated.within;
                  count = steps;
                  few = rw steps (proof_is_short (setting_for f conditions) (accepted_within f z) low h.path (passed_closed (setting_for f conditions) h.path h.play (h.passes 0)).0);
                  noted = rw steps (rw from at h.noted);
                  passes = h.passes 0;
                  ended =
                      record {
                        good = l.good;
                        bindings = h.bindings;
                        questions = rw question_last h.questions;
                        unnumbered = λ v k. l.marks v k ∙ begun.unnumbered v k;
                      };
                }
            go Nothing l h = (deep budget ∙ ap (reported budget) h, treated.within)
            go Out l h = (λ z. deep budget ∙ ap (reported budget) (h z), λ few. l (omega (arith, few, kept noted_place (omega arith) (omega arith))))

-- a search by notes ends only as the search does
module _ {f m₀ m : List ℕ} {question : ℕ} {conditions : Conditions} {budget : ℕ} {r : Searched} where
  pub noted_ends : Linked f (length f - 4) m₀ 0 → Ran f m₀ m question conditions budget r → Ends r.ending f m question conditions budget r
  noted_ends linked ran = go r.ending ran.ends
    where
      few : count_at m₀ ≤ most_noted
      few = omega (arith, linked.indexed.count, linked.indexed.most)

      go : (e : Ending) → RanBy e f m₀ m question conditions budget r → Ends e f m question conditions budget r
      go Found h = h
      go Nothing h = h
      go Out h = h.0 (h.1 few)

-- the tries of a search by scans
module _ (body budget : ℕ) where
  pub early_within : {most : ℕ} → most ≡ early_tries body budget → most ≤ budget
  early_within e = rw e (decide (ltb budget (body / 8)) (λ b. rw b (omega arith)) (λ b. rw b (ltb-false budget (body / 8) b)))

-- a search with fewer tries that is settled is the search with the whole budget
module _ {f m₀ m : List ℕ} {question : ℕ} {conditions : Conditions} {most budget : ℕ} {first : Searched} (ran : Ran f m₀ m question conditions most first)
    (within : most ≤ budget) (so : settled_by first.ending first.left most budget ≡ true) where
  abbrev whole : Searched
  whole = record { ending = first.ending; left = first.left + (budget - most); steps = first.steps }

  made : budget - (first.left + (budget - most)) ≡ most - first.left
  made = omega (arith, ran.within)

  same : {v : SearchVerdict} → search_for (setting_for f conditions) most ≡ v → (v ≡ runs_out most → ⊥) → search_for (setting_for f conditions) budget ≡ v
  same e n = larger_budget (setting_for f conditions) most budget (λ z. n (sym e ∙ z)) within ∙ e

  pub settled_ends : Ends first.ending f m question conditions budget whole
  unfolding settled_by
  settled_ends = go first.ending so ran.ends
    where
      go : (e : Ending) → settled_by e first.left most budget ≡ true → RanBy e f m₀ m question conditions most first → Ends e f m question conditions budget whole
      go Found s h =
          record {
            proof = h.proof;
            play = h.play;
            says = rw made (same h.says (λ z. let y : ◌≡◌ {A = ℕ} 0 1 = cc in omega arith));
            within = omega (arith, ran.within);
            count = h.count;
            few = h.few;
            noted = h.noted;
            passes = h.passes;
            ended = h.ended;
          }
      go Nothing s h = (rw made (same h.0 (λ z. let y : ◌≡◌ {A = ℕ} 0 1 = cc in omega arith)), omega (arith, ran.within))
      go Out s h =
          let both = (and-eq-true_iff (eqb first.left 0) (eqb most budget)).0 s in
          rw (← eqb-true most budget both.1) (h.0 (eqb-true first.left 0 both.0))

-- where nothing is noted, no link is asked for
pub nothing_noted : (f m : List ℕ) → length m ≡ work_words → LinkedFor f (set m noted_place 4096)
nothing_noted f m size few = absurd (omega (arith, get_or-set_same m noted_place 4096 0 (omega (arith, size))))
