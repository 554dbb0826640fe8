-- The checker's way through the offered steps: where it begins, how it goes on, and where it stops, one law for each.
use mathlib.Core.Path.{◌≡◌, refl, sym, ◌∙◌}
use mathlib.Core.Bool.{Bool}
use mathlib.Core.List.{List}
use Prim.Native.Nat.{ℕ, suc, ◌+◌, ◌-◌, ◌≤◌, ◌<◌}
use native.Mathlib.Numerals.{add-one}
use native.Mathlib.Omega.{arith}
use borrow.Author.Tests.{eq-eqb}
use lib.ListN.{length, take, drop, get_or, drop_of_length-le}
use Rattle.rules.specs.Setting.{profile_of, read_steps}
use Rattle.table.specs.File.{judge, table_in}
use Rattle.table.proofs.Accepted.{accepted}
use Rattle.table.proofs.AcceptedTable.{body_readable, question_start}
use Rattle.table.proofs.Terms.{from_place}
use Rattle.rules.specs.Tableau.{start}
use Rattle.rules.specs.Machinery.Play.{Play, begin, Performed, perform, at_end, onwards, check_from, check}
use Rattle.unification.specs.Places.{most_variables}
use Rattle.unification.specs.State.{numbered_at, ClauseAt, bindings_of}
use Rattle.tableaux.specs.Leaves.{leaf_at, questions_among}
use Rattle.unification.specs.State.{next_at}
use Rattle.tableaux.specs.Ready.{open_leaves, Ready, NotesKept, Begun}
use Rattle.index.specs.Noting.{Few, Indexed}
use Rattle.index.proofs.Linking.{indexed_same}
use Rattle.engine.proofs.Literals.Entries.{few_literals}
use Rattle.engine.specs.Ended.{setting_for}
use Rattle.engine.specs.declared.Conditions.{Conditions}
use Rattle.engine.specs.Checking.{NotedFor, Moved, PlayAt, Says, read_for, Checked, AcceptedAs, RefusedAs}
use Rattle.tableaux.specs.declared.tableau.Place.{Place}
use Rattle.std.specs.Prelude.{Result, Ok, Err}
use Rattle.engine.specs.declared.check.Refusal.{Refusal}
use Rattle.engine.specs.declared.check.Refusal.TheVariants.{Malformed, NotAllowed, Clashes, Circular, LeavesOpen}
use Rattle.tableaux.proofs.Chains.{chain_none}
use Rattle.engine.proofs.Literals.Places.{question_placed}
use Rattle.engine.proofs.Performed.{open_first}

-- the steps before an index are taken, and what is left decides
pub record Running (f m : List ℕ) (conditions : Conditions) (noted : Bool) (offered : List ℕ) (place : Place) (i : ℕ) : Type 0 where
  pub ready : Ready f m place
  pub unnumbered : (v : ℕ) → v < most_variables → numbered_at m v ≡ 0
  pub steps : place.steps ≡ i
  pub within : i ≤ length offered
  pub play : Play
  pub indexed : NotedFor noted f m
  pub stands : PlayAt f m place play
  pub same : check (setting_for f conditions) (read_steps (profile_of conditions.restarts) offered) ≡ check_from (setting_for f conditions) play i (read_steps (profile_of conditions.restarts) (drop i offered))

-- the body of an accepted file, as its literals are noted
pub body_literals : (f : List ℕ) → (judge f).status ≡ 0 → {body : ℕ} → body ≡ length f - 4 → (body ≤ length f) × (body ≤ 16000) × Few (take body f)
body_literals f accepts e =
    rw e (omega arith, omega (arith, (accepted f accepts).most), few_literals f (length f - 4) (omega arith) (body_readable f accepts))

pub noted_body : {f m : List ℕ} {body : ℕ} → body ≡ length f - 4 → Indexed f body m → Indexed f (length f - 4) m
noted_body e g = rw e at g

-- the start
module _ (f : List ℕ) (accepts : (judge f).status ≡ 0) where
  placed : ClauseAt f (judge f).question
  placed = rw (question_start f accepts) at (question_placed f (length f - 4) (omega arith) (body_readable f accepts)).0

  pub question_clause : {question : ℕ} → question ≡ (judge f).question → ClauseAt f question
  question_clause e = rw e placed

  module _ {m : List ℕ} {question : ℕ} {place : Place} (e : question ≡ (judge f).question) (b : Begun f m question place) where
    pub begun_stands : PlayAt f m place (begin (table_in f))
    unfolding begin start bindings_of questions_among
    begun_stands =
        let asked = rw (question_start f accepts) at (question_placed f (length f - 4) (omega arith) (body_readable f accepts)).1 in
        record {
          leaves = rw (← asked) (rw e at (sym b.leaves));
          bindings = rw b.nothing_bound;
          extensions = sym b.copies;
          questions = rw (b.copies, b.start, eq-eqb question (judge f).question e);
        }

    pub run_begin : {conditions : Conditions} {m₀ : List ℕ} {noted : Bool} → NotedFor noted f m₀ → NotesKept m₀ m → (offered : List ℕ) → Running f m conditions noted offered place 0
    unfolding check
    run_begin indexed kept offered =
        record {
          ready = b.ready;
          unnumbered = b.unnumbered;
          steps = b.steps;
          within = omega arith;
          play = begin (table_in f);
          indexed = λ y. indexed_same b.ready.good.size kept (indexed y);
          stands = begun_stands;
          same = refl;
        }

-- a step
module _ {f m : List ℕ} {conditions : Conditions} {noted : Bool} {offered : List ℕ} {place : Place} {i : ℕ} (g : Running f m conditions noted offered place i) where
  module _ (h : i < length offered) where
    abbrev outcome : Performed
    outcome = perform (setting_for f conditions) g.play (read_for conditions (get_or offered i 0))

    same_step : check (setting_for f conditions) (read_steps (profile_of conditions.restarts) offered)
        ≡ onwards outcome (read_for conditions (get_or offered i 0)) i (λ q. check_from (setting_for f conditions) q (suc i) (read_steps (profile_of conditions.restarts) (drop (i + 1) offered)))
    unfolding check_from
    same_step = g.same ∙ rw (from_place offered i h)

    pub run_on : {m' : List ℕ} {j : Result Place Refusal} → Checked f m m' conditions place (get_or offered i 0) j → {next : Place} → j ≡ Ok next → Running f m' conditions noted offered next (i + 1)
    unfolding onwards
    run_on {m'} {j} k {next} e =
        let here : Checked f m m' conditions place (get_or offered i 0) (Ok next) = rw e at k in
        let moved : Moved f m m' (read_for conditions (get_or offered i 0)) place next = here.moves in
        let goes = here.says g.play g.stands in
        record {
          ready = moved.ready;
          unnumbered = λ v l. moved.later.marks v l ∙ g.unnumbered v l;
          steps = omega (arith, moved.steps, g.steps);
          within = omega arith;
          play = goes.0;
          indexed = λ y. indexed_same moved.ready.good.size moved.later.notes (g.indexed y);
          stands = goes.2;
          same = same_step ∙ rw (goes.1, add-one);
        }

    refuse : (m' : List ℕ) (why : Refusal) → Says f m' (read_for conditions (get_or offered i 0)) (Err why) outcome → RefusedAs f conditions offered why i
    unfolding onwards
    refuse m' Malformed k = record { stops = same_step ∙ rw (k.0, k.1) }
    refuse m' NotAllowed k = record { stops = same_step ∙ rw (k.0, k.1) }
    refuse m' Clashes k = record { stops = same_step ∙ rw k }
    refuse m' Circular k = record { stops = same_step ∙ rw k }
    refuse m' LeavesOpen k = absurd k

    pub run_refuses : {m' : List ℕ} {j : Result Place Refusal} → Checked f m m' conditions place (get_or offered i 0) j → {why : Refusal} → j ≡ Err why
        → RefusedAs f conditions offered why place.steps
    run_refuses {m'} {j} k {why} e =
        let here : Checked f m m' conditions place (get_or offered i 0) (Err why) = rw e at k in
        rw g.steps (refuse m' why (here.says g.play g.stands))

  -- the end
  module _ (h : length offered ≤ i) where
    all : i ≡ length offered
    all = omega (arith, g.within)

    same_end : check (setting_for f conditions) (read_steps (profile_of conditions.restarts) offered) ≡ at_end g.play i (open_leaves f m place)
    unfolding check_from
    same_end = g.same ∙ rw (drop_of_length-le offered {i = i} h, ← g.stands.leaves)

    pub run_open : (place.head ≡ 0 → ⊥) → RefusedAs f conditions offered LeavesOpen place.steps
    unfolding at_end
    run_open n = record { stops = same_end ∙ rw (open_first g.ready (omega arith), g.steps) }

    pub run_done : place.head ≡ 0 → {question : ℕ} → question ≡ (judge f).question → AcceptedAs f m question conditions offered place.steps
    unfolding at_end
    run_done z e =
        record {
          count = g.steps ∙ all;
          play = g.play;
          passes = same_end ∙ rw (z, chain_none (leaf_at f m) (next_at m) place.leaves);
          ended = record { good = g.ready.good; bindings = g.stands.bindings; questions = rw e g.stands.questions; unnumbered = g.unnumbered };
        }
