-- A candidate that is tried: what the step asks, and what it comes to.
use mathlib.Core.Path.{◌≡◌, sym, ap, ◌∙◌}
use mathlib.Core.List.{List}
use Prim.Native.Nat.{ℕ, suc, ◌+◌, ◌-◌, ◌≤◌, ◌<◌}
use native.Mathlib.Omega.{arith}
use borrow.Author.Tests.{lt-ltb}
use lib.ListN.{length, get_or, length-append, length-map}
use Rattle.words.specs.Steps.{well_formed, step_word, encoded}
use Rattle.words.specs.declared.Step.TheVariants.{Restart}
use Rattle.table.specs.Decode.{clause_of}
use Rattle.rules.specs.Tableau.{Leaf, hang}
use Rattle.unification.specs.State.{copies_of, own_words, ClauseAt}
use Rattle.unification.specs.Good.{word_at}
use Rattle.tableaux.specs.Leaves.{leaves_from}
use Rattle.tableaux.specs.Ready.{closed_at, open_leaves, leaf_of, rest_of, Alike, Reducible, Reduced, Openable, Extensible, OneMore, Hung, Extended, Restarted, hanging_at}
use Rattle.tableaux.specs.Entering.{Enters, extension_at}
use Rattle.engine.specs.Searching.{table_at, setting_at, question_at, Treats, Wanted, Against, Allows, Onward, Takes}
use Rattle.index.specs.declared.entries.Scan.{Scan}
use Rattle.engine.specs.declared.search.Move.TheVariants.{Reduce, Enter, Renew}
use Rattle.engine.specs.declared.search.Task.{Task}
use Rattle.tableaux.specs.declared.tableau.Place.{Place}
use Rattle.std.specs.Prelude.{Result, Ok}
use Rattle.unification.specs.declared.unify.Unmet.{Unmet}
use Rattle.engine.proofs.Performed.{open_first, Literate, stands_literate, copy_word, copy_literate, alike_other, fits_other, reduction_comes, extension_comes, restart_comes}
use Rattle.tableaux.proofs.Literals.{hanging_fewer, hanging_all, clause_few}
use Rattle.engine.proofs.Literals.Entries.{clause_small, literal_small}
use Rattle.engine.proofs.Literals.Places.{question_placed}

module _ {f m : List ℕ} {task : Task} {place : Place} (treats : Treats f m task place) (some_open : 0 < place.head) where
  -- the leaf that is treated
  leaf_literate : Literate f m (leaf_of m place)
  leaf_literate = stands_literate f m (leaf_of m place) (treats.ready.noted.stands (place.head - 1) (omega (arith, treats.ready.head)))

  alike : (w : ℕ) → Wanted f m place w → Alike (word_at f m (leaf_of m place)) w
  alike w e = alike_other (word_at f m (leaf_of m place)) w leaf_literate.shaped (treats.asked.small _) e

  abbrev others : List Leaf
  others = leaves_from f m place.leaves (rest_of m place)

  one-open : length (open_leaves f m place) ≡ suc (length others)
  one-open = ap length (open_first treats.ready some_open)

  -- a copy can be made while the bound's are not used
  opens : {start : ℕ} → ClauseAt f start → copies_of m ≤ task.bound → Openable f m place start
  opens clause unused = record { ready = treats.ready; some_open = some_open; copies = omega (arith, treats.asked.low); clause = clause }

  -- what hangs under the leaf, and the room that falls
  module _ {m' : List ℕ} {start offset step : ℕ} {next : Place} (one : OneMore f m m' place start step) (hung : Hung f m m' place next start offset) where
    hangs : length (open_leaves f m' next) ≡ length (hanging_at f start offset) + length others
    unfolding hang
    hangs = ap length hung.leaves ∙ simp (length-append, length-map)

    hung-onward : length (hanging_at f start offset) ≤ 7 → copies_of m ≤ task.bound → Onward f m m' task place next
    hung-onward few unused =
        let more = hangs in
        let n = one-open in
        record {
          ready = hung.ready;
          leaves = omega (arith, hung.ready.taken, treats.ready.taken, hung.steps);
          steps = hung.steps;
          falls = omega (arith, one.copies);
        }

  module _ {literal height : ℕ} (against : Against f m place literal height) where
    pub reduces : Reducible f m place literal
    reduces = record { ready = treats.ready; some_open = some_open; stands = against.stands; alike = alike (word_at f m literal) against.word }

    module _ {m' : List ℕ} {r : Result Place Unmet} (reduced : Reduced f m m' place literal height r) where
      reduced_onward : Onward f m m' task place (closed_at m place)
      reduced_onward =
          let fewer : length (open_leaves f m' (closed_at m place)) ≡ length others = ap length reduced.leaves in
          let n = one-open in
          record {
            ready = reduced.ready;
            leaves = omega (arith, reduced.ready.taken, treats.ready.taken);
            steps = omega arith;
            falls = omega (arith, reduced.copies);
          }

      pub takes_reduction : Takes f m m' task place (Reduce literal height) r
      unfolding step_word
      takes_reduction =
          record {
            good = reduced.stepping.good;
            later = reduced.stepping.later;
            noted = reduced.stepping.noted;
            comes = λ p stands. reduction_comes (setting_at f task) treats.ready some_open reduced p stands height against.there
                (fits_other treats.asked.small leaf_literate (stands_literate f m literal against.stands) against.word);
            onward = λ next e. rw (reduced.leads next e) reduced_onward;
          }

  module _ {scan : Scan} (allows : Allows f m task place (Enter scan)) where
    enters : Enters f (table_at f task) (question_at f task) scan
    enters = allows.0

    abbrev offset : ℕ
    offset = scan.at - scan.start

    entered_at : scan.start + offset ≡ scan.at
    entered_at = omega (arith, enters.later)

    pub enter_later : scan.start ≤ scan.at
    enter_later = omega (arith, enters.later)

    pub enter_begun : 1 ≤ scan.clauses
    enter_begun = enters.begun

    pub extends : Extensible f m place scan.start offset
    extends =
        record {
          openable = opens enters.begins allows.2;
          number = scan.literals;
          entered = enters.offset;
          alike = rw entered_at (alike (get_or f scan.at 0) allows.1);
        }

    step_noted : encoded (extension_at scan) ≡ step_word (extension_at scan)
    unfolding encoded well_formed
    step_noted =
        rw (
          lt-ltb (scan.clauses - 1) 512 (clause_small f task.body treats.asked.fits treats.asked.readable enters),
          lt-ltb scan.literals 8 (omega (arith, literal_small f task.body treats.asked.fits treats.asked.readable enters)),
        )

    module _ {m' : List ℕ} {step : ℕ} {r : Result Place Unmet} (written : step ≡ encoded (extension_at scan)) (extended : Extended f m m' place scan.start offset step r) where
      pub takes_extension : Takes f m m' task place (Enter scan) r
      takes_extension =
          let few : length (hanging_at f scan.start offset) ≤ 7 = omega (arith, hanging_fewer enters.begins scan.literals enters.offset, clause_few enters.begins) in
          record {
            good = extended.copied.stepping.good;
            later = extended.copied.stepping.later;
            noted = extended.copied.stepping.noted ∙ written ∙ step_noted;
            comes = λ p stands. extension_comes (setting_at f task) treats.ready some_open scan enters extended p stands (allows.3, omega (arith, stands.extensions, allows.2))
                (fits_other treats.asked.small leaf_literate (copy_literate enters.literal m' (copies_of m) extended.copied.starts) (copy_word enters.literal m' (copies_of m) extended.copied.starts ∙ ap (λ (k : ℕ). get_or f k 0) entered_at ∙ allows.1));
            onward = λ next e. hung-onward extended.copied (extended.hung next e) few allows.2;
          }

  module _ (allows : Allows f m task place Renew) where
    asked : (ClauseAt f task.question) × ((table_at f task).question ≡ clause_of (own_words f task.question))
    asked =
        let placed = question_placed f task.body treats.asked.fits treats.asked.readable in
        rw treats.asked.asks (placed.0, sym placed.1)

    pub restarts : Openable f m place task.question
    restarts = opens asked.0 allows.0

    module _ {m' : List ℕ} {step : ℕ} {next : Place} (written : step ≡ encoded Restart) (restarted : Restarted f m m' place task.question step next) where
      step_written : step ≡ step_word Restart
      unfolding encoded well_formed
      step_written = written

      pub takes_restart : Takes f m m' task place Renew (Ok next)
      takes_restart =
          record {
            good = restarted.copied.stepping.good;
            later = restarted.copied.stepping.later;
            noted = restarted.copied.stepping.noted ∙ step_written;
            comes = λ p stands. rw (← treats.asked.asks)
                (restart_comes (setting_at f task) treats.ready some_open asked.0 asked.1 restarted p (rw treats.asked.asks stands) (allows.1, omega (arith, stands.extensions, allows.0)));
            onward = λ other e. let same : next ≡ other = cc in rw (← same) (hung-onward restarted.copied restarted.hung (omega (arith, hanging_all asked.0, clause_few asked.0)) allows.0);
          }
