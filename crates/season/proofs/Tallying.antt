-- Entry after entry: what is left, from here, gives the whole report and the buffers.
use mathlib.Core.Bool.{Bool, true, false}
use mathlib.Core.List.{List, [], ◌∷◌, map}
use mathlib.Core.Path.{◌≡◌, refl, ap, ◌∙◌}
use Prim.Native.Nat.{ℕ, suc, ◌+◌, ◌-◌, ◌/◌, ◌%◌, ◌≤◌, ◌<◌}
use native.Mathlib.Omega.{arith}
use Rattle.std.proofs.Common.{add-zero}
use borrow.Author.Tests.{eqb-true, leb-true}
use lib.Dec.{eqb, leb}
use lib.ListN.{length, drop, get_or, drop_of_length-le}
use lib.Seq.{drop-cons}
use Rattle.table.proofs.Bools.{and_left, and_right}
use Rattle.season.specs.Season.{entries_of, Run, one_if, how_many, tries_of, counted, proof_left, answer_left, entries_fit, refused_report}
use Rattle.season.specs.Asking.{entry_run, entry_at, Tabled, Lent, Ran, number_of, counting, tallied, Few, Reported}
use Rattle.season.specs.declared.Report.{Report}
use Rattle.season.specs.declared.ask.Ended.{Ended}
use Rattle.season.specs.declared.tally.Kind.{Kind}
use Rattle.season.specs.declared.tally.Kind.TheVariants.{Definite, Indefinite, NoneFound, RanOut, TooLong, Refused}

-- one more of a result
module _ (report : Report) {kind : Kind} (tries : ℕ) where
  pub count-definite : kind ≡ Definite
      → ◌≡◌ {A = Report} (record report { definite = report.definite + 1; tries = report.tries + tries }) (counting report (number_of kind) tries)
  count-definite e = rw e (simp add-zero)

  pub count-indefinite : kind ≡ Indefinite
      → ◌≡◌ {A = Report} (record report { indefinite = report.indefinite + 1; tries = report.tries + tries }) (counting report (number_of kind) tries)
  count-indefinite e = rw e (simp add-zero)

  pub count-none : kind ≡ NoneFound
      → ◌≡◌ {A = Report} (record report { none = report.none + 1; tries = report.tries + tries }) (counting report (number_of kind) tries)
  count-none e = rw e (simp add-zero)

  pub count-ranout : kind ≡ RanOut
      → ◌≡◌ {A = Report} (record report { ranout = report.ranout + 1; tries = report.tries + tries }) (counting report (number_of kind) tries)
  count-ranout e = rw e (simp add-zero)

  pub count-toolong : kind ≡ TooLong
      → ◌≡◌ {A = Report} (record report { toolong = report.toolong + 1; tries = report.tries + tries }) (counting report (number_of kind) tries)
  count-toolong e = rw e (simp add-zero)

  pub count-refused : kind ≡ Refused
      → ◌≡◌ {A = Report} (record report { refused = report.refused + 1; tries = report.tries + tries }) (counting report (number_of kind) tries)
  count-refused e = rw e (simp add-zero)

pub ruleset count_laws = (count-definite, count-indefinite, count-none, count-ranout, count-toolong, count-refused)

-- what the runs add to a report
abbrev added : Report → List Run → Report
added r runs =
    record {
      status = r.status;
      place = r.place;
      definite = r.definite + how_many 0 runs;
      indefinite = r.indefinite + how_many 1 runs;
      none = r.none + how_many 2 runs;
      ranout = r.ranout + how_many 3 runs;
      toolong = r.toolong + how_many 4 runs;
      refused = r.refused + how_many 5 runs;
      tries = r.tries + tries_of runs;
    }

nothing_added : (r : Report) → r ≡ added r []
unfolding how_many tries_of
nothing_added r =
    let d : r.definite ≡ r.definite + 0 = omega arith in
    let i : r.indefinite ≡ r.indefinite + 0 = omega arith in
    let n : r.none ≡ r.none + 0 = omega arith in
    let o : r.ranout ≡ r.ranout + 0 = omega arith in
    let l : r.toolong ≡ r.toolong + 0 = omega arith in
    let f : r.refused ≡ r.refused + 0 = omega arith in
    let t : r.tries ≡ r.tries + 0 = omega arith in
    λ k. record { status = r.status; place = r.place; definite = d k; indefinite = i k; none = n k; ranout = o k; toolong = l k; refused = f k; tries = t k }

one_added : (r : Report) (run : Run) (runs : List Run) → added (counting r run.result run.tries) runs ≡ added r (run ∷ runs)
unfolding how_many tries_of
one_added r run runs =
    let assoc : (a b c : ℕ) → a + b + c ≡ a + (b + c) = λ a b c. omega arith in
    let is : ℕ → ℕ = λ n. one_if (eqb run.result n) in
    λ k. record {
      status = r.status;
      place = r.place;
      definite = assoc r.definite (is 0) (how_many 0 runs) k;
      indefinite = assoc r.indefinite (is 1) (how_many 1 runs) k;
      none = assoc r.none (is 2) (how_many 2 runs) k;
      ranout = assoc r.ranout (is 3) (how_many 3 runs) k;
      toolong = assoc r.toolong (is 4) (how_many 4 runs) k;
      refused = assoc r.refused (is 5) (how_many 5 runs) k;
      tries = assoc r.tries run.tries (tries_of runs) k;
    }

tallied_added : (r : Report) (runs : List Run) → tallied runs r ≡ added r runs
unfolding tallied
tallied_added r [] = nothing_added r
tallied_added r (run ∷ runs) = tallied_added (counting r run.result run.tries) runs ∙ one_added r run runs

from_nothing : (runs : List Run) → added (refused_report 0 0) runs ≡ counted runs
from_nothing runs =
    let zero_more : (n : ℕ) → 0 + n ≡ n = λ n. omega arith in
    λ k. record {
      status = 0;
      place = 0;
      definite = zero_more (how_many 0 runs) k;
      indefinite = zero_more (how_many 1 runs) k;
      none = zero_more (how_many 2 runs) k;
      ranout = zero_more (how_many 3 runs) k;
      toolong = zero_more (how_many 4 runs) k;
      refused = zero_more (how_many 5 runs) k;
      tries = zero_more (tries_of runs) k;
    }

all_counted : (runs : List Run) → tallied runs (refused_report 0 0) ≡ counted runs
all_counted runs = tallied_added (refused_report 0 0) runs ∙ from_nothing runs

-- the next entry
four_words : (ws : List ℕ) (at : ℕ) → at + 4 ≤ length ws
    → drop at ws ≡ get_or ws at 0 ∷ get_or ws (at + 1) 0 ∷ get_or ws (at + 2) 0 ∷ get_or ws (at + 3) 0 ∷ drop (at + 4) ws
four_words ws at h =
    let one : at + 1 ≡ suc at = omega arith in
    let two : at + 2 ≡ suc (suc at) = omega arith in
    let three : at + 3 ≡ suc (suc (suc at)) = omega arith in
    let four : at + 4 ≡ suc (suc (suc (suc at))) = omega arith in
    rw (one, two, three, four)
    (drop-cons ws at 0 (omega arith)
    ∙ ap (λ (us : List ℕ). get_or ws at 0 ∷ us) (drop-cons ws (suc at) 0 (omega arith)
    ∙ ap (λ (us : List ℕ). get_or ws (suc at) 0 ∷ us) (drop-cons ws (suc (suc at)) 0 (omega arith)
    ∙ ap (λ (us : List ℕ). get_or ws (suc (suc at)) 0 ∷ us) (drop-cons ws (suc (suc (suc at))) 0 (omega arith)))))

next_entry : (ws : List ℕ) (at : ℕ) → at + 4 ≤ length ws → entries_of (drop at ws) ≡ entry_at ws at ∷ entries_of (drop (at + 4) ws)
unfolding entries_of
next_entry ws at h = ap entries_of (four_words ws at h)

pub few_words : (words : ℕ) → entries_fit words ≡ true → words ≤ 16384
unfolding entries_fit
few_words words e =
    let w = eqb-true (words % 4) 0 (and_left (eqb (words % 4) 0) (leb (words / 4) 4096) e) in
    omega (arith, leb-true (words / 4) 4096 (and_right (eqb (words % 4) 0) _ e))

whole_words : (words : ℕ) → entries_fit words ≡ true → words % 4 ≡ 0
unfolding entries_fit
whole_words words e = eqb-true (words % 4) 0 (and_left (eqb (words % 4) 0) (leb (words / 4) 4096) e)

abbrev runs_from : List ℕ → List ℕ → ℕ → List ℕ → List Run
runs_from table list room words = map (entry_run table list room) (entries_of words)

pub record Tallying (table entries list proof₀ answer₀ : List ℕ) (begun : ℕ) (file proof answer work : List ℕ) (report : Report) (at : ℕ) : Type 0 where
  pub tabled : Tabled table file begun
  pub lent : Lent proof work
  pub whole : (length entries - at) % 4 ≡ 0
  pub most : length entries ≤ 16384
  pub few : Few at report
  pub proof_room : length proof ≡ length proof₀
  pub answer_room : length answer ≡ length answer₀
  pub numbers : tallied (runs_from table list (length answer₀) (drop at entries)) report ≡ counted (runs_from table list (length answer₀) entries)
  pub steps : proof_left (runs_from table list (length answer₀) (drop at entries)) proof ≡ proof_left (runs_from table list (length answer₀) entries) proof₀
  pub words : answer_left (runs_from table list (length answer₀) (drop at entries)) answer ≡ answer_left (runs_from table list (length answer₀) entries) answer₀

pub tally_begin : {table entries file proof answer work : List ℕ} (list : List ℕ) {begun : ℕ} {report : Report} → Tabled table file begun → Lent proof work
    → entries_fit (length entries) ≡ true → report ≡ refused_report 0 0
    → Tallying table entries list proof answer begun file proof answer work report 0
tally_begin {table} {entries} {answer = answer} list t l fit e =
    rw e (record {
      tabled = t;
      lent = l;
      whole = omega (arith, whole_words (length entries) fit);
      most = few_words (length entries) fit;
      few = record {
        definite = omega arith;
        indefinite = omega arith;
        none = omega arith;
        ranout = omega arith;
        toolong = omega arith;
        refused = omega arith;
        tries = omega arith;
      };
      proof_room = refl;
      answer_room = refl;
      numbers = all_counted (runs_from table list (length answer) entries);
      steps = refl;
      words = refl;
    })

one_at_most : (b : Bool) → one_if b ≤ 1
one_at_most true = omega arith
one_at_most false = omega arith

few_more : (at result tries : ℕ) (report : Report) → Few at report → tries ≤ 4294967295 → Few (at + 4) (counting report result tries)
few_more at result tries report f l =
    let one : (n : ℕ) → one_if (eqb result n) ≤ 1 = λ n. one_at_most (eqb result n) in
    record {
      definite = omega (arith, f.definite, one 0);
      indefinite = omega (arith, f.indefinite, one 1);
      none = omega (arith, f.none, one 2);
      ranout = omega (arith, f.ranout, one 3);
      toolong = omega (arith, f.toolong, one 4);
      refused = omega (arith, f.refused, one 5);
      tries = omega (arith, f.tries);
    }

module _ {table entries list proof₀ answer₀ : List ℕ} {begun : ℕ} {file proof answer work : List ℕ} {report : Report} {at : ℕ}
    (x : Tallying table entries list proof₀ answer₀ begun file proof answer work report at) where
  pub tally_done : length entries ≤ at → Reported table entries list report proof₀ proof answer₀ answer
  unfolding tallied proof_left answer_left entries_of
  tally_done h =
      let none : drop at entries ≡ [] = drop_of_length-le entries h in
      record {
        numbers = rw none at x.numbers;
        steps = rw none at x.steps;
        words = rw none at x.words;
      }

  module _ (h : at < length entries) where
    pub four_more : at + 4 ≤ length entries
    four_more = omega (arith, x.whole)

    pub few_enough : Few 16384 report
    few_enough =
        let low : at ≤ 16384 = omega (arith, x.most) in
        record {
          definite = omega (arith, x.few.definite);
          indefinite = omega (arith, x.few.indefinite);
          none = omega (arith, x.few.none);
          ranout = omega (arith, x.few.ranout);
          toolong = omega (arith, x.few.toolong);
          refused = omega (arith, x.few.refused);
          tries = omega (arith, x.few.tries);
        }

    pub tally_next : {r : Ended} {report' : Report} {file' proof' answer' work' : List ℕ}
        → Ran (entry_run table list (length answer) (entry_at entries at)) r proof proof' answer answer'
        → Tabled table file' begun → length proof' ≡ length proof → length answer' ≡ length answer → length work' ≡ length work
        → r.tries ≤ 4294967295 → report' ≡ counting report (number_of r.result) r.tries
        → Tallying table entries list proof₀ answer₀ begun file' proof' answer' work' report' (at + 4)
    unfolding tallied proof_left answer_left
    tally_next {r} ran t p a w l e =
        let more = next_entry entries at four_more in
        let told = rw x.answer_room at ran in
        rw e (record {
          tabled = t;
          lent = record { enough = omega (arith, x.lent.enough); room = w ∙ x.lent.room };
          whole = omega (arith, x.whole);
          most = x.most;
          few = few_more at (number_of r.result) r.tries report x.few l;
          proof_room = p ∙ x.proof_room;
          answer_room = a ∙ x.answer_room;
          numbers = rw (told.result, told.tries) (rw more at x.numbers);
          steps = rw told.steps (rw more at x.steps);
          words = rw told.words (rw more at x.words);
        })
