-- The start on the work words: cleared, with one copy of the question, its literals the open leaves.
use mathlib.Core.Path.{◌≡◌, refl, sym, ap, ap₂, ◌∙◌}
use mathlib.Core.List.{List, [], ◌++◌, map, append-nil}
use Prim.Native.Nat.{ℕ, ◌+◌, ◌*◌, ◌-◌, ◌≤◌, ◌<◌}
use native.Mathlib.Omega.{arith}
use borrow.Author.Tests.{eq-eqb, ne_eqb}
use lib.ListN.{length, take, drop, get_or, set, replicate, length-set}
use lib.Seq.{get_or-set_same, get_or-set_other}
use Rattle.words.specs.Fields.{literals_of}
use Rattle.rules.specs.Tableau as tableau
use Rattle.table.specs.Syntax.{Table}
use Rattle.table.specs.Decode.{clause_of}
use Rattle.unification.specs.Places.{most_leaves, value_places, literal_places, number_places, places_end, telling_words, count_place, work_words, copies_place}
use Rattle.unification.specs.State.{start_at, copies_of, count_of, own_words, ClauseAt, literal_at_reference, bindings_of}
use Rattle.unification.specs.Good.{Good}
use Rattle.tableaux.specs.Leaves.{chain, leaves_from, questions_among, hung}
use Rattle.tableaux.specs.Ready.{Noted, Stands, NotesKept, open_leaves, start_leaves, Begun, hanging_at, head_after}
use Rattle.tableaux.specs.declared.tableau.Place.{Place}
use Rattle.unification.proofs.Bound.{Clauses}
use Rattle.index.proofs.Cleared.{cleared_below, cleared_zero, cleared_length, cleared_above}
use Rattle.tableaux.proofs.Copies.{start_good}
use Rattle.tableaux.proofs.Literals.{clause_some, clause_few, hanging_all, copy_all}
use Rattle.tableaux.proofs.Hung.{hung_copies, hung_start, hung_carries, hung_good, hung_noted, hung_open, hung_high}
use Rattle.tableaux.proofs.Opening.{hang_length}

-- the words before the leaves cleared, and those after the steps
pub first_size : (m : List ℕ) {m₁ : List ℕ} → length m ≡ work_words → m₁ ≡ take 0 m ++ replicate literal_places 0 ++ drop (0 + literal_places) m → length m₁ ≡ work_words
first_size m sized e₁ = cleared_length m 0 literal_places (omega arith) e₁ ∙ sized

module _ (m : List ℕ) {m₁ m₀ : List ℕ} (sized : length m ≡ work_words) (e₁ : m₁ ≡ take 0 m ++ replicate literal_places 0 ++ drop (0 + literal_places) m) (e₀ : m₀ ≡ take number_places m₁ ++ replicate telling_words 0 ++ drop (number_places + telling_words) m₁) where
  inside : number_places + telling_words ≤ length m₁
  inside = omega (arith, first_size m sized e₁)

  pub cleared_size : length m₀ ≡ work_words
  cleared_size = cleared_length m₁ number_places telling_words inside e₀ ∙ first_size m sized e₁

  pub cleared_low : (i : ℕ) → i < literal_places → get_or m₀ i 0 ≡ 0
  cleared_low i h =
      let same : i ≡ 0 + i = omega arith in
      cleared_below m₁ number_places telling_words inside e₀ i (omega arith)
      ∙ ap (λ (k : ℕ). get_or m₁ k 0) same
      ∙ cleared_zero m 0 literal_places (omega arith) e₁ i h

  pub cleared_high : (i : ℕ) → number_places ≤ i → i < places_end → get_or m₀ i 0 ≡ 0
  cleared_high i l h =
      let same : i ≡ number_places + (i - number_places) = omega arith in
      ap (λ (k : ℕ). get_or m₀ k 0) same ∙ cleared_zero m₁ number_places telling_words inside e₀ (i - number_places) (omega arith)

  pub cleared_notes : NotesKept m m₀
  cleared_notes i a b = cleared_above m₁ number_places telling_words inside e₀ i (omega arith) ∙ cleared_above m 0 literal_places (omega arith) e₁ i (omega arith)

module _ {f : List ℕ} {question : ℕ} (m₀ : List ℕ) (size : length m₀ ≡ work_words) (low : (i : ℕ) → i < literal_places → get_or m₀ i 0 ≡ 0) (high : (i : ℕ) → number_places ≤ i → i < places_end → get_or m₀ i 0 ≡ 0) (clause : ClauseAt f question) where
  abbrev one : List ℕ
  one = set (set m₀ 0 question) copies_place 1

  one-other : (i : ℕ) → (i ≡ copies_place → ⊥) → (i ≡ 0 → ⊥) → get_or one i 0 ≡ get_or m₀ i 0
  one-other i a b = get_or-set_other (set m₀ 0 question) copies_place i 1 0 a ∙ get_or-set_other m₀ 0 i question 0 b

  one-copies : copies_of one ≡ 1
  one-copies = get_or-set_same (set m₀ 0 question) copies_place 1 0 (simp length-set (omega arith))

  one-start : start_at one 0 ≡ question
  one-start =
      get_or-set_other (set m₀ 0 question) copies_place 0 1 0 (λ e. omega arith) ∙ get_or-set_same m₀ 0 question 0 (omega arith)

  one_count : count_of one ≡ 0
  one_count = one-other count_place (λ e. omega arith) (λ e. omega arith) ∙ low count_place (omega arith)

  clauses : Clauses f one
  clauses = record {
    few = omega (arith, one-copies);
    starts = λ c l. let z : c ≡ 0 = omega (arith, one-copies) in rw (z, one-start) clause;
  }

  one-good : Good f one
  one-good = start_good (simp length-set size) clauses one_count (λ v l. one-other (value_places + v) (λ e. omega arith) (λ e. omega arith) ∙ low (value_places + v) (omega arith))

  none-noted : Noted f one 0
  none-noted = record { stands = λ c l. absurd (omega arith); up = λ c l. absurd (omega arith); right = λ c l. absurd (omega arith) }

  room : 0 + length (hanging_at f question 0) ≤ most_leaves
  room = omega (arith, hanging_all clause, clause_few clause)

  pub begin_counts : {count : ℕ} → count ≡ literals_of (get_or f question 0) → (0 + count ≤ most_leaves) × (count ≡ length (hanging_at f question 0))
  begin_counts e = (omega (arith, e, clause_few clause), e ∙ sym (hanging_all clause))

  abbrev after : List ℕ
  after = hung 0 0 0 0 (hanging_at f question 0) one

  after_copies : copies_of after ≡ 1
  after_copies = hung_copies f one 0 0 0 0 question 0 room ∙ one-copies

  after-start : start_at after 0 ≡ question
  after-start = hung_start f one 0 0 0 0 question 0 room 0 (omega arith) ∙ one-start

  made : 0 < copies_of one
  made = omega (arith, one-copies)

  module _ {count : ℕ} (e : count ≡ literals_of (get_or f question 0)) where
    abbrev place : Place
    place = record { head = count; leaves = count; steps = 0 }

    here : 0 + length (hanging_at f question 0) ≡ count
    here = omega (arith, hanging_all clause, e)

    first : head_after 0 (length (hanging_at f question 0)) 0 ≡ count
    first = rw (ne_eqb (length (hanging_at f question 0)) 0 (λ z. omega (arith, hanging_all clause, clause_some clause))) here

    open-hung : open_leaves f after place ≡ tableau.hang [] (map (λ (o : ℕ). literal_at_reference f after (0 * 256 + o)) (hanging_at f question 0)) ++ []
    unfolding chain
    open-hung =
        ap₂ (λ (n h : ℕ). leaves_from f after n h) (sym here) (sym first)
        ∙ hung_open f one 0 0 0 0 question 0 room one-good none-noted made one-start clause (omega arith) (omega arith)

    open-leaves : open_leaves f after place ≡ start_leaves f question
    open-leaves =
        open-hung
        ∙ append-nil (tableau.hang [] (map (λ (o : ℕ). literal_at_reference f after (0 * 256 + o)) (hanging_at f question 0)))
        ∙ ap (tableau.hang []) (copy_all clause after 0 after-start)

    begun : Begun f after question place
    begun = record {
      ready = record {
        good = hung_good f one 0 0 0 0 question 0 room one-good;
        noted = rw here at (hung_noted f one 0 0 0 0 question 0 room one-good none-noted made one-start clause (omega arith) (omega arith));
        head = omega arith;
        begun = omega (arith, after_copies);
        room = omega (arith, after_copies, e, clause_few clause);
        taken =
            omega (arith, ap length open-hung, hang_length [] (λ (o : ℕ). literal_at_reference f after (0 * 256 + o)) (hanging_at f question 0) [], here);
      };
      nothing_bound = (hung_carries f one 0 0 0 0 question 0 room one-good).count ∙ one_count;
      copies = after_copies;
      start = after-start;
      leaves = open-leaves;
      steps = refl;
      unnumbered = λ v l. hung_high f one 0 0 0 0 question 0 room (number_places + v) (omega arith) ∙ one-other (number_places + v) (λ z. omega arith) (λ z. omega arith) ∙ high (number_places + v) (omega arith) (omega arith);
    }

    pub notes_as : {m' : List ℕ} → m' ≡ hung 0 0 0 0 (hanging_at f question 0) one → NotesKept m₀ m'
    notes_as em i a b =
        ap (λ (l : List ℕ). get_or l i 0) em
        ∙ hung_high f one 0 0 0 0 question 0 room i (omega arith)
        ∙ one-other i (λ z. omega arith) (λ z. omega arith)

    pub begun_as : {m' : List ℕ} → m' ≡ hung 0 0 0 0 (hanging_at f question 0) one → Begun f m' question place
    begun_as em = rw em begun

-- the work words after the start stand for the rules' start
pub begun_stands : {f m : List ℕ} {question : ℕ} {place : Place} → Begun f m question place → (t : Table) → t.question ≡ clause_of (own_words f question)
    → Stands f m question place (tableau.start t) []
unfolding tableau.start questions_among bindings_of
begun_stands {f} {m} {question} b t e = record {
  leaves = rw e (sym b.leaves);
  bindings = sym (ap (bindings_of f m) b.nothing_bound);
  extensions = sym b.copies;
  questions = rw (b.copies, eq-eqb (start_at m 0) question b.start);
}
