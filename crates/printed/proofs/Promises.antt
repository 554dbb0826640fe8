-- What is printed for an answer says the answer: each statement of specs/Promises.
use mathlib.Core.Bool.{Bool, true, false, cond}
use mathlib.Core.List.{List, [], ◌∷◌, map, flatten}
use mathlib.Core.Path.{◌≡◌, refl, sym, ap, subst, ◌∙◌}
use Prim.Native.Nat.{ℕ, zero, suc, pred, ◌+◌, ◌-◌, ◌≤◌}
use native.Mathlib.Omega.{arith}
use lib.Dec.{eqb}
use lib.ListN.{length}
use Rattle.words.specs.declared.Step.{Step}
use Rattle.table.specs.Syntax.{Literal, Clause as ClauseSaid, Table}
use Rattle.table.specs.Limits.{Each, Within}
use Rattle.table.specs.File.{table_in}
use Rattle.table.proofs.AcceptedTable.{accepted_within}
use Rattle.clausetext.specs.Syntax.{Clause}
use Rattle.clausetext.specs.Texts.{Says}
use Rattle.tptp.specs.Said as Said
use Rattle.tptp.specs.Said.{table_said}
use Rattle.tptp.specs.Reads as Read
use Rattle.tptp.specs.Promises.{StatusExactly, FileAccepted}
use Rattle.tptp.specs.declared.TextRead.{TextRead}
use Rattle.tptp.proofs.Promises.{status_exactly, file_accepted_as_said}
use Rattle.naming.specs.Shown.{names_in, shown}
use Rattle.naming.specs.Texts.{literals_text, WordsShown}
use Rattle.naming.specs.Noting.{Tells}
use Rattle.naming.proofs.Texts.{words_shown}
use Rattle.rules.specs.Substitution.{Substitution, Solves}
use Rattle.rules.specs.Setting.{Profile, every_leaf, read_steps, Setting, over}
use Rattle.rules.specs.Tableau.{Closed}
use Rattle.rules.specs.Answer.{disjunct, per_copy, same_disjunct, seen_by, firsts_after_by, firsts_by, disjuncts, numbered, joined, disjuncts_in, Reads}
use Rattle.rules.specs.Verdict.{Refusal, malformed, not_allowed, not_unified, leaves_open, status_of, Answers}
use Rattle.rules.specs.Comparison.{a_clash, a_circle}
use Rattle.rules.proofs.Checker.{accepted_closed}
use Rattle.rules.proofs.Demands.{answer_is_read}
use Rattle.rules.proofs.Every.{All, end, ◌also◌, all_first, all_left, all_right, true_false}
use Rattle.rules.proofs.Firsts.{all_seen}
use Rattle.rules.proofs.Instances.{of_copy}
use Rattle.rules.proofs.Lifting.{tree_questions}
use Rattle.rules.proofs.Reading.{answer_read}
use Rattle.rules.proofs.Sameness.{disjuncts_told}
use Rattle.rules.proofs.Truth.{flat_numbered}
use Rattle.roundtrip.proofs.Saying.{question_within}
use Rattle.roundtrip.proofs.Uses.{variable_uses_lem}
use Rattle.hukolearu.specs.Calls.{Given, search_call, check_call}
use Rattle.hukolearu.specs.Says.{SearchSays, ran_out, none_found, found_fitting, found_too_long, CheckSays, not_closed, closed_fitting, closed_too_long}
use Rattle.hukolearu.proofs.CallDemands.{search_says, check_says}
use Rattle.smallest.specs.Smallest.{LeastGiven, ends_at, from_bound, search_at, smallest_call}
use Rattle.smallest.proofs.AtTheDoor.{accepted_at, call_accepted}
use Rattle.printed.specs.Reading.{AnswerSays, PrintedSays}
use Rattle.printed.specs.Promises.{names_said, printed, SaysTheAnswer, PrintedIsTheAnswer, SameByIndex, OneAnswerSaid, Asked, SaidByIndex, FoundIsPrinted, SmallestInNames, SmallestIsPrinted, AcceptedIsPrinted}
use Rattle.printed.proofs.Lines.{spoken_rows, rows_read}
use Rattle.printed.proofs.Lowers.{Lowers, names_lower}
use Rattle.printed.proofs.Symbols.{predicates_named, functions_named}
use Rattle.printed.proofs.Places.{answer_in_order}
use Rattle.printed.proofs.SameNames.{shown_same}
use Rattle.printed.proofs.Naming.{literals_named, InOrder, answer_again}
use Rattle.printed.proofs.OneReading.{said_once}

-- the literals of rows, row by row
all_rows : {A : Type 0} {P : A → Type 0} (ds : List (List A)) → All P (flatten ds) → All (λ d. All P d) ds
unfolding flatten
all_rows [] a = end
all_rows (d ∷ ds) a = all_left d (flatten ds) a also all_rows ds (all_right d (flatten ds) a)

-- Words that are read as disjuncts, in the names of a text, each of which is a token.
module _ (cs : List Clause) (lowers : Lowers (Said.of_all Said.predicate_uses cs) × Lowers (Said.of_all Said.function_uses cs)) where
  rows-said : (more : ℕ) (ds : List (List (Literal ℕ))) → 1 ≤ length ds → Each (λ d. length d ≡ suc more) ds → InOrder cs (flatten ds)
      → AnswerSays (literals_text (names_said cs) (suc more) 0 (flatten ds)) (spoken_rows (names_said cs) ds)
  rows-said more [] some alike o = absurd (omega arith)
  rows-said more (d ∷ ds) some alike o =
      rows_read (names_said cs) more d ds alike
      (all_rows (d ∷ ds) (literals_named cs lowers.0 lowers.1 (flatten (d ∷ ds)) o.predicates_below o.functions_below))

  pub rows_printed : (more : ℕ) (ds : List (List (Literal ℕ))) → 1 ≤ length ds → Each (λ d. length d ≡ suc more) ds → InOrder cs (flatten ds)
      → PrintedSays cs (literals_text (names_said cs) (suc more) 0 (flatten ds)) ds
  rows_printed more ds some alike o = record {
    spoken = spoken_rows (names_said cs) ds;
    says = rows-said more ds some alike o;
    said = sym (answer_again cs ds o);
  }

  words-say : (question : ClauseSaid) (words : List ℕ) (count : ℕ) (ds : List (List (Literal ℕ))) → 1 ≤ length question.literals → 1 ≤ count
      → Reads question words count ds → InOrder cs (flatten ds) → PrintedSays cs (printed (names_said cs) question words) ds
  unfolding WordsShown
  words-say question words count ds long some r o =
      let n : length question.literals ≡ suc (pred (length question.literals)) = omega arith in
      let text : printed (names_said cs) question words ≡ literals_text (names_said cs) (length question.literals) 0 (flatten ds) =
      ap (λ (ws : List ℕ). shown (names_said cs) (length question.literals) 0 [] ws) r.whole
      ∙ words_shown (names_said cs) (length question.literals) (flatten ds) r.within in
      subst (λ (t : List ℕ). PrintedSays cs t ds) (sym text)
      (rw n (rows_printed (pred (length question.literals)) ds (omega (arith, r.counted)) (rw n at r.alike) o))

-- an answer has a disjunct at least
seen_some : {A : Type 0} (same : A → A → Bool) (x : A) (ys : List A) → seen_by same x ys ≡ true → 1 ≤ length ys
unfolding seen_by
seen_some same x [] e = true_false e refl
seen_some same x (y ∷ ys) e = omega arith

some_disjunct : {S : Setting} {steps : List Step} (c : Closed S steps) (σ : Substitution) → Solves σ c.tableau.pairs → 1 ≤ length (disjuncts σ S.table c.tableau)
unfolding disjuncts per_copy firsts_by
some_disjunct {S} c σ solves = go (of_copy σ) c.tableau.questions (tree_questions c σ solves)
  where
    go : {A : Type 0} (f : ℕ → A) {y : A} {ys : List A} (qs : List ℕ) → map f qs ≡ y ∷ ys → 1 ≤ length (firsts_after_by same_disjunct [] (map (disjunct σ S.table.question) qs))
    go f [] e = let z : ◌≡◌ {A = ℕ} 0 1 = cc in absurd (omega arith)
    go f (q ∷ qs) e =
        seen_some same_disjunct (disjunct σ S.table.question q) (firsts_after_by same_disjunct [] (map (disjunct σ S.table.question) (q ∷ qs)))
        (all_first (all_seen disjuncts_told [] (map (disjunct σ S.table.question) (q ∷ qs))))

-- The answer of a closed tableau over the table of a text.
module _ (cs : List Clause) (within : Within (table_said cs)) (rules : Profile) (bound : ℕ) (low : bound ≤ 32) (steps : List Step)
    (c : Closed (over rules (table_said cs) bound) steps) (count : ℕ) (words : List ℕ) (a : Answers (table_said cs) c.tableau count words) where
  abbrev question : ClauseSaid
  question = (table_said cs).question

  abbrev answer : List (Literal ℕ)
  answer = numbered (joined (disjuncts a.by (table_said cs) c.tableau))

  reads : Reads question words count (disjuncts_in question words)
  reads = answer_is_read (over rules (table_said cs) bound) within low steps c count words a

  literals_are : flatten (disjuncts_in question words) ≡ numbered (joined (disjuncts a.by (table_said cs) c.tableau))
  literals_are =
      ap (λ (ds : List (List (Literal ℕ))). flatten ds)
      (ap (λ (ws : List ℕ). disjuncts_in question ws) a.written ∙ answer_read (over rules (table_said cs) bound) within low c a.by a.general)
      ∙ sym (flat_numbered (disjuncts a.by (table_said cs) c.tableau))

  in_order : InOrder cs (flatten (disjuncts_in question words))
  in_order = record {
    predicates_below = rw literals_are (predicates_named cs rules bound steps c a.by a.general);
    functions_below = rw literals_are (functions_named cs rules bound steps c a.by a.general);
    few = variable_uses_lem 1024 (flatten (disjuncts_in question words)) reads.within;
    own = rw literals_are (answer_in_order (joined (disjuncts a.by (table_said cs) c.tableau)));
  }

  answer_said : (text : List ℕ) → Says text cs → PrintedSays cs (printed (names_said cs) question words) (disjuncts_in question words)
  answer_said text says =
      words-say cs (names_lower says) question words count (disjuncts_in question words) (question_within (table_said cs) within).some
      (omega (arith, a.counted, some_disjunct c a.by a.general.solves)) reads in_order

pub one_answer_said : OneAnswerSaid
unfolding OneAnswerSaid
one_answer_said = said_once

pub printed_is_the_answer : PrintedIsTheAnswer
unfolding PrintedIsTheAnswer
printed_is_the_answer text cs says within rules bound low steps c count words a ds =
    let said = answer_said cs within rules bound low steps c count words a text says in (
      λ h. said_once cs (printed (names_said cs) (table_said cs).question words) ds (disjuncts_in (table_said cs).question words) h said,
      λ e. rw e said,
    )

pub same_by_index : SameByIndex
unfolding SameByIndex
same_by_index text index cs tells question words =
    shown_same (names_in text index []) (names_said cs) tells.functions tells.predicates (λ n. refl) (length question.literals) words 0 []

-- a text that is read without a refusal has an index
short_text : {text buffer left : List ℕ} {r : TextRead} → Read.Reads text buffer r left → r.status ≡ 0 → length text ≤ 65536
short_text (Read.wrong a) e = absurd (omega arith)
short_text (Read.fine h y a) e = h

index_tells : {text index file : List ℕ} {cs : List Clause} → Asked text index file cs → Tells text index cs
unfolding StatusExactly
index_tells {text} {cs = cs} asked =
    let short = short_text asked.reads asked.accepted in
    let fits = (status_exactly text asked.buffer asked.outcome asked.left cs short asked.says asked.reads).zero.0 asked.accepted in
    asked.indexed.told
    (asked.indexed.made cs (record { limited = short; says = asked.says; one = fits.0; room = length asked.buffer; fits = fits.1 })) cs asked.says

-- what a call gave as an answer
record Answered (S : Setting) (words : List ℕ) : Type 0 where
  steps : List Step
  closed : Closed S steps
  count : ℕ
  answers : Answers S.table closed.tableau count words

answered_said : (text : List ℕ) (cs : List Clause) → Says text cs → (t : Table) → t ≡ table_said cs → Within t → (rules : Profile) (bound : ℕ) → bound ≤ 32 → (words : List ℕ)
    → Answered (over rules t bound) words → SaysTheAnswer cs (printed (names_said cs) (table_said cs).question words) words
unfolding PrintedIsTheAnswer
answered_said text cs says t e within rules bound low words x =
    let y = subst (λ (u : Table). Answered (over rules u bound) words) e x in
    printed_is_the_answer text cs says (subst (λ (u : Table). Within u) e within) rules bound low y.steps y.closed y.count words y.answers

-- the file that was read holds the text's table, and by the index the same is printed
module _ {text index file : List ℕ} {cs : List Clause} (asked : Asked text index file cs) where
  table-read : table_in file ≡ table_said cs
  unfolding FileAccepted
  table-read =
      ap (λ (ws : List ℕ). table_in ws) asked.written
      ∙ (file_accepted_as_said text asked.buffer asked.outcome asked.left cs asked.says asked.reads asked.accepted).table

  by_index : (words : List ℕ) → SaysTheAnswer cs (printed (names_said cs) (table_said cs).question words) words → SaidByIndex text index file cs words
  unfolding SameByIndex
  by_index words says =
      let shows : printed (names_in text index []) (table_in file).question words ≡ printed (names_said cs) (table_said cs).question words =
      ap (λ (t : Table). printed (names_in text index []) t.question words) table-read ∙ same_by_index text index cs (index_tells asked) (table_said cs).question words in
      subst (λ (t : List ℕ). SaysTheAnswer cs t words) (sym shows) says

  answered-printed : Within (table_in file) → (rules : Profile) (bound : ℕ) → bound ≤ 32 → (words : List ℕ) → Answered (over rules (table_in file) bound) words
      → SaidByIndex text index file cs words
  answered-printed within rules bound low words x = by_index words (answered_said text cs asked.says (table_in file) table-read within rules bound low words x)

found_answered : {S : Setting} {budget room : ℕ} {g : Given} → SearchSays S budget room g → g.outcome.status ≡ 0 → Answered S g.answer
found_answered (ran_out s l) z = absurd (omega arith)
found_answered (none_found s l) z = absurd (omega arith)
found_answered (found_fitting {steps} {count = count} s l c a f) z = record { steps = steps; closed = c; count = count; answers = a }
found_answered (found_too_long s l c a f) z = absurd (omega arith)

refused_status : (why : Refusal) → status_of why ≡ 0 → ⊥
refused_status malformed z = omega arith
refused_status not_allowed z = omega arith
refused_status (not_unified a_clash) z = omega arith
refused_status (not_unified a_circle) z = omega arith
refused_status leaves_open z = omega arith

accepted_answered : {S : Setting} {offered : List ℕ} {room : ℕ} {g : Given} → CheckSays S offered room g → g.outcome.status ≡ 0 → Answered S g.answer
accepted_answered (not_closed {why} k) z = absurd (refused_status why z)
accepted_answered {S} {offered} (closed_fitting {x} {count} k a f) z =
    let d = accepted_closed S k in
    record {
      steps = read_steps S.profile offered;
      closed = record { tableau = x; made = d.0; no_leaf_open = d.1; unifiable = d.2 };
      count = count;
      answers = a;
    }
accepted_answered (closed_too_long k a f) z = absurd (omega arith)

pub found_is_printed : FoundIsPrinted
unfolding FoundIsPrinted
found_is_printed text index cs a asked ok z =
    answered-printed asked (accepted_within a.file ok.good_file) every_leaf a.bound ok.low_bound (search_call a).answer (found_answered (search_says a ok) z)

-- what holds of every answer found at a bound holds of the one found at the smallest
module _ (search : ℕ → ℕ → Given) (P : List ℕ → Type 0) (limit : ℕ) (each : (bound budget : ℕ) → bound ≤ limit → (search bound budget).outcome.status ≡ 0 → P (search bound budget).answer) where
  at-smallest : (budget more bound used : ℕ) → bound + more ≤ suc limit → (from_bound search budget bound more used).given.outcome.status ≡ 0
      → P (from_bound search budget bound more used).given.answer
  unfolding from_bound
  at-smallest budget zero bound used h z = absurd (omega arith)
  at-smallest budget (suc more) bound used h z =
      go (eqb (search bound (budget - used)).outcome.status 10) z (at-smallest budget more (suc bound) (used + (search bound (budget - used)).outcome.tries) (omega arith))
    where
      go : (b : Bool)
          → (cond b (from_bound search budget (suc bound) more (used + (search bound (budget - used)).outcome.tries)) (ends_at bound used (search bound (budget - used)))).given.outcome.status ≡ 0
          → ((from_bound search budget (suc bound) more (used + (search bound (budget - used)).outcome.tries)).given.outcome.status ≡ 0
          → P (from_bound search budget (suc bound) more (used + (search bound (budget - used)).outcome.tries)).given.answer)
          → P (cond b (from_bound search budget (suc bound) more (used + (search bound (budget - used)).outcome.tries)) (ends_at bound used (search bound (budget - used)))).given.answer
      go true e next = next e
      go false e next = each bound (budget - used) (omega arith) e

pub smallest_in_names : SmallestInNames
unfolding SmallestInNames
smallest_in_names text cs a says holds ok z =
    let call = call_accepted a ok in
    subst (λ (g : LeastGiven). SaysTheAnswer cs (printed (names_said cs) (table_said cs).question g.given.answer) g.given.answer) (sym call)
    (at-smallest (search_at a) (λ words. SaysTheAnswer cs (printed (names_said cs) (table_said cs).question words) words) a.bound
    (λ bound budget low found.
    answered_said text cs says (table_in a.file) holds (accepted_within a.file ok.good_file) every_leaf bound (omega (arith, ok.low_bound)) (search_at a bound budget).answer
    (found_answered (search_says _ (accepted_at a ok bound budget low)) found))
    a.budget (suc a.bound) 0 0 (omega arith) (ap (λ (g : LeastGiven). g.given.outcome.status) (sym call) ∙ z))

pub smallest_is_printed : SmallestIsPrinted
unfolding SmallestIsPrinted SmallestInNames
smallest_is_printed text index cs a asked ok z =
    by_index asked (smallest_call a).given.answer (smallest_in_names text cs a asked.says (table-read asked) ok z)

pub accepted_is_printed : AcceptedIsPrinted
unfolding AcceptedIsPrinted
accepted_is_printed text index cs a asked ok z =
    answered-printed asked (accepted_within a.file ok.good_file) every_leaf a.bound ok.low_bound (check_call a).answer (accepted_answered (check_says a ok) z)
