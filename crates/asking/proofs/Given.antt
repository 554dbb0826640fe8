-- What a search with the program's buffers gives: its numbers count its words, and there are few of them.
use mathlib.Core.List.{List, [], ◌∷◌, map}
use mathlib.Core.Logic.{◌⊎◌, inl, inr, ◌≢◌}
use mathlib.Core.Path.{◌≡◌, refl, sym, ◌∙◌}
use Prim.Native.Nat.{ℕ, suc, ◌+◌, ◌*◌, ◌≤◌, ◌<◌}
use native.Mathlib.Decide.{dec_lt, ℕ_discrete}
use native.Mathlib.Nat.{mul-le-mul_left, suc-mul}
use native.Mathlib.Omega.{arith}
use borrow.Author.Tests.{lt-ltb, le-ltb, ne_eqb}
use lib.ListN.{length, length-append, length-map}
use Rattle.words.specs.Steps.{step_word}
use Rattle.table.specs.Encode.{literal_words, literals_words}
use Rattle.table.specs.File.{judge, table_in}
use Rattle.table.specs.Limits.{Within}
use Rattle.table.specs.Syntax.{Literal, literal_under, Clause, Table}
use Rattle.table.proofs.AcceptedTable.{accepted_within}
use Rattle.rules.specs.Answer.{positive, disjunct, per_copy, same_disjunct, firsts_after_by, firsts_by, disjuncts, joined, numbered, answer_words}
use Rattle.rules.specs.Setting.{Setting, base}
use Rattle.rules.specs.Substitution.{Variable, Substitution}
use Rattle.rules.specs.Tableau.{Tableau, fresh, copy_of}
use Rattle.rules.specs.Verdict.{Answers}
use Rattle.rules.proofs.Demands.{proof_is_short}
use Rattle.rules.proofs.Every.{All, end, ◌also◌}
use Rattle.rules.proofs.Firsts.{firsts_all}
use Rattle.rules.proofs.Variables.{question_within}
use Rattle.hukolearu.specs.Calls as Calls
use Rattle.hukolearu.specs.Calls.{Given, search_call}
use Rattle.hukolearu.specs.Door.{behind, first_fault}
use Rattle.hukolearu.specs.Says.{SearchAccepted, SearchSays, ran_out, none_found, found_fitting, found_too_long}
use Rattle.hukolearu.proofs.CallDemands.{search_says}
use Rattle.asking.specs.Program.{question, asked}

pub data Refused : Given → Type 0 where
  refusal : (status place tries : ℕ) → status ≢ 0 → Refused (Calls.refused status place tries)

abbrev pub Says : List ℕ → ℕ → ℕ → Type 0
Says file bound budget =
    SearchAccepted (question file bound budget) × SearchSays (base (table_in file) bound) budget 4096 (asked file bound budget)

-- refused before it began, or all that an accepted search may say
pub asked_says : (file : List ℕ) (bound budget : ℕ) → Refused (asked file bound budget) ⊎ Says file bound budget
unfolding asked search_call behind first_fault
asked_says file bound budget = go (dec_lt 32 bound) (ℕ_discrete (judge file).status 0)
  where
    go : Dec (32 < bound) → Dec ((judge file).status ≡ 0)
        → Refused (search_call (question file bound budget)) ⊎ (SearchAccepted (question file bound budget) × SearchSays (base (table_in file) bound) budget 4096 (search_call (question file bound budget)))
    go (yes l) d = inl (rw (lt-ltb 32 bound l) (refusal 3 0 0 (λ e. omega arith)))
    go (no n) (no m) =
        let l : bound ≤ 32 = omega arith in
        inl (rw (le-ltb 32 bound l, ne_eqb (judge file).status 0 m) (refusal (judge file).status (judge file).place 0 m))
    go (no n) (yes e) =
        let a : SearchAccepted (question file bound budget) = record { enough_work = omega arith; enough_proof = omega arith; low_bound = omega arith; good_file = e } in
        inr (a, search_says (question file bound budget) a)

-- its numbers count its words
pub record Counted (g : Given) : Type 0 where
  pub steps : g.outcome.proof ≡ length g.proof
  pub words : g.outcome.answer ≡ length g.answer

refused_counted : {g : Given} → Refused g → Counted g
refused_counted (refusal status place tries n) = record { steps = refl; words = refl }

says_counted : {S : Setting} {budget room : ℕ} {g : Given} → SearchSays S budget room g → Counted g
says_counted (ran_out d l) = record { steps = refl; words = refl }
says_counted (none_found d l) = record { steps = refl; words = refl }
says_counted (found_fitting {steps} d l c a r) = record { steps = sym (length-map steps step_word); words = refl }
says_counted (found_too_long d l c a r) = record { steps = refl; words = refl }

pub asked_counted : (file : List ℕ) (bound budget : ℕ) → Counted (asked file bound budget)
asked_counted file bound budget = go (asked_says file bound budget)
  where
    go : Refused (asked file bound budget) ⊎ Says file bound budget → Counted (asked file bound budget)
    go (inl r) = refused_counted r
    go (inr s) = says_counted s.1

-- every disjunct has as many literals as the question, and every literal a word or more
literals_long : (ls : List (Literal ℕ)) → length ls ≤ length (literals_words ls)
unfolding literals_words literal_words
literals_long [] = omega arith
literals_long (l ∷ ls) = omega (arith, literals_long ls, length-append (literal_words l) (literals_words ls))

joined_length : (m : ℕ) {ds : List (List (Literal Variable))} → All (λ d. length d ≡ m) ds → length (joined ds) ≡ length ds * m
unfolding joined
joined_length m end = omega arith
joined_length m (◌also◌ {a = d} {xs = ds} e es) =
    length-append d (joined ds) ∙ rw (joined_length m es, e) (more (length ds))
  where
    more : (n : ℕ) → m + n * m ≡ suc n * m
    more n = rw (suc-mul n m) (omega arith)

copies_long : (σ : Substitution) (question : Clause) (qs : List ℕ) → All (λ d. length d ≡ length question.literals) (map (disjunct σ question) qs)
unfolding disjunct copy_of
copies_long σ question [] = end
copies_long σ question (q ∷ qs) =
    let e : length (map (λ l. literal_under σ (positive l)) (copy_of q question)) ≡ length question.literals =
    length-map (copy_of q question) (λ l. literal_under σ (positive l)) ∙ length-map question.literals (literal_under (fresh q)) in
    e also copies_long σ question qs

pub few_disjuncts : {t : Table} {x : Tableau} {count : ℕ} {words : List ℕ} → 1 ≤ length t.question.literals → Answers t x count words → count ≤ length words
unfolding answer_words numbered disjuncts per_copy firsts_by
few_disjuncts {t} {x} {count} {words} some a =
    let ds = firsts_after_by same_disjunct [] (map (disjunct a.by t.question) x.questions) in
    let all = joined ds in
    let long : length (numbered all) ≤ length words = rw a.written (literals_long (numbered all)) in
    let product : length (numbered all) ≡ length ds * length t.question.literals =
    length-map all _ ∙ joined_length (length t.question.literals) (firsts_all same_disjunct [] _ end (copies_long a.by t.question x.questions)) in
    let least : length ds * 1 ≤ length ds * length t.question.literals = mul-le-mul_left (length ds) some in
    omega (arith, a.counted)

-- and there are few of them
pub record Short (g : Given) : Type 0 where
  pub steps : length g.proof ≤ 199
  pub words : length g.answer ≤ 4096
  pub disjuncts : g.outcome.disjuncts ≤ 4096

refused_short : {g : Given} → Refused g → Short g
refused_short (refusal status place tries n) = record { steps = omega arith; words = omega arith; disjuncts = omega arith }

none_short : {status place tries : ℕ} → Short (Calls.refused status place tries)
none_short = record { steps = omega arith; words = omega arith; disjuncts = omega arith }

says_short : {t : Table} {bound budget : ℕ} {g : Given} → Within t → bound ≤ 32 → SearchSays (base t bound) budget 4096 g → Short g
says_short w b (ran_out d l) = none_short
says_short w b (none_found d l) = none_short
says_short {t} {bound} w b (found_fitting {steps} d l c a r) = record {
  steps = omega (arith, length-map steps step_word, proof_is_short (base t bound) w b steps c);
  words = r;
  disjuncts = omega (arith, few_disjuncts (question_within t w).some a);
}
says_short w b (found_too_long d l c a r) = none_short

pub asked_short : (file : List ℕ) (bound budget : ℕ) → Short (asked file bound budget)
asked_short file bound budget = go (asked_says file bound budget)
  where
    go : Refused (asked file bound budget) ⊎ Says file bound budget → Short (asked file bound budget)
    go (inl r) = refused_short r
    go (inr s) = says_short (accepted_within file s.0.good_file) s.0.low_bound s.1
