-- All that is written of a text, with premises as the code has them.
use mathlib.Core.Bool.{Bool, true, false, cond}
use mathlib.Core.List.{List}
use mathlib.Core.Path.{◌≡◌, refl, ap, ◌∙◌}
use Prim.Native.Nat.{ℕ, zero, suc, ◌+◌, ◌-◌, ◌≤◌, ◌<◌}
use native.Mathlib.Omega.{arith}
use lib.Dec.{eqb}
use lib.ListN.{length, take, drop}
use lib.Seq.{take-append_seam}
use Rattle.table.specs.Encode.{file_words}
use Rattle.table.specs.File.{judge, table_in}
use Rattle.clausetext.specs.Syntax.{Clause}
use Rattle.clausetext.specs.Texts.{Verdict, Says, questions, Verdicts}
use Rattle.clausetext.proofs.Judgement.{only_verdict}
use Rattle.tptp.specs.Said.{table_said}
use Rattle.tptp.specs.declared.TextRead.{TextRead}
use Rattle.tptp.specs.Reads.{Fits, Denied, Reads, wrong, fine}
use Rattle.tptp.specs.Reads as Reading
use Rattle.tptp.specs.Promises.{FileAccepted}
use Rattle.tptp.proofs.Promises.{file_accepted_as_said}
use Rattle.text.specs.Put.{Put}
use Rattle.text.specs.Quoted.{bytes}
use Rattle.hukolearu.specs.Calls.{Given}
use Rattle.asking.specs.Program.{asked}
use Rattle.asking.proofs.Given.{Counted, asked_counted, Short, asked_short}
use Rattle.answering.specs.declared.Options.{Options}
use Rattle.answering.specs.declared.look.Looked.{Looked}
use Rattle.answering.specs.Refusing.{counted, questions_in, Refused}
use Rattle.answering.specs.Looking.{up_to, look_from, looked, Tells, Searchable}
use Rattle.answering.specs.Results.{said_in, result_text}
use Rattle.answering.specs.Telling.{Holds, as_looked, Told, Answered}
use Rattle.answering.specs.Asking.{SaysOf, AskSays, Asks}

-- what holds of every search holds of the last
look_given : (P : Given → Type 0) (search : ℕ → ℕ → Given) → ((k b : ℕ) → P (search k b)) → (budget bound more used : ℕ) → P (look_from search budget bound more used).given
unfolding look_from
look_given P search h budget bound zero used = h bound (budget - used)
look_given P search h budget bound (suc more) used =
    go (eqb (search bound (budget - used)).outcome.status 10) (look_given P search h budget (suc bound) more (used + (search bound (budget - used)).outcome.tries))
  where
    go : (b : Bool) → P (look_from search budget (suc bound) more (used + (search bound (budget - used)).outcome.tries)).given
        → P (cond b (look_from search budget (suc bound) more (used + (search bound (budget - used)).outcome.tries)) (up_to bound used (search bound (budget - used)))).given
    go true ih = ih
    go false ih = h bound (budget - used)

module _ (file : List ℕ) (limit budget : ℕ) where
  looked-counted : Counted (looked file limit budget).given
  unfolding looked
  looked-counted = look_given Counted (asked file) (λ k b. asked_counted file k b) budget 0 limit 0

  looked-short : Short (looked file limit budget).given
  unfolding looked
  looked-short = look_given Short (asked file) (λ k b. asked_short file k b) budget 0 limit 0

-- a file that is searched
pub searchable : {file : List ℕ} {limit : ℕ} {proof answer work : List ℕ} → (judge file).status ≡ 0 → limit ≤ 32 → 199 ≡ length proof → 4096 ≡ length answer → 16384 ≡ length work
    → Searchable file limit proof answer work
searchable ok low p a w = record { accepted = ok; low = low; proof_room = p; answer_room = a; work_room = w }

module _ (file : List ℕ) (limit budget : ℕ) {l : Looked} {proof proof' answer answer' : List ℕ} (t : Tells (looked file limit budget) l proof proof' answer answer')
    {s w : ℕ} (es : s ≡ l.outcome.proof) (ew : w ≡ l.outcome.answer) {steps words : List ℕ} (ets : steps ≡ take s proof') (etw : words ≡ take w answer') where
  abbrev g : Given
  g = (looked file limit budget).given

  steps_are : steps ≡ g.proof
  steps_are =
      ets
      ∙ rw (es, t.numbers, (looked-counted file limit budget).steps, t.steps) (take-append_seam g.proof (drop (length g.proof) proof))

  words_are : words ≡ g.answer
  words_are =
      etw
      ∙ rw (ew, t.numbers, (looked-counted file limit budget).words, t.words) (take-append_seam g.answer (drop (length g.answer) answer))

  pub answer_holds : (judge file).status ≡ 0 → Holds file steps words
  answer_holds ok = rw (steps_are, words_are) (record {
    accepted = ok;
    few_steps = (looked-short file limit budget).steps;
    few_words = (looked-short file limit budget).words;
  })

  same-looked : as_looked l steps words ≡ looked file limit budget
  same-looked = rw (t.bound, t.tries, t.numbers, steps_are, words_are)

-- the question of a file put
pub answer_told : (o : Options) (name text file : List ℕ) {l : Looked} {proof proof' answer answer' : List ℕ}
    → Tells (looked file o.limit o.budget) l proof proof' answer answer'
    → {s w : ℕ} → s ≡ l.outcome.proof → w ≡ l.outcome.answer → {steps words : List ℕ} → steps ≡ take s proof' → words ≡ take w answer'
    → {out out' : List ℕ} {r : ℕ} → Told o name text file l steps words out 0 out' r → Answered o name text file out out' r
answer_told o name text file t es ew ets etw f = record {
  told = λ cs a e. rw (same-looked file o.limit o.budget t es ew ets etw) at (f.told cs a e);
}

-- a text that was read
pub front_accepted : (text : List ℕ) {file left : List ℕ} {read : TextRead} → Reads text file read left → read.status ≡ 0 → {w : ℕ} → w ≡ read.words
    → {front : List ℕ} → front ≡ take w left → (judge front).status ≡ 0
unfolding FileAccepted
front_accepted text (wrong v) z e f = absurd (omega arith)
front_accepted text {file} {left} {read} (fine {cs = cs} h y a) z e f = rw (f, e) (file_accepted_as_said text file read left cs y (fine h y a) z).judged

questions_are : (text : List ℕ) {cs : List Clause} → length text ≤ 65536 → Says text cs → questions_in text ≡ questions cs
unfolding questions_in
questions_are text h y = ap (λ (v : Verdict). counted v) (only_verdict (Verdicts.fine h y))

-- how a text is answered
module _ (o : Options) (name text : List ℕ) {out out' : List ℕ} {r : ℕ} where
  pub ask_unlimited : 32 < o.limit → Put out 0 (bytes "The limit is over 32.\n") out' r → Asks o name text out out' r
  ask_unlimited h p = record { all = bytes "The limit is over 32.\n"; says = AskSays.unlimited h; written = p }

  refused_said : o.limit ≤ 32 → (cs : List Clause) {file left : List ℕ} {read : TextRead} → 16384 ≡ length file → length text ≤ 65536 → Says text cs
      → Reading.Answered cs file read left → (read.status ≡ 0 → ⊥) → Refused name text read out out' r → Asks o name text out out' r
  refused_said low cs room h y (Reading.Answered.unasked a) n p =
      record { all = _; says = AskSays.said low h y (SaysOf.unasked a); written = rw (questions_are text h y) at (p.unasked refl) }
  refused_said low cs room h y (Reading.Answered.over a b) n p =
      record { all = _; says = AskSays.said {cs = cs} low h y (SaysOf.over a (λ f. b (rw (← room) f))); written = p.over (λ z. omega (arith, z)) (λ z. omega (arith, z)) (λ z. omega (arith, z)) h cs y }
  refused_said low cs room h y (Reading.Answered.positive a b c) n p =
      record { all = _; says = AskSays.said {cs = cs} low h y (SaysOf.positive a (rw (← room) at b) c); written = p.positive refl }
  refused_said low cs room h y (Reading.Answered.read a b c) n p = absurd (n refl)

  pub ask_refused : o.limit ≤ 32 → {file left : List ℕ} {read : TextRead} → 16384 ≡ length file → Reads text file read left → (read.status ≡ 0 → ⊥)
      → Refused name text read out out' r → Asks o name text out out' r
  ask_refused low room (wrong v) n p = record { all = _; says = AskSays.wrong low v; written = p.wrong refl }
  ask_refused low room (fine {cs = cs} h y a) n p = refused_said low cs room h y a n p

  answered_said : o.limit ≤ 32 → (cs : List Clause) {file left : List ℕ} {read : TextRead} → 16384 ≡ length file → length text ≤ 65536 → Says text cs
      → Reading.Answered cs file read left → read.status ≡ 0
      → {w : ℕ} → w ≡ read.words → {front : List ℕ} → front ≡ take w left → Answered o name text front out out' r → Asks o name text out out' r
  unfolding FileAccepted
  answered_said low cs room h y (Reading.Answered.unasked x) z e f a = absurd (omega arith)
  answered_said low cs room h y (Reading.Answered.over x b) z e f a = absurd (omega arith)
  answered_said low cs room h y (Reading.Answered.positive x b c) z e f a = absurd (omega arith)
  answered_said low cs {file} {left} room h y (Reading.Answered.read x b c) z {w} e {front} f a =
      let words = file_words (table_said cs) in
      let whole : front ≡ words = f ∙ rw e (take-append_seam words (drop (length words) file)) in
      let fits : Fits (table_said cs) 16384 = rw (← room) at b in
      let table : table_in front ≡ table_said cs = rw (f, e) (file_accepted_as_said text file _ left cs y (fine h y (Reading.Answered.read x b c)) z).table in
      let told = a.told cs (record { limited = h; says = y; one = x; room = 16384; fits = fits }) table in
      record {
        all = result_text o name (said_in cs) (looked words o.limit o.budget);
        says = AskSays.said low h y (SaysOf.answered x fits c);
        written = rw whole at told;
      }

  pub ask_answered : o.limit ≤ 32 → {file left : List ℕ} {read : TextRead} → 16384 ≡ length file → Reads text file read left → read.status ≡ 0
      → {w : ℕ} → w ≡ read.words → {front : List ℕ} → front ≡ take w left → Answered o name text front out out' r → Asks o name text out out' r
  ask_answered low room (wrong v) z e f a = absurd (omega arith)
  ask_answered low room (fine {cs = cs} h y x) z e f a = answered_said low cs room h y x z e f a

pub ruleset ask_laws = (front_accepted, ask_unlimited, ask_refused, ask_answered)
