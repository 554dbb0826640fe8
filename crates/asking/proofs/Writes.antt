-- What `ask` writes, one law for each outcome, with premises as the code has them.
use mathlib.Core.Bool.{Bool, true, false, ◌&&◌}
use mathlib.Core.List.{List, [], ◌∷◌, ◌++◌}
use mathlib.Core.Path.{◌≡◌, refl, sym, ap, ◌∙◌}
use Prim.Native.Nat.{ℕ, ◌+◌, ◌-◌, ◌*◌, ◌/◌, ◌%◌, ◌≤◌, ◌<◌, min}
use native.Mathlib.Omega.{arith}
use lib.Dec.{eqb, leb}
use lib.ListN.{length, take, drop, get_or}
use lib.Seq.{take_all}
use borrow.Author.Tests.{leb-true}
use Rattle.words.specs.Bytes.{words_of}
use Rattle.text.specs.Put.{Put}
use Rattle.text.proofs.Parts.{part_from}
use Rattle.text.proofs.Fitting.{written_whole}
use Rattle.hukolearu.specs.Calls.{Given, search_call, search_with, at_front}
use Rattle.hukolearu.specs.declared.Outcome.{Outcome}
use Rattle.asking.specs.Report.{report_text}
use Rattle.asking.specs.Program.{readable, asked, said_of, given_text, ask_text}
use Rattle.asking.proofs.Given.{Counted, asked_counted}
use Rattle.asking.proofs.Fitting.{text_fits}

front_of : (words rest : List ℕ) → take (length words) (words ++ rest) ≡ words
front_of [] rest = refl
front_of (w ∷ words) rest = ap (λ (l : List ℕ). w ∷ l) (front_of words rest)

asked_is : (file : List ℕ) (bound budget : ℕ) (proof answer work : List ℕ) → 199 ≡ length proof → 4096 ≡ length answer → 16384 ≡ length work
    → search_call (search_with file bound budget proof answer work) ≡ asked file bound budget
unfolding asked
asked_is file bound budget proof answer work lp la lw = rw (← lp, ← la, ← lw)

-- a search: what stands at the front of the buffers is all that it gave
module _ (file : List ℕ) (bound budget : ℕ) {out out' : List ℕ} {next : ℕ} where
  given-written : (g : Given) → Counted g → {o : Outcome} → o ≡ g.outcome → (proof answer : List ℕ) {steps words : List ℕ}
      → steps ≡ take o.proof (at_front g.proof proof) → words ≡ take o.answer (at_front g.answer answer)
      → Put out 0 (report_text o.status o.place o.tries o.disjuncts steps words) out' next → Put out 0 (given_text g) out' next
  unfolding given_text
  given-written g c {o} e proof answer {steps} {words} es ew p =
      let s : steps ≡ g.proof = es ∙ rw (e, c.steps) (front_of g.proof (drop (length g.proof) proof)) in
      let w : words ≡ g.answer = ew ∙ rw (e, c.words) (front_of g.answer (drop (length g.answer) answer)) in
      rw (e, s, w) at p

  pub search_writes : (proof answer work : List ℕ) → 199 ≡ length proof → 4096 ≡ length answer → 16384 ≡ length work
      → {o : Outcome} → o ≡ (search_call (search_with file bound budget proof answer work)).outcome
      → {p a : List ℕ} → p ≡ at_front (search_call (search_with file bound budget proof answer work)).proof proof
      → a ≡ at_front (search_call (search_with file bound budget proof answer work)).answer answer
      → {s w : ℕ} → s ≡ o.proof → w ≡ o.answer → {steps words : List ℕ} → steps ≡ take s p → words ≡ take w a
      → Put out 0 (report_text o.status o.place o.tries o.disjuncts steps words) out' next
      → Put out 0 (given_text (asked file bound budget)) out' next
  search_writes proof answer work lp la lw {o} e {p} {a} ep ea es ew ets etw q =
      let same = asked_is file bound budget proof answer work lp la lw in
      given-written (asked file bound budget) (asked_counted file bound budget) (rw same at e) proof answer
      (ets ∙ rw (es, ep, same)) (etw ∙ rw (ew, ea, same)) q

-- no words, or too few
module _ {out out' : List ℕ} {next : ℕ} where
  pub refusal_writes : Put out 0 (report_text 4 0 0 0 [] []) out' next → Put out 0 (given_text (said_of [])) out' next
  unfolding given_text said_of
  refusal_writes p = p

  pub few_words : (input : List ℕ) → length input < 2 → Put out 0 (given_text (said_of [])) out' next → Put out 0 (given_text (said_of input)) out' next
  unfolding said_of
  few_words [] h p = p
  few_words (a ∷ []) h p = p
  few_words (a ∷ b ∷ file) h p = absurd (omega arith)

  pub bound_and_budget : (input : List ℕ) → 2 ≤ length input
      → Put out 0 (given_text (asked (take (length input - 2) (drop 2 input)) (get_or input 0 0) (get_or input 1 0))) out' next
      → Put out 0 (given_text (said_of input)) out' next
  unfolding said_of
  bound_and_budget [] h p = absurd (omega arith)
  bound_and_budget (a ∷ []) h p = absurd (omega arith)
  bound_and_budget (a ∷ b ∷ file) h p = rw (part_from 2 (a ∷ b ∷ file)) at p

-- bytes as words
words_length : (bs : List ℕ) → (length (words_of bs) * 4 ≤ length bs) × (length bs < length (words_of bs) * 4 + 4)
unfolding words_of
words_length [] = (omega arith, omega arith)
words_length (a ∷ []) = (omega arith, omega arith)
words_length (a ∷ b ∷ []) = (omega arith, omega arith)
words_length (a ∷ b ∷ c ∷ []) = (omega arith, omega arith)
words_length (a ∷ b ∷ c ∷ d ∷ bs) = let h = words_length bs in (omega arith, omega arith)

both : (b c : Bool) → (b && c) ≡ true → c ≡ true
both true c e = e
both false c e = let z : ◌≡◌ {A = ℕ} 0 1 = cc in absurd (omega arith)

readable_short : (n : ℕ) → readable n ≡ true → n ≤ 64008
unfolding readable
readable_short n e = leb-true n 64008 (both (leb 8 n) _ (both (eqb (n % 4) 0) _ (regroup (eqb (n % 4) 0) (leb 8 n) (leb n 64008) e)))
  where
    regroup : (a b c : Bool) → (a && b && c) ≡ true → (a && (b && c)) ≡ true
    regroup true b c e = e
    regroup false b c e = e

front_again : (n : ℕ) (words rest : List ℕ) → length words ≡ n → take n (take n words ++ rest) ≡ words
front_again n words rest e = rw (take_all n words (omega arith), ← e) (front_of words rest)

module _ (input : List ℕ) {q : Bool} (e : q ≡ readable (length input)) {out out' : List ℕ} {next : ℕ} where
  pub unreadable : q ≡ false → Put out 0 (given_text (said_of [])) out' next → Put out 0 (ask_text input) out' next
  unfolding ask_text
  unreadable f p = rw (sym e ∙ f) p

  pub read_words : q ≡ true → (space : List ℕ) → 16384 ≡ length space → {n : ℕ} → n ≡ min (length input / 4) (length space)
      → {space' : List ℕ} → space' ≡ take n (words_of input) ++ drop n space → {words : List ℕ} → words ≡ take n space'
      → Put out 0 (given_text (said_of words)) out' next → Put out 0 (ask_text input) out' next
  unfolding ask_text
  read_words t space room {n} en {space'} es {words} ew p =
      let r : readable (length input) ≡ true = sym e ∙ t in
      let l : length (words_of input) ≡ n = omega (arith, words_length input, readable_short (length input) r) in
      let w : words ≡ words_of input = ew ∙ rw es (front_again n (words_of input) (drop n space) l) in
      rw r (rw w at p)

-- the whole of it
pub whole_text : (input : List ℕ) {out left : List ℕ} {next : ℕ} → Put out 0 (ask_text input) left next
    → 65536 ≤ length out → take next left ≡ ask_text input
whole_text input p h = written_whole p (omega (arith, text_fits input))
