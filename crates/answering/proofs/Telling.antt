-- A result as it is told, one law for each outcome, with premises as the code has them.
use mathlib.Core.Bool.{Bool, true, false}
use mathlib.Core.List.{List, [], map}
use mathlib.Core.Path.{◌≡◌, sym, ap, ◌∙◌}
use Prim.Native.Nat.{ℕ}
use native.Mathlib.Omega.{arith}
use borrow.Author.Tests.{eq-eqb, ne_eqb}
use lib.ListN.{length, take, drop}
use lib.Seq.{take-take}
use Rattle.words.specs.Steps.{step_of}
use Rattle.table.specs.Encode.{clause_words}
use Rattle.table.specs.File.{table_in}
use Rattle.tuples.specs.Tuples.{answers_text}
use Rattle.names.specs.Numbers.{Name}
use Rattle.names.specs.Noting.{names_at}
use Rattle.text.specs.Put.{Put}
use Rattle.text.specs.Quoted.{bytes}
use Rattle.text.proofs.Putting.{begin, finish, then}
use Rattle.naming.specs.Index.{clause_places}
use Rattle.naming.specs.Noting.{Indexed}
use Rattle.naming.specs.Shown.{names_in, shown}
use Rattle.written_proofs.specs.Steps.{steps_text}
use Rattle.assistant.specs.Results.{none_text, ran_out_text, too_long_text, szs_text}
use Rattle.assistant.specs.Results as Lines
use Rattle.answering.specs.declared.Options.{Options}
use Rattle.answering.specs.declared.look.Looked.{Looked}
use Rattle.answering.specs.Results.{paged, answer_text, clauses_text, proof_text, grounds_text, tuples_line, lines_text, found_text, end_text, result_text}
use Rattle.answering.specs.Telling.{words_in, CutTo, FoundIn, Told}
use Rattle.answering.proofs.Wordings.{indexed_same}

module _ {o₀ o₁ o₂ : List ℕ} {n₀ n₁ n₂ : ℕ} where
  -- the answer
  module _ (text index file : List ℕ) (bound tries disjuncts : ℕ) (words : List ℕ) where
    pub answer_is : {atoms : ℕ} → atoms ≡ length (table_in file).question.literals → {variables : List ℕ} → variables ≡ take 0 index
        → {o₃ : List ℕ} {n₃ : ℕ} → Put o₀ n₀ (Lines.found_text disjuncts bound tries) o₁ n₁
        → Put o₁ n₁ (shown (names_in text index variables) atoms 0 [] words) o₂ n₂ → Put o₂ n₂ (bytes "\n") o₃ n₃
        → Put o₀ n₀ (answer_text (words_in text index file) bound tries disjuncts words) o₃ n₃
    unfolding answer_text
    answer_is ea ev p q r = then p (then (rw (ea, ev) at q) r)

  -- the line for other tools after what was said
  module _ (limit : ℕ) (name : List ℕ) {status : ℕ} (bound tries : ℕ) where
    pub none_ended : status ≡ 10 → Put o₀ n₀ (none_text limit tries) o₁ n₁ → Put o₁ n₁ (szs_text (bytes "GaveUp") name) o₂ n₂
        → Put o₀ n₀ (end_text limit name status bound tries) o₂ n₂
    unfolding end_text
    none_ended e p q = rw (eq-eqb status 10 e) (then p q)

    module _ (found : status ≡ 10 → ⊥) where
      pub out_ended : status ≡ 11 → Put o₀ n₀ (ran_out_text bound tries) o₁ n₁ → Put o₁ n₁ (szs_text (bytes "ResourceOut") name) o₂ n₂
          → Put o₀ n₀ (end_text limit name status bound tries) o₂ n₂
      unfolding end_text
      out_ended e p q = rw (ne_eqb status 10 found, eq-eqb status 11 e) (then p q)

      module _ (lasted : status ≡ 11 → ⊥) where
        pub long_ended : status ≡ 16 → Put o₀ n₀ (too_long_text bound tries) o₁ n₁ → Put o₁ n₁ (szs_text (bytes "Unsatisfiable") name) o₂ n₂
            → Put o₀ n₀ (end_text limit name status bound tries) o₂ n₂
        unfolding end_text
        long_ended e p q = rw (ne_eqb status 10 found, ne_eqb status 11 lasted, eq-eqb status 16 e) (then p q)

pub nothing_ended : (limit : ℕ) (name : List ℕ) {status : ℕ} (bound tries : ℕ) → (status ≡ 10 → ⊥) → (status ≡ 11 → ⊥) → (status ≡ 16 → ⊥)
    → (out : List ℕ) (at : ℕ) → Put out at (end_text limit name status bound tries) out at
unfolding end_text
nothing_ended limit name {status} bound tries a b c out at = rw (ne_eqb status 10 a, ne_eqb status 11 b, ne_eqb status 16 c) (finish (begin out at []))

pub ruleset end_laws = (none_ended, out_ended, long_ended, nothing_ended)

-- the proof, where it is wanted
pub no_proof : {wanted : Bool} (ns : List Name) (steps : List ℕ) → wanted ≡ false → (out : List ℕ) (at : ℕ) → Put out at (proof_text wanted ns steps) out at
unfolding proof_text
no_proof ns steps e out at = rw e (finish (begin out at []))

pub proof_cut : {wanted : Bool} (ns : List Name) (steps : List ℕ) → wanted ≡ true → {room page : List ℕ} {n : ℕ} → 262144 ≡ length room → Put room 0 (steps_text ns steps) page n
    → {o₀ o₁ o₂ : List ℕ} {n₀ n₁ n₂ : ℕ} → Put o₀ n₀ (bytes "Proof:\n") o₁ n₁ → CutTo page n o₁ n₁ o₂ n₂ → Put o₀ n₀ (proof_text wanted ns steps) o₂ n₂
unfolding proof_text
proof_cut ns steps e {room} {page} {n} size w p c = rw e (then p (c.told room (steps_text ns steps) (sym size) w))

-- all that is told of what was found
pub page_cut : {whole : List ℕ} {room page : List ℕ} {n : ℕ} → length room ≡ 262144 → Put room 0 whole page n → {out : List ℕ} {at : ℕ} {out' : List ℕ} {r : ℕ}
    → CutTo page n out at out' r → Put out at (paged whole) out' r
page_cut {whole} {room} size w c = c.told room whole size w

pub grounds_are : (wanted : Bool) (text index file steps : List ℕ) → {rest places : List ℕ} → rest ≡ drop 8192 index → places ≡ take 512 rest
    → {o₀ o₁ o₂ : List ℕ} {n₀ n₁ n₂ : ℕ} → Put o₀ n₀ (clauses_text (names_at text places) (table_in file) (map step_of steps)) o₁ n₁
    → Put o₁ n₁ (proof_text wanted (names_at text (take 512 places)) steps) o₂ n₂
    → Put o₀ n₀ (grounds_text wanted (names_at text (clause_places index)) (table_in file) steps) o₂ n₂
unfolding grounds_text
grounds_are wanted text index file steps {rest} {places} er ep p q =
    let e : places ≡ clause_places index = ep ∙ ap (λ (l : List ℕ). take 512 l) er in
    let twice : take 512 places ≡ clause_places index = ap (λ (l : List ℕ). take 512 l) e ∙ take-take 512 512 (drop 8192 index) (omega arith) in
    then (rw e at p) (rw twice at q)

pub found_is : (wanted : Bool) (name text index file : List ℕ) (bound tries disjuncts : ℕ) (steps words : List ℕ)
    → {o₀ o₁ o₂ o₃ : List ℕ} {n₀ n₁ n₂ n₃ : ℕ} → Put o₀ n₀ (paged (answer_text (words_in text index file) bound tries disjuncts words)) o₁ n₁
    → Put o₁ n₁ (grounds_text wanted (names_at text (clause_places index)) (table_in file) steps) o₂ n₂
    → Put o₂ n₂ (lines_text name (words_in text index file) disjuncts words) o₃ n₃
    → Put o₀ n₀ (found_text wanted name (words_in text index file) bound tries disjuncts steps words) o₃ n₃
unfolding found_text
found_is wanted name text index file bound tries disjuncts steps words p q r = then p (then q r)

-- the lines for other tools
pub answers_are : (name text index file : List ℕ) {disjuncts d : ℕ} (words : List ℕ) → d ≡ disjuncts → {own : List ℕ} → own ≡ clause_words (table_in file).question
    → {o₀ o₁ : List ℕ} {n₀ n₁ : ℕ} → Put o₀ n₀ (answers_text name (names_in text index []) d own words) o₁ n₁
    → Put o₀ n₀ (tuples_line name (words_in text index file) disjuncts words) o₁ n₁
unfolding tuples_line
answers_are name text index file words e q p = rw (e, q) at p

pub lines_are : (name text index file : List ℕ) (disjuncts : ℕ) (words : List ℕ) {room page : List ℕ} {n : ℕ} {o₀ o₁ o₂ : List ℕ} {n₀ n₁ n₂ : ℕ}
    → Put o₀ n₀ (szs_text (bytes "Unsatisfiable") name) o₁ n₁ → length room ≡ 262144
    → Put room 0 (tuples_line name (words_in text index file) disjuncts words) page n → CutTo page n o₁ n₁ o₂ n₂
    → Put o₀ n₀ (lines_text name (words_in text index file) disjuncts words) o₂ n₂
unfolding lines_text
lines_are name text index file disjuncts words {room} p size w c = then p (c.told room (tuples_line name (words_in text index file) disjuncts words) size w)

-- in the names of the text
pub found_told : (wanted : Bool) (name file : List ℕ) {text index : List ℕ} {made : Bool} → Indexed text index made → (l : Looked) (steps words : List ℕ)
    → {out : List ℕ} {at : ℕ} {out' : List ℕ} {r : ℕ}
    → Put out at (found_text wanted name (words_in text index file) l.bound l.tries l.outcome.disjuncts steps words) out' r
    → FoundIn wanted name text file l steps words out at out' r
found_told wanted name file i l steps words p = record {
  told = λ cs a e. rw (indexed_same file i cs a e wanted name l.bound l.tries l.outcome.disjuncts steps words) at p;
}

-- by the status of the last search
module _ (o : Options) (name text file : List ℕ) (l : Looked) (steps words : List ℕ) {out : List ℕ} {at : ℕ} {out' : List ℕ} {r : ℕ} where
  pub told_found : l.outcome.status ≡ 0 → FoundIn o.proof name text file l steps words out at out' r → Told o name text file l steps words out at out' r
  unfolding result_text
  told_found e f = record { told = λ cs a t. rw (eq-eqb l.outcome.status 0 e) (f.told cs a t) }

  pub told_ended : (l.outcome.status ≡ 0 → ⊥) → Put out at (end_text o.limit name l.outcome.status l.bound l.tries) out' r
      → Told o name text file l steps words out at out' r
  unfolding result_text
  told_ended n p = record { told = λ cs a t. rw (ne_eqb l.outcome.status 0 n) p }

pub ruleset told_laws = (told_found, told_ended)
