-- Where no scan stands at the literal of a number in the clause of a number, the table has none.
use mathlib.Core.Path.{◌≡◌, refl}
use mathlib.Core.Bool.{Bool, true, false, cond}
use mathlib.Core.List.{List, [], ◌∷◌, map}
use mathlib.Core.Option.{none, some}
use Prim.Native.Nat.{ℕ, zero, suc, ◌+◌}
use native.Mathlib.Nat.{zero-add}
use native.Mathlib.Omega.{arith}
use lib.ListN.{take, get_elem?}
use lib.Seq.{take-nil}
use borrow.Author.Tests.{eq-eqb}
use Rattle.words.specs.Fields.{kind_of, arity_of, variables_of, literals_of, following_of}
use Rattle.words.proofs.Packed.{plain_kind, literal_plain, clause_plain}
use Rattle.table.specs.Syntax.{Literal, Clause, all_clauses}
use Rattle.table.specs.Reading.{fault, stops_short}
use Rattle.table.specs.Body.{body_fault}
use Rattle.table.specs.Decode.{literals_from, clause_of, parts_from, clauses_of, table_of}
use Rattle.table.specs.Limits.{Readable}
use Rattle.table.proofs.Decoding.{literals_literal, literals_other}
use Rattle.rules.proofs.Lists.{none_some}
use Rattle.index.specs.declared.entries.Scan.{Scan}
use Rattle.std.specs.Prelude.{Option, Some, None}
use Rattle.index.specs.Scanning.{begun, past_word, is_entry, entry_from}
use Rattle.index.proofs.Scans.{past_clause, past_literal, past_other}
use Rattle.engine.proofs.Literals.Sound.{Sound, variable, function, literal, sound_word, sound_clause, first_clause}
use Rattle.engine.proofs.Literals.Places.{table_clauses}

module _ (clause number : ℕ) where
  -- neither in the present clause nor in a later one
  pub record Lacks (n : ℕ) (ws : List ℕ) (s : Scan) : Type 0 where
    pub present : s.clauses ≡ clause + 1 → (j : ℕ) → s.literals + j ≡ number → get_elem? (literals_from (take n ws)) j ≡ none
    pub later : (i : ℕ) → s.clauses + i ≡ clause → (c : Clause) → get_elem? (map clause_of (parts_from n ws)) i ≡ some c → get_elem? c.literals number ≡ none

  -- what is left after a word at which the scan has not stopped
  passed_by : (b : Bool) (s : Scan) (r : Option Scan) → cond b (Some s) r ≡ None → (b ≡ false) × (r ≡ None)
  passed_by true s r e = let z : ◌≡◌ {A = ℕ} 0 1 = cc in absurd (omega arith)
  passed_by false s r e = (refl, e)

  module _ (w : ℕ) (ws : List ℕ) (n : ℕ) (s : Scan) where
    lacks_term : (kind_of w ≡ 3 → ⊥) → (kind_of w ≡ 2 → ⊥) → Lacks n ws (past_word s w) → Lacks (suc n) (w ∷ ws) s
    unfolding parts_from
    lacks_term three two h =
        let past = past_other s w refl three two in
        let k = rw (← past) at h in
        record { present = λ q j e. rw (literals_other w (take n ws) two) (k.present q j e); later = λ i e c m. k.later i e c m }

    passed_over : kind_of w ≡ 2 → is_entry clause number s w ≡ false → s.clauses ≡ clause + 1 → (l : Literal ℕ) (ls : List (Literal ℕ)) (j : ℕ) → s.literals + j ≡ number
        → ((k : ℕ) → s.literals + 1 + k ≡ number → get_elem? ls k ≡ none) → get_elem? (l ∷ ls) j ≡ none
    unfolding is_entry
    passed_over two other q l ls zero e further =
        let same : s.literals ≡ number = omega arith in
        let here : true ≡ false =
        rw (eq-eqb (kind_of w) 2 two, eq-eqb s.clauses (clause + 1) q, eq-eqb s.literals number same) at other
        in
        let z : ◌≡◌ {A = ℕ} 0 1 = cc in absurd (omega arith)
    passed_over two other q l ls (suc j) e further = further j (omega arith)

    lacks_literal : kind_of w ≡ 2 → is_entry clause number s w ≡ false → Lacks n ws (past_word s w) → Lacks (suc n) (w ∷ ws) s
    unfolding parts_from
    lacks_literal two other h =
        let past = past_literal s w refl (λ p. omega arith) two in
        let k = rw (← past) at h in
        record {
          present =
              λ q j e. rw (literals_literal w (take n ws) two) (passed_over two other q _ (literals_from (take n ws)) j e (λ m d. k.present q m d));
          later = λ i e c m. k.later i e c m;
        }

  lacks_clause : (w : ℕ) (ws : List ℕ) (s : Scan) → kind_of w ≡ 3 → Lacks (following_of w) ws (past_word s w) → Lacks 0 (w ∷ ws) s
  unfolding parts_from literals_from clause_of
  lacks_clause w ws s three h =
      let past = past_clause s w refl three in
      let k = rw (← past) at h in
      record { present = λ q j e. refl; later = there k }
    where
      there : Lacks (following_of w) ws (record { at = s.at + 1; clauses = s.clauses + 1; start = s.at; literals = 0 })
          → (i : ℕ) → s.clauses + i ≡ clause → (c : Clause) → get_elem? (map clause_of (parts_from 0 (w ∷ ws))) i ≡ some c → get_elem? c.literals number ≡ none
      there k zero e c m =
          let same : clause_of (w ∷ take (following_of w) ws) ≡ c = cc in
          rw (← same) (k.present (omega arith) number (zero-add number))
      there k (suc i) e c m = k.later i (omega arith) c m

  abbrev Lacking : List ℕ → Type 0
  Lacking ws =
      (n v l t place at : ℕ) (s : Scan) → fault v l t place (take n ws) ≡ none → body_fault at n ws ≡ none → entry_from clause number s ws ≡ None → Lacks n ws s

  lacking_sound : (v place w : ℕ) (ws : List ℕ) (n : ℕ) {l t : ℕ} → Lacking ws → Sound v place w (take n ws) l t → (at : ℕ) (s : Scan) → body_fault at n ws ≡ none
      → is_entry clause number s w ≡ false → entry_from clause number (past_word s w) ws ≡ None → Lacks (suc n) (w ∷ ws) s
  lacking_sound v place w ws n more (variable {l} {t} k e) at s b other d =
      lacks_term w ws n s (λ p. omega arith) (λ p. omega arith) (more n v l t (place + 1) at (past_word s w) e b d)
  lacking_sound v place w ws n more (function {l} {t} k e) at s b other d =
      lacks_term w ws n s (λ p. omega arith) (λ p. omega arith) (more n v l (arity_of w + t) (place + 1) at (past_word s w) e b d)
  lacking_sound v place w ws n more (literal {l} fine e) at s b other d =
      lacks_literal w ws n s (plain_kind 2 16 w (literal_plain w fine)) other (more n v l (arity_of w) (place + 1) at (past_word s w) e b d)

  lacking : (ws : List ℕ) → Lacking ws
  unfolding entry_from parts_from literals_from body_fault
  lacking [] n v l t place at s e b d =
      record { present = λ q j p. rw (take-nil n); later = λ i p c m. absurd (none_some m) }
  lacking (w ∷ ws) (suc n) v l t place at s e b d =
      let gone = passed_by (is_entry clause number s w) s (entry_from clause number (past_word s w) ws) d in
      lacking_sound v place w ws n (lacking ws) (sound_word v place w (take n ws) l t e) (at + 1) s b gone.0 gone.1
  lacking (w ∷ ws) zero v l t place at s e b d =
      let gone = passed_by (is_entry clause number s w) s (entry_from clause number (past_word s w) ws) d in
      let first = first_clause w ws at b in
      let sound = sound_clause w ws first.0 in
      lacks_clause w ws s (plain_kind 3 17 w (clause_plain w sound.shaped))
      (lacking ws (following_of w) (variables_of w) (literals_of w) 0 1 (at + 1) (past_word s w) sound.sound first.1 gone.1)

  pub no_entry : (body : List ℕ) → Readable body → entry_from clause number begun body ≡ None
      → (c : Clause) → get_elem? (all_clauses (table_of body)) clause ≡ some c → get_elem? c.literals number ≡ none
  unfolding clauses_of fault stops_short
  no_entry body r d c e =
      (lacking body 0 0 0 0 0 0 begun refl r.sound d).later clause (zero-add clause) c (rw (table_clauses body r) at e)
