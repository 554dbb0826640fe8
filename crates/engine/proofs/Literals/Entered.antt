-- A scan that stands at a literal's word of a readable body enters the literal and the clause that it has counted.
use mathlib.Core.Path.{◌≡◌, refl, sym, ap, ◌∙◌}
use mathlib.Core.List.{List, [], ◌∷◌, ◌++◌}
use mathlib.Core.Logic.{◌⊎◌, inl, inr}
use mathlib.Core.Option.{none, some}
use Prim.Native.Nat.{ℕ, zero, suc, ◌+◌, ◌-◌, ◌≤◌, ◌<◌}
use native.Mathlib.Nat.{add-zero}
use native.Mathlib.Omega.{arith}
use lib.ListN.{length, take, drop, get_or, get_elem?, take-append-drop}
use lib.Seq.{split_at}
use Rattle.words.specs.Fields.{kind_of, arity_of, variables_of, literals_of, following_of}
use Rattle.words.proofs.Packed.{plain_kind, literal_plain, clause_plain}
use Rattle.table.specs.Reading.{fault, stops_short}
use Rattle.table.specs.Body.{body_fault, starts, last_of}
use Rattle.table.specs.Decode.{table_of}
use Rattle.table.specs.Limits.{Readable}
use Rattle.rules.proofs.Lists.{none_some}
use Rattle.index.specs.declared.entries.Scan.{Scan}
use Rattle.tableaux.specs.Leaves.{literal_offsets, offsets_at}
use Rattle.index.specs.Scanning.{begun, past_word, past_words, Standing}
use Rattle.tableaux.specs.Entering.{Enters}
use Rattle.index.proofs.Scans.{past_clause, past_literal, past_other}
use Rattle.engine.proofs.Literals.Sound.{Sound, variable, function, literal, sound_word, SoundClause, sound_clause, first_clause}
use Rattle.engine.proofs.Literals.Places.{place_next, place_own, clause_numbered, asks_last}
use Rattle.engine.proofs.Literals.Offsets.{offsets_literal, offsets_other, literal_at_lem}

-- A literal stands among words of a clause, after so many of them; the scan at it has come so far from where it was before them.
pub record Present (own : List ℕ) (passed : ℕ) (before s : Scan) : Type 0 where
  pub place : s.at ≡ before.at + passed
  pub clause : s.clauses ≡ before.clauses
  pub start : s.start ≡ before.start
  pub number : ℕ
  pub counted : s.literals ≡ before.literals + number
  pub offset : (k : ℕ) → get_elem? (literal_offsets k own) number ≡ some (k + passed)

-- the literal stands in a later clause
pub record Later (f : List ℕ) (n : ℕ) (ws : List ℕ) (before s : Scan) : Type 0 where
  pub index : ℕ
  pub clause : s.clauses ≡ suc (before.clauses + index)
  pub placed : get_elem? (starts before.at n ws) index ≡ some s.start
  pub later : s.start < s.at
  pub offset : get_elem? (offsets_at f s.start) s.literals ≡ some (s.at - s.start)

-- past one word of the same clause, which is no literal's, or is one
module _ {x : ℕ} {own : List ℕ} {passed at clauses start literals : ℕ} {s : Scan} where
  after-term : (kind_of x ≡ 2 → ⊥) → Present own passed (record { at = at + 1; clauses = clauses; start = start; literals = literals }) s
      → Present (x ∷ own) (suc passed) (record { at = at; clauses = clauses; start = start; literals = literals }) s
  after-term other h =
      record {
        place = omega (arith, h.place);
        clause = h.clause;
        start = h.start;
        number = h.number;
        counted = h.counted;
        offset =
            λ k. let z : k + suc passed ≡ k + 1 + passed = omega arith in rw (offsets_other k x own other, z) (h.offset (k + 1));
      }

  after_literal : kind_of x ≡ 2 → Present own passed (record { at = at + 1; clauses = clauses; start = start; literals = literals + 1 }) s
      → Present (x ∷ own) (suc passed) (record { at = at; clauses = clauses; start = start; literals = literals }) s
  after_literal is h =
      record {
        place = omega (arith, h.place);
        clause = h.clause;
        start = h.start;
        number = suc h.number;
        counted = omega (arith, h.counted);
        offset =
            λ k. let z : k + suc passed ≡ k + 1 + passed = omega arith in rw (offsets_literal k x own is, z) (h.offset (k + 1));
      }

-- a literal among the words that follow a clause's own, by the scan past that word
module _ (f after : List ℕ) (at x : ℕ) (ws : List ℕ) (e : drop at f ≡ x ∷ (ws ++ after)) (c : SoundClause x ws) {passed clauses : ℕ} {s : Scan}
    (h : Present (take (following_of x) ws) passed (record { at = at + 1; clauses = clauses; start = at; literals = 0 }) s) where
  entered : get_elem? (offsets_at f s.start) s.literals ≡ some (s.at - s.start)
  entered =
      let come : s.at - s.start ≡ 1 + passed = omega (arith, h.place, h.start) in
      let same : s.literals ≡ h.number = omega (arith, h.counted) in
      rw (come, same, h.start, place_own f after at x ws e c) (h.offset 1)

-- the walk over the words before the literal's
module _ (f after : List ℕ) (w : ℕ) (kind : kind_of w ≡ 2) (post : List ℕ) (s : Scan) where
  abbrev Finds : List ℕ → Type 0
  Finds pre =
      (v l t place n : ℕ) (before : Scan) → s ≡ past_words before pre → drop before.at f ≡ (pre ++ w ∷ post) ++ after
      → fault v l t place (take n (pre ++ w ∷ post)) ≡ none → body_fault before.at n (pre ++ w ∷ post) ≡ none
      → Present (take n (pre ++ w ∷ post)) (length pre) before s ⊎ Later f n (pre ++ w ∷ post) before s

  at_once : (own : List ℕ) → Present (w ∷ own) 0 s s
  at_once own =
      record {
        place = omega arith;
        clause = refl;
        start = refl;
        number = 0;
        counted = omega arith;
        offset = λ k. rw (offsets_literal k w own kind, add-zero);
      }

  module _ (x : ℕ) (pre : List ℕ) (further : Finds pre) (n : ℕ) (before : Scan) (es : s ≡ past_words (past_word before x) pre) (ef : drop before.at f ≡ x ∷ ((pre ++ w ∷ post) ++ after)) where
    abbrev Goal : Type 0
    Goal =
        Present (take (suc n) (x ∷ (pre ++ w ∷ post))) (suc (length pre)) before s ⊎ Later f (suc n) (x ∷ (pre ++ w ∷ post)) before s

    later_on : (other : Scan) → other.at ≡ before.at + 1 → other.clauses ≡ before.clauses → Later f n (pre ++ w ∷ post) other s → Later f (suc n) (x ∷ (pre ++ w ∷ post)) before s
    unfolding starts
    later_on other ea ec h =
        record {
          index = h.index;
          clause = omega (arith, h.clause);
          placed = rw ea at h.placed;
          later = h.later;
          offset = h.offset;
        }

    through_term : (v place l t : ℕ) → (kind_of x ≡ 3 → ⊥) → (kind_of x ≡ 2 → ⊥) → fault v l t place (take n (pre ++ w ∷ post)) ≡ none → body_fault (before.at + 1) n (pre ++ w ∷ post) ≡ none → Goal
    through_term v place l t three two e b =
        let past = past_other before x refl three two in
        elim (further v l t place n _ (rw (← past) at es) (place_next f before.at x ((pre ++ w ∷ post) ++ after) ef) e b)
        [ inl h ↦ inl (after-term two h) | inr h ↦ inr (later_on _ refl refl h) ]

    through : {v place l t : ℕ} → Sound v place x (take n (pre ++ w ∷ post)) l t → body_fault (before.at + 1) n (pre ++ w ∷ post) ≡ none → Goal
    through {v} {place} (variable {l} {t} k e) b = through_term v (place + 1) l t (λ p. omega arith) (λ p. omega arith) e b
    through {v} {place} (function {l} {t} k e) b = through_term v (place + 1) l (arity_of x + t) (λ p. omega arith) (λ p. omega arith) e b
    through {v} {place} (literal {l} fine e) b =
        let is : kind_of x ≡ 2 = plain_kind 2 16 x (literal_plain x fine) in
        let past = past_literal before x refl (λ p. omega arith) is in
        elim (further v l (arity_of x) (place + 1) n _ (rw (← past) at es) (place_next f before.at x ((pre ++ w ∷ post) ++ after) ef) e b)
        [ inl h ↦ inl (after_literal is h) | inr h ↦ inr (later_on _ refl refl h) ]

    into_clause : body_fault before.at 0 (x ∷ (pre ++ w ∷ post)) ≡ none → Later f 0 (x ∷ (pre ++ w ∷ post)) before s
    unfolding starts
    into_clause b =
        let ws = pre ++ w ∷ post in
        let first = first_clause x ws before.at b in
        let sound = sound_clause x ws first.0 in
        let past = past_clause before x refl (plain_kind 3 17 x (clause_plain x sound.shaped)) in
        elim
        (further (variables_of x) (literals_of x) 0 1 (following_of x) _ (rw (← past) at es) (place_next f before.at x (ws ++ after) ef) sound.sound first.1) [
          | inl h ↦ record { index = 0; clause = omega (arith, h.clause); placed = rw h.start; later = omega (arith, h.place, h.start); offset = entered f after before.at x ws ef sound h }
          | inr h ↦ record { index = suc h.index; clause = omega (arith, h.clause); placed = h.placed; later = h.later; offset = h.offset }
        ]

  finds : (pre : List ℕ) → Finds pre
  unfolding past_words body_fault
  finds [] v l t place zero before es ef e b =
      let sound = sound_clause w post (first_clause w post before.at b).0 in
      absurd (omega (arith, plain_kind 3 17 w (clause_plain w sound.shaped)))
  finds [] v l t place (suc n) before es ef e b = inl (rw (← es) (at_once (take n post)))
  finds (x ∷ pre) v l t place (suc n) before es ef e b =
      through x pre (finds pre) n before es ef (sound_word v place x (take n (pre ++ w ∷ post)) l t e) b
  finds (x ∷ pre) v l t place zero before es ef e b = inr (into_clause x pre (finds pre) 0 before es ef b)

module _ (f : List ℕ) (n : ℕ) (fits : n ≤ length f) (r : Readable (take n f)) {s : Scan} (g : Standing (take n f) s) (inside : s.at < length (take n f)) (kind : kind_of (get_or (take n f) s.at 0) ≡ 2) where
  from-later : Later f 0 (take n f) begun s → Enters f (table_of (take n f)) (last_of 0 (starts 0 0 (take n f))) s
  from-later h =
      let number : h.index ≡ s.clauses - 1 = omega (arith, h.clause) in
      let placed : get_elem? (starts 0 0 (take n f)) (s.clauses - 1) ≡ some s.start = rw number at h.placed in
      let numbered = clause_numbered f n fits r (s.clauses - 1) placed in
      record {
        begins = numbered.0;
        later = h.later;
        begun = omega (arith, h.clause);
        clause = numbered.1;
        asks = asks_last (take n f) r (s.clauses - 1) placed;
        offset = h.offset;
        literal = literal_at_lem f s.start numbered.0 s.literals h.offset;
      }

  pub enters : Enters f (table_of (take n f)) (last_of 0 (starts 0 0 (take n f))) s
  unfolding fault stops_short literal_offsets
  enters =
      let pre = take s.at (take n f) in
      let w = get_or (take n f) s.at 0 in
      let post = drop (suc s.at) (take n f) in
      let whole : take n f ≡ pre ++ w ∷ post = split_at (take n f) s.at 0 inside in
      let file : f ≡ (pre ++ w ∷ post) ++ drop n f =
      sym (take-append-drop n f) ∙ ap (λ (l : List ℕ). l ++ drop n f) whole
      in
      elim (finds f (drop n f) w kind post s pre 0 0 0 0 0 begun g.passed file refl (rw whole at r.sound))
      [ inl h ↦ absurd (none_some (h.offset 0)) | inr h ↦ from-later (rw (← whole) at h) ]
