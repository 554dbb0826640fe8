-- A body that is read without fault decodes to clauses within the limits, and of 32-bit words it is their encoding.
use mathlib.Core.Path.{◌≡◌, refl, sym, ap, ap₂, ◌∙◌}
use mathlib.Core.Bool.{true}
use mathlib.Core.List.{List, [], ◌∷◌, ◌++◌, map}
use mathlib.Core.Option.{Option, none, some}
use Prim.Native.Nat.{ℕ, zero, suc, ◌+◌, ◌^◌, ◌≤◌, ◌<◌}
use native.Mathlib.Omega.{arith}
use lib.Dec.{leb}
use lib.ListN.{length, take, drop, take-append-drop, length-map}
use lib.Seq.{length-take-le}
use Rattle.words.specs.Fields.{literals_of, variables_of, following_of, restricted_of, clause_shaped, clause_word}
use Rattle.words.proofs.Packed.{bits_small, clause_variables_small, clause_literals_some, clause_word_lem}
use Rattle.table.specs.Syntax.{Terms, nil, ◌then◌, arity, Clause, all_clauses}
use Rattle.table.specs.Encode.{terms_words, literals_words, clause_words, clauses_words, body_words}
use Rattle.table.specs.Reading.{clause_fits, fault, clause_fault}
use Rattle.table.specs.Body.{reading, body_fault, starts}
use Rattle.table.specs.Decode.{terms_from, literals_from, clause_of, parts_from, clauses_of, with_question, as_table, table_of}
use Rattle.table.specs.Limits.{Each, ClauseWithin, Within, Words, Readable}
use Rattle.table.proofs.Bools.{and_left, cond_none}
use Rattle.table.proofs.Bodies.{reading_none, sound_fits}
use Rattle.table.proofs.Decoding.{Decoded, decoded}

no_terms : (ts : Terms ℕ) → arity ts ≡ 0 → ts ≡ nil
unfolding arity
no_terms nil e = refl
no_terms (t then ts) e = absurd (omega arith)

pub each_take : {A : Type 0} (P : A → Type 0) (n : ℕ) (xs : List A) → Each P xs → Each P (take n xs)
unfolding Each
each_take P zero xs h = tt
each_take P (suc n) [] h = tt
each_take P (suc n) (x ∷ xs) h = (h.0, each_take P n xs h.1)

-- a clause that has no fault is within the limits, and of 32-bit words it is the encoding of what it decodes to
module _ (w : ℕ) (ws : List ℕ) (sound : clause_fault w ws ≡ none) where
  shaped : clause_shaped w ≡ true
  unfolding clause_fault
  shaped = and_left _ (leb (following_of w) (length ws)) (cond_none _ _ 0 sound).0

  following : Decoded (variables_of w) (literals_of w) 0 (take (following_of w) ws)
  unfolding clause_fault
  following = decoded (take (following_of w) ws) (literals_of w) 0 1 (cond_none (clause_fits w ws) _ 0 sound).1

  no-terms-before : terms_words (terms_from (take (following_of w) ws)) ++ literals_words (literals_from (take (following_of w) ws)) ≡ literals_words (literals_from (take (following_of w) ws))
  unfolding terms_words
  no-terms-before =
      ap (λ (ts : Terms ℕ). terms_words ts ++ literals_words (literals_from (take (following_of w) ws))) (no_terms (terms_from (take (following_of w) ws)) following.arities)

  own_count : length (literals_words (literals_from (take (following_of w) ws))) ≡ following_of w
  own_count =
      sym (following.size ∙ ap (λ (xs : List ℕ). length xs) no-terms-before) ∙ length-take-le (following_of w) ws (sound_fits w ws sound)

  pub clause_encoded : Words (w ∷ ws) → clause_words (clause_of (w ∷ take (following_of w) ws)) ≡ w ∷ take (following_of w) ws
  unfolding clause_words clause_of Each
  clause_encoded small =
      ap₂ (λ (x : ℕ) (xs : List ℕ). x ∷ xs)
      (ap₂ (λ (l f : ℕ). clause_word (restricted_of w) l (variables_of w) f) following.count own_count ∙ sym (clause_word_lem w shaped small.0))
      (sym (following.words (each_take (λ (x : ℕ). x < 2 ^ 32) (following_of w) ws small.1) ∙ no-terms-before))

  pub clause_within : ClauseWithin (clause_of (w ∷ take (following_of w) ws))
  unfolding clause_of
  clause_within = record {
    some = omega (arith, following.count, clause_literals_some w shaped);
    few = omega (arith, following.count, bits_small 0 3 w);
    variables = clause_variables_small w shaped;
    follow = omega (arith, own_count, bits_small 8 8 w);
    literals = following.literals;
  }

-- so is a body, from the next clause on
pub record Parts (passing : ℕ) (ws : List ℕ) : Type 0 where
  pub words : Words ws → clauses_words (map clause_of (parts_from passing ws)) ≡ drop passing ws
  pub within : Each ClauseWithin (map clause_of (parts_from passing ws))

clause_part : (w : ℕ) (ws : List ℕ) → clause_fault w ws ≡ none → Parts (following_of w) ws → Parts 0 (w ∷ ws)
unfolding parts_from clauses_words Each
clause_part w ws sound further = record {
  words = λ small.
      ap₂ (λ (xs ys : List ℕ). xs ++ ys) (clause_encoded w ws sound small) (further.words small.1)
      ∙ ap (λ (xs : List ℕ). w ∷ xs) (take-append-drop (following_of w) ws);
  within = (clause_within w ws sound, further.within);
}

rest_read : (o : Option ℕ) (at : ℕ) (further : Unit {0} → Option ℕ) → reading o at further ≡ none → further tt ≡ none
unfolding reading
rest_read (some fault) at further e = cc
rest_read none at further e = e

pub parts_decoded : (ws : List ℕ) (passing at : ℕ) → body_fault at passing ws ≡ none → passing ≤ length ws → Parts passing ws
unfolding body_fault Each parts_from clauses_words
parts_decoded [] zero at e h = record { words = λ small. refl; within = tt }
parts_decoded [] (suc passing) at e h = record { words = λ small. refl; within = tt }
parts_decoded (w ∷ ws) (suc passing) at e h =
    let further = parts_decoded ws passing (at + 1) e (omega arith) in
    record { words = λ small. further.words small.1; within = further.within }
parts_decoded (w ∷ ws) zero at e h =
    let sound = reading_none (clause_fault w ws) at _ e in
    clause_part w ws sound (parts_decoded ws (following_of w) (at + 1) (rest_read (clause_fault w ws) at _ e) (sound_fits w ws sound))

-- as many clauses as places where one begins
pub parts_count : (ws : List ℕ) (at passing : ℕ) → length (parts_from passing ws) ≡ length (starts at passing ws)
unfolding parts_from starts
parts_count [] at passing = refl
parts_count (w ∷ ws) at (suc passing) = parts_count ws (at + 1) passing
parts_count (w ∷ ws) at zero = ap suc (parts_count ws (at + 1) (following_of w))

pub clauses_count : (body : List ℕ) → length (clauses_of body) ≡ length (starts 0 0 body)
unfolding clauses_of
clauses_count body = length-map (parts_from 0 body) clause_of ∙ parts_count body 0 0

-- all clauses of the table made of some clauses
with_question_lem : (c : Clause) (cs : List Clause) → all_clauses (with_question c cs) ≡ c ∷ cs
unfolding all_clauses with_question
with_question_lem c [] = refl
with_question_lem c (d ∷ ds) = ap (λ (xs : List Clause). c ∷ xs) (with_question_lem d ds)

pub all_of_table : (cs : List Clause) → 1 ≤ length cs → all_clauses (as_table cs) ≡ cs
unfolding as_table
all_of_table [] h = absurd (omega arith)
all_of_table (c ∷ cs) h = with_question_lem c cs

pub all_clauses_lem : (body : List ℕ) → 1 ≤ length (starts 0 0 body) → all_clauses (table_of body) ≡ clauses_of body
unfolding table_of
all_clauses_lem body h = all_of_table (clauses_of body) (omega (arith, clauses_count body))

module _ (body : List ℕ) (r : Readable body) where
  parts : Parts 0 body
  parts = parts_decoded body 0 0 r.sound (omega arith)

  pub table_encoded : Words body → body_words (table_of body) ≡ body
  unfolding body_words clauses_of
  table_encoded small = ap (λ (cs : List Clause). clauses_words cs) (all_clauses_lem body r.some) ∙ parts.words small

  pub table_within : Within (table_of body)
  unfolding clauses_of
  table_within = record {
    few = rw (all_clauses_lem body r.some) (omega (arith, clauses_count body, r.few));
    clauses = rw (all_clauses_lem body r.some) parts.within;
  }
