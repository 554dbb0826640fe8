-- The clauses of an accepted body by their places in the file: each begins where the walk over the body says, and decodes to the clause of its number.
use mathlib.Core.Path.{◌≡◌, refl, sym, ap, ◌∙◌}
use mathlib.Core.List.{List, [], ◌∷◌, ◌++◌}
use mathlib.Core.Option.{some}
use Prim.Native.Nat.compare
use Prim.Native.Nat.{ℕ, zero, suc, ◌+◌, ◌≤◌, ◌<◌}
use native.Mathlib.Nat.{add-zero}
use native.Mathlib.Numerals.{add-one}
use native.Mathlib.Omega.{arith}
use lib.Dec.{eqb}
use lib.ListN.{length, take, drop, get_or, get_elem?, length-append, length-drop}
use lib.Seq.{length-take-le, take-append-le, drop-drop, get_or-drop}
use borrow.Author.Tests.{eq-eqb, ne_eqb}
use Rattle.words.specs.Fields.{following_of}
use Rattle.table.specs.Syntax.{Table, all_clauses}
use Rattle.table.specs.Body.{starts, last_of}
use Rattle.table.specs.Decode.{clause_of, clauses_of, table_of}
use Rattle.table.specs.Limits.{Readable}
use Rattle.table.proofs.BodyDecoding.{clauses_count, all_of_table}
use Rattle.table.proofs.Positions.{words_from, StandsAt, stands_at, clauses_by_start}
use Rattle.table.proofs.AcceptedTable.{same_words_lem, sound_in_file}
use Rattle.rules.proofs.Lists.{none_some}
use Rattle.rules.proofs.Lists.{map_some}
use Rattle.unification.specs.State.{own_words, ClauseAt}
use Rattle.engine.proofs.Literals.Sound.{SoundClause}

-- words that begin at a place of a list
module _ (f : List ℕ) (at x : ℕ) (ws : List ℕ) (e : drop at f ≡ x ∷ ws) where
  pub place_word : get_or f at 0 ≡ x
  place_word =
      let same : get_or (drop at f) 0 0 ≡ get_or f at 0 = rw (get_or-drop at f 0 0, add-zero) in
      sym same ∙ rw e

  pub place_next : drop (at + 1) f ≡ ws
  place_next = sym (drop-drop 1 at f) ∙ rw e

  pub place_inside : at < length f
  place_inside = omega (arith, sym (length-drop at f) ∙ ap (λ (l : List ℕ). length l) e)

-- the words of a clause that begins there, where more words come after the body
pub place_own : (f after : List ℕ) (at x : ℕ) (ws : List ℕ) → drop at f ≡ x ∷ (ws ++ after) → SoundClause x ws → own_words f at ≡ x ∷ take (following_of x) ws
unfolding own_words
place_own f after at x ws e c =
    rw (place_word f at x (ws ++ after) e, e, take-append-le (following_of x) ws after c.fits)

-- places rise, so the last place is the last clause's alone
unfoldable Rising : ℕ → List ℕ → Type 0
Rising least [] = Unit {0}
Rising least (x ∷ xs) = (least ≤ x) × Rising (suc x) xs

rising_from : {least more : ℕ} (xs : List ℕ) → least ≤ more → Rising more xs → Rising least xs
unfolding Rising
rising_from [] h r = tt
rising_from (x ∷ xs) h r = (omega (arith, r.0), r.1)

starts_rise : (ws : List ℕ) (n at : ℕ) → Rising at (starts at n ws)
unfolding starts Rising
starts_rise [] n at = tt
starts_rise (w ∷ ws) (suc n) at = rising_from (starts (at + 1) n ws) (omega arith) (starts_rise ws n (at + 1))
starts_rise (w ∷ ws) zero at =
    (omega arith, rising_from (starts (at + 1) (following_of w) ws) (omega arith) (starts_rise ws (following_of w) (at + 1)))

last_above : (x : ℕ) (xs : List ℕ) → Rising (suc x) xs → x ≤ last_of x xs
unfolding Rising last_of
last_above x [] r = omega arith
last_above x (y ∷ xs) r = omega (arith, r.0, last_above y xs r.1)

eqb_suc : (a b : ℕ) → eqb (suc a) (suc b) ≡ eqb a b
eqb_suc a b = rw (compare.suc-suc a b)

last_place : (x : ℕ) (xs : List ℕ) → Rising (suc x) xs → (i : ℕ) {p : ℕ} → get_elem? (x ∷ xs) i ≡ some p → eqb p (last_of x xs) ≡ eqb i (length xs)
unfolding Rising last_of
last_place x [] r zero {p} h = let same : x ≡ p = cc in rw (← same) (eq-eqb x x refl)
last_place x [] r (suc i) h = absurd (none_some h)
last_place x (y ∷ ys) r zero {p} h =
    let same : x ≡ p = cc in
    rw (← same, ne_eqb x (last_of y ys) (λ e. omega (arith, r.0, last_above y ys r.1)), ne_eqb 0 (suc (length ys)) (λ e. omega arith))
last_place x (y ∷ ys) r (suc i) h = last_place y ys r.1 i h ∙ sym (eqb_suc i (length ys))

last_some : (x : ℕ) (xs : List ℕ) → get_elem? (x ∷ xs) (length xs) ≡ some (last_of x xs)
unfolding last_of
last_some x [] = refl
last_some x (y ∷ ys) = last_some y ys

-- the last of places that rise, by its index
module _ {count : ℕ} where
  last-index : (xs : List ℕ) → Rising 0 xs → length xs ≡ suc count → (i : ℕ) {p : ℕ} → get_elem? xs i ≡ some p → eqb p (last_of 0 xs) ≡ eqb i count
  unfolding Rising last_of
  last-index [] r h i e = absurd (omega arith)
  last-index (x ∷ xs) r h i e = let same : length xs ≡ count = omega arith in last_place x xs r.1 i e ∙ rw same

  last-placed : (xs : List ℕ) → length xs ≡ suc count → get_elem? xs count ≡ some (last_of 0 xs)
  unfolding last_of
  last-placed [] h = absurd (omega arith)
  last-placed (x ∷ xs) h = let same : count ≡ length xs = omega arith in rw same (last_some x xs)

seam : {A : Type 0} (xs : List A) (x : A) → get_elem? (xs ++ (x ∷ [])) (length xs) ≡ some x
seam [] x = refl
seam (y ∷ ys) x = seam ys x

question_last : (t : Table) → get_elem? (all_clauses t) (length t.clauses) ≡ some t.question
unfolding all_clauses
question_last t = seam t.clauses t.question

-- the clauses of a readable body, by number, place and table
pub table_clauses : (body : List ℕ) → Readable body → all_clauses (table_of body) ≡ clauses_of body
unfolding table_of
table_clauses body r = all_of_table (clauses_of body) (omega (arith, clauses_count body, r.some))

module _ (body : List ℕ) (r : Readable body) where
  table_count : length (starts 0 0 body) ≡ suc (length (table_of body).clauses)
  unfolding all_clauses
  table_count =
      let all : length (all_clauses (table_of body)) ≡ length (clauses_of body) = rw (table_clauses body r) in
      omega (arith, clauses_count body, simp length-append at all)

  -- the question begins at the last place
  pub asks_last : (i : ℕ) {p : ℕ} → get_elem? (starts 0 0 body) i ≡ some p → eqb p (last_of 0 (starts 0 0 body)) ≡ eqb i (length (table_of body).clauses)
  asks_last i e = last-index (starts 0 0 body) (starts_rise body 0 0) table_count i e

pub some_length : {A : Type 0} (xs : List A) (i : ℕ) {x : A} → get_elem? xs i ≡ some x → i < length xs
some_length [] i e = absurd (none_some e)
some_length (y ∷ ys) zero e = omega arith
some_length (y ∷ ys) (suc i) e = omega (arith, some_length ys i e)

pub some_value : (xs : List ℕ) (i : ℕ) {x : ℕ} → get_elem? xs i ≡ some x → get_or xs i 0 ≡ x
some_value [] i e = absurd (none_some e)
some_value (y ∷ ys) zero e = cc
some_value (y ∷ ys) (suc i) e = some_value ys i e

module _ (f : List ℕ) (n : ℕ) (fits : n ≤ length f) (r : Readable (take n f)) where
  pub clause_numbered : (i : ℕ) {p : ℕ} → get_elem? (starts 0 0 (take n f)) i ≡ some p
      → ClauseAt f p × (get_elem? (all_clauses (table_of (take n f))) i ≡ some (clause_of (own_words f p)))
  unfolding own_words
  clause_numbered i {p} e =
      let at-number = stands_at (take n f) i r.sound (some_length (starts 0 0 (take n f)) i e) in
      let stands : StandsAt (take n f) p = rw (some_value (starts 0 0 (take n f)) i e) at at-number in
      let numbered = map_some (λ (at : ℕ). clause_of (words_from (take n f) at)) (starts 0 0 (take n f)) i e in (
        record { inside = omega (arith, stands.inside, length-take-le n f fits); sound = rw (add-one) at (sound_in_file n f fits stands) },
        rw (table_clauses (take n f) r, clauses_by_start (take n f)) (rw (same_words_lem n f fits stands) at numbered),
      )

  pub question_placed : ClauseAt f (last_of 0 (starts 0 0 (take n f))) × (clause_of (own_words f (last_of 0 (starts 0 0 (take n f)))) ≡ (table_of (take n f)).question)
  question_placed =
      let here = clause_numbered (length (table_of (take n f)).clauses) (last-placed (starts 0 0 (take n f)) (table_count (take n f) r)) in
      let last = question_last (table_of (take n f)) in
      let both = here.1 in
      (here.0, cc)
