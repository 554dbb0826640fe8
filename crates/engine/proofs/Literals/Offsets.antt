-- The literals of a clause by their offsets among its words.
use mathlib.Core.Path.{◌≡◌, refl, ◌∙◌}
use mathlib.Core.Bool.{Bool, true, false}
use mathlib.Core.List.{List, [], ◌∷◌, map}
use mathlib.Core.Option.{none, some}
use Prim.Native.Nat.{ℕ, zero, suc, ◌+◌, ◌≤◌, ◌<◌}
use native.Mathlib.Nat.{add-zero}
use native.Mathlib.Omega.{arith}
use lib.Dec.{eqb}
use lib.ListN.{length, take, drop, get_or, get_elem?, length-drop}
use lib.Seq.{drop-cons, length-take-le, get_or-take, get_or-drop, drop-drop}
use borrow.Author.Tests.{eq-eqb, ne_eqb, eqb-true, eqb-false}
use Rattle.words.specs.Fields.{kind_of, arity_of, variables_of, literals_of, following_of, literal_shaped}
use Rattle.words.proofs.Packed.{bits_small, plain_kind, literal_plain}
use Rattle.table.specs.Syntax.{Literal}
use Rattle.table.specs.Reading.{fault}
use Rattle.table.specs.Decode.{literals_from, clause_of}
use Rattle.table.proofs.Decoding.{literals_literal, literals_other}
use Rattle.rules.proofs.Lists.{none_some}
use Rattle.rules.proofs.Lists.{map_some}
use Rattle.unification.specs.State.{own_words, ClauseAt}
use Rattle.tableaux.specs.Leaves.{literal_offsets, offsets_at}
use Rattle.tableaux.specs.Entering.{literal_from, LiteralAt, Owes}
use Rattle.engine.proofs.Literals.Sound.{Sound, variable, function, literal, sound_word, SoundClause, sound_clause}
use Rattle.engine.proofs.Literals.Places.{place_word, place_next, place_inside}

module _ (k w : ℕ) (ws : List ℕ) where
  pub offsets_literal : kind_of w ≡ 2 → literal_offsets k (w ∷ ws) ≡ k ∷ literal_offsets (k + 1) ws
  unfolding literal_offsets
  offsets_literal two = rw (eq-eqb (kind_of w) 2 two)

  pub offsets_other : (kind_of w ≡ 2 → ⊥) → literal_offsets k (w ∷ ws) ≡ literal_offsets (k + 1) ws
  unfolding literal_offsets
  offsets_other other = rw (ne_eqb (kind_of w) 2 other)

-- the literal at each offset, in order
module _ (own : List ℕ) where
  abbrev literal_at : ℕ → Literal ℕ
  literal_at o = literal_from (drop o own)

  at-word : (b : Bool) (k w : ℕ) (ws : List ℕ) → eqb (kind_of w) 2 ≡ b → drop k own ≡ w ∷ ws → map literal_at (literal_offsets (k + 1) ws) ≡ literals_from ws
      → map literal_at (literal_offsets k (w ∷ ws)) ≡ literals_from (w ∷ ws)
  at-word true k w ws t e h =
      let two = eqb-true (kind_of w) 2 t in
      rw (offsets_literal k w ws two, literals_literal w ws two, e, h)
  at-word false k w ws t e h =
      let other = eqb-false (kind_of w) 2 t in
      rw (offsets_other k w ws other, literals_other w ws other) h

  by-offset : (ws : List ℕ) (k : ℕ) → drop k own ≡ ws → map literal_at (literal_offsets k ws) ≡ literals_from ws
  unfolding literal_offsets literals_from
  by-offset [] k e = refl
  by-offset (w ∷ ws) k e =
      at-word (eqb (kind_of w) 2) k w ws refl e (by-offset ws (k + 1) (place_next own k w ws e))

pub clause_literals : (own : List ℕ) → map (λ o. literal_from (drop o own)) (literal_offsets 1 (drop 1 own)) ≡ (clause_of own).literals
unfolding clause_of literals_from literal_offsets
clause_literals [] = refl
clause_literals (w ∷ ws) = by-offset (w ∷ ws) ws 1 refl

-- an offset at which a literal stands, its arguments owed after it
pub record Offset (v : ℕ) (own : List ℕ) (k o : ℕ) : Type 0 where
  pub least : k ≤ o
  pub inside : o < length own
  pub shaped : literal_shaped (get_or own o 0) ≡ true
  pub owing : Owes v (arity_of (get_or own o 0)) (drop (o + 1) own)

module _ (v : ℕ) (own : List ℕ) where
  abbrev Sounds : List ℕ → Type 0
  Sounds ws =
      (k l t place : ℕ) → drop k own ≡ ws → fault v l t place ws ≡ none → (j o : ℕ) → get_elem? (literal_offsets k ws) j ≡ some o → Offset v own k o

  further-on : {k o : ℕ} → Offset v own (k + 1) o → Offset v own k o
  further-on h = record { least = omega (arith, h.least); inside = h.inside; shaped = h.shaped; owing = h.owing }

  offset-sound : (k w : ℕ) (ws : List ℕ) → drop k own ≡ w ∷ ws → Sounds ws → {place l t : ℕ} → Sound v place w ws l t → (j o : ℕ) → get_elem? (literal_offsets k (w ∷ ws)) j ≡ some o → Offset v own k o
  offset-sound k w ws e more {place} (variable {l} {t} z s) j o h =
      further-on (more (k + 1) l t (place + 1) (place_next own k w ws e) s j o (rw (offsets_other k w ws (λ p. omega arith)) at h))
  offset-sound k w ws e more {place} (function {l} {t} z s) j o h =
      further-on (more (k + 1) l (arity_of w + t) (place + 1) (place_next own k w ws e) s j o (rw (offsets_other k w ws (λ p. omega arith)) at h))
  offset-sound k w ws e more {place} (literal {l} fine s) zero o h =
      let here = rw (offsets_literal k w ws (plain_kind 2 16 w (literal_plain w fine))) at h in
      let same : k ≡ o = cc in
      rw (← same)
      (record {
        least = omega arith;
        inside = place_inside own k w ws e;
        shaped = rw (place_word own k w ws e) fine;
        owing = rw (place_word own k w ws e, place_next own k w ws e) (record { literals = l; place = place + 1; sound = s });
      })
  offset-sound k w ws e more {place} (literal {l} fine s) (suc j) o h =
      further-on
      (more (k + 1) l (arity_of w) (place + 1) (place_next own k w ws e) s j o (rw (offsets_literal k w ws (plain_kind 2 16 w (literal_plain w fine))) at h))

  sound-offsets : (ws : List ℕ) → Sounds ws
  unfolding literal_offsets
  sound-offsets [] k l t place e s j o h = absurd (none_some h)
  sound-offsets (w ∷ ws) k l t place e s j o h = offset-sound k w ws e (sound-offsets ws) (sound_word v place w ws l t s) j o h

-- the words of a clause that begins at a position
module _ (f : List ℕ) (p : ℕ) (c : ClauseAt f p) where
  clause_sound : SoundClause (get_or f p 0) (drop (suc p) f)
  clause_sound = sound_clause (get_or f p 0) (drop (suc p) f) c.sound

  pub own_count : length (own_words f p) ≡ suc (following_of (get_or f p 0))
  unfolding own_words
  own_count =
      length-take-le (suc (following_of (get_or f p 0))) (drop p f)
      (omega (arith, length-drop p f, length-drop (suc p) f, clause_sound.fits, c.inside))

  pub own_inside : {o : ℕ} → o < length (own_words f p) → p + o < length f
  own_inside {o} h = omega (arith, own_count, length-drop (suc p) f, clause_sound.fits, c.inside)

  pub own_at : {o : ℕ} → o < length (own_words f p) → get_or (own_words f p) o 0 ≡ get_or f (p + o) 0
  unfolding own_words
  own_at {o} h =
      get_or-take (suc (following_of (get_or f p 0))) (drop p f) o 0 (omega (arith, own_count)) ∙ get_or-drop p f o 0

  after_own : drop 1 (own_words f p) ≡ take (following_of (get_or f p 0)) (drop (suc p) f)
  unfolding own_words
  after_own = rw (drop-cons f p 0 c.inside)

  pub literal_at_lem : (j : ℕ) {o : ℕ} → get_elem? (offsets_at f p) j ≡ some o → LiteralAt f p j o
  literal_at_lem j {o} h =
      let there = sound-offsets (variables_of (get_or f p 0)) (own_words f p) (drop 1 (own_words f p)) 1 (literals_of (get_or f p 0)) 0 1 refl (rw after_own clause_sound.sound) j o h in
      let word : get_or (drop o (own_words f p)) 0 0 ≡ get_or f (p + o) 0 =
      get_or-drop o (own_words f p) 0 0 ∙ rw add-zero (own_at there.inside)
      in
      let same = own_at there.inside in
      record {
        least = there.least;
        most = omega (arith, there.inside, own_count, bits_small 8 8 (get_or f p 0));
        inside = own_inside there.inside;
        word = word;
        shaped = rw same at there.shaped;
        owing = rw (drop-drop 1 o (own_words f p)) (rw same at there.owing);
        literal = rw (clause_literals (own_words f p)) at (map_some (λ (k : ℕ). literal_from (drop k (own_words f p))) (offsets_at f p) j h);
      }
