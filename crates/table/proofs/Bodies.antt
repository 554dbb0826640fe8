-- Walking over a body, one law for each outcome, with premises as the code has them.
use mathlib.Core.Path.{◌≡◌, refl, sym, ap, ◌∙◌}
use mathlib.Core.Bool.{Bool, false, not, ◌||◌}
use mathlib.Core.List.{List, [], ◌∷◌}
use mathlib.Core.Option.{Option, none, some}
use Prim.Native.Nat.{ℕ, zero, suc, ◌+◌, ◌-◌, ◌≤◌, ◌<◌, ◌^◌}
use native.Mathlib.Nat.{add-zero}
use native.Mathlib.Omega.{arith}
use native.Mathlib.Decide.{dec_lt}
use lib.ListN.{length, take, drop, get_or, drop_of_length-le, length-drop, length-take}
use lib.Seq.{take_all, drop-drop}
use mir.Syntax.{w64}
use mir.Val.{Fits}
use borrow.Author.Tests.{eq-eqb, ne_eqb, leb-true}
use Rattle.words.specs.Fingerprint.{mixed, bytes_of, fingerprint}
use Rattle.words.specs.Fields.{kind_of, negative_of, following_of, clause_shaped}
use Rattle.table.specs.Reading.{clause_fault}
use Rattle.table.specs.Body.{reading, body_fault, starts, last_of, positive, any_positive}
use Rattle.table.specs.File.{refused}
use Rattle.table.specs.Readers.{IsWhole, IsMalformed, Judged, place_of, body_read, BeginsAt}
use Rattle.table.specs.declared.Judgement.{Judgement}
use Rattle.std.specs.Prelude.{Result, Ok, Err}
use Rattle.table.specs.declared.read.Reached.{Reached}
use Rattle.std.specs.List.{list_any}
use Rattle.table.proofs.Bools.{and_right, cond_none}
use Rattle.table.proofs.Mixing.{mixed_begin, mixed_end}
use Rattle.table.proofs.Terms.{from_place}

-- passing over words of a clause
pub pass_faults : (at passing : ℕ) (ws : List ℕ) → body_fault at passing ws ≡ body_fault (at + passing) 0 (drop passing ws)
unfolding body_fault
pass_faults at zero [] = refl
pass_faults at (suc passing) [] = refl
pass_faults at zero (w ∷ ws) = rw add-zero
pass_faults at (suc passing) (w ∷ ws) =
    let z : at + suc passing ≡ at + 1 + passing = omega arith in rw z (pass_faults (at + 1) passing ws)

pub pass_starts : (at passing : ℕ) (ws : List ℕ) → starts at passing ws ≡ starts (at + passing) 0 (drop passing ws)
unfolding starts
pass_starts at zero [] = refl
pass_starts at (suc passing) [] = refl
pass_starts at zero (w ∷ ws) = rw add-zero
pass_starts at (suc passing) (w ∷ ws) =
    let z : at + suc passing ≡ at + 1 + passing = omega arith in rw z (pass_starts (at + 1) passing ws)

-- what is left of a body after a clause that begins at a place
module _ (body : List ℕ) {at : ℕ} (h : at < length body) {words : ℕ} (counts : words ≡ following_of (get_or body at 0) + 1) where
  passed : drop (following_of (get_or body at 0)) (drop (at + 1) body) ≡ drop (at + words) body
  passed =
      let z : at + words ≡ at + 1 + following_of (get_or body at 0) = omega arith in
      drop-drop (following_of (get_or body at 0)) (at + 1) body ∙ ap (λ (n : ℕ). drop n body) (sym z)

  pub next_starts : starts at 0 (drop at body) ≡ at ∷ starts (at + words) 0 (drop (at + words) body)
  unfolding starts
  next_starts =
      let z : at + words ≡ at + 1 + following_of (get_or body at 0) = omega arith in
      rw (from_place body at h, pass_starts (at + 1) (following_of (get_or body at 0)) (drop (at + 1) body), passed, z)

  pub next_faults : clause_fault (get_or body at 0) (drop (at + 1) body) ≡ none → body_fault at 0 (drop at body) ≡ body_fault (at + words) 0 (drop (at + words) body)
  unfolding body_fault reading
  next_faults e =
      let z : at + words ≡ at + 1 + following_of (get_or body at 0) = omega arith in
      rw (from_place body at h, e, pass_faults (at + 1) (following_of (get_or body at 0)) (drop (at + 1) body), passed, z)

-- the part of a body from a place on
pub part_from : (body : List ℕ) (at : ℕ) → take (length body - at) (drop at body) ≡ drop at body
part_from body at = take_all (length body - at) (drop at body) (simp length-drop (omega arith))

-- how far the reading of a body has come: so many clauses read, where the last begins, and the fingerprint so far
pub record Walking (body : List ℕ) (at clauses last h : ℕ) : Type 0 where
  pub within : at ≤ length body
  pub counted : clauses ≤ at
  pub faults : body_fault 0 0 body ≡ body_fault at 0 (drop at body)
  pub count : length (starts 0 0 body) ≡ clauses + length (starts at 0 (drop at body))
  pub lasts : last_of 0 (starts 0 0 body) ≡ last_of last (starts at 0 (drop at body))
  pub mixing : fingerprint body ≡ mixed h (bytes_of (drop at body))

module _ {body : List ℕ} where
  pub walk_begin : Walking body 0 0 0 0x811C9DC5
  walk_begin =
      record {
        within = omega arith;
        counted = omega arith;
        faults = refl;
        count = omega arith;
        lasts = refl;
        mixing = mixed_begin body;
      }

  module _ {at clauses last hash : ℕ} (g : Walking body at clauses last hash) where
    module _ (h : length body ≤ at) where
      pub walk_printed : hash ≡ fingerprint body
      walk_printed = sym (g.mixing ∙ mixed_end body at h hash)

      none_left : starts at 0 (drop at body) ≡ []
      unfolding starts
      none_left = rw (drop_of_length-le body h)

      pub walk_done : record { status = 0; place = 0; clauses = clauses; question = last } ≡ body_read body (body_fault 0 0 body)
      unfolding body_fault last_of
      walk_done =
          let f : body_fault 0 0 body ≡ none = rw (drop_of_length-le body h) at g.faults in
          let n : length (starts 0 0 body) ≡ clauses = rw (none_left, add-zero) at g.count in
          let l : last_of 0 (starts 0 0 body) ≡ last = rw none_left at g.lasts in
          rw (f, n, l)

    module _ (h : at < length body) where
      pub walk_part : 1 ≤ length (take (length body - at) (drop at body))
      walk_part = simp (length-take, length-drop) (omega arith)

      here : take (length body - at) (drop at body) ≡ get_or body at 0 ∷ drop (at + 1) body
      here = part_from body at ∙ from_place body at h

      left : length (get_or body at 0 ∷ drop (at + 1) body) ≡ length body - at
      left = sym (ap (λ (l : List ℕ). length l) (from_place body at h)) ∙ length-drop at body

      module _ (r : Result Reached ℕ) (j : Judged (take (length body - at) (drop at body)) hash r) where
        module _ {p : Reached} (e : r ≡ Ok p) where
          whole : IsWhole (get_or body at 0 ∷ drop (at + 1) body) hash p.at p.hash
          whole = rw (here, e) at j

          mixed_clause : mixed hash (bytes_of (drop at body)) ≡ mixed p.hash (bytes_of (drop (at + p.at) body))
          mixed_clause =
              rw (from_place body at h) whole.mixes
              ∙ ap (λ (ws : List ℕ). mixed p.hash (bytes_of (drop p.at ws))) (sym (from_place body at h))
              ∙ ap (λ (ws : List ℕ). mixed p.hash (bytes_of ws)) (drop-drop p.at at body)

          pub walk_next : Walking body (at + p.at) (clauses + 1) at p.hash
          unfolding last_of
          walk_next =
              let more : starts at 0 (drop at body) ≡ at ∷ starts (at + p.at) 0 (drop (at + p.at) body) =
              next_starts body h whole.counts
              in
              record {
                within = omega (arith, whole.fits, left, g.within);
                counted = omega (arith, whole.counts, g.counted);
                faults = g.faults ∙ next_faults body h whole.counts whole.sound;
                count = let n = rw more at g.count in omega arith;
                lasts = rw more at g.lasts;
                mixing = g.mixing ∙ mixed_clause;
              }

          pub walk_steps : length body ≤ 16000 → Fits w64 (at + p.at)
          walk_steps small = record { fits = omega (arith, whole.fits, left) }

          pub walk_falls : length body - (at + p.at) < length body - at
          walk_falls = omega (arith, whole.counts)

        module _ {place : ℕ} (e : r ≡ Err place) {q : ℕ} (eq : q ≡ place_of r) where
          malformed : IsMalformed (get_or body at 0 ∷ drop (at + 1) body) q
          malformed = let same : q ≡ place = rw e at eq in rw (here, e, ← same) at j

          pub walk_fits : length body ≤ 16000 → at + q ≤ 16000
          walk_fits small = omega (arith, malformed.fits, left)

          pub walk_adds : length body ≤ 16000 → Fits w64 (at + q)
          walk_adds small = record { fits = omega (arith, walk_fits small) }

          pub walk_stops : {result : Judgement} → result ≡ refused 7 (at + q) → result ≡ body_read body (body_fault 0 0 body)
          unfolding body_fault reading
          walk_stops er =
              let f : body_fault 0 0 body ≡ some (at + q) = rw (from_place body at h, malformed.faulty) at g.faults in
              rw (f, er)

pub ruleset body_laws = (walk_begin, walk_done, walk_printed, walk_part, walk_next, walk_steps, walk_falls, walk_fits, walk_adds, walk_stops)

-- a positive literal
pub positive_any : (words : List ℕ) → list_any positive words ≡ any_positive words
unfolding any_positive
positive_any [] = refl
positive_any (w ∷ ws) = ap (λ (b : Bool). positive w || b) (positive_any ws)

module _ (w : ℕ) {k : ℕ} (e : k ≡ kind_of w) where
  pub literal_kind : k ≡ 2 → {n : Bool} → n ≡ negative_of w → not n ≡ positive w
  literal_kind p en = rw (eq-eqb (kind_of w) 2 (sym e ∙ p), en)

  pub other_kind : (k ≡ 2 → ⊥) → false ≡ positive w
  other_kind p = rw (ne_eqb (kind_of w) 2 (λ q. p (e ∙ q)))

pub ruleset positive_laws = (literal_kind, other_kind)

-- where no fault follows, the clause has none; and the body holds the words of a clause that has none
pub reading_none : (o : Option ℕ) (at : ℕ) (further : Unit {0} → Option ℕ) → reading o at further ≡ none → o ≡ none
unfolding reading
reading_none (some fault) at further e = cc
reading_none none at further e = refl

pub sound_fits : (w : ℕ) (ws : List ℕ) → clause_fault w ws ≡ none → following_of w ≤ length ws
unfolding clause_fault
sound_fits w ws e = leb-true _ _ (and_right (clause_shaped w) _ (cond_none _ _ 0 e).0)

-- how far the search for a clause has come: so many clauses are to be passed from a place on
pub record Seeking (body : List ℕ) (number at left : ℕ) : Type 0 where
  pub sound : body_fault at 0 (drop at body) ≡ none
  pub same : get_or (starts 0 0 body) number 0 ≡ get_or (starts at 0 (drop at body)) left 0
  pub more : left < length (starts at 0 (drop at body))

module _ {body : List ℕ} {number : ℕ} where
  pub seek_begin : body_fault 0 0 body ≡ none → number < length (starts 0 0 body) → Seeking body number 0 number
  seek_begin f h = record { sound = f; same = refl; more = h }

  module _ {at left : ℕ} (g : Seeking body number at left) where
    pub seek_within : at < length body
    unfolding starts
    seek_within = inside (dec_lt at (length body))
      where
        inside : Dec (at < length body) → at < length body
        inside (yes h) = h
        inside (no n) =
            let h : length body ≤ at = omega arith in
            let m = rw (drop_of_length-le body h) at g.more in absurd (omega arith)

    pub clause_sound : clause_fault (get_or body at 0) (drop (at + 1) body) ≡ none
    unfolding body_fault
    clause_sound =
        reading_none (clause_fault (get_or body at 0) (drop (at + 1) body)) at _ (rw (from_place body at seek_within) at g.sound)

    pub clause_fits_lem : at + (following_of (get_or body at 0) + 1) ≤ length body
    clause_fits_lem =
        let h : following_of (get_or body at 0) ≤ length body - (at + 1) =
        rw length-drop at (sound_fits (get_or body at 0) (drop (at + 1) body) clause_sound)
        in
        omega (arith, seek_within)

    pub seek_done : left ≤ 0 → BeginsAt body number at
    unfolding starts
    seek_done h =
        let z : left ≡ 0 = omega arith in
        let here = next_starts body seek_within {words = following_of (get_or body at 0) + 1} refl in
        record { place = sym (rw (z, here) at g.same); fits = clause_fits_lem }

    module _ (some : 0 < left) {f q : ℕ} (ef : f ≡ following_of (get_or body at 0)) (eq : q ≡ f) where
      pub seek_next : Seeking body number (at + (q + 1)) (left - 1)
      seek_next =
          let counts : q + 1 ≡ following_of (get_or body at 0) + 1 = omega arith in
          let here = next_starts body seek_within counts in
          let z : left ≡ suc (left - 1) = omega arith in
          record {
            sound = sym (next_faults body seek_within counts clause_sound) ∙ g.sound;
            same = rw (here, z) at g.same;
            more = let m = rw here at g.more in omega arith;
          }

      pub seek_adds : length body < 2 ^ 64 → Fits w64 (at + (q + 1))
      seek_adds small = record { fits = omega (arith, clause_fits_lem) }

pub ruleset seek_laws = (seek_begin, seek_within, seek_done, seek_next, seek_adds)
