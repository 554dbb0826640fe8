-- Pieces in a line and what they say side by side, one law for each outcome, with premises as the code has them.
use mathlib.Core.Path.{◌≡◌, refl, sym, ap, ◌∙◌}
use mathlib.Core.Bool.{Bool, true, false, not, cond, ◌&&◌}
use mathlib.Core.List.{List, [], ◌∷◌}
use Prim.Native.Nat.{ℕ, zero, suc, ◌+◌, ◌^◌, ◌≤◌, ◌<◌}
use native.Mathlib.Nat.{zero-add, le_of_suc-le-suc, not-suc-le-zero}
use native.Mathlib.Omega.{arith}
use lib.Dec.{eqb, ltb}
use lib.ListN.{length, take, drop, length-drop}
use mir.Syntax.{w64}
use mir.Val.{Fits}
use Rattle.std.specs.Prelude.{Option, Some, None, nat_eq}
use Rattle.std.specs.Option.{is_some, unwrap_or}
use Rattle.std.specs.List.{position, position_or_len}
use Rattle.std.specs.Cmp.Lexicographic.{pointwise}
use Rattle.std.proofs.lemmas.Bool.Decides.{nat_tests}
use Rattle.std.proofs.lemmas.List.Recursion.{is_position_or_len}
use Rattle.text.specs.Put.{Put}
use Rattle.requests.specs.Pieces.{up_to, piece, pieces, pieces_at, onto, piece_at, next_at, word_of, same_bytes, before, leading, present, run_from}
use Rattle.requests.specs.Listed.{says, before as led, listed_words}
use Rattle.text.proofs.Putting.{Left, begin, further, finish}
pub use Rattle.requests.proofs.Numbers.{front_length}

-- the bytes up to a mark are the first ones
front_taken : (b : Bool) (c : ℕ) (ds cs : List ℕ) → take (length ds) cs ≡ ds → take (length (cond b [] (c ∷ ds))) (c ∷ cs) ≡ cond b [] (c ∷ ds)
front_taken true c ds cs e = refl
front_taken false c ds cs e = ap (λ (l : List ℕ). c ∷ l) e

pub front_take : (mark : ℕ) (cs : List ℕ) → take (length (up_to mark cs)) cs ≡ up_to mark cs
unfolding up_to
front_take mark [] = refl
front_take mark (c ∷ cs) = front_taken (eqb c mark) c (up_to mark cs) cs (front_take mark cs)

-- they end before the first mark
mark_first : (mark : ℕ) (cs : List ℕ) → length (up_to mark cs) ≡ position_or_len (λ c. eqb c mark) cs
unfolding up_to
mark_first mark cs = is_position_or_len (λ (l : List ℕ). length (up_to mark l)) (λ c. eqb c mark) refl (λ c l. stops (eqb c mark) c l) cs
  where
    stops : (b : Bool) (c : ℕ) (l : List ℕ) → length (cond b [] (c ∷ up_to mark l)) ≡ cond b 0 (1 + length (up_to mark l))
    stops true c l = refl
    stops false c l = omega arith

first_or_end : (n l : ℕ) → n ≤ l → unwrap_or (cond (ltb n l) (Some n) None) l ≡ n
first_or_end n l h = go (ltb n l) refl
  where
    go : (b : Bool) → ltb n l ≡ b → unwrap_or (cond b (Some n) None) l ≡ n
    go true e = refl
    go false e = grind (arith, nat_tests)

pub until_mark : (mark : ℕ) (cs : List ℕ) → take (unwrap_or (position (λ c. eqb c mark) cs) (length cs)) cs ≡ up_to mark cs
until_mark mark cs =
    let e = mark_first mark cs in
    let n = front_length mark cs in
    rw (← e, first_or_end (length (up_to mark cs)) (length cs) n) (front_take mark cs)

pub end_within : (mark : ℕ) (line : List ℕ) (from : ℕ) → from ≤ length line → from + length (up_to mark (drop from line)) ≤ length line
end_within mark line from h = omega (arith, front_length mark (drop from line), length-drop from line)

-- two lists of bytes
pub same_lengths : (a b : List ℕ) → same_bytes a b ≡ true → length a ≡ length b
unfolding same_bytes
same_lengths [] [] e = refl
same_lengths [] (y ∷ b) e = let z : ◌≡◌ {A = ℕ} 0 1 = cc in absurd (omega arith)
same_lengths (x ∷ a) [] e = let z : ◌≡◌ {A = ℕ} 0 1 = cc in absurd (omega arith)
same_lengths (x ∷ a) (y ∷ b) e = ap suc (same_lengths a b (and_right (eqb x y) (same_bytes a b) e))
  where
    and_right : (p q : Bool) → (p && q) ≡ true → q ≡ true
    and_right true q e = e
    and_right false q e = let z : ◌≡◌ {A = ℕ} 0 1 = cc in absurd (omega arith)

pub same_is : (a b : List ℕ) → pointwise nat_eq a b ≡ same_bytes a b
unfolding same_bytes
same_is [] [] = refl
same_is [] (y ∷ b) = refl
same_is (x ∷ a) [] = refl
same_is (x ∷ a) (y ∷ b) = ap (λ (q : Bool). eqb x y && q) (same_is a b)

-- all pieces: the first, and those after it
pieces_from : (cs : List ℕ) → pieces_at cs 0 ≡ pieces cs
unfolding pieces_at
pieces_from [] = refl
pieces_from (c ∷ cs) = refl

first_piece : (b : Bool) (c : ℕ) (cs : List ℕ) → pieces cs ≡ piece cs ∷ pieces_at cs (suc (length (piece cs)))
    → cond b ([] ∷ pieces cs) (onto c (pieces cs)) ≡ cond b [] (c ∷ piece cs) ∷ pieces_at (c ∷ cs) (suc (length (cond b [] (c ∷ piece cs))))
unfolding pieces_at
first_piece true c cs e = rw (pieces_from cs)
first_piece false c cs e = rw e

pieces_split : (cs : List ℕ) → pieces cs ≡ piece cs ∷ pieces_at cs (suc (length (piece cs)))
unfolding pieces up_to pieces_at
pieces_split [] = refl
pieces_split (c ∷ cs) = first_piece (eqb c 32) c cs (pieces_split cs)

pieces_head : (cs : List ℕ) → pieces cs ≡ piece cs ∷ pieces_at cs (suc (0 + length (piece cs)))
pieces_head cs = pieces_split cs ∙ ap (λ (n : ℕ). piece cs ∷ pieces_at cs (suc n)) (sym (zero-add (length (piece cs))))

pub pieces_step : (line : List ℕ) (at : ℕ) → at ≤ length line → pieces_at line at ≡ piece_at line at ∷ pieces_at line (suc (at + length (piece_at line at)))
unfolding pieces_at
pieces_step [] zero h = pieces_head []
pieces_step [] (suc at) h = absurd (not-suc-le-zero h)
pieces_step (c ∷ cs) zero h = pieces_head (c ∷ cs)
pieces_step (c ∷ cs) (suc at) h =
    let z : suc at + length (piece_at cs at) ≡ suc (at + length (piece_at cs at)) = omega arith in rw z (pieces_step cs at (le_of_suc-le-suc h))

pub pieces_over : (line : List ℕ) (at : ℕ) → length line < at → pieces_at line at ≡ []
unfolding pieces_at
pieces_over [] zero h = absurd (not-suc-le-zero h)
pieces_over [] (suc at) h = refl
pieces_over (c ∷ cs) zero h = absurd (not-suc-le-zero h)
pieces_over (c ∷ cs) (suc at) h = pieces_over cs at (le_of_suc-le-suc h)

pub after_piece : (line : List ℕ) (at : ℕ) → at ≤ length line → {next : ℕ} → next ≡ next_at line at → pieces_at line at ≡ piece_at line at ∷ pieces_at line next
after_piece line at h {next} e = let z : next ≡ suc (at + length (piece_at line at)) = omega (arith, e) in rw z (pieces_step line at h)

-- pieces of a kind side by side
pub record Running (kind : List ℕ → Bool) (line : List ℕ) (from count at : ℕ) : Type 0 where
  pub few : count ≤ at
  pub same : run_from kind 0 from (pieces_at line from) ≡ run_from kind count at (pieces_at line at)

pub run_begin : (kind : List ℕ → Bool) (line : List ℕ) (from : ℕ) → Running kind line from 0 from
run_begin kind line from = record { few = omega arith; same = refl }

module _ {kind : List ℕ → Bool} {line : List ℕ} {from count at : ℕ} (g : Running kind line from count at) where
  pub run_over : length line < at → record { count = count; next = at } ≡ run_from kind 0 from (pieces_at line from)
  unfolding run_from
  run_over h = sym (g.same ∙ rw (pieces_over line at h))

  module _ (h : at ≤ length line) where
    pub run_counts : length line < 2 ^ 63 → Fits w64 (count + 1)
    run_counts k = record { fits = omega (arith, g.few) }

    pub run_stops : kind (piece_at line at) ≡ false → record { count = count; next = at } ≡ run_from kind 0 from (pieces_at line from)
    unfolding run_from
    run_stops b = sym (g.same ∙ rw (pieces_step line at h, b))

    pub run_goes : kind (piece_at line at) ≡ true → {next : ℕ} → next ≡ next_at line at → Running kind line from (count + 1) next
    unfolding run_from
    run_goes b en = record { few = omega (arith, g.few, en); same = g.same ∙ rw (after_piece line at h en, b, ← en) }

-- pieces that each say a thing
present_is : {T : Type 0} (o : Option T) → present o ≡ is_some o
present_is None = refl
present_is (Some x) = refl

module _ {T : Type 0} (read : List ℕ → Option T) {line : List ℕ} {from count at : ℕ} (g : Running (says read) line from count at) (h : at ≤ length line)
    {own : List ℕ} (eo : own ≡ piece_at line at) {o : Option T} (e : o ≡ read own) {r : Bool} (er : is_some o ≡ not r) where
  pub listed_ends : r ≡ true → record { count = count; next = at } ≡ run_from (says read) 0 from (pieces_at line from)
  listed_ends t = run_stops g h (rw (← eo, ← e, present_is o, er, t))

  pub listed_on : r ≡ false → Running (says read) line from (count + 1) (at + (length own + 1))
  listed_on f = run_goes g h (rw (← eo, ← e, present_is o, er, f)) (let z : at + (length own + 1) ≡ at + length own + 1 = omega arith in rw (z, eo))

module _ (line : List ℕ) (at : ℕ) (h : at ≤ length line) {own : List ℕ} (eo : own ≡ piece_at line at) where
  pub own_within : at + length own ≤ length line
  own_within = rw eo (end_within 32 line at h)

pub ruleset listed_laws = (run_begin, run_over, run_counts, listed_ends, listed_on)

-- and their words
module _ {T : Type 0} (read : List ℕ → Option T) (in_words : T → List ℕ) {first : List ℕ} {from : ℕ} {whole out : List ℕ} {used : ℕ} (line : List ℕ) (at : ℕ)
    (l : Left first from whole out used (listed_words read in_words (pieces_at line at))) where
  pub gather_over : length line < at → Put first from whole out used
  unfolding listed_words
  gather_over h = finish (rw (pieces_over line at h) at l)

  module _ (h : at ≤ length line) {own : List ℕ} (eo : own ≡ piece_at line at) {o : Option T} (e : o ≡ read own) where
    pub gather_ends : o ≡ None → Put first from whole out used
    unfolding listed_words
    gather_ends n = finish (rw (pieces_step line at h, ← eo, ← e, n) at l)

    pub gather_on : {said : T} → o ≡ Some said → {out' : List ℕ} {used' : ℕ} → Put out used (in_words said) out' used'
        → Left first from whole out' used' (listed_words read in_words (pieces_at line (at + (length own + 1))))
    unfolding listed_words
    gather_on {said} s p =
        let n : at + (length own + 1) ≡ next_at line at = let z : at + (length own + 1) ≡ at + length own + 1 = omega arith in rw (z, eo) in
        further (in_words said) (listed_words read in_words (pieces_at line (at + (length own + 1)))) (rw (after_piece line at h n, ← eo, ← e, s) at l) p

pub ruleset gather_laws = (begin, gather_over, gather_ends, gather_on)

-- the words among them
leading_is : (ps : List (List ℕ)) → listed_words word_of (λ w. w ∷ []) ps ≡ leading ps
unfolding listed_words leading
leading_is [] = refl
leading_is (p ∷ ps) = go (word_of p) (leading_is ps)
  where
    go : (o : Option ℕ) → listed_words word_of (λ w. w ∷ []) ps ≡ leading ps → led (λ w. w ∷ []) o (listed_words word_of (λ w. w ∷ []) ps) ≡ before o (leading ps)
    go None e = refl
    go (Some w) e = ap (λ (l : List ℕ). w ∷ l) e

pub words_put : {out left : List ℕ} {n : ℕ} (ps : List (List ℕ)) → Put out 0 (listed_words word_of (λ w. w ∷ []) ps) left n → Put out 0 (leading ps) left n
words_put ps p = rw (← leading_is ps) p
