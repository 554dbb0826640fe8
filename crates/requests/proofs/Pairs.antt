-- Bytes in a line, one law for each outcome, with premises as the code has them.
use mathlib.Core.Path.{◌≡◌, refl, ap, ◌∙◌}
use mathlib.Core.List.{List, [], ◌∷◌}
use Prim.Native.Nat.{ℕ, suc, ◌+◌, ◌-◌, ◌*◌, ◌^◌, ◌≤◌, ◌<◌}
use mathlib.Core.Bool.{Bool, true, false, cond}
use native.Mathlib.Omega.{arith}
use lib.Dec.{ltb}
use lib.ListN.{length, drop, get_or, length-drop}
use borrow.Author.Tests.{lt-ltb, le-ltb, le-leb, lt-leb}
use mir.Syntax.{w64}
use mir.Val.{Fits}
use Rattle.text.specs.Put.{Put, after}
use Rattle.text.proofs.Putting.{Left, further, finish}
use Rattle.text.proofs.Written.{from_place}
use Rattle.requests.specs.Pieces.{digit_of}
use Rattle.requests.specs.Bytes.{pair_of, bytes_of}

-- two digits
module _ (a b : ℕ) where
  pub no_high : (digit_of a < 16 → ⊥) → pair_of a b < 256 → ⊥
  unfolding pair_of
  no_high n = rw (le-leb 16 (digit_of a) (omega (arith, n))) (λ h. omega (arith, h))

  module _ {high : ℕ} (h : (digit_of a < 16) × (high ≡ digit_of a)) where
    pub no_low : (digit_of b < 16 → ⊥) → pair_of a b < 256 → ⊥
    unfolding pair_of
    no_low n = rw (lt-leb 16 (digit_of a) h.0, le-leb 16 (digit_of b) (omega (arith, n))) (λ k. omega (arith, k))

    pub pair_said : {low : ℕ} → (digit_of b < 16) × (low ≡ digit_of b) → (pair_of a b < 256) × (high * 16 + low ≡ pair_of a b)
    unfolding pair_of
    pair_said l = rw (lt-leb 16 (digit_of a) h.0, lt-leb 16 (digit_of b) l.0) (omega (arith, h.0, l.0), rw (h.1, l.1))

-- one digit alone is no byte
short_bytes : (cs : List ℕ) → length cs < 2 → bytes_of cs ≡ []
unfolding bytes_of
short_bytes [] h = refl
short_bytes (a ∷ []) h = refl
short_bytes (a ∷ b ∷ cs) h = absurd (omega arith)

two_places : (line : List ℕ) (at : ℕ) → at < length line → 2 ≤ length line - at → drop at line ≡ get_or line at 0 ∷ get_or line (at + 1) 0 ∷ drop (at + 2) line
two_places line at h k =
    let z : at + 1 < length line = omega arith in
    let y : at + 1 + 1 ≡ at + 2 = omega arith in
    from_place line at h ∙ ap (λ (l : List ℕ). get_or line at 0 ∷ l) (rw y at (from_place line (at + 1) z))

-- bytes gathered
module _ {first : List ℕ} {from : ℕ} {whole out : List ℕ} {used : ℕ} (line : List ℕ) (at : ℕ) (l : Left first from whole out used (bytes_of (drop at line))) where
  pub bytes_over : length line ≤ at → Put first from whole out used
  bytes_over h = finish (rw (short_bytes (drop at line) (omega (arith, length-drop at line))) at l)

  module _ (h : at < length line) where
    pub digit_alone : length line - at < 2 → Put first from whole out used
    digit_alone k = finish (rw (short_bytes (drop at line) (omega (arith, length-drop at line))) at l)

    module _ (k : 2 ≤ length line - at) where
      pub bytes_end : (pair_of (get_or line at 0) (get_or line (at + 1) 0) < 256 → ⊥) → Put first from whole out used
      unfolding bytes_of
      bytes_end n =
          let v = pair_of (get_or line at 0) (get_or line (at + 1) 0) in
          finish (rw (two_places line at h k, le-ltb v 256 (omega (arith, n))) at l)

      pub bytes_on : {v : ℕ} → (pair_of (get_or line at 0) (get_or line (at + 1) 0) < 256) × (v ≡ pair_of (get_or line at 0) (get_or line (at + 1) 0))
          → {out' : List ℕ} {used' : ℕ} → Put out used (v ∷ []) out' used' → Left first from whole out' used' (bytes_of (drop (at + 2) line))
      unfolding bytes_of
      bytes_on {v} m p = further (v ∷ []) (bytes_of (drop (at + 2) line)) (rw (two_places line at h k, lt-ltb _ 256 m.0, ← m.1) at l) p

pub ruleset bytes_laws = (bytes_over, digit_alone, bytes_end, bytes_on)

-- how many they are
few_more : (b : Bool) (v : ℕ) (vs cs : List ℕ) → length vs ≤ length cs → length (cond b (v ∷ vs) []) ≤ suc (suc (length cs))
few_more true v vs cs h = omega arith
few_more false v vs cs h = omega arith

pub bytes_few : (cs : List ℕ) → length (bytes_of cs) ≤ length cs
unfolding bytes_of
bytes_few [] = omega arith
bytes_few (a ∷ []) = omega arith
bytes_few (a ∷ b ∷ cs) = few_more (ltb (pair_of a b) 256) (pair_of a b) (bytes_of cs) cs (bytes_few cs)

pub bytes_counted : (line : List ℕ) (from : ℕ) {out left : List ℕ} {r : ℕ} → Put out 0 (bytes_of (drop from line)) left r → length line < 2 ^ 63 → r ≡ length (bytes_of (drop from line))
unfolding after
bytes_counted line from p k = omega (arith, p.ends, bytes_few (drop from line), length-drop from line)

module _ (line : List ℕ) (at : ℕ) {count : ℕ} (e : count ≡ length (bytes_of (drop at line))) (k : length line < 2 ^ 63) where
  pub twice_fits : Fits w64 (count * 2)
  twice_fits = record { fits = omega (arith, e, bytes_few (drop at line), length-drop at line) }

  pub end_fits : (count ≡ 0 → ⊥) → (end : ℕ) → end - at ≡ count * 2 → Fits w64 (end + 1)
  end_fits n end d = record { fits = omega (arith, e, n, d, bytes_few (drop at line), length-drop at line) }
