-- A page cut at its end, with premises as the code has them.
use mathlib.Core.List.{List, [], ◌∷◌}
use mathlib.Core.Path.{◌≡◌, refl, ap, ◌∙◌}
use Prim.Native.Nat.{ℕ, ◌≤◌, ◌<◌}
use native.Mathlib.Nat.{le_of_suc-le-suc, not-suc-le-zero}
use native.Mathlib.Decide.{dec_lt}
use native.Mathlib.Omega.{arith}
use borrow.Author.Tests.{le-leb, lt-leb}
use lib.ListN.{length, take}
use lib.Seq.{take_all}
use Rattle.text.specs.Put.{put, Put}
use Rattle.text.specs.Quoted.{bytes}
use Rattle.text.proofs.Putting.{then, same_size}
use Rattle.text.proofs.Fitting.{written_whole, fits_exactly}
use Rattle.answering.specs.Results.{paged}
use Rattle.answering.specs.Telling.{CutTo}

-- a buffer that is too short holds the front of the text
front_held : (out text : List ℕ) → length out ≤ length text → put out 0 text ≡ take (length out) text
unfolding put
front_held [] text h = refl
front_held (o ∷ out) [] h = absurd (not-suc-le-zero h)
front_held (o ∷ out) (t ∷ text) h = ap (λ (l : List ℕ). t ∷ l) (front_held out text (le_of_suc-le-suc h))

longer : (k : ℕ) → (k ≤ 262144 → ⊥) → 262144 < k
longer k n = go (dec_lt 262144 k)
  where
    go : Dec (262144 < k) → 262144 < k
    go (yes h) = h
    go (no h) = absurd (n (omega (arith, h)))

module _ (page : List ℕ) {n : ℕ} {out : List ℕ} {at : ℕ} {front : List ℕ} (e : front ≡ take n page) where
  pub cut_whole : n ≤ length page → {out' : List ℕ} {r : ℕ} → Put out at front out' r → CutTo page n out at out' r
  unfolding paged
  cut_whole h {out'} {r} p = record {
    told = λ first text size w.
        let long : length page ≡ 262144 = same_size w ∙ size in
        let fits : length text ≤ 262144 = (fits_exactly w 262144 (omega (arith, size)) (omega arith)).0 (omega (arith, h, long)) in
        let whole : front ≡ text = e ∙ written_whole w (omega (arith, fits, size)) in
        rw (le-leb (length text) 262144 fits) (rw whole at p);
  }

  pub cut_marked : length page < n → {mid : List ℕ} {next : ℕ} → Put out at front mid next → {out' : List ℕ} {r : ℕ} → Put mid next (bytes " ...\n") out' r
      → CutTo page n out at out' r
  unfolding paged
  cut_marked h {mid} {next} p {out'} {r} q = record {
    told = λ first text size w.
        let long : length page ≡ 262144 = same_size w ∙ size in
        let over : 262144 < length text = longer (length text) (λ k. omega (arith, h, long, (fits_exactly w 262144 (omega (arith, size)) (omega arith)).1 k)) in
        let held : page ≡ take 262144 text = w.written ∙ front_held first text (omega (arith, over, size)) ∙ ap (λ (k : ℕ). take k text) size in
        let cut : front ≡ take 262144 text = e ∙ take_all n page (omega (arith, h)) ∙ held in
        rw (lt-leb (length text) 262144 over) (then (rw cut at p) q);
  }
