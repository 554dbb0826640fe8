-- A text that fits is written whole; whether it fits is told by its count.
use mathlib.Core.Path.{◌≡◌, refl, ap, ◌∙◌}
use mathlib.Core.List.{List, [], ◌∷◌, ◌++◌}
use mathlib.Core.Logic.{◌↔◌}
use Prim.Native.Nat.{ℕ, ◌^◌, ◌≤◌, ◌<◌}
use native.Mathlib.Nat.{le_of_suc-le-suc, not-suc-le-zero}
use native.Mathlib.Omega.{arith}
use lib.ListN.{length, take, drop}
use Rattle.text.specs.Put.{put, after, Put}

-- put at the front
put_front : (out text : List ℕ) → length text ≤ length out → put out 0 text ≡ text ++ drop (length text) out
unfolding put
put_front [] [] h = refl
put_front [] (t ∷ text) h = absurd (not-suc-le-zero h)
put_front (o ∷ out) [] h = refl
put_front (o ∷ out) (t ∷ text) h = ap (λ (l : List ℕ). t ∷ l) (put_front out text (le_of_suc-le-suc h))

front_of : (text rest : List ℕ) → take (length text) (text ++ rest) ≡ text
front_of [] rest = refl
front_of (t ∷ text) rest = ap (λ (l : List ℕ). t ∷ l) (front_of text rest)

module _ {out text left : List ℕ} {next : ℕ} (p : Put out 0 text left next) where
  -- whole, where it fits
  module _ (fits : length text ≤ length out) where
    pub count_whole : next ≡ length text
    unfolding after
    count_whole = omega (arith, p.ends)

    pub left_whole : left ≡ text ++ drop (length text) out
    left_whole = p.written ∙ put_front out text fits

    pub written_whole : take next left ≡ text
    written_whole = rw (count_whole, left_whole) (front_of text (drop (length text) out))

  -- the position tells whether it fits a buffer of so many elements, its own or another
  pub fits_exactly : (room : ℕ) → length out ≤ room → room < 2 ^ 63 → (next ≤ room) ↔ (length text ≤ room)
  unfolding after
  fits_exactly room w h = (λ k. omega (arith, p.ends), λ k. omega (arith, p.ends))
