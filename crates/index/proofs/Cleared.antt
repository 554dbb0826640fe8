-- So many words from a place on are zero, and the others are as they were.
use mathlib.Core.Path.{◌≡◌, sym, ap, ◌∙◌}
use mathlib.Core.List.{List, ◌++◌}
use Prim.Native.Nat.{ℕ, ◌+◌, ◌-◌, ◌≤◌, ◌<◌}
use native.Mathlib.Omega.{arith}
use lib.ListN.{length, take, drop, get_or, replicate, length-append, length-replicate, length-drop, get_or-replicate, get_or-append}
use lib.Seq.{get_or-append-add, get_or-drop, length-take-le, get_or-take}

module _ (m : List ℕ) (from count : ℕ) (h : from + count ≤ length m) {m' : List ℕ} (e : m' ≡ take from m ++ replicate count 0 ++ drop (from + count) m) where
  front : length (take from m) ≡ from
  front = length-take-le from m (omega arith)

  both : length (take from m ++ replicate count 0) ≡ from + count
  both = length-append (take from m) (replicate count 0) ∙ rw (front, length-replicate)

  pub cleared_below : (x : ℕ) → x < from → get_or m' x 0 ≡ get_or m x 0
  cleared_below x l =
      ap (λ (w : List ℕ). get_or w x 0) e
      ∙ get_or-append (take from m ++ replicate count 0) (drop (from + count) m) 0 x (rw both (omega arith))
      ∙ get_or-append (take from m) (replicate count 0) 0 x (rw front l)
      ∙ get_or-take from m x 0 l

  pub cleared_zero : (x : ℕ) → x < count → get_or m' (from + x) 0 ≡ 0
  cleared_zero x l =
      ap (λ (w : List ℕ). get_or w (from + x) 0) e
      ∙ get_or-append (take from m ++ replicate count 0) (drop (from + count) m) 0 (from + x) (rw both (omega arith))
      ∙ ap (λ (n : ℕ). get_or (take from m ++ replicate count 0) (n + x) 0) (sym front)
      ∙ get_or-append-add (take from m) (replicate count 0) x 0
      ∙ get_or-replicate count x 0 0 l

  pub cleared_length : length m' ≡ length m
  cleared_length =
      ap length e
      ∙ length-append (take from m ++ replicate count 0) (drop (from + count) m)
      ∙ rw (both, length-drop) (omega arith)

  pub cleared_above : (x : ℕ) → from + count ≤ x → get_or m' x 0 ≡ get_or m x 0
  cleared_above x l =
      let place : x ≡ length (take from m ++ replicate count 0) + (x - (from + count)) = rw both (omega arith) in
      let same : from + count + (x - (from + count)) ≡ x = omega arith in
      ap (λ (w : List ℕ). get_or w x 0) e
      ∙ ap (λ (k : ℕ). get_or (take from m ++ replicate count 0 ++ drop (from + count) m) k 0) place
      ∙ get_or-append-add (take from m ++ replicate count 0) (drop (from + count) m) (x - (from + count)) 0
      ∙ get_or-drop (from + count) m (x - (from + count)) 0
      ∙ ap (λ (k : ℕ). get_or m k 0) same
