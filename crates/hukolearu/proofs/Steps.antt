-- The steps of a search copied one by one to the front of the proof buffer.
use lib.ListN.{length, take, drop, get_or, set, length-drop}
use lib.Seq.{paste, paste-zero, paste-suc, length-paste, length-take-le, get_or-drop}
use mathlib.Core.List.{List}
use mathlib.Core.Path.{◌≡◌, sym, ◌∙◌, ap}
use native.Mathlib.Nat.{zero-add}
use native.Mathlib.Numerals.{add-one}
use native.Mathlib.Omega.{arith}
use Prim.Native.Nat.{ℕ, ◌+◌, ◌≤◌, ◌<◌}
use Rattle.unification.specs.Places.{most_leaves, step_places, work_words}
use Rattle.hukolearu.specs.Calls.{at_front}

pub copied_none : (m d : List ℕ) → d ≡ paste d 0 (drop step_places m) 0
copied_none m d = sym (paste-zero d 0 (drop step_places m))

module _ (m d : List ℕ) (n i : ℕ) {p : List ℕ} (room : length m ≡ work_words) (few : n ≤ most_leaves) (enough : n ≤ length d) (e : p ≡ paste d 0 (drop step_places m) i) where
  pub copied_length : i ≤ n → length p ≡ length d
  copied_length h = ap length e ∙ length-paste d 0 (drop step_places m) i (omega arith) (omega (arith, length-drop {A = ℕ} step_places m))

  pub copied_more : i < n → set p i (get_or m (step_places + i) 0) ≡ paste d 0 (drop step_places m) (i + 1)
  copied_more h =
      rw (e, add-one)
      (ap (set (paste d 0 (drop step_places m) i) i) (sym (get_or-drop step_places m i 0))
      ∙ ap (λ (k : ℕ). set (paste d 0 (drop step_places m) i) k (get_or (drop step_places m) i 0)) (sym (zero-add i))
      ∙ paste-suc d 0 (drop step_places m) i 0 (omega arith) (omega (arith, length-drop {A = ℕ} step_places m)))

  pub copied_all : i ≤ n → n ≤ i → p ≡ at_front (take n (drop step_places m)) d
  copied_all h k =
      let z : i ≡ n = omega arith in
      let l : length (take n (drop step_places m)) ≡ n = length-take-le n (drop step_places m) (omega (arith, length-drop {A = ℕ} step_places m)) in
      e ∙ rw (z, zero-add) (sym (rw l))
