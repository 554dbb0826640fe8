-- Leaves found: one law for each outcome of the code, with premises as the code has them.
use mathlib.Core.List.{List, [], ◌∷◌}
use mathlib.Core.Bool.{cond}
use mathlib.Core.Path.{◌≡◌, refl, sym, ◌∙◌}
use Prim.Native.Nat.{ℕ, zero, suc, ◌+◌, ◌-◌, ◌≤◌, ◌<◌, ◌^◌}
use native.Mathlib.Numerals.{add-one}
use native.Mathlib.Omega.{arith}
use mir.Syntax.{w32}
use mir.Val.{Fits}
use borrow.Author.Tests.{lt-ltb, le-ltb}
use lib.Dec.{ltb}
use lib.ListN.{length, get_or}
use Rattle.words.specs.Steps.{step_of}
use Rattle.words.specs.declared.Step.{Step}
use Rattle.words.specs.declared.Step.TheVariants.{Reduction, Extension, Restart, Malformed}
use Rattle.leaves.specs.Leaves.{opens, other, leaf_of, hung, started, open_after, leftmost, hung_under, above, ancestor}
use Rattle.leaves.specs.declared.leaf.Leaf.{Leaf}
use Rattle.std.specs.Prelude.{Option, Some, None}

pub past : (l : List ℕ) (i : ℕ) → length l ≤ i → get_or l i 0 ≡ 0
past [] i h = refl
past (x ∷ l) zero h = absurd (omega (arith, h))
past (x ∷ l) (suc i) h = past l i (omega (arith, h))

module _ (l : List ℕ) (place : ℕ) {i : ℕ} (e : i ≡ place) where
  pub at_past : length l ≤ i → 0 ≡ get_or l place 0
  at_past h = sym (past l place (rw e at h))

  pub at_place : get_or l i 0 ≡ get_or l place 0
  at_place = rw e

pub ruleset at_laws = (at_past, at_place)

-- how many leaves a step hangs, and which
module _ (sizes : List ℕ) (w : ℕ) {s : Step} (e : s ≡ step_of w) where
  pub opens_extension : {i j : ℕ} → s ≡ Extension i j → {q : ℕ} → q ≡ get_or sizes i 0 → {r : ℕ} → r ≡ q - 1 → r ≡ opens sizes (step_of w)
  unfolding opens
  opens_extension k eq er = er ∙ rw (← e, k, eq)

module _ {entered n : ℕ} where
  pub other_before : n < entered → n ≡ other entered n
  unfolding other
  other_before h = rw (lt-ltb n entered h)

  pub other_after : entered ≤ n → n + 1 ≡ other entered n
  unfolding other
  other_after h = rw (le-ltb n entered h, add-one)

pub other_fits : {n : ℕ} → n < 4294967295 → Fits w32 (n + 1)
other_fits h = record { fits = omega arith }

pub ruleset other_laws = (other_before, other_after, other_fits)

module _ (number n w : ℕ) {s : Step} (e : s ≡ step_of w) where
  pub hung_extension : {i j : ℕ} → s ≡ Extension i j → {o : ℕ} → o ≡ other j n → leaf_of number i o ≡ hung number n (step_of w)
  unfolding hung
  hung_extension k eo = rw (← e, k, eo)

module _ (sizes : List ℕ) (question n : ℕ) {size : ℕ} (e : size ≡ get_or sizes question 0) where
  pub started_open : n < size → leaf_of 0 question n ≡ started sizes question n
  unfolding started
  started_open h = rw (← e, lt-ltb n size h)

  pub started_none : size ≤ n → None ≡ started sizes question n
  unfolding started
  started_none h = rw (← e, le-ltb n size h)

pub ruleset started_laws = (started_open, started_none)

-- the leftmost leaf, sought from the latest step back
pub record Seeking (sizes : List ℕ) (question : ℕ) (steps : List ℕ) (done n i : ℕ) : Type 0 where
  pub low : n + i ≤ done
  pub same : leftmost sizes question steps done ≡ open_after sizes question steps i n

pub seek_begin : (sizes : List ℕ) (question : ℕ) (steps : List ℕ) (done : ℕ) → Seeking sizes question steps done 0 done
seek_begin sizes question steps done = record { low = omega arith; same = refl }

module _ {sizes : List ℕ} {question : ℕ} {steps : List ℕ} {done n i : ℕ} (g : Seeking sizes question steps done n i) where
  pub seek_over : i ≤ 0 → {r : Option Leaf} → r ≡ started sizes question n → r ≡ leftmost sizes question steps done
  unfolding open_after
  seek_over h e = let z : i ≡ 0 = omega (arith, h) in e ∙ sym (rw z at g.same)

  module _ (h : 0 < i) where
    pub seek_low : done < 2 ^ 32 → n < 4294967295
    seek_low f = omega (arith, g.low, f, h)

    pub seek_fits : done < 2 ^ 32 → (many : ℕ) → Fits w32 (n - many + 1)
    seek_fits f many = record { fits = omega (arith, g.low, f, h) }

    module _ {w : ℕ} (ew : w ≡ get_or steps (i - 1) 0) {many : ℕ} (em : many ≡ opens sizes (step_of w)) where
      stepped : (k : ℕ) → i ≡ suc k → w ≡ get_or steps k 0
          → open_after sizes question steps i n ≡ cond (ltb n many) (hung i n (step_of w)) (open_after sizes question steps k (suc (n - many)))
      unfolding open_after
      stepped k e ek = rw (e, em, ek)

      here : open_after sizes question steps i n ≡ cond (ltb n many) (hung i n (step_of w)) (open_after sizes question steps (i - 1) (suc (n - many)))
      here = stepped (i - 1) (omega (arith, h)) ew

      pub seek_found : n < many → {r : Option Leaf} → r ≡ hung i n (step_of w) → r ≡ leftmost sizes question steps done
      seek_found l e = e ∙ sym (g.same ∙ here ∙ rw (lt-ltb n many l))

      pub seek_next : many ≤ n → Seeking sizes question steps done (n - many + 1) (i - 1)
      seek_next l = record { low = omega (arith, g.low, h); same = g.same ∙ here ∙ rw (le-ltb n many l, add-one) }

pub ruleset seek_laws = (seek_begin, seek_over, seek_low, seek_fits, seek_found, seek_next)

-- ancestors
module _ (sizes : List ℕ) (question : ℕ) (steps : List ℕ) where
  pub under_start : {number : ℕ} → number ≡ 0 → None ≡ hung_under sizes question steps number
  unfolding hung_under
  under_start e = rw e

  pub under_step : (number : ℕ) → (number ≡ 0 → ⊥) → {r : Option Leaf} → r ≡ leftmost sizes question steps (number - 1) → r ≡ hung_under sizes question steps number
  unfolding hung_under
  under_step zero n e = absurd (n refl)
  under_step (suc k) n e = let z : suc k - 1 ≡ k = omega arith in rw z at e

  module _ {leaf : Option Leaf} where
    pub above_open : {l : Leaf} → leaf ≡ Some l → {r : Option Leaf} → r ≡ hung_under sizes question steps l.number → r ≡ above sizes question steps leaf
    unfolding above
    above_open e h = rw e h

    pub above_none : leaf ≡ None → None ≡ above sizes question steps leaf
    unfolding above
    above_none e = rw e

pub ruleset above_laws = (under_start, under_step, above_open, above_none)

pub record Climbing (sizes : List ℕ) (question : ℕ) (steps : List ℕ) (height : ℕ) (leaf : Option Leaf) (climbed : ℕ) (reached : Option Leaf) : Type 0 where
  pub same : ancestor sizes question steps height leaf ≡ ancestor sizes question steps (height - climbed) reached

pub climb_begin : (sizes : List ℕ) (question : ℕ) (steps : List ℕ) (height : ℕ) (leaf : Option Leaf) → Climbing sizes question steps height leaf 0 leaf
climb_begin sizes question steps height leaf = record { same = let z : height - 0 ≡ height = omega arith in rw z }

module _ {sizes : List ℕ} {question : ℕ} {steps : List ℕ} {height : ℕ} {leaf : Option Leaf} {climbed : ℕ} {reached : Option Leaf} (g : Climbing sizes question steps height leaf climbed reached) where
  pub climb_over : height ≤ climbed → reached ≡ ancestor sizes question steps height leaf
  unfolding ancestor
  climb_over h = let z : height - climbed ≡ 0 = omega (arith, h) in sym (rw z at g.same)

  pub climb_on : climbed < height → {next : Option Leaf} → next ≡ above sizes question steps reached → Climbing sizes question steps height leaf (climbed + 1) next
  unfolding ancestor
  climb_on h e = record { same = g.same ∙ up (height - (climbed + 1)) (omega (arith, h)) e }
    where
      up : (k : ℕ) → height - climbed ≡ suc k → {next : Option Leaf} → next ≡ above sizes question steps reached
          → ancestor sizes question steps (height - climbed) reached ≡ ancestor sizes question steps k next
      up k z en = rw (z, en)

pub ruleset climb_laws = (climb_begin, climb_over, climb_on)
