-- Slots written one after the other: one law for each outcome, with premises as the code has them.
use borrow.Author.Tests.{not-true, not-false}
use lib.ListN.{length, take, replicate}
use mathlib.Core.Bool.{Bool, true, false, not}
use mathlib.Core.List.{List, [], ◌∷◌, ◌++◌}
use mathlib.Core.Option.{none}
use mathlib.Core.Path.{◌≡◌, refl, ◌∙◌, ap, ap₂}
use native.Mathlib.Nat.{not-suc-le-zero}
use native.Mathlib.Numerals.{add-one}
use native.Mathlib.Omega.{arith}
use Prim.Native.Nat.{ℕ, zero, suc, ◌+◌, ◌-◌, ◌/◌, ◌%◌, min, ◌≤◌, ◌<◌}
use Rattle.table.specs.File.{table_in}
use Rattle.rules.specs.Setting.{profile_of, read_steps}
use Rattle.text.specs.Put.{put, Put}
use Rattle.text.proofs.Putting.{Left, begin, further, finish, then as joined}
use Rattle.unification.specs.Good.{Good}
use Rattle.engine.specs.declared.Conditions.{Conditions}
use Rattle.bound_literals.specs.Bound.{words_after, slot, slots_from, slots_of}
use Rattle.bound_literals.specs.Held.{Filled, words_held, play_after, slots_after, Taken, Replayed}

-- zeros with words put at the front
zeros : (n k : ℕ) → n ≤ k → replicate {A = ℕ} n 0 ≡ take n (replicate {A = ℕ} k 0)
zeros zero k h = refl
zeros (suc n) zero h = absurd (not-suc-le-zero h)
zeros (suc n) (suc k) h = ap (0 ∷◌) (zeros n k (omega arith))

put_zeros : (n k : ℕ) (ws : List ℕ) → n ≤ k → put (replicate {A = ℕ} n 0) 0 ws ≡ take n (ws ++ replicate {A = ℕ} k 0)
unfolding put
put_zeros zero k ws h = refl
put_zeros (suc n) k [] h = zeros (suc n) k h
put_zeros (suc n) k (w ∷ ws) h = ap (w ∷◌) (put_zeros n k ws (omega arith))

module _ {ws left : List ℕ} {next : ℕ} (p : Filled (replicate {A = ℕ} 65 0) 0 ws left next) where
  pub slot_is : {n : ℕ} → n ≡ next → {o₀ o₁ o₂ : List ℕ} {n₀ n₁ n₂ : ℕ} → Put o₀ n₀ left o₁ n₁ → Put o₁ n₁ (n ∷ []) o₂ n₂ → Put o₀ n₀ (slot ws) o₂ n₂
  unfolding slot
  slot_is {n} e q r =
      let same : left ≡ take 65 (ws ++ replicate {A = ℕ} 65 0) = p.written ∙ put_zeros 65 65 ws (omega arith) in
      let many : n ≡ min (length ws) 65 = e ∙ omega (arith, p.ends) in
      rw (← same, ← many) (joined q r)

-- so many slots are written
pub record Slotting (words : ℕ → ℕ → List ℕ) (first out : List ℕ) (at i : ℕ) : Type 0 where
  pub few : i ≤ 231
  pub left : Left first 0 (slots_from words 0 231) out at (slots_from words i (231 - i))

module _ {words : ℕ → ℕ → List ℕ} {first out : List ℕ} {at i : ℕ} (g : Slotting words first out at i) where
  pub slots_over : 231 ≤ i → Put first 0 (slots_from words 0 231) out at
  unfolding slots_from
  slots_over h = let z : 231 - i ≡ 0 = omega (arith, h) in finish (rw z at g.left)

  pub slots_on : i < 231 → {out' : List ℕ} {at' : ℕ} → Put out at (slot (words (i / 7) (i % 7))) out' at' → Slotting words first out' at' (i + 1)
  unfolding slots_from
  slots_on h p = record {
    few = omega arith;
    left =
        let y : 231 - i ≡ suc (230 - i) = omega (arith, h) in
        let z : 231 - (i + 1) ≡ 230 - i = omega arith in
        rw (z, add-one i) (further (slot (words (i / 7) (i % 7))) (slots_from words (suc i) (230 - i)) (rw y at g.left) p);
  }

-- what the work words hold is what the rules say
same_slots : (a b : ℕ → ℕ → List ℕ) → ((copy number : ℕ) → a copy number ≡ b copy number) → (i more : ℕ) → slots_from a i more ≡ slots_from b i more
unfolding slots_from
same_slots a b e i zero = refl
same_slots a b e i (suc more) = ap₂ ◌++◌ (ap slot (e (i / 7) (i % 7))) (same_slots a b e (suc i) more)

module _ (f m : List ℕ) (conditions : Conditions) (steps : List ℕ) where
  same_words_lem : (g : Taken f m conditions steps) (copy number : ℕ)
      → words_held f m copy number ≡ words_after (table_in f) (read_steps (profile_of conditions.restarts) steps) g.play copy number
  unfolding words_held words_after
  same_words_lem g copy number = rw (g.bindings, g.clauses copy)

  slots-held : (g : Taken f m conditions steps) → slots_from (words_held f m) 0 231 ≡ slots_after f conditions steps
  unfolding slots_of
  slots-held g = rw g.comes (same_slots (words_held f m) _ (same_words_lem g) 0 231)

  slots-none : play_after f conditions steps ≡ none → (out : List ℕ) → Put out 0 (slots_after f conditions steps) out 0
  unfolding slots_of
  slots-none e out = rw e (finish (begin out 0 []))

-- by the answer of the replay
pub replayed_false : (f m : List ℕ) (conditions : Conditions) (steps : List ℕ) → play_after f conditions steps ≡ none → Replayed f m conditions steps false
replayed_false f m conditions steps e = record { taken = λ b. let z : ◌≡◌ {A = ℕ} 0 1 = cc in absurd (omega arith); refused = λ b. e }

pub replayed_true : (f m : List ℕ) (conditions : Conditions) (steps : List ℕ) → Taken f m conditions steps → Replayed f m conditions steps true
replayed_true f m conditions steps g = record { taken = λ b. g; refused = λ b. let z : ◌≡◌ {A = ℕ} 0 1 = cc in absurd (omega arith) }

module _ {f m : List ℕ} {conditions : Conditions} {steps : List ℕ} {b : Bool} (r : Replayed f m conditions steps b) where
  pub replayed_not : not b ≡ true → (out : List ℕ) → Put out 0 (slots_after f conditions steps) out 0
  replayed_not e out = slots-none f m conditions steps (r.refused (not-true b e)) out

  pub replayed_good : not b ≡ false → Good f m
  replayed_good e = (r.taken (not-false b e)).good

  pub replayed_slots : not b ≡ false → {o₀ o₁ : List ℕ} {n : ℕ} → Put o₀ 0 (slots_from (words_held f m) 0 231) o₁ n → Put o₀ 0 (slots_after f conditions steps) o₁ n
  replayed_slots e p = rw (slots-held f m conditions steps (r.taken (not-false b e))) at p
