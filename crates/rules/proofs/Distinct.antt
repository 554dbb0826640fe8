-- Different numbers below a bound are at most as many as the bound.
use lib.Dec.{T, eqb, eqb→eq, eqb_refl}
use lib.ListN.{length}
use mathlib.Core.Bool.{Bool, true, false, cond}
use mathlib.Core.List.{List, [], ◌∷◌}
use mathlib.Core.Logic.{◌≢◌}
use mathlib.Core.Path.{◌≡◌, refl, sym, ◌∙◌, ap}
use native.Mathlib.Omega.{arith}
use Prim.Native.Nat.{ℕ, zero, suc, ◌≤◌, ◌<◌}
use Rattle.rules.proofs.Every.{All, end, ◌also◌, all_first, all_rest, all_then, Ordered, done, ◌ahead◌, true_false}

abbrev Differ : ℕ → ℕ → Type 0
Differ m n = m ≢ n

without : ℕ → List ℕ → List ℕ
without n [] = []
without n (m ∷ ms) = cond (eqb m n) (without n ms) (m ∷ without n ms)

without_all : {P : ℕ → Type 0} (n : ℕ) (ms : List ℕ) → All P ms → All P (without n ms)
unfolding without
without_all n [] p = end
without_all {P} n (m ∷ ms) p = go (eqb m n) (without_all n ms (all_rest p))
  where
    go : (b : Bool) → All P (without n ms) → All P (cond b (without n ms) (m ∷ without n ms))
    go true q = q
    go false q = all_first p also q

without_differ : (n : ℕ) (ms : List ℕ) → Ordered Differ ms → Ordered Differ (without n ms)
unfolding without
without_differ n [] o = done
without_differ n (m ∷ ms) (d ahead o) = go (eqb m n) (without_differ n ms o)
  where
    go : (b : Bool) → Ordered Differ (without n ms) → Ordered Differ (cond b (without n ms) (m ∷ without n ms))
    go true q = q
    go false q = without_all n ms d ahead q

tested_same : (m n : ℕ) → eqb m n ≡ true → m ≡ n
tested_same m n e = eqb→eq m n (rw e tt)

tested_other : (m n : ℕ) → eqb m n ≡ false → m ≢ n
tested_other m n e h = go (eqb m n) e (rw h (eqb_refl n))
  where
    go : (b : Bool) → b ≡ false → T b → ⊥
    go true f t = true_false refl f
    go false f t = t

without_below : (n : ℕ) (ms : List ℕ) → All (λ m. m < suc n) ms → All (λ m. m < n) (without n ms)
unfolding without
without_below n [] p = end
without_below n (m ∷ ms) p = go (eqb m n) refl (without_below n ms (all_rest p))
  where
    go : (b : Bool) → eqb m n ≡ b → All (λ k. k < n) (without n ms) → All (λ k. k < n) (cond b (without n ms) (m ∷ without n ms))
    go true e q = q
    go false e q =
        let h : m ≢ n = tested_other m n e in
        let l : m < suc n = all_first p in
        let k : m < n = omega arith in
        k also q

-- where a number does not stand, nothing is taken out; elsewhere one at most
without_absent : (n : ℕ) (ms : List ℕ) → All (Differ n) ms → length (without n ms) ≡ length ms
unfolding without
without_absent n [] p = refl
without_absent n (m ∷ ms) p = go (eqb m n) refl (without_absent n ms (all_rest p))
  where
    go : (b : Bool) → eqb m n ≡ b → length (without n ms) ≡ length ms → length (cond b (without n ms) (m ∷ without n ms)) ≡ suc (length ms)
    go true e q = absurd (all_first p (sym (tested_same m n e)))
    go false e q = ap suc q

without_length : (n : ℕ) (ms : List ℕ) → Ordered Differ ms → length ms ≤ suc (length (without n ms))
unfolding without
without_length n [] o = omega arith
without_length n (m ∷ ms) (d ahead o) = go (eqb m n) refl (without_length n ms o)
  where
    go : (b : Bool) → eqb m n ≡ b → length ms ≤ suc (length (without n ms)) → suc (length ms) ≤ suc (length (cond b (without n ms) (m ∷ without n ms)))
    go true e q = let h = without_absent n ms (all_then (λ k f g. f (tested_same m n e ∙ g)) d) in omega arith
    go false e q = omega arith

pub distinct_below : (n : ℕ) (ms : List ℕ) → Ordered (λ i j. i ≢ j) ms → All (λ m. m < n) ms → length ms ≤ n
distinct_below zero [] o p = omega arith
distinct_below zero (m ∷ ms) o p = let l : m < 0 = all_first p in omega arith
distinct_below (suc n) ms o p =
    let l = distinct_below n (without n ms) (without_differ n ms o) (without_below n ms p) in
    let k = without_length n ms o in
    omega arith
