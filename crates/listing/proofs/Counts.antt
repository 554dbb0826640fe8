-- The copies counted step by step, one law for each outcome, with premises as the code has them.
use borrow.Author.Tests.{eq-eqb, ne_eqb}
use lib.ListN.{length, drop, get_or, set, replicate, length-set, length-replicate, drop_of_length-le}
use lib.Seq.{drop-cons}
use mathlib.Core.Bool.{false}
use mathlib.Core.List.{List, [], ◌∷◌, map}
use mathlib.Core.Path.{◌≡◌, refl, sym, ap, ◌∙◌}
use mir.Syntax.{w32}
use mir.Val.{Fits}
use native.Mathlib.Decide.{ℕ_discrete}
use native.Mathlib.Numerals.{add-one}
use native.Mathlib.Omega.{arith}
use Prim.Native.Nat.{ℕ, zero, suc, ◌+◌, ◌≤◌, ◌<◌}
use Rattle.words.specs.Steps.{step_of}
use Rattle.words.specs.declared.Step.{Step}
use Rattle.words.specs.declared.Step.TheVariants.{Reduction, Extension, Restart, Malformed}
use Rattle.engine.proofs.Checker.Steps.{small_clause}
use Rattle.listing.specs.Behind.{copied_by}
use Rattle.listing.specs.Counting.{Counted}

-- so many steps have been counted
pub record Counting (offered : List ℕ) (i : ℕ) (copies : List ℕ) : Type 0 where
  pub within : i ≤ length offered
  pub long : length copies ≡ 512
  pub low : (number : ℕ) → get_or copies number 0 ≤ i
  pub counts : (number : ℕ) → number < 512 → get_or copies number 0 + copied_by (map step_of (drop i offered)) number ≡ copied_by (map step_of offered) number

zero_at : (n number : ℕ) → ◌≡◌ {A = ℕ} (get_or (replicate n 0) number 0) 0
zero_at zero number = refl
zero_at (suc n) zero = refl
zero_at (suc n) (suc number) = zero_at n number

pub count_begin : (offered copies : List ℕ) → copies ≡ replicate 512 0 → Counting offered 0 copies
count_begin offered copies e =
    let zeros : (number : ℕ) → ◌≡◌ {A = ℕ} (get_or copies number 0) 0 = λ number. ap (λ (l : List ℕ). get_or l number 0) e ∙ zero_at 512 number in
    record {
      within = omega arith;
      long = ap (λ (l : List ℕ). length l) e ∙ length-replicate {A = ℕ} 512 0;
      low = λ number. omega (arith, zeros number);
      counts = λ number h. omega (arith, zeros number);
    }

-- a store in a list
set_there : (xs : List ℕ) (i v : ℕ) → i < length xs → get_or (set xs i v) i 0 ≡ v
set_there [] i v h = absurd (omega arith)
set_there (x ∷ xs) zero v h = refl
set_there (x ∷ xs) (suc i) v h = set_there xs i v (omega arith)

set_elsewhere : (xs : List ℕ) (i j v : ℕ) → (i ≡ j → ⊥) → get_or (set xs i v) j 0 ≡ get_or xs j 0
set_elsewhere [] i j v n = refl
set_elsewhere (x ∷ xs) zero zero v n = absurd (n refl)
set_elsewhere (x ∷ xs) zero (suc j) v n = refl
set_elsewhere (x ∷ xs) (suc i) zero v n = refl
set_elsewhere (x ∷ xs) (suc i) (suc j) v n = set_elsewhere xs i j v (λ e. n (ap suc e))

-- a step that copies no clause
copies_none : (s : Step) (ss : List Step) (number : ℕ) → ((clause literal : ℕ) → s ≡ Extension clause literal → ⊥) → copied_by (s ∷ ss) number ≡ copied_by ss number
unfolding copied_by
copies_none (Reduction height) ss number h = refl
copies_none (Extension clause literal) ss number h = absurd (h clause literal refl)
copies_none Restart ss number h = refl
copies_none Malformed ss number h = refl

-- a step that copies one
module _ (clause literal : ℕ) (ss : List Step) (number : ℕ) where
  copied-here : clause ≡ number → copied_by (Extension clause literal ∷ ss) number ≡ suc (copied_by ss number)
  unfolding copied_by
  copied-here e = rw (eq-eqb clause number e)

  copied-elsewhere : (clause ≡ number → ⊥) → copied_by (Extension clause literal ∷ ss) number ≡ copied_by ss number
  unfolding copied_by
  copied-elsewhere n = rw (ne_eqb clause number n)

module _ (offered copies : List ℕ) (i : ℕ) (g : Counting offered i copies) (h : i < length offered) where
  this-step : map step_of (drop i offered) ≡ step_of (get_or offered i 0) ∷ map step_of (drop (i + 1) offered)
  this-step = ap (λ (ws : List ℕ). map step_of ws) (drop-cons offered i 0 h) ∙ rw (add-one i)

  module _ {s : Step} (e : s ≡ step_of (get_or offered i 0)) where
    pub count_past : ((clause literal : ℕ) → s ≡ Extension clause literal → ⊥) → Counting offered (i + 1) copies
    count_past none =
        record {
          within = omega arith;
          long = g.long;
          low = λ number. omega (arith, g.low number);
          counts = λ number b.
              let rest = map step_of (drop (i + 1) offered) in
              omega (
                arith,
                g.counts number b,
                ap (λ (ss : List Step). copied_by ss number) this-step,
                ap (λ (r : Step). copied_by (r ∷ map step_of (drop (i + 1) offered)) number) e,
                copies_none s rest number none,
              );
        }

    module _ {clause literal number : ℕ} (f : s ≡ Extension clause literal) (n : number ≡ clause) where
      pub count_in : number < length copies
      count_in = omega (arith, n, g.long, small_clause (record { bound = 0; restarts = false }) (get_or offered i 0) (sym e ∙ f))

      pub count_fits : length offered ≤ 199 → Fits w32 (get_or copies number 0 + 1)
      count_fits few = record { fits = omega (arith, g.low number) }

      pub count_more : Counting offered (i + 1) (set copies number (get_or copies number 0 + 1))
      count_more =
          record {
            within = omega arith;
            long = length-set copies number _ ∙ g.long;
            low = λ k. low_at k (ℕ_discrete number k);
            counts = λ k b. counts_at k b (ℕ_discrete number k);
          }
        where
          low_at : (k : ℕ) → Dec (number ≡ k) → get_or (set copies number (get_or copies number 0 + 1)) k 0 ≤ i + 1
          low_at k (yes z) = rw (← z, set_there copies number (get_or copies number 0 + 1) count_in) (omega (arith, g.low number))
          low_at k (no z) = rw (set_elsewhere copies number k (get_or copies number 0 + 1) z) (omega (arith, g.low k))

          now_copied : (k : ℕ) → copied_by (map step_of (drop i offered)) k ≡ copied_by (Extension clause literal ∷ map step_of (drop (i + 1) offered)) k
          now_copied k =
              ap (λ (ss : List Step). copied_by ss k) this-step ∙ ap (λ (r : Step). copied_by (r ∷ map step_of (drop (i + 1) offered)) k) (sym e ∙ f)

          counts_at : (k : ℕ) → k < 512 → Dec (number ≡ k)
              → get_or (set copies number (get_or copies number 0 + 1)) k 0 + copied_by (map step_of (drop (i + 1) offered)) k ≡ copied_by (map step_of offered) k
          counts_at k b (yes z) =
              omega (
                arith,
                g.counts k b,
                now_copied k,
                copied-here clause literal (map step_of (drop (i + 1) offered)) k (sym n ∙ z),
                ap (λ (m : ℕ). get_or (set copies number (get_or copies number 0 + 1)) m 0) (sym z) ∙ set_there copies number (get_or copies number 0 + 1) count_in,
                ap (λ (m : ℕ). get_or copies m 0) z,
              )
          counts_at k b (no z) =
              omega (
                arith,
                g.counts k b,
                now_copied k,
                copied-elsewhere clause literal (map step_of (drop (i + 1) offered)) k (λ y. z (n ∙ y)),
                set_elsewhere copies number k (get_or copies number 0 + 1) z,
              )

pub count_done : (offered copies : List ℕ) (i : ℕ) → Counting offered i copies → length offered ≤ i → length offered ≤ 199 → Counted (map step_of offered) copies
unfolding copied_by
count_done offered copies i g h few =
    record {
      counters = record { long = g.long; low = λ number. omega (arith, g.low number, g.within) };
      counts = λ number b.
          omega (arith, g.counts number b, ap (λ (ws : List ℕ). copied_by (map step_of ws) number) (drop_of_length-le offered h));
    }

pub ruleset count_laws = (count_begin, count_past, count_in, count_fits, count_more, count_done)
