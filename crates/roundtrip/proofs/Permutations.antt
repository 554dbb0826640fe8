-- Numbers by first use, made into a numbering of all numbers, each once: those that are not used change places with those that are.
use borrow.Author.Tests.{eqb-true, eqb-false, eq-eqb, ne_eqb, ltb-true, ltb-false, lt-ltb}
use mathlib.Core.Bool.{Bool, true, false, cond}
use mathlib.Core.List.{List, [], ◌∷◌}
use mathlib.Core.Logic.{◌≢◌}
use mathlib.Core.Path.{◌≡◌, refl, sym, ap, ◌∙◌}
use Prim.Native.Nat.{ℕ, zero, suc, ◌+◌, ◌-◌, ◌≤◌, ◌<◌}
use native.Mathlib.Omega.{arith}
use lib.Dec.{eqb, ltb}
use lib.ListN.{length, get_or}
use Rattle.rules.proofs.Every.{All, end, ◌also◌, all_first, all_rest, all_of, ◌ahead◌}
use Rattle.roundtrip.specs.Renumbered.{first_uses, number_in}
use Rattle.roundtrip.proofs.FirstUses.{Known, Different, uses_different, number_of_place}

-- each element goes to one, and comes back from it
pub record Permutation (A : Type 0) : Type 0 where
  pub to : A → A
  pub from : A → A
  pub back : (a : A) → from (to a) ≡ a
  pub forth : (a : A) → to (from a) ≡ a

pub kept_apart : {A : Type 0} (π : Permutation A) {a b : A} → π.to a ≡ π.to b → a ≡ b
kept_apart {A} π {a} {b} e = sym (π.back a) ∙ ap (λ (c : A). π.from c) e ∙ π.back b

pub same_test : (π : Permutation ℕ) (m n : ℕ) → eqb (π.to m) (π.to n) ≡ eqb m n
same_test π m n = go (eqb m n) refl
  where
    go : (b : Bool) → eqb m n ≡ b → eqb (π.to m) (π.to n) ≡ b
    go true e = eq-eqb (π.to m) (π.to n) (ap (λ (i : ℕ). π.to i) (eqb-true m n e))
    go false e = ne_eqb (π.to m) (π.to n) (λ h. eqb-false m n e (kept_apart π h))

unfoldable pub unmoved : Permutation ℕ
unmoved = record { to = λ n. n; from = λ n. n; back = λ n. refl; forth = λ n. refl }

unfoldable pub after : Permutation ℕ → Permutation ℕ → Permutation ℕ
after π ρ = record {
  to = λ n. ρ.to (π.to n);
  from = λ n. π.from (ρ.from n);
  back = λ n. ap (λ (m : ℕ). π.from m) (ρ.back (π.to n)) ∙ π.back n;
  forth = λ n. ap (λ (m : ℕ). ρ.to m) (π.forth (ρ.from n)) ∙ ρ.forth n;
}

-- two numbers change places
swap : ℕ → ℕ → ℕ → ℕ
swap a b n = cond (eqb n a) b (cond (eqb n b) a n)

module _ (a b : ℕ) where
  swap-first : swap a b a ≡ b
  unfolding swap
  swap-first = rw (eq-eqb a a refl)

  swap-second : swap a b b ≡ a
  unfolding swap
  swap-second = rw (eq-eqb b b refl) (go (eqb b a) refl)
    where
      go : (t : Bool) → eqb b a ≡ t → cond t b a ≡ a
      go true e = eqb-true b a e
      go false e = refl

  swap-other : (n : ℕ) → n ≢ a → n ≢ b → swap a b n ≡ n
  unfolding swap
  swap-other n h k = rw (ne_eqb n a h, ne_eqb n b k)

  swap-back : (n : ℕ) → swap a b (swap a b n) ≡ n
  swap-back n = go (eqb n a) refl (eqb n b) refl
    where
      go : (s : Bool) → eqb n a ≡ s → (t : Bool) → eqb n b ≡ t → swap a b (swap a b n) ≡ n
      go true e t f = rw (eqb-true n a e, swap-first, swap-second)
      go false e true f = rw (eqb-true n b f, swap-second, swap-first)
      go false e false f = rw (swap-other n (eqb-false n a e) (eqb-false n b f), swap-other n (eqb-false n a e) (eqb-false n b f))

swapped : ℕ → ℕ → Permutation ℕ
swapped a b = record { to = swap a b; from = swap a b; back = swap-back a b; forth = swap-back a b }

-- numbers of a list take their places in turn
placing : ℕ → Permutation ℕ → List ℕ → Permutation ℕ
placing k π [] = π
placing k π (n ∷ ns) = placing (suc k) (after π (swapped k (π.to n))) ns

-- those that are still to come are not before the place
abbrev ToCome : ℕ → Permutation ℕ → List ℕ → Type 0
ToCome k π ns = All (λ n. k ≤ π.to n) ns

module _ (k : ℕ) (π : Permutation ℕ) (n : ℕ) (h : k ≤ π.to n) where
  abbrev next : Permutation ℕ
  next = after π (swapped k (π.to n))

  next_is : (m : ℕ) → next.to m ≡ swap k (π.to n) (π.to m)
  unfolding after swapped
  next_is m = refl

  own-place : next.to n ≡ k
  own-place = next_is n ∙ swap-second k (π.to n)

  placed-stays : (m : ℕ) → π.to m < k → next.to m ≡ π.to m
  placed-stays m l = next_is m ∙ swap-other k (π.to n) (π.to m) (λ e. omega arith) (λ e. omega arith)

  comes-later : (m : ℕ) → n ≢ m → k ≤ π.to m → suc k ≤ next.to m
  comes-later m d l = rw (next_is m) (go (eqb (π.to m) k) refl)
    where
      apart : π.to n ≢ π.to m
      apart e = d (kept_apart π e)

      go : (t : Bool) → eqb (π.to m) k ≡ t → suc k ≤ swap k (π.to n) (π.to m)
      go true e = let i = eqb-true (π.to m) k e in rw (i, swap-first k (π.to n)) (let j : π.to n ≢ k = λ f. apart (f ∙ sym i) in omega arith)
      go false e =
          let i : π.to m ≢ k = eqb-false (π.to m) k e in
          rw (swap-other k (π.to n) (π.to m) i (λ f. apart (sym f))) (omega arith)

  all-later : (ns : List ℕ) → All (λ m. n ≢ m) ns → ToCome k π ns → ToCome (suc k) next ns
  all-later [] d l = end
  all-later (m ∷ ns) d l = comes-later m (all_first d) (all_first l) also all-later ns (all_rest d) (all_rest l)

stays : (ns : List ℕ) (k : ℕ) (π : Permutation ℕ) → ToCome k π ns → Different ns → (m : ℕ) → π.to m < k → (placing k π ns).to m ≡ π.to m
unfolding placing
stays [] k π l d m h = refl
stays (n ∷ ns) k π l (a ahead d) m h =
    let same = placed-stays k π n (all_first l) m h in
    stays ns (suc k) (next k π n (all_first l)) (all-later k π n (all_first l) ns a (all_rest l)) d m (omega arith) ∙ same

placed : (ns : List ℕ) (k : ℕ) (π : Permutation ℕ) → ToCome k π ns → Different ns → (m : ℕ) → Known ns m → (placing k π ns).to m ≡ k + number_in ns m
unfolding placing number_in
placed [] k π l d m h = absurd (omega arith)
placed (n ∷ ns) k π l (a ahead d) m h =
    let later = all-later k π n (all_first l) ns a (all_rest l) in
    let own = own-place k π n (all_first l) in
    go (eqb n m) refl h (stays ns (suc k) (next k π n (all_first l)) later d n (omega arith) ∙ own) (λ g. placed ns (suc k) (next k π n (all_first l)) later d m g)
  where
    go : (t : Bool) → eqb n m ≡ t → cond t zero (suc (number_in ns m)) < suc (length ns)
        → (placing (suc k) (after π (swapped k (π.to n))) ns).to n ≡ k
        → (Known ns m → (placing (suc k) (after π (swapped k (π.to n))) ns).to m ≡ suc k + number_in ns m)
        → (placing (suc k) (after π (swapped k (π.to n))) ns).to m ≡ k + cond t zero (suc (number_in ns m))
    go true e g own rest = let i : m ≡ n = sym (eqb-true n m e) in rw i (omega (arith, own))
    go false e g own rest = omega (arith, rest (omega arith))

-- the numbering by first use
pub numbering : List ℕ → Permutation ℕ
numbering uses = placing 0 unmoved (first_uses uses)

pub numbering_known : (uses : List ℕ) (n : ℕ) → Known (first_uses uses) n → number_in (first_uses uses) n ≡ (numbering uses).to n
unfolding numbering
numbering_known uses n h =
    let z = placed (first_uses uses) 0 unmoved (all_of (λ m. omega arith) (first_uses uses)) (uses_different uses) n h in omega arith

-- what gets a number below the number of uses was used
pub numbering_below : (uses : List ℕ) (n : ℕ) → (numbering uses).to n < length (first_uses uses) → (numbering uses).to n ≡ number_in (first_uses uses) n
numbering_below uses n h =
    let k : ℕ = (numbering uses).to n in
    let m : ℕ = get_or (first_uses uses) ((numbering uses).to n) 0 in
    let own : number_in (first_uses uses) (get_or (first_uses uses) ((numbering uses).to n) 0) ≡ (numbering uses).to n = number_of_place uses ((numbering uses).to n) h in
    let to : (numbering uses).to (get_or (first_uses uses) ((numbering uses).to n) 0) ≡ (numbering uses).to n =
    sym (numbering_known uses (get_or (first_uses uses) ((numbering uses).to n) 0) (omega arith)) ∙ own in
    sym own ∙ ap (λ (i : ℕ). number_in (first_uses uses) i) (kept_apart (numbering uses) to)

-- neighbours from a number on change places
neighbour : ℕ → ℕ
neighbour zero = 1
neighbour (suc zero) = 0
neighbour (suc (suc n)) = suc (suc (neighbour n))

neighbour_back : (n : ℕ) → neighbour (neighbour n) ≡ n
unfolding neighbour
neighbour_back zero = refl
neighbour_back (suc zero) = refl
neighbour_back (suc (suc n)) = ap (λ (m : ℕ). suc (suc m)) (neighbour_back n)

neighbour_other : (n : ℕ) → n ≢ neighbour n
unfolding neighbour
neighbour_other zero e = omega arith
neighbour_other (suc zero) e = omega arith
neighbour_other (suc (suc n)) e = neighbour_other n (omega arith)

beyond : ℕ → ℕ → ℕ
beyond limit n = cond (ltb n limit) n (limit + neighbour (n - limit))

module _ (limit : ℕ) where
  beyond-below : (n : ℕ) → n < limit → beyond limit n ≡ n
  unfolding beyond
  beyond-below n h = rw (lt-ltb n limit h)

  beyond-above : (n : ℕ) → limit ≤ n → beyond limit n ≡ limit + neighbour (n - limit)
  unfolding beyond
  beyond-above n h = go (ltb n limit) refl
    where
      go : (t : Bool) → ltb n limit ≡ t → cond t n (limit + neighbour (n - limit)) ≡ limit + neighbour (n - limit)
      go true e = absurd (omega (arith, ltb-true n limit e))
      go false e = refl

  beyond-back : (n : ℕ) → beyond limit (beyond limit n) ≡ n
  beyond-back n = go (ltb n limit) refl
    where
      go : (t : Bool) → ltb n limit ≡ t → beyond limit (beyond limit n) ≡ n
      go true e = let h = ltb-true n limit e in rw (beyond-below n h) (beyond-below n h)
      go false e =
          let h = ltb-false n limit e in
          let there : beyond limit n ≡ limit + neighbour (n - limit) = beyond-above n (omega arith) in
          let less : limit + neighbour (n - limit) - limit ≡ neighbour (n - limit) = omega arith in
          rw (there, beyond-above (limit + neighbour (n - limit)) (omega arith), less, neighbour_back (n - limit)) (omega arith)

  pub moving : Permutation ℕ
  moving = record { to = beyond limit; from = beyond limit; back = beyond-back; forth = beyond-back }

  pub moving_below : (n : ℕ) → n < limit → moving.to n ≡ n
  unfolding moving
  moving_below n h = beyond-below n h

  -- nothing else stays
  pub moving_above : (n : ℕ) → n ≡ moving.to n → n < limit
  unfolding moving
  moving_above n e = go (ltb n limit) refl
    where
      go : (t : Bool) → ltb n limit ≡ t → n < limit
      go true f = ltb-true n limit f
      go false f =
          let h = ltb-false n limit f in
          let z : n ≡ limit + neighbour (n - limit) = e ∙ beyond-above n (omega arith) in
          absurd (neighbour_other (n - limit) (omega arith))
