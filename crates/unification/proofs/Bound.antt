-- Bindings in the work words: what a variable is bound to, and what stays where words change.
use borrow.Author.Tests.{eqb-true, eqb-false}
use lib.Dec.{eqb}
use lib.ListN.{length}
use mathlib.Core.Bool.{Bool, true, false, cond, ◌||◌, or-true}
use mathlib.Core.List.{List}
use mathlib.Core.Option.{Option, some}
use mathlib.Core.Path.{◌≡◌, refl, ◌∙◌, ap, ap₂}
use native.Mathlib.Omega.{arith}
use Prim.Native.Nat.{ℕ, zero, suc, ◌+◌, ◌-◌, ◌/◌, ◌%◌, ◌≤◌, ◌<◌}
use Rattle.rules.specs.Substitution.{Variable, same_variable}
use Rattle.rules.specs.Machinery.Unify.{Bindings}
use Rattle.rules.proofs.Unify.Tests.{never, decide, same_true, same_refl, differ}
use Rattle.rules.proofs.Unify.Solution as bindings
use Rattle.rules.proofs.Unify.Following.{value_of}
use Rattle.rules.proofs.Unify.Heights.{Low}
use Rattle.unification.specs.Places.{most_variables, count_place, most_copies, copies_place, start_places}
use Rattle.unification.specs.State.{start_at, copies_of, trail_at, bound_at, ClauseAt, words_at, terms_of, term_of, Points, variable_of, bindings_of}
use Rattle.unification.specs.Good.{Same, is_free, free_below, Entry, Held}
use Rattle.unification.proofs.References.{term_height}

-- a variable is known by its copy and number
pub variable_same : (u v : ℕ) → variable_of u ≡ variable_of v → u ≡ v
variable_same u v e =
    let c : u / 16 ≡ v / 16 = ap (λ (x : Variable). x.copy) e in
    let n : u % 16 ≡ v % 16 = ap (λ (x : Variable). x.number) e in
    omega arith

pub variable_true : (u v : ℕ) → same_variable (variable_of u) (variable_of v) ≡ true → u ≡ v
variable_true u v e = variable_same u v (same_true (variable_of u) (variable_of v) e)

pub variable_differs : (u v : ℕ) → (u ≡ v → ⊥) → same_variable (variable_of u) (variable_of v) ≡ false
variable_differs u v n = differ (variable_of u) (variable_of v) (λ e. n (variable_same u v e))

-- the copies that have been made are kept, and there may be more: references keep what they stand for
pub record Copied (m m' : List ℕ) : Type 0 where
  pub more : copies_of m ≤ copies_of m'
  pub starts : (copy : ℕ) → copy < copies_of m → start_at m' copy ≡ start_at m copy

pub kept_copied : {m m' : List ℕ} → copies_of m ≤ most_copies → Same 0 count_place m m' → Copied m m'
kept_copied h s =
    record {
      more = omega (arith, s.words copies_place (omega arith) (omega arith));
      starts = λ copy l. s.words (start_places + copy) (omega arith) (omega arith);
    }

module _ {m m' : List ℕ} (s : Copied m m') (f : List ℕ) (r : ℕ) (h : r / 256 < copies_of m) where
  same_words_lem : words_at f m' r ≡ words_at f m r
  unfolding words_at
  same_words_lem = rw (s.starts (r / 256) h)

  pub same_term : term_of f m' r ≡ term_of f m r
  unfolding term_of
  same_term = rw same_words_lem

  pub same_terms : terms_of f m' r ≡ terms_of f m r
  unfolding terms_of
  same_terms = rw same_words_lem

  pub same_points : {n : ℕ} → Points f m r n → Points f m' r n
  same_points p =
      record { made = omega (arith, s.more); owing = rw (s.starts (r / 256) h, same_words_lem) p.owing }

-- each copy is a copy of a clause
pub record Clauses (f m : List ℕ) : Type 0 where
  pub few : copies_of m ≤ most_copies
  pub starts : (copy : ℕ) → copy < copies_of m → ClauseAt f (start_at m copy)

pub kept_clauses : {f m m' : List ℕ} {n : ℕ} → Held f m n → Same 0 count_place m m' → Clauses f m'
kept_clauses {f} {m} {m'} h s =
    let c : copies_of m' ≡ copies_of m = s.words copies_place (omega arith) (omega arith) in
    record {
      few = rw c h.copies;
      starts = λ copy l.
          let l' : copy < copies_of m = omega (arith, c) in
          rw ((kept_copied h.copies s).starts copy l') (h.starts copy l');
    }

pub entry_small : {f m : List ℕ} {v : ℕ} → copies_of m ≤ most_copies → Entry f m v → v < most_variables
entry_small h e = omega (arith, e.copy)

-- the variables on the trail are bound, and no others
pub on_trail : (f m : List ℕ) (n i : ℕ) → i < n → bindings.is_bound (bindings_of f m n) (variable_of (trail_at m i)) ≡ true
unfolding bindings_of bindings.is_bound
on_trail f m zero i h = absurd (omega arith)
on_trail f m (suc n) i h =
    decide
    (eqb n i)
    (λ e. let z : n ≡ i = eqb-true n i e in rw (z, same_refl (variable_of (trail_at m i))))
    (λ e. let z : n ≡ i → ⊥ = eqb-false n i e in
    rw (on_trail f m n i (omega arith)) (or-true (same_variable (variable_of (trail_at m n)) (variable_of (trail_at m i)))))

-- a variable that is bound stands on the trail
pub record Place (m : List ℕ) (n v : ℕ) : Type 0 where
  pub at : ℕ
  pub below : at < n
  pub there : trail_at m at ≡ v

pub place : (f m : List ℕ) (v n : ℕ) → bindings.is_bound (bindings_of f m n) (variable_of v) ≡ true → Place m n v
unfolding bindings_of bindings.is_bound
place f m v zero e = absurd (never e refl)
place f m v (suc n) e = go (same_variable (variable_of (trail_at m n)) (variable_of v)) refl (place f m v n) e
  where
    go : (b : Bool) → same_variable (variable_of (trail_at m n)) (variable_of v) ≡ b → (bindings.is_bound (bindings_of f m n) (variable_of v) ≡ true → Place m n v)
        → b || bindings.is_bound (bindings_of f m n) (variable_of v) ≡ true → Place m (suc n) v
    go true s ih e = record { at = n; below = omega arith; there = variable_true _ v s }
    go false s ih e = let p = ih e in record { at = p.at; below = omega (arith, p.below); there = p.there }

pub value_found : (f m : List ℕ) (v n : ℕ) → bindings.is_bound (bindings_of f m n) (variable_of v) ≡ true
    → value_of (bindings_of f m n) (variable_of v) ≡ some (term_of f m (bound_at m v - 1))
unfolding bindings_of bindings.is_bound value_of
value_found f m v zero e = absurd (never e refl)
value_found f m v (suc n) e = go (same_variable (variable_of (trail_at m n)) (variable_of v)) refl (value_found f m v n) e
  where
    go : (b : Bool) → same_variable (variable_of (trail_at m n)) (variable_of v) ≡ b
        → (bindings.is_bound (bindings_of f m n) (variable_of v) ≡ true → value_of (bindings_of f m n) (variable_of v) ≡ some (term_of f m (bound_at m v - 1)))
        → b || bindings.is_bound (bindings_of f m n) (variable_of v) ≡ true
        → cond b (some (term_of f m (bound_at m (trail_at m n) - 1))) (value_of (bindings_of f m n) (variable_of v)) ≡ some (term_of f m (bound_at m v - 1))
    go true s ih e = ap (λ (t : ℕ). some (term_of f m (bound_at m t - 1))) (variable_true _ v s)
    go false s ih e = ih e

module _ {f m : List ℕ} {n : ℕ} (h : Held f m n) (v : ℕ) where
  -- a variable with a word is bound to what the word says
  module _ (small : v < most_variables) (some : 0 < bound_at m v) where
    pub bound_entry : Entry f m v
    bound_entry = let p = place f m v n (h.listed v small some) in rw p.there at (h.entries p.at p.below)

    pub bound_value : value_of (bindings_of f m n) (variable_of v) ≡ Option.some (term_of f m (bound_at m v - 1))
    bound_value = value_found f m v n (h.listed v small some)

  -- a variable without one is free
  pub unbound : bound_at m v ≡ 0 → bindings.is_bound (bindings_of f m n) (variable_of v) ≡ false
  unbound e =
      decide
      (bindings.is_bound (bindings_of f m n) (variable_of v))
      (λ b. let p = place f m v n b in absurd (omega (arith, rw p.there at (h.entries p.at p.below).bound, e)))
      (λ b. b)

-- as many bindings as were asked for, each to a low term
pub bindings_length : (f m : List ℕ) (n : ℕ) → length (bindings_of f m n) ≡ n
unfolding bindings_of
bindings_length f m zero = refl
bindings_length f m (suc n) = ap suc (bindings_length f m n)

pub bindings_low : (f m : List ℕ) (n : ℕ) → Low 256 (bindings_of f m n)
unfolding bindings_of Low
bindings_low f m zero = tt
bindings_low f m (suc n) = (term_height f m _, bindings_low f m n)

-- free variables counted
pub free_same : (m m' : List ℕ) (n : ℕ) → ((u : ℕ) → u < n → bound_at m' u ≡ bound_at m u) → free_below m' n ≡ free_below m n
unfolding free_below
free_same m m' zero h = refl
free_same m m' (suc n) h = ap₂ ◌+◌ (free_same m m' n (λ u l. h u (omega arith))) (ap is_free (h n (omega arith)))

is_free_lem : (x : ℕ) → x ≡ 0 → is_free x ≡ 1
is_free_lem x e = rw e

not_free : (x : ℕ) → 0 < x → is_free x ≡ 0
not_free zero h = omega arith
not_free (suc x) h = refl

pub free_one : (m m' : List ℕ) (v n : ℕ) → v < n → bound_at m v ≡ 0 → 0 < bound_at m' v
    → ((u : ℕ) → u < n → (u ≡ v → ⊥) → bound_at m' u ≡ bound_at m u)
    → free_below m n ≡ suc (free_below m' n)
unfolding free_below
free_one m m' v zero l z s h = omega arith
free_one m m' v (suc n) l z s h =
    decide
    (eqb n v)
    (λ e. let p : n ≡ v = eqb-true n v e in
    omega (
      arith,
      free_same m m' n (λ u k. h u (omega arith) (λ q. omega arith)),
      is_free_lem (bound_at m n) (ap (λ (k : ℕ). bound_at m k) p ∙ z),
      not_free (bound_at m' n) (rw p s),
    ))
    (λ e. let p : n ≡ v → ⊥ = eqb-false n v e in
    omega (arith, free_one m m' v n (omega arith) z s (λ u k q. h u (omega arith) q), ap is_free (h n (omega arith) p)))

pub free_some : (m : List ℕ) (v n : ℕ) → v < n → bound_at m v ≡ 0 → 0 < free_below m n
unfolding free_below
free_some m v zero l z = omega arith
free_some m v (suc n) l z =
    decide
    (eqb n v)
    (λ e. let p : n ≡ v = eqb-true n v e in omega (arith, is_free_lem (bound_at m n) (ap (λ (k : ℕ). bound_at m k) p ∙ z)))
    (λ e. let p : n ≡ v → ⊥ = eqb-false n v e in omega (arith, free_some m v n (omega arith) z))
