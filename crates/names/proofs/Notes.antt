-- The number of a name among names that are known, and the names known after a use of it.
use mathlib.Core.Bool.{Bool, true, false, cond, ◌&&◌}
use mathlib.Core.List.{List, [], ◌∷◌, ◌++◌}
use mathlib.Core.Path.{◌≡◌, refl, sym, ap, ◌∙◌}
use Prim.Native.Nat.{ℕ, zero, suc, ◌≤◌, ◌<◌}
use native.Mathlib.Omega.{arith}
use borrow.Author.Tests.{eqb-true, eq-eqb}
use lib.Dec.{eqb}
use lib.ListN.{length, get_or}
use Rattle.names.specs.Numbers.{Name, same_name, noted, number_in}

-- the same name is the same bytes
both : (t u : Bool) → (t && u) ≡ true → (t ≡ true) × (u ≡ true)
both true u e = (refl, e)
both false u e = let z : ◌≡◌ {A = ℕ} 0 1 = cc in absurd (omega arith)

pub same_is : (a b : Name) → same_name a b ≡ true → a ≡ b
unfolding same_name
same_is [] [] e = refl
same_is [] (d ∷ ds) e = let z : ◌≡◌ {A = ℕ} 0 1 = cc in absurd (omega arith)
same_is (c ∷ cs) [] e = let z : ◌≡◌ {A = ℕ} 0 1 = cc in absurd (omega arith)
same_is (c ∷ cs) (d ∷ ds) e =
    let h : cs ≡ ds = same_is cs ds (both (eqb c d) (same_name cs ds) e).1 in rw (eqb-true c d (both (eqb c d) (same_name cs ds) e).0, h)

pub same_self : (a : Name) → same_name a a ≡ true
unfolding same_name
same_self [] = refl
same_self (c ∷ cs) = rw (eq-eqb c c refl) (same_self cs)

pub number_within : (names : List Name) (name : Name) → number_in names name ≤ length names
unfolding number_in
number_within [] name = omega arith
number_within (n ∷ ns) name = go (same_name n name) (number_within ns name)
  where
    go : (t : Bool) → number_in ns name ≤ length ns → cond t 0 (suc (number_in ns name)) ≤ suc (length ns)
    go true h = omega arith
    go false h = omega arith

pub noted_known : (names : List Name) (name : Name) → number_in names name < length names → noted names name ≡ names
unfolding number_in noted
noted_known [] name h = absurd (omega arith)
noted_known (n ∷ ns) name h = go (same_name n name) (noted_known ns name) h
  where
    go : (t : Bool) → (number_in ns name < length ns → noted ns name ≡ ns) → cond t 0 (suc (number_in ns name)) < suc (length ns)
        → cond t (n ∷ ns) (n ∷ noted ns name) ≡ n ∷ ns
    go true ih h = refl
    go false ih h = ap (λ (l : List Name). n ∷ l) (ih (omega arith))

pub noted_new : (names : List Name) (name : Name) → number_in names name ≡ length names → noted names name ≡ names ++ (name ∷ [])
unfolding number_in noted
noted_new [] name h = refl
noted_new (n ∷ ns) name h = go (same_name n name) (noted_new ns name) h
  where
    go : (t : Bool) → (number_in ns name ≡ length ns → noted ns name ≡ ns ++ (name ∷ [])) → cond t 0 (suc (number_in ns name)) ≡ suc (length ns)
        → cond t (n ∷ ns) (n ∷ noted ns name) ≡ n ∷ (ns ++ (name ∷ []))
    go true ih h = absurd (omega arith)
    go false ih h = ap (λ (l : List Name). n ∷ l) (ih (omega arith))

-- the number of a name stays where further names come after
pub number_stays : (names more : List Name) (name : Name) → number_in names name < length names → number_in (names ++ more) name ≡ number_in names name
unfolding number_in
number_stays [] more name h = absurd (omega arith)
number_stays (n ∷ ns) more name h = go (same_name n name) (number_stays ns more name) h
  where
    go : (t : Bool) → (number_in ns name < length ns → number_in (ns ++ more) name ≡ number_in ns name) → cond t 0 (suc (number_in ns name)) < suc (length ns)
        → cond t 0 (suc (number_in (ns ++ more) name)) ≡ cond t 0 (suc (number_in ns name))
    go true ih h = refl
    go false ih h = ap suc (ih (omega arith))

pub number_new : (names : List Name) (name : Name) → number_in names name ≡ length names → number_in (names ++ (name ∷ [])) name ≡ length names
unfolding number_in
number_new [] name h = rw (same_self name)
number_new (n ∷ ns) name h = go (same_name n name) (number_new ns name) h
  where
    go : (t : Bool) → (number_in ns name ≡ length ns → number_in (ns ++ (name ∷ [])) name ≡ length ns) → cond t 0 (suc (number_in ns name)) ≡ suc (length ns)
        → cond t 0 (suc (number_in (ns ++ (name ∷ [])) name)) ≡ suc (length ns)
    go true ih h = absurd (omega arith)
    go false ih h = ap suc (ih (omega arith))

-- the name that a number tells
pub name_of : (names : List Name) (name : Name) → number_in names name < length names → get_or names (number_in names name) [] ≡ name
unfolding number_in
name_of [] name h = absurd (omega arith)
name_of (n ∷ ns) name h = go (same_name n name) refl (name_of ns name) h
  where
    go : (t : Bool) → same_name n name ≡ t → (number_in ns name < length ns → get_or ns (number_in ns name) [] ≡ name)
        → cond t 0 (suc (number_in ns name)) < suc (length ns) → get_or (n ∷ ns) (cond t 0 (suc (number_in ns name))) [] ≡ name
    go true e ih h = same_is n name e
    go false e ih h = ih (omega arith)

-- where a name has no number, none of the names is it
pub absent_at : (names : List Name) (name : Name) → number_in names name ≡ length names → (k : ℕ) → k < length names → get_or names k [] ≡ name → ⊥
unfolding number_in
absent_at [] name h k g e = omega arith
absent_at (n ∷ ns) name h k g e = go (λ p j q r. absent_at ns name p j q r) (same_name n name) refl h
  where
    later : (number_in ns name ≡ length ns → (k : ℕ) → k < length ns → get_or ns k [] ≡ name → ⊥) → same_name n name ≡ false → suc (number_in ns name) ≡ suc (length ns) → (k : ℕ) → k < suc (length ns) → get_or (n ∷ ns) k [] ≡ name → ⊥
    later ih q h zero g e =
        let same : same_name n name ≡ true = rw e (same_self name) in
        let z : ◌≡◌ {A = Bool} true false = sym same ∙ q in
        let w : ◌≡◌ {A = ℕ} 0 1 = cc in omega arith
    later ih q h (suc k) g e = ih (omega arith) k (omega arith) e

    go : (number_in ns name ≡ length ns → (k : ℕ) → k < length ns → get_or ns k [] ≡ name → ⊥)
        → (t : Bool) → same_name n name ≡ t → cond t 0 (suc (number_in ns name)) ≡ suc (length ns) → ⊥
    go ih true q h = omega arith
    go ih false q h = later ih q h k g e
