-- What one step does, taken apart: the leaf it treats, the literal it closes against, and the tableau it leaves.
use borrow.Author.Tests.{ltb-true, lt-ltb}
use lib.Dec.{ltb}
use lib.ListN.{get_elem?}
use mathlib.Core.Bool.{Bool, true, false, cond, ◌&&◌, ◌||◌}
use mathlib.Core.List.{List, [], ◌∷◌}
use mathlib.Core.Option.{Option, none, some}
use mathlib.Core.Path.{◌≡◌, refl}
use native.Mathlib.Omega.{arith}
use Prim.Native.Nat.{ℕ, suc, ◌≤◌, ◌<◌}
use Rattle.words.specs.declared.Step.{Step}
use Rattle.words.specs.declared.Step.TheVariants.{Reduction, Extension, Restart, Malformed}
use Rattle.table.specs.Syntax.{Literal, Clause, Table, all_clauses}
use Rattle.rules.specs.Substitution.{Variable}
use Rattle.rules.specs.Setting.{Profile, restarting, Setting}
use Rattle.rules.specs.Tableau.{after_reduction, after_extension, after_restart, copy_of, fits, Leaf, Tableau, ancestor, reduced, questions_with}
use Rattle.rules.specs.Tableau.{entered, extended, may_extend, may_restart, treated, stepped}
use Rattle.rules.proofs.Lists.{none_some}
use Rattle.rules.proofs.System.Clash.{clash}

-- the tableau that an extension leaves, by the numbers of its clause and literal
abbrev pub after_entry : Table → Tableau → Leaf → List Leaf → ℕ → ℕ → Clause → Literal Variable → Tableau
after_entry t x leaf rest i j clause m =
    let copy : ℕ = suc x.extensions in
    after_extension x leaf rest (questions_with t i copy x.questions) j (copy_of copy clause) m

-- the leaf may be extended: the profile lets it, and an extension is left
abbrev pub MayExtend : Setting → Tableau → Leaf → Type 0
MayExtend S x leaf = (S.profile.extends leaf.literal.negative ≡ true) × (x.extensions < S.bound)

-- and so with a restart
abbrev pub MayRestart : Setting → Tableau → Leaf → Type 0
MayRestart S x leaf = (S.profile.restarts leaf.literal.negative ≡ true) × (x.extensions < S.bound)

pub data Does (S : Setting) (x : Tableau) : Step → Tableau → Type 0 where
  reduces : {leaf : Leaf} {rest : List Leaf} {m : Literal Variable} {height : ℕ} {y : Tableau} → x.leaves ≡ leaf ∷ rest
      → ancestor height leaf.branch ≡ some m → fits leaf.literal m ≡ true → after_reduction x leaf rest m ≡ y
      → Does S x (Reduction height) y
  extends : {leaf : Leaf} {rest : List Leaf} {clause : Clause} {m : Literal Variable} {i j : ℕ} {y : Tableau}
      → x.leaves ≡ leaf ∷ rest → MayExtend S x leaf → get_elem? (all_clauses S.table) i ≡ some clause
      → get_elem? (copy_of (suc x.extensions) clause) j ≡ some m → fits leaf.literal m ≡ true
      → after_entry S.table x leaf rest i j clause m ≡ y → Does S x (Extension i j) y
  restarts : {leaf : Leaf} {rest : List Leaf} {y : Tableau} → x.leaves ≡ leaf ∷ rest → MayRestart S x leaf → after_restart S.table x leaf rest ≡ y
      → Does S x Restart y

module _ {A : Type 0} where
  -- a choice that came to something took its first way
  pub chosen : (b : Bool) {a c : A} → cond b (some a) none ≡ some c → (b ≡ true) × (a ≡ c)
  chosen true e = (refl, cc)
  chosen false e = absurd (none_some e)

  pub guarded : (b : Bool) {o : Option A} {c : A} → cond b o none ≡ some c → (b ≡ true) × (o ≡ some c)
  guarded true e = (refl, e)
  guarded false e = absurd (none_some e)

both_true : (a b : Bool) → (a && b) ≡ true → (a ≡ true) × (b ≡ true)
both_true true b e = (refl, e)
both_true false b e = clash (cc)

-- the profile lets it, and the bound does
both_let : (b : Bool) (used bound : ℕ) → (b && ltb used bound) ≡ true → (b ≡ true) × (used < bound)
both_let b used bound e = let h = both_true b _ e in (h.0, ltb-true _ _ h.1)

module _ {S : Setting} {x y : Tableau} where
  does-reduction : (leaf : Leaf) (rest : List Leaf) (height : ℕ) (o : Option (Literal Variable)) → x.leaves ≡ leaf ∷ rest
      → ancestor height leaf.branch ≡ o → reduced x leaf rest o ≡ some y → Does S x (Reduction height) y
  unfolding reduced
  does-reduction leaf rest height none l a e = absurd (none_some e)
  does-reduction leaf rest height (some m) l a e = let c = chosen (fits leaf.literal m) e in reduces l a c.0 c.1

  does-entry : (leaf : Leaf) (rest : List Leaf) (i j : ℕ) (clause : Clause) (o : Option (Literal Variable)) → x.leaves ≡ leaf ∷ rest
      → MayExtend S x leaf → get_elem? (all_clauses S.table) i ≡ some clause → get_elem? (copy_of (suc x.extensions) clause) j ≡ o
      → entered x leaf rest (questions_with S.table i (suc x.extensions) x.questions) j (copy_of (suc x.extensions) clause) o ≡ some y
      → Does S x (Extension i j) y
  unfolding entered
  does-entry leaf rest i j clause none l u k a e = absurd (none_some e)
  does-entry leaf rest i j clause (some m) l u k a e =
      let c = chosen (fits leaf.literal m) e in
      extends l u k a c.0 c.1

  does-extension : (leaf : Leaf) (rest : List Leaf) (i j : ℕ) (o : Option Clause) → x.leaves ≡ leaf ∷ rest → MayExtend S x leaf
      → get_elem? (all_clauses S.table) i ≡ o → extended S.table x leaf rest i j o ≡ some y → Does S x (Extension i j) y
  unfolding extended
  does-extension leaf rest i j none l u k e = absurd (none_some e)
  does-extension leaf rest i j (some clause) l u k e = does-entry leaf rest i j clause _ l u k refl e

  does-treated : (ls : List Leaf) (s : Step) → x.leaves ≡ ls → treated S x ls s ≡ some y → Does S x s y
  unfolding treated
  does-treated [] s l e = absurd (none_some e)
  does-treated (leaf ∷ rest) (Reduction h) l e = does-reduction leaf rest h _ l refl e
  does-treated (leaf ∷ rest) (Extension i j) l e =
      let g = guarded (may_extend S x.extensions leaf) e in
      does-extension leaf rest i j _ l (both_let _ _ _ g.0) refl g.1
  does-treated (leaf ∷ rest) Restart l e =
      let g = chosen (may_restart S x.extensions leaf) e in
      restarts l (both_let _ _ _ g.0) g.1
  does-treated (leaf ∷ rest) Malformed l e = absurd (none_some e)

  pub does : (s : Step) → stepped S x s ≡ some y → Does S x s y
  unfolding stepped
  does s e = does-treated x.leaves s refl e

  pub done : {s : Step} → Does S x s y → stepped S x s ≡ some y
  unfolding stepped treated reduced extended entered
  done (reduces l a f e) = rw (l, a, f, e)
  done (extends l u k a f e) = rw (l, u.0, lt-ltb _ _ u.1, k, a, f, e)
  done (restarts l u e) = rw (l, u.0, lt-ltb _ _ u.1, e)

  pub does_within : {s : Step} → Does S x s y → x.extensions ≤ S.bound → y.extensions ≤ S.bound
  does_within (reduces l a f e) h = rw (← e) h
  does_within (extends l u k a f e) h = rw (← e) u.1
  does_within (restarts l u e) h = rw (← e) (omega (arith, u.1))

-- a profile that restarts a leaf of some sign is one that restarts
pub restarts_some : (rules : Profile) (negative : Bool) → rules.restarts negative ≡ true → restarting rules ≡ true
restarts_some rules true e = rw e
restarts_some rules false e = go (rules.restarts true)
  where
    go : (b : Bool) → (b || rules.restarts false) ≡ true
    go true = refl
    go false = e
