-- How long a proof and a branch can be, and the numbers in its steps.
use lib.ListN.{length, length-append, length-map}
use mathlib.Core.Bool.{Bool, true, false, cond}
use mathlib.Core.List.{List, [], ◌∷◌}
use mathlib.Core.Option.{some}
use mathlib.Core.Path.{◌≡◌}
use native.Mathlib.Nat.{mul-suc, mul-zero, mul-le-mul_left}
use native.Mathlib.Omega.{arith}
use Prim.Native.Nat.{ℕ, zero, suc, ◌+◌, ◌*◌, ◌≤◌, ◌<◌, zero-le}
use Rattle.words.specs.declared.Step.{Step}
use Rattle.words.specs.declared.Step.TheVariants.{Reduction, Extension, Restart, Malformed}
use Rattle.table.specs.Syntax.{Literal, literal_under, Clause, Table, all_clauses}
use Rattle.rules.specs.Substitution.{Variable}
use Rattle.rules.specs.Setting.{Profile, restarting, most_opened, longest_proof, Setting}
use Rattle.rules.specs.Tableau.{fresh, copy_of, Leaf, Tableau, hang, start, ancestor, others, Made, as_it_stands, by_step, Closed}
use Rattle.rules.proofs.Lifting.{within_bound}
use Rattle.rules.proofs.Instances.{ancestor_at}
use Rattle.rules.proofs.Lists.{All, all_at, all_append, all_right, all_more, some_below, length_others}
use Rattle.rules.proofs.Steps.{Does, reduces, extends, restarts, does, does_within, restarts_some}

-- a step whose numbers are within the table's and the bound's
abbrev pub InRange : Setting → Step → Type 0
InRange S (Reduction height) = (0 < height) × (height ≤ S.bound)
InRange S (Extension clause literal) = (clause < length (all_clauses S.table)) × (literal < 7)
InRange S Restart = restarting S.profile ≡ true
InRange S Malformed = ⊥

length_hang : (branch ls : List (Literal Variable)) → length (hang branch ls) ≡ length ls
unfolding hang
length_hang branch ls = length-map ls (λ l. record { literal = l; branch = branch })

length_copy : (copy : ℕ) (clause : Clause) → length (copy_of copy clause) ≡ length clause.literals
unfolding copy_of
length_copy copy clause = length-map clause.literals (literal_under (fresh copy))

-- every clause has at most seven literals
abbrev pub Short : Table → Type 0
Short t = All (λ c. length c.literals ≤ 7) (all_clauses t)

six_opened : (rules : Profile) → 6 ≤ most_opened rules
six_opened rules = go (restarting rules)
  where
    go : (b : Bool) → 6 ≤ cond b 7 6
    go true = omega arith
    go false = omega arith

seven_opened : (rules : Profile) → restarting rules ≡ true → most_opened rules ≡ 7
seven_opened rules e = rw e

module _ (S : Setting) (short : Short S.table) where
  abbrev opens : ℕ
  opens = most_opened S.profile

  question-short : length S.table.question.literals ≤ 7
  unfolding all_clauses All
  question-short = (all_right (λ c. length c.literals ≤ 7) S.table.clauses (S.table.question ∷ []) short).0

  -- a step treats one leaf; an extension opens at most six, and a restart seven
  step-leaves : {x y : Tableau} {s : Step} → Does S x s y
      → suc (length y.leaves) + opens * x.extensions ≤ length x.leaves + opens * y.extensions
  unfolding others
  step-leaves (reduces l a f e) = rw (← e, l) (omega arith)
  step-leaves {x} (extends {leaf = leaf} {rest = rest} {clause = clause} {i = i} {j = j} l u c a f e) =
      let copy : List (Literal Variable) = copy_of (suc x.extensions) clause in
      let p = length-append (hang (leaf.literal ∷ leaf.branch) (others j copy)) rest in
      let q = length_hang (leaf.literal ∷ leaf.branch) (others j copy) in
      let r = length_others copy j a in
      let o = length_copy (suc x.extensions) clause in
      let h = all_at (λ c. length c.literals ≤ 7) (all_clauses S.table) i c short in
      let k = six_opened S.profile in
      let spent = mul-suc opens x.extensions in
      rw (← e, l) (omega arith)
  step-leaves {x} (restarts {leaf = leaf} {rest = rest} l u e) =
      let copy : List (Literal Variable) = copy_of (suc x.extensions) S.table.question in
      let p = length-append (hang (leaf.literal ∷ leaf.branch) copy) rest in
      let q = length_hang (leaf.literal ∷ leaf.branch) copy in
      let o = length_copy (suc x.extensions) S.table.question in
      let h = question-short in
      let k = seven_opened S.profile (restarts_some S.profile leaf.literal.negative u.0) in
      let spent = mul-suc opens x.extensions in
      rw (← e, l) (omega arith)

  pub made_leaves : {x z : Tableau} {ss : List Step} → Made S x ss z
      → length ss + length z.leaves + opens * x.extensions ≤ length x.leaves + opens * z.extensions
  made_leaves as_it_stands = omega arith
  made_leaves (by_step {s = s} e m) = let h = step-leaves (does s e) in let k = made_leaves m in omega arith

  -- a proof has at most 7 + 6 × bound steps, or 7 + 7 × bound where leaves are restarted
  pub steps_bounded : {ss : List Step} → Closed S ss → length ss ≤ 7 + opens * S.bound
  unfolding start
  steps_bounded c =
      let h = made_leaves c.made in
      let k = mul-le-mul_left opens (within_bound c.made zero-le) in
      let p = length_hang [] (copy_of 0 S.table.question) in
      let q = length_copy 0 S.table.question in
      let r = question-short in
      let z = mul-zero opens in
      omega arith

pub at_most_longest : (S : Setting) → Short S.table → {ss : List Step} → S.bound ≤ 32 → Closed S ss → length ss ≤ longest_proof S.profile
at_most_longest S short h c =
    let k = steps_bounded S short c in
    let m = mul-le-mul_left (most_opened S.profile) h in
    omega arith

-- the branch of a leaf is at most as long as the extensions made
abbrev pub Shallow : Tableau → Type 0
Shallow x = All (λ leaf. length leaf.branch ≤ x.extensions) x.leaves

hang_shallow : (n : ℕ) (branch ls : List (Literal Variable)) → length branch ≤ n → All (λ leaf. length leaf.branch ≤ n) (hang branch ls)
unfolding hang All
hang_shallow n branch [] h = tt
hang_shallow n branch (l ∷ ls) h = (h, hang_shallow n branch ls h)

ancestor_height : (h : ℕ) (branch : List (Literal Variable)) {m : Literal Variable} → ancestor h branch ≡ some m → (0 < h) × (h ≤ length branch)
ancestor_height h branch e =
    let k = ancestor_at h branch e in
    let height = k.1 in
    let below = some_below branch k.0 k.2 in
    (omega arith, omega arith)

module _ {S : Setting} where
  step-shallow : {x y : Tableau} {s : Step} → Does S x s y → Shallow x → Shallow y
  unfolding All
  step-shallow (reduces l a f e) h = rw (← e) (rw l at h).1
  step-shallow {x} (extends {leaf = leaf} {rest = rest} {clause = clause} {j = j} l u c a f e) h =
      let k = rw l at h in
      let n : ℕ = suc x.extensions in
      let hung : List Leaf = hang (leaf.literal ∷ leaf.branch) (others j (copy_of n clause)) in
      let old = all_more (λ leaf. length leaf.branch ≤ x.extensions) (λ leaf. length leaf.branch ≤ n) (λ leaf b. omega arith) rest k.1 in
      rw (← e)
      (all_append (λ leaf. length leaf.branch ≤ n) hung rest
      (hang_shallow n (leaf.literal ∷ leaf.branch) (others j (copy_of n clause)) (omega arith)) old)
  step-shallow {x} (restarts {leaf = leaf} {rest = rest} l u e) h =
      let k = rw l at h in
      let n : ℕ = suc x.extensions in
      let copy : List (Literal Variable) = copy_of n S.table.question in
      let old = all_more (λ leaf. length leaf.branch ≤ x.extensions) (λ leaf. length leaf.branch ≤ n) (λ leaf b. omega arith) rest k.1 in
      rw (← e)
      (all_append (λ leaf. length leaf.branch ≤ n) (hang (leaf.literal ∷ leaf.branch) copy) rest
      (hang_shallow n (leaf.literal ∷ leaf.branch) copy (omega arith)) old)

  pub made_shallow : {x z : Tableau} {ss : List Step} → Made S x ss z → Shallow x → Shallow z
  made_shallow as_it_stands h = h
  made_shallow (by_step {s = s} e m) h = made_shallow m (step-shallow (does s e) h)

pub start_shallow : (t : Table) → Shallow (start t)
unfolding start
start_shallow t = hang_shallow 0 [] (copy_of 0 t.question) zero-le

module _ (S : Setting) (short : Short S.table) where
  step-in-range : {x y : Tableau} {s : Step} → Does S x s y → x.extensions ≤ S.bound → Shallow x → InRange S s
  unfolding All
  step-in-range (reduces {leaf = leaf} {height = height} l a f e) b h =
      let k = (rw l at h).0 in
      let d = ancestor_height height leaf.branch a in
      (d.0, omega arith)
  step-in-range {x} (extends {clause = clause} {i = i} {j = j} l u c a f e) b h =
      let k = some_below (copy_of (suc x.extensions) clause) j a in
      let q = length_copy (suc x.extensions) clause in
      let r = all_at (λ c. length c.literals ≤ 7) (all_clauses S.table) i c short in
      (some_below (all_clauses S.table) i c, omega arith)
  step-in-range (restarts {leaf = leaf} l u e) b h = restarts_some S.profile leaf.literal.negative u.0

  pub made_in_range : {x z : Tableau} {ss : List Step} → Made S x ss z → x.extensions ≤ S.bound → Shallow x → All (InRange S) ss
  unfolding All
  made_in_range as_it_stands b h = tt
  made_in_range (by_step {s = s} e m) b h =
      let d = does s e in
      (step-in-range d b h, made_in_range m (does_within d b) (step-shallow d h))

  -- no step is malformed, heights are 1 to the bound, clauses and literals are the table's
  pub steps_in_range : {ss : List Step} → Closed S ss → All (InRange S) ss
  unfolding start
  steps_in_range c = made_in_range c.made zero-le (start_shallow S.table)
