-- A closed tableau is an instance tree under its solution, and an instance tree is a closed tableau of the same steps: copies share no variable,
-- so one substitution is the same as one for each copy.
use lib.Dec.{eqb}
use lib.ListN.{length, get_elem?, get_or, drop}
use mathlib.Core.Bool.{Bool, true, false, cond}
use mathlib.Core.List.{List, [], ◌∷◌, ◌++◌, map, map-append, append-nil, append_assoc}
use mathlib.Core.Logic.{◌↔◌}
use mathlib.Core.Option.{some}
use mathlib.Core.Path.{◌≡◌, refl, sym, ◌∙◌, ap, ap₂}
use native.Mathlib.Nat.{add-zero, suc-add, add-suc}
use native.Mathlib.Omega.{arith}
use Prim.Native.Nat.{ℕ, zero, suc, ◌+◌, ◌≤◌, zero-le}
use Rattle.words.specs.declared.Step.{Step}
use Rattle.words.specs.declared.Step.TheVariants.{Reduction, Extension, Restart, Malformed}
use Rattle.table.specs.Syntax.{Literal, literal_under, Clause, Table, all_clauses}
use Rattle.rules.specs.Substitution.{Variable, Substitution, Solves}
use Rattle.rules.specs.Setting.{Profile, Setting, over}
use Rattle.rules.specs.Tableau.{after_reduction, after_restart, fresh, copy_of, fits, Leaf, Tableau, hang, start, ancestor, others, closing}
use Rattle.rules.specs.Tableau.{questions_with, Made, as_it_stands, by_step, Closed}
use Rattle.rules.proofs.Instances.{Instance, instance, opposite, of_copy, leaf_under, ancestor_map, ancestor_map_back, copy_under}
use Rattle.rules.proofs.Instances.{sign_under, hang_under, all_hung_under, hung_under_lem, copy_some, fit_opposite, opposite_fits, opposite_atoms}
use Rattle.rules.proofs.Lists.{map_some_back, map_nil_back, map_cons_back}
use Rattle.rules.proofs.Steps.{after_entry, MayExtend, MayRestart, Does, reduces, extends, restarts, does, done, does_within}
use Rattle.rules.proofs.Trees.{Tree, bare, reduction, extension, restart, size, instances, steps, asked, InstanceTree}

module _ (σ : Substitution) {S : Setting} where
  -- a step closes its own pair, if it has one, and keeps the older ones
  solved-before : {x y : Tableau} {s : Step} → Does S x s y → Solves σ y.pairs → Solves σ x.pairs
  unfolding Solves
  solved-before (reduces l a f e) h = let k = rw (← e) at h in k.1
  solved-before (extends l u c a f e) h = let k = rw (← e) at h in k.1
  solved-before (restarts l u e) h = rw (← e) at h

  pub solved_earlier : {x z : Tableau} {ss : List Step} → Made S x ss z → Solves σ z.pairs → Solves σ x.pairs
  solved_earlier as_it_stands h = h
  solved_earlier (by_step {s = s} e m) h = solved-before (does s e) (solved_earlier m h)

-- the tree that a substitution makes of the leaves of x, where the steps lead from x to z
pub record Grounded (σ : Substitution) (rules : Profile) (t : Table) (x z : Tableau) (ss : List Step) : Type 0 where
  pub leaves : List Leaf
  pub as_leaves : map (leaf_under σ) x.leaves ≡ leaves
  pub tree : Tree rules t leaves
  pub same_steps : steps tree ≡ ss
  pub extensions : x.extensions + size tree ≡ z.extensions
  pub questions : map (of_copy σ) z.questions ≡ map (of_copy σ) x.questions ++ asked tree

-- a new copy of the question is the next instance asked
one_more : (b : Bool) (f : ℕ → Instance) (copies : List ℕ) (copy : ℕ) (θs : List Instance)
    → map f (cond b (copies ++ (copy ∷ [])) copies) ++ θs ≡ map f copies ++ cond b (f copy ∷ θs) θs
one_more true f copies copy θs = rw (map-append f copies (copy ∷ []), append_assoc (map f copies) (f copy ∷ []) θs)
one_more false f copies copy θs = refl

module _ (σ : Substitution) {rules : Profile} {t : Table} {x z : Tableau} {ss : List Step} {leaf : Leaf} {rest : List Leaf} where
  grounded-reduction : (height : ℕ) (m : Literal Variable) → x.leaves ≡ leaf ∷ rest → ancestor height leaf.branch ≡ some m
      → fits leaf.literal m ≡ true → Solves σ (after_reduction x leaf rest m).pairs → Grounded σ rules t (after_reduction x leaf rest m) z ss
      → Grounded σ rules t x z (Reduction height ∷ ss)
  unfolding Solves closing size steps asked leaf_under
  grounded-reduction h m l a f k g =
      record {
        leaves = leaf_under σ leaf ∷ g.leaves;
        as_leaves = rw (l, g.as_leaves);
        tree = reduction h (ancestor_map (literal_under σ) h leaf.branch a ∙ ap some (fit_opposite σ leaf.literal m f k.0)) g.tree;
        same_steps = ap {B = List Step} (λ r. Reduction h ∷ r) g.same_steps;
        extensions = g.extensions;
        questions = g.questions;
      }

  grounded_extension : (i j : ℕ) (clause : Clause) (m : Literal Variable) → x.leaves ≡ leaf ∷ rest → rules.extends leaf.literal.negative ≡ true
      → get_elem? (all_clauses t) i ≡ some clause → get_elem? (copy_of (suc x.extensions) clause) j ≡ some m → fits leaf.literal m ≡ true
      → Solves σ (after_entry t x leaf rest i j clause m).pairs → Grounded σ rules t (after_entry t x leaf rest i j clause m) z ss
      → Grounded σ rules t x z (Extension i j ∷ ss)
  unfolding Solves closing size steps asked leaf_under literal_under questions_with
  grounded_extension i j clause m l u c a f k g =
      let copy : ℕ = suc x.extensions in
      let opposed = fit_opposite σ leaf.literal m f k.0 in
      let below = sym (hung_under_lem σ (leaf.literal ∷ leaf.branch) rest copy j clause) ∙ g.as_leaves in
      record {
        leaves = leaf_under σ leaf ∷ map (leaf_under σ) rest;
        as_leaves = rw l;
        tree = extension i j (of_copy σ copy) u c (copy_some σ copy j clause a ∙ ap some opposed) below g.tree;
        same_steps = ap {B = List Step} (λ r. Extension i j ∷ r) g.same_steps;
        extensions = add-suc x.extensions (size g.tree) ∙ sym (suc-add x.extensions (size g.tree)) ∙ g.extensions;
        questions = g.questions ∙ one_more (eqb i (length t.clauses)) (of_copy σ) x.questions (suc x.extensions) (asked g.tree);
      }

  grounded_restart : x.leaves ≡ leaf ∷ rest → rules.restarts leaf.literal.negative ≡ true → Grounded σ rules t (after_restart t x leaf rest) z ss
      → Grounded σ rules t x z (Restart ∷ ss)
  unfolding size steps asked leaf_under literal_under
  grounded_restart l u g =
      let copy : ℕ = suc x.extensions in
      let below = sym (all_hung_under σ (leaf.literal ∷ leaf.branch) rest copy t.question) ∙ g.as_leaves in
      record {
        leaves = leaf_under σ leaf ∷ map (leaf_under σ) rest;
        as_leaves = rw l;
        tree = restart (of_copy σ copy) u below g.tree;
        same_steps = ap {B = List Step} (λ r. Restart ∷ r) g.same_steps;
        extensions = add-suc x.extensions (size g.tree) ∙ sym (suc-add x.extensions (size g.tree)) ∙ g.extensions;
        questions = g.questions ∙ one_more true (of_copy σ) x.questions copy (asked g.tree);
      }

module _ (σ : Substitution) {S : Setting} where
  grounded-step : {x y z : Tableau} {s : Step} {ss : List Step} → Does S x s y → Solves σ y.pairs → Grounded σ S.profile S.table y z ss
      → Grounded σ S.profile S.table x z (s ∷ ss)
  grounded-step (reduces {m = m} {height = h} l a f e) k g = grounded-reduction σ h m l a f (rw (← e) at k) (rw (← e) at g)
  grounded-step (extends {clause = clause} {m = m} {i = i} {j = j} l u c a f e) k g =
      grounded_extension σ i j clause m l u.0 c a f (rw (← e) at k) (rw (← e) at g)
  grounded-step (restarts l u e) k g = grounded_restart σ l u.0 (rw (← e) at g)

  pub grounded : {x z : Tableau} {ss : List Step} → Made S x ss z → z.leaves ≡ [] → Solves σ z.pairs → Grounded σ S.profile S.table x z ss
  unfolding size steps asked
  grounded {x} as_it_stands e k =
      record {
        leaves = [];
        as_leaves = rw e;
        tree = bare;
        same_steps = refl;
        extensions = add-zero x.extensions;
        questions = sym (append-nil (map (of_copy σ) x.questions));
      }
  grounded (by_step {s = s} d m) e k = grounded-step (does s d) (solved_earlier σ m k) (grounded m e k)

pub within_bound : {S : Setting} {x z : Tableau} {ss : List Step} → Made S x ss z → x.extensions ≤ S.bound → z.extensions ≤ S.bound
within_bound as_it_stands h = h
within_bound (by_step {s = s} d m) h = within_bound m (does_within (does s d) h)

pub start_under : (σ : Substitution) (t : Table) → map (leaf_under σ) (start t).leaves ≡ hang [] (instance (of_copy σ 0) t.question)
unfolding start
start_under σ t = hang_under σ [] (copy_of 0 t.question) ∙ ap (hang []) (copy_under σ 0 t.question)

module _ {S : Setting} {ss : List Step} (c : Closed S ss) (σ : Substitution) (solves : Solves σ c.tableau.pairs) where
  pub whole : Grounded σ S.profile S.table (start S.table) c.tableau ss
  whole = grounded σ c.made c.no_leaf_open solves

  unfoldable pub tree_under : InstanceTree S.profile S.table
  tree_under =
      record {
        root = of_copy σ 0;
        leaves = whole.leaves;
        hung = sym (start_under σ S.table) ∙ whole.as_leaves;
        tree = whole.tree;
      }

  pub tree_within : size tree_under.tree ≤ S.bound
  unfolding tree_under start
  tree_within = let h = within_bound c.made zero-le in let e = whole.extensions in omega arith

  -- the copies of the question, under the solution, are the question's instances in the tree, the start first
  pub tree_questions : map (of_copy σ) c.tableau.questions ≡ tree_under.root ∷ asked tree_under.tree
  unfolding tree_under start
  tree_questions = whole.questions

-- from this copy on, a substitution gives the copies these instances
unfoldable pub Follows : Substitution → ℕ → List Instance → Type 0
Follows σ copy [] = Unit {0}
Follows σ copy (θ ∷ θs) = (of_copy σ copy ≡ θ) × Follows σ (suc copy) θs

-- one substitution for the instances of all copies: a variable goes to its copy's instance
unfoldable pub spread : List Instance → Substitution
spread θs v = get_or θs v.copy (fresh 0) v.number

at_drop : (all : List Instance) (n : ℕ) {θ : Instance} {θs : List Instance} → drop n all ≡ θ ∷ θs
    → (get_or all n (fresh 0) ≡ θ) × (drop (suc n) all ≡ θs)
at_drop [] zero e = (cc, cc)
at_drop [] (suc n) e = (cc, cc)
at_drop (θ ∷ all) zero e = (cc, cc)
at_drop (θ ∷ all) (suc n) e = at_drop all n e

spread_follows : (all θs : List Instance) (copy : ℕ) → drop copy all ≡ θs → Follows (spread all) copy θs
unfolding Follows spread of_copy
spread_follows all [] copy e = tt
spread_follows all (θ ∷ θs) copy e = let h = at_drop all copy e in (h.0, spread_follows all θs (suc copy) h.1)

module _ (σ : Substitution) (S : Setting) where
  -- a step from x that leaves these leaves under the substitution, and this number of extensions
  record Next (x : Tableau) (s : Step) (ls : List Leaf) (n : ℕ) : Type 0 where
    tableau : Tableau
    does : Does S x s tableau
    as_leaves : map (leaf_under σ) tableau.leaves ≡ ls
    solves : Solves σ tableau.pairs
    extensions : tableau.extensions ≡ n

  -- steps from x to a tableau with no leaf open that the substitution solves
  pub record Lifted (x : Tableau) (ss : List Step) : Type 0 where
    pub tableau : Tableau
    pub made : Made S x ss tableau
    pub no_leaf_open : tableau.leaves ≡ []
    pub solves : Solves σ tableau.pairs

  next_reduction : (x : Tableau) (leaf : Leaf) (rest : List Leaf) (h : ℕ) → x.leaves ≡ leaf ∷ rest
      → ancestor h (leaf_under σ leaf).branch ≡ some (opposite (leaf_under σ leaf).literal) → Solves σ x.pairs
      → Next x (Reduction h) (map (leaf_under σ) rest) x.extensions
  unfolding Solves closing leaf_under
  next_reduction x leaf rest h l a s =
      let b = ancestor_map_back (literal_under σ) h leaf.branch a in
      record {
        tableau = after_reduction x leaf rest b.0;
        does = reduces l b.1 (opposite_fits σ leaf.literal b.0 b.2) refl;
        as_leaves = refl;
        solves = (opposite_atoms σ leaf.literal b.0 b.2, s);
        extensions = refl;
      }

  next_extension : (x : Tableau) (leaf : Leaf) (rest : List Leaf) (i j : ℕ) (clause : Clause) → x.leaves ≡ leaf ∷ rest
      → MayExtend S x leaf → get_elem? (all_clauses S.table) i ≡ some clause
      → get_elem? (instance (of_copy σ (suc x.extensions)) clause) j ≡ some (opposite (leaf_under σ leaf).literal) → Solves σ x.pairs
      → Next x (Extension i j)
      (hang ((leaf_under σ leaf).literal ∷ (leaf_under σ leaf).branch) (others j (instance (of_copy σ (suc x.extensions)) clause))
      ++ map (leaf_under σ) rest) (suc x.extensions)
  unfolding Solves closing leaf_under
  next_extension x leaf rest i j clause l u c a s =
      let copy : ℕ = suc x.extensions in
      let b = map_some_back (literal_under σ) (copy_of copy clause) j (rw (← copy_under σ copy clause) at a) in
      record {
        tableau = after_entry S.table x leaf rest i j clause b.0;
        does = extends l u c b.1 (opposite_fits σ leaf.literal b.0 b.2) refl;
        as_leaves = hung_under_lem σ (leaf.literal ∷ leaf.branch) rest copy j clause;
        solves = (opposite_atoms σ leaf.literal b.0 b.2, s);
        extensions = refl;
      }

  next_restart : (x : Tableau) (leaf : Leaf) (rest : List Leaf) → x.leaves ≡ leaf ∷ rest → MayRestart S x leaf → Solves σ x.pairs
      → Next x Restart
      (hang ((leaf_under σ leaf).literal ∷ (leaf_under σ leaf).branch) (instance (of_copy σ (suc x.extensions)) S.table.question)
      ++ map (leaf_under σ) rest) (suc x.extensions)
  unfolding leaf_under
  next_restart x leaf rest l u s =
      record {
        tableau = after_restart S.table x leaf rest;
        does = restarts l u refl;
        as_leaves = all_hung_under σ (leaf.literal ∷ leaf.branch) rest (suc x.extensions) S.table.question;
        solves = s;
        extensions = refl;
      }

  lift_next : {x : Tableau} {s : Step} {ss : List Step} {ls : List Leaf} {n : ℕ} (k : Next x s ls n) → Lifted k.tableau ss → Lifted x (s ∷ ss)
  lift_next k r =
      record {
        tableau = r.tableau;
        made = by_step (done k.does) r.made;
        no_leaf_open = r.no_leaf_open;
        solves = r.solves;
      }

  pub lift : {ls : List Leaf} (tree : Tree S.profile S.table ls) (x : Tableau) → map (leaf_under σ) x.leaves ≡ ls
      → Follows σ (suc x.extensions) (instances tree) → x.extensions + size tree ≤ S.bound → Solves σ x.pairs → Lifted x (steps tree)
  unfolding instances size steps Follows
  lift bare x l f b s =
      record {
        tableau = x;
        made = as_it_stands;
        no_leaf_open = map_nil_back (leaf_under σ) x.leaves l;
        solves = s;
      }
  lift (reduction {leaf = leaf} h a below) x l f b s =
      let c = map_cons_back (leaf_under σ) x.leaves l in
      let k = next_reduction x c.0 c.1 h c.2 (rw (← c.3) at a) s in
      lift_next k (lift below k.tableau (k.as_leaves ∙ c.4) (rw k.extensions f) (rw k.extensions b) k.solves)
  lift (extension {leaf = leaf} {clause = clause} i j θ u e a hung below) x l f b s =
      let c = map_cons_back (leaf_under σ) x.leaves l in
      let k = next_extension x c.0 c.1 i j clause c.2 (rw (← sign_under σ c.0, c.3) u, omega arith) e (rw (f.0, c.3) a) s in
      lift_next k
      (lift below k.tableau (k.as_leaves ∙ rw (f.0, c.3, c.4) hung) (rw k.extensions f.1) (rw k.extensions (omega arith)) k.solves)
  lift (restart {leaf = leaf} θ u hung below) x l f b s =
      let c = map_cons_back (leaf_under σ) x.leaves l in
      let k = next_restart x c.0 c.1 c.2 (rw (← sign_under σ c.0, c.3) u, omega arith) s in
      lift_next k
      (lift below k.tableau (k.as_leaves ∙ rw (f.0, c.3, c.4) hung) (rw k.extensions f.1) (rw k.extensions (omega arith)) k.solves)

-- the copies of the question that these steps make, where so many extensions are made before
unfoldable copies_asked : Table → ℕ → List Step → List ℕ
copies_asked t n [] = []
copies_asked t n (Reduction h ∷ ss) = copies_asked t n ss
copies_asked t n (Extension i j ∷ ss) = cond (eqb i (length t.clauses)) (suc n ∷ copies_asked t (suc n) ss) (copies_asked t (suc n) ss)
copies_asked t n (Restart ∷ ss) = suc n ∷ copies_asked t (suc n) ss
copies_asked t n (Malformed ∷ ss) = copies_asked t n ss

copies_step : {S : Setting} {x y : Tableau} {s : Step} (ss : List Step) → Does S x s y
    → y.questions ++ copies_asked S.table y.extensions ss ≡ x.questions ++ copies_asked S.table x.extensions (s ∷ ss)
unfolding copies_asked questions_with
copies_step ss (reduces l a f e) = rw (← e)
copies_step {S} {x} ss (extends {i = i} l u c a f e) =
    rw (← e) (after (eqb i (length S.table.clauses)) x.questions (suc x.extensions) (copies_asked S.table (suc x.extensions) ss))
  where
    after : (b : Bool) (copies : List ℕ) (copy : ℕ) (more : List ℕ) → cond b (copies ++ (copy ∷ [])) copies ++ more ≡ copies ++ cond b (copy ∷ more) more
    after true copies copy more = append_assoc copies (copy ∷ []) more
    after false copies copy more = refl
copies_step {S} {x} ss (restarts l u e) = rw (← e) (append_assoc x.questions (suc x.extensions ∷ []) (copies_asked S.table (suc x.extensions) ss))

made_copies : {S : Setting} {x z : Tableau} {ss : List Step} → Made S x ss z → z.questions ≡ x.questions ++ copies_asked S.table x.extensions ss
unfolding copies_asked
made_copies {x = x} as_it_stands = sym (append-nil x.questions)
made_copies (by_step {s = s} {ss = ss} e m) = made_copies m ∙ copies_step ss (does s e)

-- a substitution that follows the instances of a tree makes of these copies the question's instances in the tree
asked_copies : (σ : Substitution) {rules : Profile} {t : Table} {ls : List Leaf} (tree : Tree rules t ls) (n : ℕ) → Follows σ (suc n) (instances tree)
    → map (of_copy σ) (copies_asked t n (steps tree)) ≡ asked tree
unfolding copies_asked steps asked instances Follows
asked_copies σ bare n f = refl
asked_copies σ (reduction h a below) n f = asked_copies σ below n f
asked_copies σ {t = t} (extension i j θ u c a e below) n f =
    choice (eqb i (length t.clauses)) (copies_asked t (suc n) (steps below)) f.0 (asked_copies σ below (suc n) f.1)
  where
    choice : (b : Bool) (copies : List ℕ) {θs : List Instance} → of_copy σ (suc n) ≡ θ → map (of_copy σ) copies ≡ θs
        → map (of_copy σ) (cond b (suc n ∷ copies) copies) ≡ cond b (θ ∷ θs) θs
    choice true copies e k = rw (e, k)
    choice false copies e k = k
asked_copies σ (restart θ u e below) n f = ap₂ ◌∷◌ f.0 (asked_copies σ below (suc n) f.1)

module _ {rules : Profile} {t : Table} (x : InstanceTree rules t) where
  abbrev all_copies : Substitution
  all_copies = spread (x.root ∷ instances x.tree)

  root-copy : of_copy all_copies 0 ≡ x.root
  unfolding of_copy spread
  root-copy = refl

  -- an instance tree within the bound is a closed tableau of the same steps
  pub lifted : {bound : ℕ} → size x.tree ≤ bound → Closed (over rules t bound) (steps x.tree)
  unfolding start Solves
  lifted {bound} h =
      let σ : Substitution = all_copies in
      let l : map (leaf_under σ) (start t).leaves ≡ x.leaves =
      start_under σ t ∙ ap (λ (θ : Instance). hang [] (instance θ t.question)) root-copy ∙ x.hung in
      let follows = spread_follows (x.root ∷ instances x.tree) (instances x.tree) 1 refl in
      let r = lift σ (over rules t bound) x.tree (start t) l follows (omega arith) tt in
      record {
        tableau = r.tableau;
        made = r.made;
        no_leaf_open = r.no_leaf_open;
        unifiable = record { by = σ; solves = r.solves };
      }

  -- whose copies of the question, under one solution, are the question's instances in the tree, the start first
  pub lifted_asks : {bound : ℕ} (h : size x.tree ≤ bound)
      → (σ : Substitution) × Solves σ (lifted h).tableau.pairs × (map (of_copy σ) (lifted h).tableau.questions ≡ x.root ∷ asked x.tree)
  unfolding lifted start
  lifted_asks h =
      let follows = spread_follows (x.root ∷ instances x.tree) (instances x.tree) 1 refl in
      let c = lifted h in (
        all_copies,
        c.unifiable.solves,
        ap (map (of_copy all_copies)) (made_copies c.made) ∙ ap₂ ◌∷◌ root-copy (asked_copies all_copies x.tree 0 follows),
      )

-- a closed tableau within the bound exists exactly where an instance tree within the bound does
pub closed_iff_tree : (S : Setting)
    → ((ss : List Step) × Closed S ss) ↔ ((x : InstanceTree S.profile S.table) × (size x.tree ≤ S.bound))
closed_iff_tree S = (
  λ c. let d = c.1 in let u = d.unifiable in (tree_under d u.by u.solves, tree_within d u.by u.solves),
  λ x. (steps x.0.tree, lifted x.0 x.1),
)
