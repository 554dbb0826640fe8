-- All variables of a tableau are variables of its copies, and all its symbols are the table's: so an answer has at most 16 different
-- variables for each copy that was made, and its literals are within document 01's fields.
use lib.Dec.{eqb}
use lib.ListN.{length, take, drop, get_elem?}
use mathlib.Core.List.{List, [], ◌∷◌, ◌++◌, map}
use mathlib.Core.Option.{some}
use mathlib.Core.Path.{◌≡◌}
use mathlib.Core.Bool.{Bool, true, false, cond}
use native.Mathlib.Omega.{arith}
use Prim.Native.Nat.{ℕ, zero, suc, ◌*◌, ◌^◌, ◌≤◌, ◌<◌}
use Rattle.words.specs.declared.Step.{Step}
use Rattle.table.specs.Syntax.{Term, var, app, Terms, nil, ◌then◌, arity, under, unders, Literal, literal_under, Clause, Table, all_clauses}
use Rattle.rules.specs.Substitution.{Variable, Substitution, Pair, MostGeneral, same_variable}
use Rattle.rules.specs.Machinery.Unify.{Bindings, replace, solution, made}
use Rattle.rules.specs.Setting.{Setting}
use Rattle.rules.specs.Tableau.{fresh, copy_of, atom, closing, Leaf, Tableau, hang, start, ancestor, others, questions_with, Made, as_it_stands, by_step, Closed}
use Rattle.rules.specs.Answer.{positive, disjunct, same_disjunct, firsts_by, per_copy, disjuncts, occurring, occurring_in, occurring_all, firsts, joined}
use Rattle.table.specs.Limits as Limits
use Rattle.table.specs.Limits.{TermWithin, TermsWithin, LiteralWithin, ClauseWithin}
use Rattle.rules.proofs.Substitution.{arity_unders}
use Rattle.rules.proofs.Unify.{good_none, pairs_within, made_general, made_unifiable}
use Rattle.rules.proofs.Unify.Outcome.{EachPair}
use Rattle.rules.proofs.Unify.Run.{Within, Each, Hereditary}
use Rattle.rules.proofs.Instances.{ancestor_at}
use Rattle.rules.proofs.Lists.{none_some, some_last}
use Rattle.rules.proofs.Every.{All, end, ◌also◌, all_first, all_rest, all_append, some_same}
use Rattle.rules.proofs.Firsts.{firsts_all}
use Rattle.rules.proofs.Steps.{Does, reduces, extends, restarts, does}
use Rattle.rules.proofs.Answer.{Few, few_variables, count_once}

-- a term over variables that have a property, with symbols of 12 bits and at most 4 arguments
unfoldable mutual
  pub Held : (Variable → Type 0) → Term Variable → Type 0
  Held P (var x) = P x
  Held P (app f ts) = (f < 2 ^ 12) × (arity ts ≤ 4) × Helds P ts

  pub Helds : (Variable → Type 0) → Terms Variable → Type 0
  Helds P nil = Unit {0}
  Helds P (t then ts) = Held P t × Helds P ts

-- the question stands after the clauses
question_last : (t : Table) → get_elem? (all_clauses t) (length t.clauses) ≡ some t.question
unfolding all_clauses
question_last t = some_last t.clauses t.question

-- what holds of a term, under a substitution, and of the variables that occur
module _ (P : Variable → Type 0) where
  abbrev Kept : Substitution → Type 0
  Kept σ = (x : Variable) → P x → Held P (σ x)

  mutual
    unfolding Held under

    held-under : (σ : Substitution) → Kept σ → (t : Term Variable) → Held P t → Held P (under σ t)
    held-under σ f (var x) p = f x p
    held-under σ f (app g ts) p = (p.0, rw (arity_unders σ ts) p.1, helds-under σ f ts p.2)

    helds-under : (σ : Substitution) → Kept σ → (ts : Terms Variable) → Helds P ts → Helds P (unders σ ts)
    helds-under σ f nil p = tt
    helds-under σ f (t then ts) p = (held-under σ f t p.0, helds-under σ f ts p.1)

  mutual
    unfolding Held occurring

    held-occurring : (t : Term Variable) → Held P t → All P (occurring t)
    held-occurring (var x) p = p also end
    held-occurring (app g ts) p = helds-occurring ts p.2

    helds-occurring : (ts : Terms Variable) → Helds P ts → All P (occurring_in ts)
    helds-occurring nil p = end
    helds-occurring (t then ts) p = all_append (held-occurring t p.0) (helds-occurring ts p.1)

  helds-each : (ts : Terms Variable) → Helds P ts → Each (Held P) ts
  unfolding Held Each
  helds-each nil h = tt
  helds-each (t then ts) h = (h.0, helds-each ts h.1)

  held-parts : Hereditary (Held P)
  unfolding Held
  held-parts f ts h = helds-each ts h.2

  -- a solution of bindings over such variables keeps to them
  replaced-held : (x : Variable) (t : Term Variable) → Held P t → Kept (replace x t)
  unfolding replace Held
  replaced-held x t p y q = go (same_variable x y)
    where
      go : (b : Bool) → Held P (cond b t (var y))
      go true = p
      go false = q

  solution-held : (bs : Bindings) → Within (Held P) bs → Kept (solution bs)
  unfolding solution Within Held
  solution-held [] w x p = p
  solution-held (b ∷ bs) w x p =
      let keeps = solution-held bs w.2 in
      held-under (replace b.variable (under (solution bs) b.value))
      (replaced-held b.variable (under (solution bs) b.value) (held-under (solution bs) keeps b.value w.1)) (solution bs x) (keeps x p)

  abbrev pub Ranging : Literal Variable → Type 0
  Ranging l = (l.predicate < 2 ^ 12) × (arity l.arguments ≤ 4) × Helds P l.arguments

  all_at : (ls : List (Literal Variable)) (n : ℕ) {m : Literal Variable} → All Ranging ls → get_elem? ls n ≡ some m → Ranging m
  all_at [] n a e = absurd (none_some e)
  all_at (l ∷ ls) zero a e = let f : l ≡ _ = some_same e in rw f at (all_first a)
  all_at (l ∷ ls) (suc n) a e = all_at ls n (all_rest a) e

  all-taken : (n : ℕ) (ls : List (Literal Variable)) → All Ranging ls → All Ranging (take n ls)
  all-taken zero ls a = end
  all-taken (suc n) [] a = end
  all-taken (suc n) (l ∷ ls) a = all_first a also all-taken n ls (all_rest a)

  all-dropped : (n : ℕ) (ls : List (Literal Variable)) → All Ranging ls → All Ranging (drop n ls)
  all-dropped zero ls a = a
  all-dropped (suc n) [] a = end
  all-dropped (suc n) (l ∷ ls) a = all-dropped n ls (all_rest a)

  others-ranging : (n : ℕ) (ls : List (Literal Variable)) → All Ranging ls → All Ranging (others n ls)
  unfolding others
  others-ranging n ls a = all_append (all-taken n ls a) (all-dropped (suc n) ls a)

  ancestor-ranging : (h : ℕ) (ls : List (Literal Variable)) {m : Literal Variable} → All Ranging ls → ancestor h ls ≡ some m → Ranging m
  ancestor-ranging h ls a e = let k = ancestor_at h ls e in all_at ls k.0 a k.2

  -- the leaves and the pairs of a tableau
  record LeafRanging (leaf : Leaf) : Type 0 where
    own : Ranging leaf.literal
    above : All Ranging leaf.branch

  hang_ranging : (branch ls : List (Literal Variable)) → All Ranging branch → All Ranging ls → All LeafRanging (hang branch ls)
  unfolding hang
  hang_ranging branch [] b a = end
  hang_ranging branch (l ∷ ls) b a = record { own = all_first a; above = b } also hang_ranging branch ls b (all_rest a)

  record TableauRanging (x : Tableau) : Type 0 where
    leaves : All LeafRanging x.leaves
    pairs : EachPair (Held P) x.pairs

  first_leaf : (x : Tableau) {leaf : Leaf} {rest : List Leaf} → TableauRanging x → x.leaves ≡ leaf ∷ rest → LeafRanging leaf × All LeafRanging rest
  first_leaf x r e = let a = rw e at r.leaves in (all_first a, all_rest a)

  closing_ranging : (l m : Literal Variable) (ps : List Pair) → Ranging l → Ranging m → EachPair (Held P) ps → EachPair (Held P) (closing l m ∷ ps)
  unfolding closing EachPair atom Held
  closing_ranging l m ps p q r = (p, q, r)

  does_ranging : {S : Setting} {x y : Tableau} {s : Step} → Does S x s y → ((i : ℕ) (c : Clause) → x.extensions < S.bound → get_elem? (all_clauses S.table) i ≡ some c → All Ranging (copy_of (suc x.extensions) c))
      → TableauRanging x → TableauRanging y
  does_ranging {x} (reduces {leaf = leaf} {m = m} {height = height} l a f e) copies r =
      let k = first_leaf x r l in
      rw (← e)
      (record {
        leaves = k.1;
        pairs = closing_ranging leaf.literal m x.pairs k.0.own (ancestor-ranging height leaf.branch k.0.above a) r.pairs;
      })
  does_ranging {x} (extends {leaf = leaf} {clause = c} {m = m} {i = i} {j = j} l u k a f e) copies r =
      let h = first_leaf x r l in
      let copy = copies i c u.1 k in
      rw (← e)
      (record {
        leaves = all_append (hang_ranging (leaf.literal ∷ leaf.branch) _ (h.0.own also h.0.above) (others-ranging j _ copy)) h.1;
        pairs = closing_ranging leaf.literal m x.pairs h.0.own (all_at _ j copy a) r.pairs;
      })
  does_ranging {S} {x} (restarts {leaf = leaf} l u e) copies r =
      let h = first_leaf x r l in
      let copy = copies (length S.table.clauses) S.table.question u.1 (question_last S.table) in
      rw (← e)
      (record { leaves = all_append (hang_ranging (leaf.literal ∷ leaf.branch) _ (h.0.own also h.0.above) copy) h.1; pairs = r.pairs })

-- a copy of a clause within the limits has that copy's variables, with numbers below 16
module _ (copies : ℕ) where
  mutual
    unfolding Held under fresh TermWithin

    fresh-held : (t : Term ℕ) (copy count : ℕ) → copy < copies → count ≤ 16 → TermWithin t count → Held (Few copies) (under (fresh copy) t)
    fresh-held (var x) copy count c l b = (c, omega arith)
    fresh-held (app f ts) copy count c l b = (b.0, rw (arity_unders (fresh copy) ts) b.1, fresh-helds ts copy count c l b.2)

    fresh-helds : (ts : Terms ℕ) (copy count : ℕ) → copy < copies → count ≤ 16 → TermsWithin ts count → Helds (Few copies) (unders (fresh copy) ts)
    fresh-helds nil copy count c l b = tt
    fresh-helds (t then ts) copy count c l b = (fresh-held t copy count c l b.0, fresh-helds ts copy count c l b.1)

  copy-ranging : (copy : ℕ) (c : Clause) → copy < copies → ClauseWithin c → All (Ranging (Few copies)) (copy_of copy c)
  unfolding copy_of Limits.Each literal_under
  copy-ranging copy c l h = go c.literals h.literals
    where
      go : (ls : List (Literal ℕ)) → Limits.Each (LiteralWithin c.variables) ls → All (Ranging (Few copies)) (map (literal_under (fresh copy)) ls)
      go [] b = end
      go (k ∷ ls) b =
          let few : arity (unders (fresh copy) k.arguments) ≤ 4 = rw (arity_unders (fresh copy) k.arguments) b.0.arity in
          (b.0.predicate, few, fresh-helds k.arguments copy c.variables l h.variables b.0.arguments) also go ls b.1

within_at : (cs : List Clause) (i : ℕ) {c : Clause} → Limits.Each ClauseWithin cs → get_elem? cs i ≡ some c → ClauseWithin c
unfolding Limits.Each
within_at [] i a e = absurd (none_some e)
within_at (d ∷ cs) zero {c} a e = let f : d ≡ c = some_same e in rw f at a.0
within_at (d ∷ cs) (suc i) a e = within_at cs i a.1 e

pub question_within : (t : Table) → Limits.Within t → ClauseWithin t.question
question_within t w = within_at _ (length t.clauses) w.clauses (question_last t)

module _ (S : Setting) (limits : Limits.Within S.table) where
  abbrev pub Own : Variable → Type 0
  Own = Few (suc S.bound)

  questions-made : {x y : Tableau} {s : Step} → Does S x s y → All (λ q. q < suc S.bound) x.questions → All (λ q. q < suc S.bound) y.questions
  unfolding questions_with
  questions-made (reduces l a f e) q = rw (← e) q
  questions-made {x} (extends {i = i} l u k a f e) q = rw (← e) (go (eqb i (length S.table.clauses)))
    where
      go : (b : Bool) → All (λ q. q < suc S.bound) (cond b (x.questions ++ (suc x.extensions ∷ [])) x.questions)
      go true = let h : suc x.extensions < suc S.bound = omega arith in all_append q (h also end)
      go false = q
  questions-made {x} (restarts l u e) q = let h : suc x.extensions < suc S.bound = omega arith in rw (← e) (all_append q (h also end))

  made-ranging : {x z : Tableau} {ss : List Step} → Made S x ss z → TableauRanging Own x → All (λ q. q < suc S.bound) x.questions
      → TableauRanging Own z × All (λ q. q < suc S.bound) z.questions
  made-ranging as_it_stands r q = (r, q)
  made-ranging {x} (by_step {s = s} e m) r q =
      let d = does s e in
      made-ranging m
      (does_ranging Own d (λ i c u k. copy-ranging (suc S.bound) (suc x.extensions) c (omega arith) (within_at (all_clauses S.table) i limits.clauses k)) r)
      (questions-made d q)

  start-ranging : TableauRanging Own (start S.table) × All (λ q. q < suc S.bound) (start S.table).questions
  unfolding start EachPair
  start-ranging =
      let z : 0 < suc S.bound = omega arith in (
        record { leaves = hang_ranging Own [] (copy_of 0 S.table.question) end (copy-ranging (suc S.bound) 0 S.table.question z (question_within S.table limits)); pairs = tt },
        z also end,
      )

  all_joined : {P : Literal Variable → Type 0} {ds : List (List (Literal Variable))} → All (λ d. All P d) ds → All P (joined ds)
  unfolding joined
  all_joined end = end
  all_joined (a also b) = all_append a (all_joined b)

  -- the disjuncts under a substitution that keeps to them
  module _ (σ : Substitution) (keeps : Kept Own σ) where
    disjunct_own : (ls : List (Literal Variable)) → All (Ranging Own) ls → All (Ranging Own) (map (λ l. literal_under σ (positive l)) ls)
    unfolding literal_under positive
    disjunct_own [] a = end
    disjunct_own (l ∷ ls) a =
        let r : Ranging Own l = all_first a in
        let few : arity (unders σ l.arguments) ≤ 4 = rw (arity_unders σ l.arguments) r.1 in
        (r.0, few, helds-under Own σ keeps l.arguments r.2) also disjunct_own ls (all_rest a)

    copies_own : (qs : List ℕ) → All (λ q. q < suc S.bound) qs → All (λ d. All (Ranging Own) d) (map (disjunct σ S.table.question) qs)
    unfolding disjunct
    copies_own [] a = end
    copies_own (q ∷ qs) a =
        disjunct_own (copy_of q S.table.question) (copy-ranging (suc S.bound) q S.table.question (all_first a) (question_within S.table limits))
        also copies_own qs (all_rest a)

    disjuncts_own : (x : Tableau) → All (λ q. q < suc S.bound) x.questions → All (Ranging Own) (joined (disjuncts σ S.table x))
    unfolding disjuncts per_copy firsts_by
    disjuncts_own x a = all_joined (firsts_all same_disjunct [] (map (disjunct σ S.table.question) x.questions) end (copies_own x.questions a))

  all_occurring : (ls : List (Literal Variable)) → All (Ranging Own) ls → All Own (occurring_all ls)
  unfolding occurring_all
  all_occurring [] a = end
  all_occurring (l ∷ ls) a =
      let r : Ranging Own l = all_first a in all_append (helds-occurring Own l.arguments r.2) (all_occurring ls (all_rest a))

  -- a most general solution of a closed tableau under which the answer keeps to its copies and to the table's symbols
  pub record Keeping (x : Tableau) : Type 0 where
    pub by : Substitution
    pub general : MostGeneral by x.pairs
    pub answer : All (Ranging Own) (joined (disjuncts by S.table x))

  pub keeping : {ss : List Step} (c : Closed S ss) → Keeping c.tableau
  unfolding Within
  keeping c =
      let r = made-ranging c.made start-ranging.0 start-ranging.1 in
      let m = (made_unifiable c.tableau.pairs).1 c.unifiable in
      let w : Within (Held Own) m.0 = pairs_within (Held Own) (held-parts Own) [] good_none tt c.tableau.pairs r.0.pairs m.1 in
      record {
        by = solution m.0;
        general = made_general c.tableau.pairs m.0 m.1;
        answer = disjuncts_own (solution m.0) (solution-held Own m.0 w) c.tableau r.1;
      }

  pub few_in_answer :
      {ss : List Step} (c : Closed S ss) (σ : Substitution) → MostGeneral σ c.tableau.pairs
      → length (firsts (occurring_all (joined (disjuncts σ S.table c.tableau)))) ≤ suc S.bound * 16
  few_in_answer c σ g =
      let k = keeping c in
      let few = few_variables (suc S.bound) (occurring_all (joined (disjuncts k.by S.table c.tableau))) (all_occurring _ k.answer) in
      rw (count_once S.table c.tableau c.tableau.pairs σ k.by g k.general) few

-- 33 × 16 = 528
pub at_most_528 :
    (S : Setting) → Limits.Within S.table → S.bound ≤ 32 → {ss : List Step} (c : Closed S ss) (σ : Substitution)
    → MostGeneral σ c.tableau.pairs → length (firsts (occurring_all (joined (disjuncts σ S.table c.tableau)))) ≤ 528
at_most_528 S limits b c σ g = let h = few_in_answer S limits c σ g in omega arith
