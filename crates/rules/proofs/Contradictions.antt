-- The instances that a closed tableau hangs, with a ground term for each variable left, cannot all be true: they are evidence where those of the
-- clauses can.
use borrow.Author.Tests.{eq-eqb, ne_eqb}
use lib.Dec.{eqb}
use lib.ListN.{length, get_elem?}
use mathlib.Core.Bool.{Bool, true, false, cond, not, ◌||◌}
use mathlib.Core.List.{List, [], ◌∷◌, ◌++◌, map, map-append}
use mathlib.Core.Logic.{◌⊎◌, inl, inr}
use mathlib.Core.Option.{some}
use mathlib.Core.Path.{◌≡◌, refl, sym, ◌∙◌, ap, ap₂}
use native.Mathlib.Omega.{arith}
use Prim.Native.Nat.{ℕ, zero, suc, ◌<◌}
use Rattle.words.specs.declared.Step.{Step}
use Rattle.table.specs.Limits.{Each}
use Rattle.table.specs.Syntax.{under, Literal, literal_under, Clause, Table, all_clauses}
use Rattle.rules.specs.Substitution.{Variable, Substitution, Solves}
use Rattle.rules.specs.Setting.{Profile, Setting}
use Rattle.rules.specs.Tableau.{Leaf, Closed}
use Rattle.rules.specs.Answer.{same_disjunct, seen_by, firsts_after_by, firsts_by, per_copy}
use Rattle.rules.specs.Truth.{AllNegative}
use Rattle.rules.specs.System.{◌∈◌, first, later}
use Rattle.rules.specs.Evidence.{Valuation, literal_true, clause_true, Ground, Grounding, ground_instance, InstanceOf, AllInstancesTrue, InstancesTrue, QuestionsTrue, Evidence, turned}
use Rattle.rules.proofs.Every as Every
use Rattle.rules.proofs.Firsts.{all_back}
use Rattle.rules.proofs.Sameness.{disjuncts_told}
use Rattle.rules.proofs.Evidence.{through, clause_through, literals_under, turned_over}
use Rattle.rules.proofs.Instances.{Instance, instance, opposite}
use Rattle.rules.proofs.Lifting.{tree_under, tree_questions}
use Rattle.rules.proofs.Lists.{none_some, last_or_before}
use Rattle.rules.proofs.Refuted.{one_true, HungTrue, tree_false}
use Rattle.rules.proofs.Trees.{Tree, bare, reduction, extension, restart, asked, InstanceTree}
use Rattle.rules.proofs.Truth.{disjunct_of, disjuncts_instances}
use Rattle.rules.proofs.Valuations.{turned_not}

member_at : {A : Type 0} (xs : List A) (n : ℕ) {x : A} → get_elem? xs n ≡ some x → x ∈ xs
member_at [] n e = absurd (none_some e)
member_at (y ∷ xs) zero {x} e = let same : y ≡ x = cc in rw same first
member_at (y ∷ xs) (suc n) e = later (member_at xs n e)

module _ (ρ : Variable → Ground) (t : Table) where
  -- an instance with ground terms for the variables left
  abbrev grounded : Instance → Grounding
  grounded θ n = under ρ (θ n)

  -- the clause of an extension: the question, or one before it
  abbrev Which : ℕ → Clause → Type 0
  Which i clause = ((i ≡ length t.clauses) × (clause ≡ t.question)) ⊎ ((i < length t.clauses) × (get_elem? t.clauses i ≡ some clause))

  which : (i : ℕ) {clause : Clause} → get_elem? (all_clauses t) i ≡ some clause → Which i clause
  unfolding all_clauses
  which i c = last_or_before t.clauses t.question i c

  unfoldable with_hung : {i : ℕ} {clause : Clause} → Which i clause → Instance → List (InstanceOf t.clauses) → List (InstanceOf t.clauses)
  with_hung (inl h) θ is = is
  with_hung {i} {clause} (inr h) θ is = record { clause = clause; among = member_at t.clauses i h.1; by = grounded θ } ∷ is

  -- the instances of clauses before the question
  unfoldable hung : {rules : Profile} {ls : List Leaf} → Tree rules t ls → List (InstanceOf t.clauses)
  hung bare = []
  hung (reduction h a below) = hung below
  hung (extension i j θ u c a e below) = with_hung (which i c) θ (hung below)
  hung (restart θ u e below) = hung below

  module _ (v : Valuation ⊥) where
    abbrev is_true : Literal Variable → Bool
    is_true l = literal_true (through ρ v) l

    one-true : (ls : List (Literal Variable)) → one_true is_true ls ≡ clause_true (through ρ v) ls
    unfolding one_true clause_true
    one-true [] = refl
    one-true (l ∷ ls) = ap (λ (b : Bool). is_true l || b) (one-true ls)

    turns : (l : Literal Variable) → is_true (opposite l) ≡ not (is_true l)
    unfolding opposite turned
    turns l = turned_not (through ρ v) l

    true-instance : (θ : Instance) (c : Clause) → one_true is_true (instance θ c) ≡ clause_true v (ground_instance (grounded θ) c)
    unfolding instance
    true-instance θ c =
        one-true (instance θ c) ∙ clause_through ρ v (instance θ c) ∙ ap (clause_true v) (literals_under ρ θ c.literals)

    hung-true : (i : ℕ) (θ : Instance) (θs : List Instance) (is : List (InstanceOf t.clauses)) {clause : Clause} (w : Which i clause)
        → InstancesTrue v (with_hung w θ is) → QuestionsTrue v t.question (map grounded (cond (eqb i (length t.clauses)) (θ ∷ θs) θs))
        → (one_true is_true (instance θ clause) ≡ true) × InstancesTrue v is × QuestionsTrue v t.question (map grounded θs)
    unfolding Each with_hung
    hung-true i θ θs is {clause} (inl h) a b =
        let q : QuestionsTrue v t.question (map grounded (θ ∷ θs)) = rw (eq-eqb i (length t.clauses) h.0) at b in
        (rw h.1 (true-instance θ t.question ∙ q.0), a, q.1)
    hung-true i θ θs is {clause} (inr h) a b =
        let other : eqb i (length t.clauses) ≡ false = ne_eqb i (length t.clauses) (λ e. let l = h.0 in omega arith) in
        (true-instance θ clause ∙ a.0, a.1, rw other at b)

    all_true : {rules : Profile} {ls : List Leaf} (tree : Tree rules t ls) → InstancesTrue v (hung tree)
        → QuestionsTrue v t.question (map grounded (asked tree)) → HungTrue is_true tree
    unfolding hung asked HungTrue Each
    all_true bare a b = tt
    all_true (reduction h e below) a b = all_true below a b
    all_true (extension i j θ u c e eq below) a b =
        let k = hung-true i θ (asked below) (hung below) (which i c) a b in
        (k.0, all_true below k.1 k.2)
    all_true (restart θ u eq below) a b = (true-instance θ t.question ∙ b.0, all_true below a b.1)

  each-true : (v : Valuation ⊥) → AllInstancesTrue v t.clauses → (is : List (InstanceOf t.clauses)) → InstancesTrue v is
  unfolding Each
  each-true v h [] = tt
  each-true v h (i ∷ is) = (h i, each-true v h is)

  -- the question's instances, and the disjuncts turned over
  disjuncts-asked : AllNegative t.question.literals → (θs : List Instance)
      → map (λ θ. ground_instance θ t.question) (map grounded θs)
      ≡ map (λ d. map turned (map (literal_under ρ) d)) (map (disjunct_of t.question) θs)
  unfolding instance
  disjuncts-asked n [] = refl
  disjuncts-asked n (θ ∷ θs) = ap₂ ◌∷◌ (sym (turned_over ρ θ t.question.literals n)) (disjuncts-asked n θs)

-- a closed tableau under a solution, with ground terms for the variables left, is evidence where all instances of the clauses can be true
module _ {S : Setting} {steps : List Step} (c : Closed S steps) (σ : Substitution) (solves : Solves σ c.tableau.pairs) (ρ : Variable → Ground) where
  abbrev tree : InstanceTree S.profile S.table
  tree = tree_under c σ solves

  pub closed_evidence : (v : Valuation ⊥) → AllInstancesTrue v S.table.clauses → Evidence S.table
  unfolding Each
  closed_evidence v h =
      let t : Table = S.table in
      record {
        clauses = hung ρ t tree.tree;
        questions = map (grounded ρ t) (tree.root ∷ asked tree.tree);
        impossible = λ w k.
            tree_false (is_true ρ t w) (turns ρ t w) tree (true-instance ρ t w tree.root t.question ∙ k.1.0)
            (all_true ρ t w tree.tree k.0 k.1.1);
        possible = (v, each-true ρ t v h (hung ρ t tree.tree));
      }

  -- whose instances of the question are the disjuncts, turned over
  pub closed_asks : (v : Valuation ⊥) (h : AllInstancesTrue v S.table.clauses) → AllNegative S.table.question.literals
      → map (λ θ. ground_instance θ S.table.question) (closed_evidence v h).questions
      ≡ map (λ d. map turned (map (literal_under ρ) d)) (per_copy σ S.table c.tableau)
  unfolding closed_evidence per_copy
  closed_asks v h n =
      let t : Table = S.table in
      let ds = disjuncts_instances σ t.question c.tableau.questions ∙ ap (map (disjunct_of t.question)) (tree_questions c σ solves) in
      rw ds (disjuncts-asked ρ t n (tree.root ∷ asked tree.tree))

-- evidence may ask each instance once: of instances that are what some list makes them, those of its firsts are enough
module _ (t : Table) (F : List (Literal Variable) → List (Literal ⊥)) where
  abbrev Asks : List Grounding → List (List (Literal Variable)) → Type 0
  Asks θs ds = map (λ θ. ground_instance θ t.question) θs ≡ map F ds

  picked : (before : List (List (Literal Variable))) (chosen : List Grounding) → Asks chosen before → (ds : List (List (Literal Variable))) (θs : List Grounding) → Asks θs ds
      → (γs : List Grounding) × Asks γs (firsts_after_by same_disjunct before ds)
  unfolding firsts_after_by
  picked before chosen e [] θs h = (chosen, e)
  picked before chosen e (d ∷ ds) [] h = absurd (none_there h)
    where
      none_there : [] ≡ F d ∷ map F ds → ⊥
      none_there h = let z : ◌≡◌ {A = ℕ} 0 1 = cc in omega arith
  picked before chosen e (d ∷ ds) (θ ∷ θs) h =
      go (seen_by same_disjunct d before) (picked before chosen e ds θs cc)
      (picked (before ++ (d ∷ [])) (chosen ++ (θ ∷ []))
      (map-append (λ θ. ground_instance θ t.question) chosen (θ ∷ []) ∙ ap₂ ◌++◌ e (cc) ∙ sym (map-append F before (d ∷ []))) ds θs cc)
    where
      go : (b : Bool) → ((γs : List Grounding) × Asks γs (firsts_after_by same_disjunct before ds)) → ((γs : List Grounding) × Asks γs (firsts_after_by same_disjunct (before ++ (d ∷ [])) ds))
          → (γs : List Grounding) × Asks γs (cond b (firsts_after_by same_disjunct before ds) (firsts_after_by same_disjunct (before ++ (d ∷ [])) ds))
      go true p q = p
      go false p q = q

  module _ (v : Valuation ⊥) where
    made-true : (θs : List Grounding) (ds : List (List (Literal Variable))) → Asks θs ds → QuestionsTrue v t.question θs → Every.All (λ d. clause_true v (F d) ≡ true) ds
    unfolding Each
    made-true [] [] e q = Every.end
    made-true [] (d ∷ ds) e q = absurd (let z : ◌≡◌ {A = ℕ} 0 1 = cc in omega arith)
    made-true (θ ∷ θs) [] e q = absurd (let z : ◌≡◌ {A = ℕ} 0 1 = cc in omega arith)
    made-true (θ ∷ θs) (d ∷ ds) e q =
        let same : ground_instance θ t.question ≡ F d = cc in
        Every.◌also◌ (ap (clause_true v) (sym same) ∙ q.0) (made-true θs ds (cc) q.1)

    asked_true : (θs : List Grounding) (ds : List (List (Literal Variable))) → Asks θs ds → Every.All (λ d. clause_true v (F d) ≡ true) ds → QuestionsTrue v t.question θs
    unfolding Each
    asked_true [] ds e q = tt
    asked_true (θ ∷ θs) [] e q = absurd (let z : ◌≡◌ {A = ℕ} 0 1 = cc in omega arith)
    asked_true (θ ∷ θs) (d ∷ ds) e q =
        let same : ground_instance θ t.question ≡ F d = cc in
        (ap (clause_true v) same ∙ Every.all_first q, asked_true θs ds (cc) (Every.all_rest q))

pub asked_once : (t : Table) (e : Evidence t) (F : List (Literal Variable) → List (Literal ⊥)) (ds : List (List (Literal Variable)))
    → map (λ θ. ground_instance θ t.question) e.questions ≡ map F ds
    → (once : Evidence t) × (map (λ θ. ground_instance θ t.question) once.questions ≡ map F (firsts_by same_disjunct ds))
unfolding firsts_by
asked_once t e F ds h =
    let p = picked t F [] [] refl ds e.questions h in (
      record {
        clauses = e.clauses;
        questions = p.0;
        impossible = λ v k. e.impossible v (k.0, asked_true t F v e.questions ds h (all_back disjuncts_told ds (made-true t F v p.0 (firsts_after_by same_disjunct [] ds) p.1 k.1)));
        possible = e.possible;
      },
      p.1,
    )
