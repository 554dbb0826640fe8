-- An answer holds in every interpretation in which all clauses but the question hold.
use borrow.Author.Tests.{eq-eqb, ne_eqb}
use lib.Dec.{eqb}
use lib.ListN.{length, get_elem?}
use mathlib.Core.Bool.{Bool, true, false, true≢false, cond, not, ◌&&◌, ◌||◌}
use mathlib.Core.List.{List, [], ◌∷◌, ◌++◌, map, map-map, map-append, flatten}
use mathlib.Core.Logic.{◌⊎◌, inl, inr}
use mathlib.Core.Option.{some}
use mathlib.Core.Path.{◌≡◌, refl, sym, ◌∙◌, ap, ap₂, fun_ext}
use native.Mathlib.Omega.{arith}
use Prim.Native.Nat.{ℕ, zero, suc, ◌<◌}
use Rattle.words.specs.declared.Step.{Step}
use Rattle.table.specs.Syntax.{Term, var, app, Terms, nil, ◌then◌, under, unders, Literal, literal_under, Clause, Table, all_clauses}
use Rattle.table.specs.Encode.{literals_words}
use Rattle.rules.specs.Substitution.{Variable, Substitution, Solves}
use Rattle.rules.specs.Setting.{Profile, Setting}
use Rattle.rules.specs.Tableau.{copy_of, Leaf, Tableau, Closed}
use Rattle.rules.specs.Answer.{positive, disjunct, same_disjunct, firsts_by, per_copy, disjuncts, joined, numbered, answer_words}
use Rattle.rules.specs.Truth.{Interpretation, Assignment, AllNegative, value, values, atom_true, literal_true, some_true, all_true}
use Rattle.rules.specs.Truth.{some_all_true, Holds, AllHold, AnswerHolds}
use Rattle.rules.proofs.Answer.{numbered_disjuncts}
use Rattle.rules.proofs.Every as Every
use Rattle.rules.proofs.Firsts.{all_back}
use Rattle.rules.proofs.Sameness.{disjuncts_told}
use Rattle.rules.proofs.Unify.Tests.{or_left, or_right}
use Rattle.rules.proofs.Instances.{Instance, instance, opposite, of_copy, copy_under}
use Rattle.rules.proofs.Lifting.{tree_under, tree_questions}
use Rattle.rules.proofs.Lists.{All, last_or_before, none_some}
use Rattle.rules.proofs.Refuted.{one_true, HungTrue, tree_false}
use Rattle.rules.proofs.Trees.{Tree, bare, reduction, extension, restart, asked, InstanceTree}

module _ (I : Interpretation) {X Y : Type 0} (σ : X → Term Y) (a : Y → ℕ) where
  -- what a substitution makes of an assignment
  abbrev pub through : X → ℕ
  through x = value I a (σ x)

  mutual
    unfolding under value

    pub value_under : (t : Term X) → value I a (under σ t) ≡ value I through t
    value_under (var x) = refl
    value_under (app f ts) = ap (I.function f) (values_unders ts)

    pub values_unders : (ts : Terms X) → values I a (unders σ ts) ≡ values I through ts
    values_unders nil = refl
    values_unders (t then ts) = rw (value_under t, values_unders ts)

  pub atom_under : (l : Literal X) → atom_true I a (literal_under σ l) ≡ atom_true I through l
  unfolding literal_under atom_true
  atom_under l = ap (I.predicate l.predicate) (values_unders l.arguments)

  pub literal_true_under : (l : Literal X) → literal_true I a (literal_under σ l) ≡ literal_true I through l
  unfolding literal_under literal_true
  literal_true_under l = rw (atom_under l)

  pub some_under : (ls : List (Literal X)) → some_true I a (map (literal_under σ) ls) ≡ some_true I through ls
  unfolding some_true
  some_under [] = refl
  some_under (l ∷ ls) = rw (literal_true_under l, some_under ls)

  pub all_under : (ls : List (Literal X)) → all_true I a (map (literal_under σ) ls) ≡ all_true I through ls
  unfolding all_true
  all_under [] = refl
  all_under (l ∷ ls) = rw (atom_under l, all_under ls)

  pub some_all_under : (ds : List (List (Literal X))) → some_all_true I a (map (map (literal_under σ)) ds) ≡ some_all_true I through ds
  unfolding some_all_true
  some_all_under [] = refl
  some_all_under (d ∷ ds) = rw (all_under d, some_all_under ds)

value_within : (I : Interpretation) {X : Type 0} (a : Assignment I X) (t : Term X) → value I a.element t < I.size
unfolding value
value_within I a (var x) = a.within x
value_within I a (app f ts) = I.within f (values I a.element ts)

pub assignment_under : (I : Interpretation) {X Y : Type 0} (σ : X → Term Y) → Assignment I Y → Assignment I X
assignment_under I σ a = record { element = through I σ a.element; within = λ x. value_within I a (σ x) }

-- an answer that holds, holds under every substitution, so under every numbering of its variables
pub answer_under : (I : Interpretation) {X Y : Type 0} (σ : X → Term Y) (ds : List (List (Literal X))) → AnswerHolds I ds
    → AnswerHolds I (map (map (literal_under σ)) ds)
unfolding AnswerHolds assignment_under
answer_under I σ ds h = λ a. some_all_under I σ a.element ds ∙ h (assignment_under I σ a)

-- a clause that holds has a true literal in every instance
pub instance_true : (I : Interpretation) {X : Type 0} (c : Clause) (θ : ℕ → Term X) (a : Assignment I X) → Holds I c
    → some_true I a.element (map (literal_under θ) c.literals) ≡ true
unfolding Holds assignment_under
instance_true I c θ a h = some_under I θ a.element c.literals ∙ h (assignment_under I θ a)

module _ (I : Interpretation) (a : Variable → ℕ) where
  opposite-not : (l : Literal Variable) → literal_true I a (opposite l) ≡ not (literal_true I a l)
  unfolding opposite literal_true atom_true
  opposite-not l = turned l.negative (I.predicate l.predicate (values I a l.arguments))
    where
      turned : (n p : Bool) → cond (not n) (not p) p ≡ not (cond n (not p) p)
      turned true true = refl
      turned true false = refl
      turned false true = refl
      turned false false = refl

  one-true : (ls : List (Literal Variable)) → one_true (literal_true I a) ls ≡ some_true I a ls
  unfolding one_true some_true
  one-true [] = refl
  one-true (l ∷ ls) = ap (λ (b : Bool). literal_true I a l || b) (one-true ls)

hold_at : (I : Interpretation) (cs : List Clause) (i : ℕ) {c : Clause} → get_elem? cs i ≡ some c → AllHold I cs → Holds I c
unfolding AllHold
hold_at I [] i e h = absurd (none_some e)
hold_at I (d ∷ cs) zero {c} e h = let same : d ≡ c = cc in rw same at h.0
hold_at I (d ∷ cs) (suc i) e h = hold_at I cs i e h.1

-- the question's instance has a true literal: not all of G1 … Gn are true
abbrev Denied : (I : Interpretation) → Table → (Variable → ℕ) → Instance → Type 0
Denied I t a θ = some_true I a (instance θ t.question) ≡ true

module _ (I : Interpretation) (t : Table) (a : Assignment I Variable) (hold : AllHold I t.clauses) where
  -- the instance that an extension hangs has a true literal, where the question's instances have
  hung-true : (i : ℕ) (θ : Instance) (θs : List Instance) {clause : Clause} → get_elem? (all_clauses t) i ≡ some clause
      → All (Denied I t a.element) (cond (eqb i (length t.clauses)) (θ ∷ θs) θs)
      → (some_true I a.element (instance θ clause) ≡ true) × All (Denied I t a.element) θs
  unfolding all_clauses instance All
  hung-true i θ θs {clause} e h = by_cases (last_or_before t.clauses t.question i e)
    where
      by_cases : ((i ≡ length t.clauses) × (clause ≡ t.question)) ⊎ ((i < length t.clauses) × (get_elem? t.clauses i ≡ some clause))
          → (some_true I a.element (map (literal_under θ) clause.literals) ≡ true) × All (Denied I t a.element) θs
      by_cases (inl q) =
          let k : Denied I t a.element θ × All (Denied I t a.element) θs = rw (eq-eqb i (length t.clauses) q.0) at h in
          (rw q.1 k.0, k.1)
      by_cases (inr c) =
          let other : eqb i (length t.clauses) ≡ false = ne_eqb i (length t.clauses) (λ e. omega arith) in
          (instance_true I clause θ a (hold_at I t.clauses i c.1 hold), rw other at h)

  hung-all : {rules : Profile} {ls : List Leaf} (tree : Tree rules t ls) → All (Denied I t a.element) (asked tree)
      → HungTrue (literal_true I a.element) tree
  unfolding asked HungTrue All
  hung-all bare d = tt
  hung-all (reduction h e below) d = hung-all below d
  hung-all (extension {clause = clause} i j θ u c e eq below) d =
      let k = hung-true i θ (asked below) c d in
      (one-true I a.element (instance θ clause) ∙ k.0, hung-all below k.1)
  hung-all (restart θ u eq below) d = (one-true I a.element (instance θ t.question) ∙ d.0, hung-all below d.1)

  -- no closed tree's every question's instance, the root too, has a true literal
  denied-false : {rules : Profile} (x : InstanceTree rules t) → Denied I t a.element x.root → All (Denied I t a.element) (asked x.tree) → ⊥
  denied-false x r d =
      tree_false (literal_true I a.element) (opposite-not I a.element) x (one-true I a.element (instance x.root t.question) ∙ r)
      (hung-all x.tree d)

positive_under : (σ : Substitution) (l : Literal Variable) → literal_under σ (positive l) ≡ positive (literal_under σ l)
unfolding positive literal_under
positive_under σ l = refl

-- a disjunct is the question's instance, its literals positive
pub disjunct_instance : (σ : Substitution) (question : Clause) (copy : ℕ)
    → disjunct σ question copy ≡ map positive (instance (of_copy σ copy) question)
unfolding disjunct
disjunct_instance σ question copy =
    ap (λ (f : Literal Variable → Literal Variable). map f (copy_of copy question)) (fun_ext (positive_under σ))
    ∙ sym (map-map positive (literal_under σ) (copy_of copy question)) ∙ ap (map positive) (copy_under σ copy question)

module _ (I : Interpretation) (a : Variable → ℕ) where
  denied : (ls : List (Literal ℕ)) (θ : Instance) → AllNegative ls
      → some_true I a (map (literal_under θ) ls) ≡ not (all_true I a (map positive (map (literal_under θ) ls)))
  unfolding AllNegative some_true all_true literal_true literal_under positive atom_true
  denied [] θ n = refl
  denied (l ∷ ls) θ n =
      rw (n.0, denied ls θ n.1) (de-morgan (I.predicate l.predicate (values I a (unders θ l.arguments))) _)
    where
      de-morgan : (p q : Bool) → (not p || not q) ≡ not (p && q)
      de-morgan true q = refl
      de-morgan false q = refl

-- the disjunct of an instance of the question
abbrev pub disjunct_of : Clause → Instance → List (Literal Variable)
disjunct_of question θ = map positive (instance θ question)

pub disjuncts_instances : (σ : Substitution) (question : Clause) (copies : List ℕ)
    → map (disjunct σ question) copies ≡ map (disjunct_of question) (map (of_copy σ) copies)
disjuncts_instances σ question copies =
    ap (λ (f : ℕ → List (Literal Variable)). map f copies) (fun_ext (disjunct_instance σ question))
    ∙ sym (map-map (disjunct_of question) (of_copy σ) copies)

module _ (I : Interpretation) (t : Table) (a : Assignment I Variable) (hold : AllHold I t.clauses) (negative : AllNegative t.question.literals) where
  none-all-true : (θs : List Instance) → some_all_true I a.element (map (disjunct_of t.question) θs) ≡ false
      → All (Denied I t a.element) θs
  unfolding some_all_true All instance
  none-all-true [] e = tt
  none-all-true (θ ∷ θs) e =
      let k = neither (all_true I a.element (disjunct_of t.question θ)) _ e in
      (denied I a.element t.question.literals θ negative ∙ ap not k.0, none-all-true θs k.1)
    where
      neither : (p q : Bool) → (p || q) ≡ false → (p ≡ false) × (q ≡ false)
      neither true q e = absurd (true≢false e)
      neither false q e = (refl, e)

  some-all-true : {rules : Profile} (x : InstanceTree rules t) (b : Bool)
      → some_all_true I a.element (map (disjunct_of t.question) (x.root ∷ asked x.tree)) ≡ b → b ≡ true
  unfolding All
  some-all-true x true e = refl
  some-all-true x false e = let d = none-all-true (x.root ∷ asked x.tree) e in absurd (denied-false I t a hold x d.0 d.1)

-- what the copies of the question say holds where all clauses but the question hold
copies_hold : (I : Interpretation) (S : Setting) {steps : List Step} (c : Closed S steps) (σ : Substitution)
    → Solves σ c.tableau.pairs → AllNegative S.table.question.literals → AllHold I S.table.clauses
    → AnswerHolds I (per_copy σ S.table c.tableau)
unfolding AnswerHolds per_copy
copies_hold I S c σ solves negative hold = λ a.
    let t : Table = S.table in
    let x = tree_under c σ solves in
    let e : map (disjunct σ t.question) c.tableau.questions ≡ map (disjunct_of t.question) (x.root ∷ asked x.tree) =
    disjuncts_instances σ t.question c.tableau.questions ∙ ap (map (disjunct_of t.question)) (tree_questions c σ solves) in
    rw e (some-all-true I t a hold negative x _ refl)

-- and so does the answer, which says each of it once
none_true : (I : Interpretation) {X : Type 0} (a : X → ℕ) (ds : List (List (Literal X))) → some_all_true I a ds ≡ false → Every.All (λ d. all_true I a d ≡ false) ds
unfolding some_all_true
none_true I a [] e = Every.end
none_true I a (d ∷ ds) e = Every.◌also◌ (or_left (all_true I a d) _ e) (none_true I a ds (or_right (all_true I a d) _ e))

all_false : (I : Interpretation) {X : Type 0} (a : X → ℕ) {ds : List (List (Literal X))} → Every.All (λ d. all_true I a d ≡ false) ds → some_all_true I a ds ≡ false
unfolding some_all_true
all_false I a Every.end = refl
all_false I a (Every.◌also◌ e es) = ap₂ ◌||◌ e (all_false I a es)

once_holds : (I : Interpretation) (ds : List (List (Literal Variable))) → AnswerHolds I ds → AnswerHolds I (firsts_by same_disjunct ds)
unfolding AnswerHolds
once_holds I ds h = λ a. go a (some_all_true I a.element (firsts_by same_disjunct ds)) refl
  where
    go : (a : Assignment I Variable) (b : Bool) → some_all_true I a.element (firsts_by same_disjunct ds) ≡ b → b ≡ true
    go a true e = refl
    go a false e =
        Every.true_false (h a) (all_false I a.element (all_back disjuncts_told ds (none_true I a.element (firsts_by same_disjunct ds) e)))

pub answer_holds : (I : Interpretation) (S : Setting) {steps : List Step} (c : Closed S steps) (σ : Substitution)
    → Solves σ c.tableau.pairs → AllNegative S.table.question.literals → AllHold I S.table.clauses
    → AnswerHolds I (disjuncts σ S.table c.tableau)
unfolding disjuncts
answer_holds I S c σ solves negative hold = once_holds I (per_copy σ S.table c.tableau) (copies_hold I S c σ solves negative hold)

-- the words of an answer are those of its numbered disjuncts, one after another
flat_joined : (f : Literal Variable → Literal ℕ) (ds : List (List (Literal Variable))) → map f (joined ds) ≡ flatten (map (map f) ds)
unfolding joined flatten
flat_joined f [] = refl
flat_joined f (d ∷ ds) = map-append f d (joined ds) ∙ ap {B = List (Literal ℕ)} (λ r. map f d ++ r) (flat_joined f ds)

pub flat_numbered : (ds : List (List (Literal Variable))) → numbered (joined ds) ≡ flatten (numbered_disjuncts ds)
unfolding numbered numbered_disjuncts
flat_numbered ds = flat_joined _ ds

pub answer_words_lem : (σ : Substitution) (t : Table) (x : Tableau)
    → answer_words σ t x ≡ literals_words (flatten (numbered_disjuncts (disjuncts σ t x)))
unfolding answer_words
answer_words_lem σ t x = ap literals_words (flat_numbered (disjuncts σ t x))

pub numbered_holds : (I : Interpretation) (ds : List (List (Literal Variable))) → AnswerHolds I ds → AnswerHolds I (numbered_disjuncts ds)
unfolding numbered_disjuncts
numbered_holds I ds h = answer_under I _ ds h
