-- Evidence is answered: its instances, as instances over a tableau's variables, have a closed tree, whose closed tableau covers the evidence.
use lib.ListN.{length, length-map, get_elem?}
use mathlib.Core.Bool.{Bool, true, ◌||◌}
use mathlib.Core.List.{List, [], ◌∷◌, map, map-map}
use mathlib.Core.Option.{some}
use mathlib.Core.Path.{◌≡◌, refl, sym, ◌∙◌, ap, ap₂, fun_ext}
use native.Mathlib.Omega.{arith}
use Prim.Native.Nat.{ℕ, suc, pred, ◌<◌, ◌≤◌, max}
use Rattle.table.specs.Limits.{Each}
use Rattle.table.specs.Syntax.{Term, var, app, nil, under, unders, Literal, literal_under, Clause, Table, all_clauses}
use Rattle.rules.specs.Substitution.{Variable, Substitution, Solves}
use Rattle.rules.specs.Setting.{every_leaf, base}
use Rattle.rules.specs.Tableau.{hang, Tableau, Closed}
use Rattle.rules.specs.Answer.{positive, same_disjunct, firsts_by, per_copy, disjuncts}
use Rattle.rules.specs.Truth.{AllNegative}
use Rattle.rules.specs.System.{◌∈◌, first, later}
use Rattle.rules.specs.Evidence.{Valuation, literal_true, clause_true, Ground, Grounding, ground_instance, InstanceOf, InstancesTrue, QuestionsTrue, Evidence, most_others, enough, turned, Covers}
use Rattle.rules.specs.Demands.{Answered}
use Rattle.rules.proofs.Answer.{copies_instance}
use Rattle.rules.proofs.Firsts.{each_all, all_each, firsts_all, all_back}
use Rattle.rules.proofs.Sameness.{disjuncts_told}
use Rattle.rules.proofs.Every as Every
use Rattle.rules.proofs.Completeness.{Piece, literals, Rooted, begun}
use Rattle.rules.proofs.Instances.{Instance, instance, literal_under_lem}
use Rattle.rules.proofs.Lifting.{lifted, lifted_asks}
use Rattle.rules.proofs.Lists.{some_append}
use Rattle.rules.proofs.Substitution.{under_under, unders_unders, same, under_var}
use Rattle.rules.proofs.Trees.{InstanceTree, size, steps, asked}
use Rattle.rules.proofs.Truth.{disjunct_of, disjuncts_instances}
use Rattle.rules.proofs.Valuations.{AllTrue}

-- a valuation of the terms that a substitution makes
unfoldable pub through : {X Y : Type 0} → (X → Term Y) → Valuation Y → Valuation X
through σ v p ts = v p (unders σ ts)

pub clause_through : {X Y : Type 0} (σ : X → Term Y) (v : Valuation Y) (ls : List (Literal X)) → clause_true (through σ v) ls ≡ clause_true v (map (literal_under σ) ls)
unfolding through clause_true literal_true literal_under
clause_through σ v [] = refl
clause_through σ v (l ∷ ls) = ap (λ (b : Bool). literal_true v (literal_under σ l) || b) (clause_through σ v ls)

-- ground terms among a tableau's terms, and back: a constant for each variable
abbrev nowhere : ⊥ → Term Variable
nowhere x = absurd x

abbrev pub constant : Variable → Ground
constant x = app 0 nil

abbrev as_instance : Grounding → Instance
as_instance θ n = under nowhere (θ n)

ground_back : (t : Ground) → under constant (under nowhere t) ≡ t
ground_back t = under_under constant nowhere t ∙ same {σ = λ x. under constant (nowhere x)} {τ = var} (λ x. absurd x) t ∙ under_var t

-- literals under one substitution, then another
pub literals_under : {X Y Z : Type 0} (σ : Y → Term Z) (τ : X → Term Y) (ls : List (Literal X))
    → map (literal_under σ) (map (literal_under τ) ls) ≡ map (literal_under (λ x. under σ (τ x))) ls
literals_under {X} {Z = Z} σ τ ls =
    map-map (literal_under σ) (literal_under τ) ls ∙ ap (λ (f : Literal X → Literal Z). map f ls) (fun_ext (literal_under_lem σ τ))

instance_back : (θ : Grounding) (ls : List (Literal ℕ)) → map (literal_under constant) (map (literal_under (as_instance θ)) ls) ≡ map (literal_under θ) ls
instance_back θ ls =
    literals_under constant (as_instance θ) ls ∙ ap (λ (σ : Grounding). map (literal_under σ) ls) (fun_ext (λ n. ground_back (θ n)))

-- what a valuation says of an instance, over a tableau's variables and over none
true_over : (v : Valuation Variable) (θ : Grounding) (c : Clause) → clause_true v (instance (as_instance θ) c) ≡ clause_true (through nowhere v) (ground_instance θ c)
unfolding instance
true_over v θ c = ap (clause_true v) (sym (literals_under nowhere θ c.literals)) ∙ sym (clause_through nowhere v (ground_instance θ c))

true_ground : (v : Valuation ⊥) (θ : Grounding) (c : Clause) → clause_true (through constant v) (instance (as_instance θ) c) ≡ clause_true v (ground_instance θ c)
unfolding instance
true_ground v θ c = clause_through constant v (instance (as_instance θ) c) ∙ ap (clause_true v) (instance_back θ c.literals)

-- a clause's number
number_of : {c : Clause} {cs : List Clause} → c ∈ cs → (n : ℕ) × (n < length cs) × (get_elem? cs n ≡ some c)
number_of first = (0, omega arith, refl)
number_of (later m) = let k = number_of m in let l = k.1 in (suc k.0, omega arith, k.2)

before_question : (t : Table) (n : ℕ) {c : Clause} → get_elem? t.clauses n ≡ some c → get_elem? (all_clauses t) n ≡ some c
unfolding all_clauses
before_question t n h = some_append t.clauses (t.question ∷ []) n h

-- the question's instance, its literals made positive and turned over
pub turned_over : (ρ : Variable → Ground) (θ : Instance) (ls : List (Literal ℕ)) → AllNegative ls
    → map turned (map (literal_under ρ) (map positive (map (literal_under θ) ls))) ≡ map (literal_under (λ n. under ρ (θ n))) ls
unfolding AllNegative turned positive literal_under
turned_over ρ θ [] n = refl
turned_over ρ θ (l ∷ ls) n =
    let same-arguments = unders_unders ρ θ l.arguments in
    let sign : true ≡ l.negative = sym n.0 in
    ap₂ ◌∷◌ (λ i. record { negative = sign i; predicate = l.predicate; arguments = same-arguments i }) (turned_over ρ θ ls n.1)

turned_back : (γ : Grounding) (ls : List (Literal ℕ)) → AllNegative ls
    → map turned (map (literal_under constant) (map positive (map (literal_under (as_instance γ)) ls))) ≡ map (literal_under γ) ls
turned_back γ ls n =
    turned_over constant (as_instance γ) ls n ∙ ap (λ (σ : Grounding). map (literal_under σ) ls) (fun_ext (λ k. ground_back (γ k)))

-- what covers after a substitution, covers
pub covers_under : {X Y : Type 0} (question : Clause) (γs : List Grounding) (ρ : X → Term Y) (ds : List (List (Literal X)))
    → Covers question γs (map (map (literal_under ρ)) ds) → Covers question γs ds
unfolding Each
covers_under {X} question γs ρ ds c = (λ x. under c.0 (ρ x), go ds c.1)
  where
    go : (ds : List (List (Literal X)))
        → Each (λ d. (γ : Grounding) × (γ ∈ γs) × (map turned (map (literal_under c.0) d) ≡ ground_instance γ question)) (map (map (literal_under ρ)) ds)
        → Each (λ d. (γ : Grounding) × (γ ∈ γs) × (map turned (map (literal_under (λ x. under c.0 (ρ x))) d) ≡ ground_instance γ question)) ds
    go [] h = tt
    go (d ∷ ds) h = ((h.0.0, h.0.1, ap (map turned) (sym (literals_under c.0 ρ d)) ∙ h.0.2), go ds h.1)

-- it does not matter whether a disjunct is said once
covers_once : (question : Clause) (γs : List Grounding) (σ : Substitution) (t : Table) (x : Tableau)
    → Covers question γs (per_copy σ t x) → Covers question γs (disjuncts σ t x)
unfolding disjuncts firsts_by
covers_once question γs σ t x c = (c.0, all_each (firsts_all same_disjunct [] (per_copy σ t x) Every.end (each_all (per_copy σ t x) c.1)))

pub covers_all : (question : Clause) (γs : List Grounding) (ds : List (List (Literal Variable))) → Covers question γs (firsts_by same_disjunct ds) → Covers question γs ds
covers_all question γs ds c = (c.0, all_each (all_back disjuncts_told ds (each_all (firsts_by same_disjunct ds) c.1)))

module _ (t : Table) (e : Evidence t) where
  -- an instance of the question in the evidence
  abbrev Given : Instance → Type 0
  Given θ = (γ : Grounding) × (γ ∈ e.questions) × (as_instance γ ≡ θ)

  -- the most other literals of an instance
  abbrev width : ℕ
  width = max (pred (length t.question.literals)) (most_others e.clauses)

  abbrev piece_of : (i : InstanceOf t.clauses) → length i.clause.literals ≤ suc width → Piece t Given width
  piece_of i narrow =
      let k = number_of i.among in
      record {
        number = k.0;
        clause = i.clause;
        by = as_instance i.by;
        there = before_question t k.0 k.2;
        narrow = narrow;
        question = λ q. let l = k.1 in absurd (omega arith);
      }

  unfoldable pieces : (is : List (InstanceOf t.clauses)) → most_others is ≤ width → List (Piece t Given width)
  unfolding most_others
  pieces [] h = []
  pieces (i ∷ is) h = piece_of i (omega arith) ∷ pieces is (omega arith)

  pieces_true : (v : Valuation ⊥) (is : List (InstanceOf t.clauses)) (h : most_others is ≤ width) → InstancesTrue v is
      → AllTrue (literals t Given width) (through constant v) (pieces is h)
  unfolding Each pieces most_others
  pieces_true v [] h r = tt
  pieces_true v (i ∷ is) h r = (true_ground v i.by i.clause ∙ r.0, pieces_true v is (omega arith) r.1)

  instances_true : (v : Valuation Variable) (is : List (InstanceOf t.clauses)) (h : most_others is ≤ width)
      → AllTrue (literals t Given width) v (pieces is h) → InstancesTrue (through nowhere v) is
  unfolding Each pieces most_others
  instances_true v [] h r = tt
  instances_true v (i ∷ is) h r = (sym (true_over v i.by i.clause) ∙ r.0, instances_true v is (omega arith) r.1)

  pieces_length : (is : List (InstanceOf t.clauses)) (h : most_others is ≤ width) → length (pieces is h) ≡ length is
  unfolding pieces most_others
  pieces_length [] h = refl
  pieces_length (i ∷ is) h = ap suc (pieces_length is (omega arith))

  questions_true : (v : Valuation Variable) (γs : List Grounding) → Each (λ θ. clause_true v (instance θ t.question) ≡ true) (map as_instance γs)
      → QuestionsTrue (through nowhere v) t.question γs
  unfolding Each
  questions_true v [] h = tt
  questions_true v (γ ∷ γs) h = (sym (true_over v γ t.question) ∙ h.0, questions_true v γs h.1)

  all_given : (γs : List Grounding) → ((γ : Grounding) → γ ∈ γs → γ ∈ e.questions) → Each Given (map as_instance γs)
  unfolding Each
  all_given [] h = tt
  all_given (γ ∷ γs) h = ((γ, h γ first, refl), all_given γs (λ δ m. h δ (later m)))

  root : Rooted t Given width (enough e)
  unfolding Each enough
  root =
      let p = e.possible in
      let wide : most_others e.clauses ≤ width = omega arith in
      let narrow : length t.question.literals ≤ suc width = omega arith in
      let r =
      begun t Given width narrow (map as_instance e.questions) (all_given e.questions (λ γ m. m)) (pieces e.clauses wide)
      (through constant p.0, pieces_true p.0 e.clauses wide p.1, tt)
      (λ v r q. e.impossible (through nowhere v) (instances_true v e.clauses wide r, questions_true v e.questions q)) in
      rw (pieces_length e.clauses wide, length-map e.questions as_instance) at r

  unfoldable tree : InstanceTree every_leaf t
  tree =
      let r = root in
      record { root = r.root; leaves = hang [] (instance r.root t.question); hung = refl; tree = r.grown.tree }

  tree_few : size tree.tree ≤ enough e
  unfolding tree
  tree_few = root.grown.few

  given_covered : AllNegative t.question.literals → (θs : List Instance) → Each Given θs
      → Each (λ d. (γ : Grounding) × (γ ∈ e.questions) × (map turned (map (literal_under constant) d) ≡ ground_instance γ t.question))
      (map (disjunct_of t.question) θs)
  unfolding Each instance
  given_covered n [] h = tt
  given_covered n (θ ∷ θs) h =
      let g = h.0 in
      ((g.0, g.1, rw (← g.2) (turned_back g.0 t.question.literals n)), given_covered n θs h.1)

  own_size : size tree.tree ≤ size tree.tree
  own_size = omega arith

  closed : Closed (base t (size tree.tree)) (steps tree.tree)
  closed = lifted tree own_size

  -- under one solution the disjuncts are the instances hung
  solved_covered : AllNegative t.question.literals
      → (τ : Substitution) × Solves τ closed.tableau.pairs × Covers t.question e.questions (per_copy τ t closed.tableau)
  unfolding closed tree per_copy Each
  solved_covered n =
      let k = lifted_asks tree own_size in
      let r = root in
      let all : Each Given (tree.root ∷ asked tree.tree) = (r.is_asked, r.grown.only) in
      let ds = disjuncts_instances k.0 t.question closed.tableau.questions ∙ ap (map (disjunct_of t.question)) k.2 in
      (k.0, k.1, (constant, rw ds (given_covered n (tree.root ∷ asked tree.tree) all)))

  pub answered : Answered t e
  answered =
      record {
        bound = size tree.tree;
        low = tree_few;
        steps = steps tree.tree;
        closed = closed;
        covers = λ n σ g.
            let s = solved_covered n in
            let ρ = g.general s.0 s.1 in
            covers_once t.question e.questions σ t closed.tableau
            (covers_under t.question e.questions ρ.0 (per_copy σ t closed.tableau)
            (rw (copies_instance σ s.0 ρ.0 ρ.1 t closed.tableau) at s.2));
      }
