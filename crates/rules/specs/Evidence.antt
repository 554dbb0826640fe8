-- Evidence for an answer: finitely many ground instances of a table's clauses and question that no valuation makes true together, while one makes
-- those of the clauses true. This is propositional logic alone: no tableau, no bound and no search. After it: a bound that is enough for evidence, and
-- what it means that an answer covers it.
use Rattle.std.specs.Prelude.{length, Bool, true, false, not, ◌||◌, cond, List, [], ◌∷◌, map, ◌≡◌, ℕ, zero, suc, pred, ◌+◌, ◌*◌, max}
use Rattle.table.specs.Limits.{Each}
use Rattle.table.specs.Syntax.{Term, Terms, Literal, literal_under, Clause, Table}
use Rattle.rules.specs.System.{◌∈◌}

-- a valuation says of each atom, a predicate with its arguments, whether it is true
abbrev pub Valuation : Type 0 → Type 0
Valuation X = ℕ → Terms X → Bool

module _ {X : Type 0} (v : Valuation X) where
  -- a negative literal is true where its atom is not
  unfoldable pub literal_true : Literal X → Bool
  literal_true l = cond l.negative (not (v l.predicate l.arguments)) (v l.predicate l.arguments)

  -- a clause is true where one of its literals is
  unfoldable pub clause_true : List (Literal X) → Bool
  clause_true [] = false
  clause_true (l ∷ ls) = literal_true l || clause_true ls

-- a ground term has no variables: it is over none
abbrev pub Ground : Type 0
Ground = Term ⊥

-- a ground term for each variable of a clause; over any functions and constants, not only the table's
abbrev pub Grounding : Type 0
Grounding = ℕ → Ground

abbrev pub ground_instance : Grounding → Clause → List (Literal ⊥)
ground_instance θ clause = map (literal_under θ) clause.literals

-- a ground instance of one of these clauses
pub record InstanceOf (clauses : List Clause) : Type 0 where
  pub clause : Clause
  pub among : clause ∈ clauses
  pub by : Grounding

-- all ground instances of these clauses are true
abbrev pub AllInstancesTrue : Valuation ⊥ → List Clause → Type 0
AllInstancesTrue v clauses = (i : InstanceOf clauses) → clause_true v (ground_instance i.by i.clause) ≡ true

-- all these instances are true
abbrev pub InstancesTrue : Valuation ⊥ → {clauses : List Clause} → List (InstanceOf clauses) → Type 0
InstancesTrue v is = Each (λ i. clause_true v (ground_instance i.by i.clause) ≡ true) is

-- all these instances of the question are true
abbrev pub QuestionsTrue : Valuation ⊥ → Clause → List Grounding → Type 0
QuestionsTrue v question θs = Each (λ θ. clause_true v (ground_instance θ question) ≡ true) θs

-- evidence for an answer of a table
pub record Evidence (t : Table) : Type 0 where
  -- instances of clauses before the question
  pub clauses : List (InstanceOf t.clauses)
  -- instances of the question
  pub questions : List Grounding
  -- no valuation makes all of them true
  pub impossible : (v : Valuation ⊥) → ¬ (InstancesTrue v clauses × QuestionsTrue v t.question questions)
  -- one makes all of them true that are not of the question
  pub possible : (v : Valuation ⊥) × InstancesTrue v clauses

-- A bound that is enough. A leaf is closed against a literal of one of so many instances, and each of that instance's other literals becomes a leaf
-- that is closed with one instance fewer.
unfoldable pub leaf_needs : ℕ → ℕ → ℕ
leaf_needs others zero = zero
leaf_needs others (suc instances) = suc (others * leaf_needs others instances)

-- the most other literals that an instance has
unfoldable pub most_others : {clauses : List Clause} → List (InstanceOf clauses) → ℕ
most_others [] = zero
most_others (i ∷ is) = max (pred (length i.clause.literals)) (most_others is)

-- the literals of one instance of the question are the first leaves, and the others of the evidence close them
unfoldable pub enough : {t : Table} → Evidence t → ℕ
enough {t} e =
    let literals : ℕ = length t.question.literals in
    literals * leaf_needs (max (pred literals) (most_others e.clauses)) (pred (length e.clauses + length e.questions))

-- a literal turned over: the other sign
unfoldable pub turned : {X : Type 0} → Literal X → Literal X
turned l = record { negative = not l.negative; predicate = l.predicate; arguments = l.arguments }

-- Disjuncts cover instances of the question: under one substitution each disjunct, its literals turned over, is one of the instances.
abbrev pub Covers : {X : Type 0} → Clause → List Grounding → List (List (Literal X)) → Type 0
Covers {X} question θs disjuncts =
    (ρ : X → Ground) × Each (λ d. (θ : Grounding) × (θ ∈ θs) × (map turned (map (literal_under ρ) d) ≡ ground_instance θ question)) disjuncts
