-- The items of clauses: their names by kind are the uses of names, and their words with numbers are the words of the clauses said.
use mathlib.Core.Bool.{Bool, true, false, cond, ◌&&◌}
use mathlib.Core.List.{List, [], ◌∷◌, ◌++◌}
use mathlib.Core.Path.{◌≡◌, refl, sym, ap, ap₂, ◌∙◌}
use Prim.Native.Nat.{ℕ, ◌/◌, ◌%◌}
use native.Mathlib.Omega.{arith}
use lib.Dec.{eqb}
use lib.ListN.{length}
use Rattle.words.specs.Fields.{kind_of}
use Rattle.names.specs.Numbers.{Name}
use Rattle.names.specs.Noting.{uses_of, names_at}
use Rattle.table.specs.Limits.{Each}
use Rattle.clausetext.specs.Syntax.{Term, variable, application, Terms, nil, ◌then◌, Literal, Role, Axiom, Hypothesis, NegatedConjecture, Clause}
use Rattle.tptp.specs.Said.{functions_of, functions_in, variables_of, variables_in, predicate_uses, function_uses, variable_uses, of_all}
use Rattle.tptp.specs.Sketch.{Item, term_items, terms_items, literal_sort, literal_items, literals_items, clause_sort, clause_items, clauses_items}
use Rattle.tptp.specs.Memory.{items_of}
use Rattle.tptp.specs.Shapes.{sort_kind, shape_by, fits_by, shapes, all_fit}
use Rattle.tptp.specs.Body.{item_names, Fit}

unfoldable pub item_shapes : List Item → List ℕ
item_shapes [] = []
item_shapes (i ∷ is) = shape_by i.sort i.parts ∷ item_shapes is

-- items in memory
module _ (text : List ℕ) where
  pub names_are : (ms ps : List ℕ) → length ms ≡ length ps → names_at text ps ≡ item_names (items_of text ms ps)
  unfolding items_of item_names
  names_are [] [] h = refl
  names_are [] (p ∷ ps) h = absurd (omega arith)
  names_are (m ∷ ms) [] h = absurd (omega arith)
  names_are (m ∷ ms) (p ∷ ps) h = ap₂ (λ (n : Name) (l : List Name). n ∷ l) refl (names_are ms ps (omega arith))

  pub shapes_are : (ms ps : List ℕ) → length ms ≡ length ps → shapes ms ≡ item_shapes (items_of text ms ps)
  unfolding items_of item_shapes shapes
  shapes_are [] ps h = refl
  shapes_are (m ∷ ms) [] h = absurd (omega arith)
  shapes_are (m ∷ ms) (p ∷ ps) h = ap (λ (l : List ℕ). shape_by (m % 8) (m / 8) ∷ l) (shapes_are ms ps (omega arith))

  both : (t u : Bool) → (t && u) ≡ true → (t ≡ true) × (u ≡ true)
  both true u e = (refl, e)
  both false u e = let z : ◌≡◌ {A = ℕ} 0 1 = cc in absurd (omega arith)

  pub all_fit_lem : (ms ps : List ℕ) → length ms ≡ length ps → all_fit ms ≡ true → Each Fit (items_of text ms ps)
  unfolding items_of all_fit Each
  all_fit_lem [] ps h e = tt
  all_fit_lem (m ∷ ms) [] h e = absurd (omega arith)
  all_fit_lem (m ∷ ms) (p ∷ ps) h e =
      let b = both (fits_by (m % 8) (m / 8)) (all_fit ms) e in (b.0, all_fit_lem ms ps (omega arith) b.1)

  pub fit_all : (ms ps : List ℕ) → length ms ≡ length ps → Each Fit (items_of text ms ps) → all_fit ms ≡ true
  unfolding items_of all_fit Each
  fit_all [] ps h e = refl
  fit_all (m ∷ ms) [] h e = absurd (omega arith)
  fit_all (m ∷ ms) (p ∷ ps) h e = rw e.0 (fit_all ms ps (omega arith) e.1)

-- the names of one kind
unfoldable pub names_of_kind : ℕ → List Item → List Name
names_of_kind k [] = []
names_of_kind k (i ∷ is) = cond (eqb (sort_kind i.sort) k) (i.name ∷ names_of_kind k is) (names_of_kind k is)

kind_append : (k : ℕ) (xs ys : List Item) → names_of_kind k (xs ++ ys) ≡ names_of_kind k xs ++ names_of_kind k ys
unfolding names_of_kind
kind_append k [] ys = refl
kind_append k (a ∷ xs) ys = go (eqb (sort_kind a.sort) k) (kind_append k xs ys)
  where
    go : (t : Bool) → names_of_kind k (xs ++ ys) ≡ names_of_kind k xs ++ names_of_kind k ys
        → cond t (a.name ∷ names_of_kind k (xs ++ ys)) (names_of_kind k (xs ++ ys)) ≡ cond t (a.name ∷ names_of_kind k xs) (names_of_kind k xs) ++ names_of_kind k ys
    go true ih = ap (λ (l : List Name). a.name ∷ l) ih
    go false ih = ih

mutual
  unfolding term_items terms_items names_of_kind sort_kind functions_of functions_in variables_of variables_in

  term_functions : (t : Term) → names_of_kind 1 (term_items t) ≡ functions_of t
  term_functions (variable x) = refl
  term_functions (application f ts) = ap (λ (l : List Name). f ∷ l) (terms_functions ts)

  terms_functions : (ts : Terms) → names_of_kind 1 (terms_items ts) ≡ functions_in ts
  terms_functions nil = refl
  terms_functions (t then ts) = kind_append 1 (term_items t) (terms_items ts) ∙ ap₂ (λ (a b : List Name). a ++ b) (term_functions t) (terms_functions ts)

mutual
  unfolding term_items terms_items names_of_kind sort_kind functions_of functions_in variables_of variables_in

  term_variables : (t : Term) → names_of_kind 0 (term_items t) ≡ variables_of t
  term_variables (variable x) = refl
  term_variables (application f ts) = terms_variables ts

  terms_variables : (ts : Terms) → names_of_kind 0 (terms_items ts) ≡ variables_in ts
  terms_variables nil = refl
  terms_variables (t then ts) = kind_append 0 (term_items t) (terms_items ts) ∙ ap₂ (λ (a b : List Name). a ++ b) (term_variables t) (terms_variables ts)

mutual
  unfolding term_items terms_items names_of_kind sort_kind

  term_predicates : (t : Term) → names_of_kind 2 (term_items t) ≡ []
  term_predicates (variable x) = refl
  term_predicates (application f ts) = terms_predicates ts

  terms_predicates : (ts : Terms) → names_of_kind 2 (terms_items ts) ≡ []
  terms_predicates nil = refl
  terms_predicates (t then ts) = kind_append 2 (term_items t) (terms_items ts) ∙ ap₂ (λ (a b : List Name). a ++ b) (term_predicates t) (terms_predicates ts)

-- of literals, and of clauses
literal_kind : (b : Bool) → sort_kind (literal_sort b) ≡ 2
unfolding sort_kind
literal_kind false = refl
literal_kind true = refl

clause_kind : (r : Role) → sort_kind (clause_sort r) ≡ 3
unfolding sort_kind
clause_kind Axiom = refl
clause_kind Hypothesis = refl
clause_kind NegatedConjecture = refl

literals_of : (k : ℕ) (own : Terms → List Name) → ((ts : Terms) → names_of_kind k (terms_items ts) ≡ own ts) → eqb 2 k ≡ false
    → (uses : List Literal → List Name) → uses [] ≡ [] → ((l : Literal) (ls : List Literal) → uses (l ∷ ls) ≡ own l.arguments ++ uses ls)
    → (ls : List Literal) → names_of_kind k (literals_items ls) ≡ uses ls
unfolding literals_items literal_items names_of_kind
literals_of k own terms no2 uses none one [] = sym none
literals_of k own terms no2 uses none one (l ∷ ls) =
    kind_append k (literal_items l) (literals_items ls)
    ∙ rw (literal_kind l.negative, no2, terms l.arguments, literals_of k own terms no2 uses none one ls) (sym (one l ls))

pub literals_functions : (ls : List Literal) → names_of_kind 1 (literals_items ls) ≡ function_uses ls
unfolding function_uses
literals_functions = literals_of 1 functions_in terms_functions refl function_uses refl (λ l ls. refl)

pub literals_variables : (ls : List Literal) → names_of_kind 0 (literals_items ls) ≡ variable_uses ls
unfolding variable_uses
literals_variables = literals_of 0 variables_in terms_variables refl variable_uses refl (λ l ls. refl)

pub literals_predicates : (ls : List Literal) → names_of_kind 2 (literals_items ls) ≡ predicate_uses ls
unfolding literals_items literal_items names_of_kind predicate_uses
literals_predicates [] = refl
literals_predicates (l ∷ ls) =
    kind_append 2 (literal_items l) (literals_items ls)
    ∙ rw (literal_kind l.negative, terms_predicates l.arguments, literals_predicates ls)

clauses_of : (k : ℕ) → eqb 3 k ≡ false → (uses : List Literal → List Name) → ((ls : List Literal) → names_of_kind k (literals_items ls) ≡ uses ls)
    → (cs : List Clause) → names_of_kind k (clauses_items cs) ≡ of_all uses cs
unfolding clauses_items clause_items names_of_kind of_all
clauses_of k no3 uses own [] = refl
clauses_of k no3 uses own (c ∷ cs) =
    kind_append k (clause_items c) (clauses_items cs) ∙ rw (clause_kind c.role, no3, own c.literals, clauses_of k no3 uses own cs)

pub clauses_functions : (cs : List Clause) → names_of_kind 1 (clauses_items cs) ≡ of_all function_uses cs
clauses_functions = clauses_of 1 refl function_uses literals_functions

pub clauses_predicates : (cs : List Clause) → names_of_kind 2 (clauses_items cs) ≡ of_all predicate_uses cs
clauses_predicates = clauses_of 2 refl predicate_uses literals_predicates

-- words whose kinds are those of the items have the items' names of a kind as uses
unfoldable pub Kinds : List ℕ → List Item → Type 0
Kinds [] [] = Unit {0}
Kinds [] (i ∷ is) = ⊥
Kinds (w ∷ ws) [] = ⊥
Kinds (w ∷ ws) (i ∷ is) = (kind_of w ≡ sort_kind i.sort) × Kinds ws is

pub uses_are : (k : ℕ) (ws : List ℕ) (is : List Item) → Kinds ws is → uses_of k ws (item_names is) ≡ names_of_kind k is
unfolding uses_of names_of_kind Kinds item_names
uses_are k [] [] e = refl
uses_are k [] (i ∷ is) e = absurd e
uses_are k (w ∷ ws) [] e = absurd e
uses_are k (w ∷ ws) (i ∷ is) e = rw (e.0, uses_are k ws is e.1)
