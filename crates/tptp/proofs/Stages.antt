-- The words of the items, numbered kind by kind: functions, predicates, and the variables of each clause.
use mathlib.Core.Bool.{Bool, true, false, cond}
use mathlib.Core.List.{List, [], ◌∷◌, map}
use mathlib.Core.Path.{◌≡◌, refl, sym, ap, ◌∙◌}
use Prim.Native.Nat.{ℕ, zero, suc, ◌+◌, ◌%◌, ◌^◌, ◌≤◌, ◌<◌}
use native.Mathlib.Omega.{arith}
use borrow.Author.Tests.{eqb-true, eqb-false}
use lib.Dec.{eqb}
use Rattle.words.specs.Fields.{kind_of, variable_word, function_word, literal_word}
use Rattle.words.proofs.Packed.{function_kind, literal_kind, clause_kind}
use Rattle.names.specs.Numbers.{Name, number_in}
use Rattle.table.specs.Limits.{Each}
use Rattle.tptp.specs.Sketch.{Item, literal_sort}
use Rattle.tptp.specs.Shapes.{sort_kind, shape_by, fits_by}
use Rattle.tptp.specs.Body.{item_names, Fit, plus, bare, with_function, with_predicate, Under, Below}
use Rattle.tptp.proofs.Shaping.{few_parts}
use Rattle.tptp.proofs.Final.{zipped}
use Rattle.tptp.proofs.Items.{item_shapes, names_of_kind, Kinds}

-- and with the number of a variable
abbrev pub with_variable : List Name → List Name → List Name → Item → ℕ
with_variable ps fs vs i = plus 0 vs (with_predicate ps fs i) i.name

pub shapes_mapped : (is : List Item) → item_shapes is ≡ map bare is
unfolding item_shapes
shapes_mapped [] = refl
shapes_mapped (i ∷ is) = ap (λ (l : List ℕ). bare i ∷ l) (shapes_mapped is)

pub zipped_mapped : (k : ℕ) (known : List Name) (f : Item → ℕ) (is : List Item)
    → zipped k known (map f is) (item_names is) ≡ map (λ (i : Item). plus k known (f i) i.name) is
unfolding zipped item_names
zipped_mapped k known f [] = refl
zipped_mapped k known f (i ∷ is) = ap (λ (l : List ℕ). plus k known (f i) i.name ∷ l) (zipped_mapped k known f is)

-- numbers below 4,096 leave the kinds as they are
module _ (k : ℕ) (known : List Name) (w : ℕ) (name : Name) (small : kind_of w ≡ k → number_in known name < 4096) (room : ℕ) (low : w % 2 ^ 30 < room)
    (much : room + 4096 ≤ 2 ^ 30) where
  pub plus_kind : kind_of (plus k known w name) ≡ kind_of w
  plus_kind = go (eqb (kind_of w) k) refl
    where
      go : (t : Bool) → eqb (kind_of w) k ≡ t → kind_of (cond t (w + number_in known name) w) ≡ kind_of w
      go true e = omega (arith, small (eqb-true (kind_of w) k e))
      go false e = refl

  pub plus_low : plus k known w name % 2 ^ 30 < room + 4096
  plus_low = go (eqb (kind_of w) k) refl
    where
      go : (t : Bool) → eqb (kind_of w) k ≡ t → cond t (w + number_in known name) w % 2 ^ 30 < room + 4096
      go true e = omega (arith, small (eqb-true (kind_of w) k e))
      go false e = omega arith

bare_kind : (sort parts : ℕ) → fits_by sort parts ≡ true → kind_of (shape_by sort parts) ≡ sort_kind sort
unfolding shape_by sort_kind
bare_kind zero parts e = refl
bare_kind (suc zero) parts e = function_kind 0 parts (omega arith) (omega (arith, few_parts 1 parts e))
bare_kind (suc (suc zero)) parts e = literal_kind 0 parts (omega arith) (omega (arith, few_parts 2 parts e)) true
bare_kind (suc (suc (suc zero))) parts e = literal_kind 0 parts (omega arith) (omega (arith, few_parts 3 parts e)) false
bare_kind (suc (suc (suc (suc n)))) parts e = clause_kind parts 0 0 (omega (arith, few_parts (suc (suc (suc (suc n)))) parts e)) (omega arith) (omega arith) false

bare_low : (sort parts : ℕ) → fits_by sort parts ≡ true → shape_by sort parts % 2 ^ 30 < 2 ^ 17
unfolding shape_by
bare_low zero parts e = omega arith
bare_low (suc zero) parts e = omega (arith, few_parts 1 parts e)
bare_low (suc (suc zero)) parts e = omega (arith, few_parts 2 parts e)
bare_low (suc (suc (suc zero))) parts e = omega (arith, few_parts 3 parts e)
bare_low (suc (suc (suc (suc n)))) parts e = omega (arith, few_parts (suc (suc (suc (suc n)))) parts e)

-- numbers below a limit for the names of a kind
pub under_each : (k : ℕ) (known : List Name) (limit : ℕ) (is : List Item) → Each (λ (n : Name). number_in known n < limit) (names_of_kind k is)
    → Each (Under k known limit) is
unfolding Each names_of_kind
under_each k known limit [] e = tt
under_each k known limit (i ∷ is) e = go (eqb (sort_kind i.sort) k) refl e (under_each k known limit is)
  where
    go : (t : Bool) → eqb (sort_kind i.sort) k ≡ t → Each (λ (n : Name). number_in known n < limit) (cond t (i.name ∷ names_of_kind k is) (names_of_kind k is))
        → (Each (λ (n : Name). number_in known n < limit) (names_of_kind k is) → Each (Under k known limit) is)
        → Under k known limit i × Each (Under k known limit) is
    go true q e ih = (λ z. e.0, ih e.1)
    go false q e ih = (λ z. absurd (eqb-false (sort_kind i.sort) k q z), ih e)

module _ (i : Item) (fit : Fit i) where
  kind0 : kind_of (bare i) ≡ sort_kind i.sort
  kind0 = bare_kind i.sort i.parts fit

  low0 : bare i % 2 ^ 30 < 2 ^ 17
  low0 = bare_low i.sort i.parts fit

  module _ (fs : List Name) (function : Below 1 fs i) where
    kind1 : kind_of (with_function fs i) ≡ sort_kind i.sort
    kind1 = plus_kind 1 fs (bare i) i.name (λ e. function (sym kind0 ∙ e)) (2 ^ 17) low0 (omega arith) ∙ kind0

    low1 : with_function fs i % 2 ^ 30 < 2 ^ 17 + 4096
    low1 = plus_low 1 fs (bare i) i.name (λ e. function (sym kind0 ∙ e)) (2 ^ 17) low0 (omega arith)

    kind2 : (ps : List Name) → Below 2 ps i → kind_of (with_predicate ps fs i) ≡ sort_kind i.sort
    kind2 ps predicate = plus_kind 2 ps (with_function fs i) i.name (λ e. predicate (sym kind1 ∙ e)) (2 ^ 17 + 4096) low1 (omega arith) ∙ kind1

pub kinds_bare : (is : List Item) → Each Fit is → Kinds (map bare is) is
unfolding Each Kinds
kinds_bare [] e = tt
kinds_bare (i ∷ is) e = (kind0 i e.0, kinds_bare is e.1)

pub kinds_functions : (fs : List Name) (is : List Item) → Each Fit is → Each (Below 1 fs) is → Kinds (map (with_function fs) is) is
unfolding Each Kinds
kinds_functions fs [] e f = tt
kinds_functions fs (i ∷ is) e f = (kind1 i e.0 fs f.0, kinds_functions fs is e.1 f.1)

pub kinds_predicates : (ps fs : List Name) (is : List Item) → Each Fit is → Each (Below 1 fs) is → Each (Below 2 ps) is → Kinds (map (with_predicate ps fs) is) is
unfolding Each Kinds
kinds_predicates ps fs [] e f p = tt
kinds_predicates ps fs (i ∷ is) e f p = (kind2 i e.0 fs f.0 ps p.0, kinds_predicates ps fs is e.1 f.1 p.1)

-- the word of each sort of item in the end
pub variable_word_lem : (ps fs vs : List Name) (x : Name) → with_variable ps fs vs (record { sort = 0; parts = 0; name = x }) ≡ variable_word (number_in vs x)
unfolding shape_by
variable_word_lem ps fs vs x = omega arith

module _ (ps fs vs : List Name) (name : Name) (a : ℕ) (few : a ≤ 4) where
  pub function_word_lem : number_in fs name < 4096 → with_variable ps fs vs (record { sort = 1; parts = a; name = name }) ≡ function_word (number_in fs name) a
  unfolding shape_by
  function_word_lem h =
      let k0 : kind_of (function_word 0 a) ≡ 1 = function_kind 0 a (omega arith) (omega arith) in
      let z : function_word 0 a + number_in fs name ≡ function_word (number_in fs name) a = omega arith in
      let k1 : kind_of (function_word (number_in fs name) a) ≡ 1 = function_kind (number_in fs name) a h (omega arith) in
      rw (k0, z, k1, k1)

  pub literal_word_lem : (b : Bool) → number_in ps name < 4096
      → with_variable ps fs vs (record { sort = literal_sort b; parts = a; name = name }) ≡ literal_word b (number_in ps name) a
  unfolding shape_by
  literal_word_lem false h =
      let k0 : kind_of (literal_word false 0 a) ≡ 2 = literal_kind 0 a (omega arith) (omega arith) false in
      let z : literal_word false 0 a + number_in ps name ≡ literal_word false (number_in ps name) a = omega arith in
      let k1 : kind_of (literal_word false (number_in ps name) a) ≡ 2 = literal_kind (number_in ps name) a h (omega arith) false in
      rw (k0, k0, z, k1)
  literal_word_lem true h =
      let k0 : kind_of (literal_word true 0 a) ≡ 2 = literal_kind 0 a (omega arith) (omega arith) true in
      let z : literal_word true 0 a + number_in ps name ≡ literal_word true (number_in ps name) a = omega arith in
      let k1 : kind_of (literal_word true (number_in ps name) a) ≡ 2 = literal_kind (number_in ps name) a h (omega arith) true in
      rw (k0, k0, z, k1)
