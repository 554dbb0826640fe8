-- Tableau rules (document 01, and order 11's restart): start, leaves, reduction, extension, the bound, and when steps are a closed tableau. No algorithm.
use Rattle.std.specs.Prelude.{eqb, ltb, length, take, drop, Bool, true, false, cond, not, ◌&&◌, List, [], ◌∷◌, ◌++◌, map, ◌≡◌, ℕ, zero, suc}
use Rattle.std.proofs.Math.ListN.{get_elem?}
use Rattle.std.specs.Bool.{beq}
use Rattle.std.proofs.Math.Option.{Option, none, some}
use Rattle.words.specs.declared.Step.{Step}
use Rattle.words.specs.declared.Step.TheVariants.{Reduction, Extension, Restart, Malformed}
use Rattle.table.specs.Syntax.{Term, var, app, arity, Literal, literal_under, Clause, Table, all_clauses}
use Rattle.rules.specs.Substitution.{Variable, Pair, Unifiable}
use Rattle.rules.specs.Setting.{Setting}

-- a fresh copy of a clause: its variables are that copy's own
unfoldable pub fresh : ℕ → ℕ → Term Variable
fresh copy number = var (record { copy = copy; number = number })

unfoldable pub copy_of : ℕ → Clause → List (Literal Variable)
copy_of copy clause = map (literal_under (fresh copy)) clause.literals

-- a literal without its sign
unfoldable pub atom : Literal Variable → Term Variable
atom l = app l.predicate l.arguments

-- a fitting pair: opposite sign, same predicate and arity
unfoldable pub fits : Literal Variable → Literal Variable → Bool
fits l m =
    not (beq l.negative m.negative) && eqb l.predicate m.predicate && eqb (arity l.arguments) (arity m.arguments)

-- an open leaf, and its proper ancestors, nearest first: the branch
pub record Leaf : Type 0 where
  pub literal : Literal Variable
  pub branch : List (Literal Variable)

pub record Tableau : Type 0 where
  -- the open leaves, left to right
  pub leaves : List Leaf
  -- the closed pairs' atoms, latest first
  pub pairs : List Pair
  -- extensions made: the start is copy 0, and extension n makes copy n
  pub extensions : ℕ
  -- which copies are copies of the question, in order
  pub questions : List ℕ

unfoldable pub hang : List (Literal Variable) → List (Literal Variable) → List Leaf
hang branch literals = map (λ l. record { literal = l; branch = branch }) literals

-- one copy of the question with fresh variables; its literals are the open leaves
unfoldable pub start : Table → Tableau
start t =
    record {
      leaves = hang [] (copy_of 0 t.question);
      pairs = [];
      extensions = 0;
      questions = 0 ∷ [];
    }

-- the ancestor at a height: 1 is the leaf's parent
unfoldable pub ancestor : ℕ → List (Literal Variable) → Option (Literal Variable)
ancestor zero branch = none
ancestor (suc n) branch = get_elem? branch n

-- all literals but the one that is entered
unfoldable pub others : ℕ → List (Literal Variable) → List (Literal Variable)
others entered literals = take entered literals ++ drop (suc entered) literals

unfoldable pub closing : Literal Variable → Literal Variable → Pair
closing l m = record { left = atom l; right = atom m }

-- reduction: the leaf is closed against an ancestor that fits
abbrev pub after_reduction : Tableau → Leaf → List Leaf → Literal Variable → Tableau
after_reduction x leaf rest m =
    record {
      leaves = rest;
      pairs = closing leaf.literal m ∷ x.pairs;
      extensions = x.extensions;
      questions = x.questions;
    }

unfoldable pub reduced : Tableau → Leaf → List Leaf → Option (Literal Variable) → Option Tableau
reduced x leaf rest none = none
reduced x leaf rest (some m) = cond (fits leaf.literal m) (some (after_reduction x leaf rest m)) none

-- the copies of the question, with a new copy of the clause of this number
unfoldable pub questions_with : Table → ℕ → ℕ → List ℕ → List ℕ
questions_with t clause copy questions = cond (eqb clause (length t.clauses)) (questions ++ (copy ∷ [])) questions

-- extension: a copy hangs under the leaf; the entered literal closes against the leaf, the others become open leaves before older ones
abbrev pub after_extension : Tableau → Leaf → List Leaf → List ℕ → ℕ → List (Literal Variable) → Literal Variable → Tableau
after_extension x leaf rest questions j copy m =
    record {
      leaves = hang (leaf.literal ∷ leaf.branch) (others j copy) ++ rest;
      pairs = closing leaf.literal m ∷ x.pairs;
      extensions = suc x.extensions;
      questions = questions;
    }

unfoldable pub entered :
    Tableau → Leaf → List Leaf → List ℕ → ℕ → List (Literal Variable) → Option (Literal Variable) → Option Tableau
entered x leaf rest questions j copy none = none
entered x leaf rest questions j copy (some m) = cond (fits leaf.literal m) (some (after_extension x leaf rest questions j copy m)) none

unfoldable pub extended : Table → Tableau → Leaf → List Leaf → ℕ → ℕ → Option Clause → Option Tableau
extended t x leaf rest i j none = none
extended t x leaf rest i j (some clause) =
    let copy : List (Literal Variable) = copy_of (suc x.extensions) clause in
    entered x leaf rest (questions_with t i (suc x.extensions) x.questions) j copy (get_elem? copy j)

-- restart: a copy of the question hangs under the leaf, all its literals open; no pair closes, and it counts as one extension
abbrev pub after_restart : Table → Tableau → Leaf → List Leaf → Tableau
after_restart t x leaf rest =
    record {
      leaves = hang (leaf.literal ∷ leaf.branch) (copy_of (suc x.extensions) t.question) ++ rest;
      pairs = x.pairs;
      extensions = suc x.extensions;
      questions = x.questions ++ (suc x.extensions ∷ []);
    }

-- a leaf may be extended or restarted if the profile lets it and not all of the bound's extensions are used
abbrev pub may_extend : Setting → ℕ → Leaf → Bool
may_extend S used leaf = S.profile.extends leaf.literal.negative && ltb used S.bound

abbrev pub may_restart : Setting → ℕ → Leaf → Bool
may_restart S used leaf = S.profile.restarts leaf.literal.negative && ltb used S.bound

-- each step treats the leftmost open leaf; the bound limits extensions, and reductions are free
unfoldable pub treated : Setting → Tableau → List Leaf → Step → Option Tableau
treated S x [] s = none
treated S x (leaf ∷ rest) (Reduction height) = reduced x leaf rest (ancestor height leaf.branch)
treated S x (leaf ∷ rest) (Extension i j) =
    cond (may_extend S x.extensions leaf) (extended S.table x leaf rest i j (get_elem? (all_clauses S.table) i)) none
treated S x (leaf ∷ rest) Restart = cond (may_restart S x.extensions leaf) (some (after_restart S.table x leaf rest)) none
treated S x (leaf ∷ rest) Malformed = none

unfoldable pub stepped : Setting → Tableau → Step → Option Tableau
stepped S x s = treated S x x.leaves s

-- the tableau that a list of steps makes
pub data Made (S : Setting) : Tableau → List Step → Tableau → Type 0 where
  as_it_stands : {x : Tableau} → Made S x [] x
  by_step : {x y z : Tableau} {s : Step} {ss : List Step} → stepped S x s ≡ some y → Made S y ss z → Made S x (s ∷ ss) z

-- closed within the bound: no leaf is open and one substitution makes all the closed pairs' atoms equal
pub record Closed (S : Setting) (steps : List Step) : Type 0 where
  pub tableau : Tableau
  pub made : Made S (start S.table) steps tableau
  pub no_leaf_open : tableau.leaves ≡ []
  pub unifiable : Unifiable tableau.pairs
