-- Machinery: tries that can lead to nothing, seen before they are made. No public contract speaks of it.
use Rattle.std.specs.Prelude.{Bool, true, false, cond, not, ◌&&◌, List, [], ◌∷◌, ◌≡◌, ℕ, zero, suc, ◌+◌, ◌^◌, ◌<◌, eqb, get_or}
use Rattle.words.specs.Fields.{kind_of, symbol_of, arity_of, function_shaped}
use Rattle.table.specs.Syntax.{Terms, app, arity}
use Rattle.rules.specs.Substitution.{Variable}
use Rattle.rules.specs.Machinery.Play.{Play, plays}
use Rattle.rules.specs.Machinery.Run.{no_way, one}
use Rattle.rules.specs.Machinery.Unify.{follow}
use Rattle.unification.specs.State.{literal_at, parent_at, term_of, bindings_in}
use Rattle.unification.specs.Good.{word_at}
use Rattle.index.specs.Scanning.{other_sign}
use Rattle.tableaux.specs.Leaves.{chain}
use Rattle.tableaux.specs.Ready.{Stands, rest_of, hanging_at}
use Rattle.engine.specs.Searching.{setting_at, question_at, step_by}
use Rattle.engine.specs.declared.search.Move.{Move}
use Rattle.engine.specs.declared.search.Task.{Task}
use Rattle.tableaux.specs.declared.tableau.Place.{Place}

-- the words of the literals from a leaf up, the leaf's own first
abbrev pub words_up : List ℕ → List ℕ → ℕ → List ℕ
words_up f m head = chain (λ c. word_at f m (literal_at m c)) (parent_at m) head head

unfoldable pub among : ℕ → List ℕ → Bool
among w [] = false
among w (v ∷ vs) = cond (eqb v w) true (among w vs)

-- a leaf is open, and no ancestor's word is its own with the other sign
unfoldable pub stuck_at : List ℕ → List ℕ → ℕ → Bool
stuck_at f m zero = false
stuck_at f m (suc c) = not (among (other_sign (word_at f m (literal_at m c))) (words_up f m (parent_at m c)))

-- The leaf that comes first after an extension, and that no reduction closes: the first literal that hangs, or, where none does, the next open leaf.
unfoldable pub dead_end_by : List ℕ → List ℕ → Place → ℕ → List ℕ → Bool
dead_end_by f m place start [] = stuck_at f m (rest_of m place)
dead_end_by f m place start (o ∷ os) = not (among (other_sign (get_or f (start + o) 0)) (words_up f m place.head))

abbrev pub dead_end : List ℕ → List ℕ → Place → ℕ → ℕ → Bool
dead_end f m place start offset = dead_end_by f m place start (hanging_at f start offset)

-- two functions or constants that differ
unfoldable pub clashing : ℕ → ℕ → Bool
clashing symbol w = eqb (kind_of symbol) 1 && (eqb (kind_of w) 1 && not (eqb w symbol))

-- the first argument of a literal, followed through what is bound, begins with the word of a function or constant
pub record Opens (f m : List ℕ) (literal w : ℕ) : Type 0 where
  pub some : 0 < arity_of (word_at f m literal)
  pub arguments : Terms Variable
  pub followed : follow (bindings_in f m) (term_of f m (literal + 1)) ≡ app (symbol_of w) arguments
  pub count : arity arguments ≡ arity_of w
  pub shaped : function_shaped w ≡ true
  pub small : w < 2 ^ 32

abbrev pub Opening : List ℕ → List ℕ → ℕ → ℕ → Type 0
Opening f m literal w = kind_of w ≡ 1 → Opens f m literal w

-- the first arguments of two literals begin with functions or constants that differ
pub record Parted (f m : List ℕ) (literal other : ℕ) : Type 0 where
  pub symbol : ℕ
  pub against : ℕ
  pub left : Opens f m literal symbol
  pub right : Opens f m other against
  pub differ : against ≡ symbol → ⊥

-- one try, and nothing comes of it
pub record Vain (f m : List ℕ) (task : Task) (place : Place) (candidate : Move) : Type 0 where
  pub says :
      (p : Play) → Stands f m (question_at f task) place p.tableau p.bindings
      → (depth budget : ℕ) → one (plays (setting_at f task)) (suc depth) budget p (step_by candidate) ≡ no_way budget
