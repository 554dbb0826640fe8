-- Machinery: when the work words hold a state, and what the functions on them promise one another. No public contract speaks of it.
use Rattle.std.specs.Prelude.{Result, Ok, Err, Bool, true, false, ◌||◌, List, [], ◌∷◌, ◌≡◌, ℕ, zero, suc, ◌+◌, ◌*◌, ◌-◌, ◌/◌, ◌%◌, ◌≤◌, ◌<◌, eqb, length, get_or, set}
use Rattle.std.proofs.Math.Option.{none}
use Rattle.words.specs.Fields.{kind_of, number_of, symbol_of, arity_of, variables_of}
use Rattle.table.specs.Syntax.{Term, under}
use Rattle.table.specs.Reading.{fault}
use Rattle.table.specs.Decode.{rest}
use Rattle.rules.specs.Substitution.{Variable, Substitution}
use Rattle.rules.specs.Machinery.Unify.{Unified, made, clash, circle, follow, occurs, solution}
use Rattle.rules.proofs.Unify.Solution as bindings
use Rattle.unification.specs.Places.{most_variables, trail_end, value_places, value_end, count_place, spare_places, trail_places, work_words, most_copies}
use Rattle.unification.specs.State.{start_at, copies_of, count_of, trail_at, bound_at, ClauseAt, words_at, terms_of, term_of, Points, variable_of, bindings_of, bindings_in}
use Rattle.unification.specs.declared.unify.Unmet.{Unmet}
use Rattle.unification.specs.declared.unify.Unmet.TheVariants.{Clash, Circle}

-- the word at a reference, and the variable that it names there
abbrev pub word_at : List ℕ → List ℕ → ℕ → ℕ
word_at f m r = get_or f (start_at m (r / 256) + r % 256) 0

abbrev pub variable_at : ℕ → ℕ → ℕ
variable_at r w = r / 256 * 16 + number_of w

-- how many arguments follow a word, by its kind
abbrev pub arguments_of : ℕ → ℕ → ℕ
arguments_of zero w = 0
arguments_of (suc zero) w = arity_of w
arguments_of (suc (suc other)) w = 0

-- the variable that stands at a word, by its kind
abbrev pub variables_here : ℕ → ℕ → ℕ → List Variable
variables_here zero r w = variable_of (variable_at r w) ∷ []
variables_here (suc other) r w = []

-- whether the word at a reference is this variable's, by its kind
abbrev pub names_variable : ℕ → ℕ → ℕ → ℕ → Bool
names_variable zero r w v = eqb (variable_at r w) v
names_variable (suc other) r w v = false

-- a variable occurs in what a substitution makes of some variable of a list
unfoldable pub occurs_in : Variable → Substitution → List Variable → Bool
occurs_in x σ [] = false
occurs_in x σ (y ∷ ys) = occurs x (σ y) || occurs_in x σ ys

-- a reference can be read
pub record Inside (f m : List ℕ) (r : ℕ) : Type 0 where
  pub size : length m ≡ work_words
  pub copy : r / 256 < most_copies
  pub within : start_at m (r / 256) + r % 256 < length f

-- a variable occurs in a term under what is bound
abbrev pub occurs_under : List ℕ → List ℕ → ℕ → Term Variable → Bool
occurs_under f m v t = occurs (variable_of v) (under (solution (bindings_in f m)) t)

-- so many terms stand from a reference on, if there is one
abbrev pub Ahead : List ℕ → List ℕ → ℕ → ℕ → Type 0
Ahead f m r count = 0 < count → Points f m r count

-- a literal stands at a reference, in a copy that has been made
pub record LiteralStands (f m : List ℕ) (r : ℕ) : Type 0 where
  pub made : r / 256 < copies_of m
  pub literals : ℕ
  pub place : ℕ
  pub sound : fault (variables_of (get_or f (start_at m (r / 256)) 0)) (suc literals) 0 place (words_at f m r) ≡ none

-- two literals of one predicate and arity
pub record Alike (f m : List ℕ) (r s : ℕ) : Type 0 where
  pub left : LiteralStands f m r
  pub right : LiteralStands f m s
  pub predicate : symbol_of (word_at f m r) ≡ symbol_of (word_at f m s)
  pub arity : arity_of (word_at f m r) ≡ arity_of (word_at f m s)

-- words from one index up to another are the same in two lists
pub record Same (from to : ℕ) (m m' : List ℕ) : Type 0 where
  pub words : (i : ℕ) → from ≤ i → i < to → get_or m' i 0 ≡ get_or m i 0

-- how many of the first variables are free
abbrev pub is_free : ℕ → ℕ
is_free zero = 1
is_free (suc r) = 0

unfoldable pub free_below : List ℕ → ℕ → ℕ
free_below m zero = 0
free_below m (suc v) = free_below m v + is_free (bound_at m v)

-- a variable of a copy that has been made is bound to a term that stands in one
pub record Entry (f m : List ℕ) (v : ℕ) : Type 0 where
  pub copy : v / 16 < copies_of m
  pub bound : 0 < bound_at m v
  pub points : Points f m (bound_at m v - 1) 1

-- the work words hold copies and so many bindings
pub record Held (f m : List ℕ) (count : ℕ) : Type 0 where
  pub size : length m ≡ work_words
  pub copies : copies_of m ≤ most_copies
  pub starts : (copy : ℕ) → copy < copies_of m → ClauseAt f (start_at m copy)
  pub entries : (i : ℕ) → i < count → Entry f m (trail_at m i)
  pub listed : (v : ℕ) → v < most_variables → 0 < bound_at m v → bindings.is_bound (bindings_of f m count) (variable_of v) ≡ true
  pub room : count + free_below m most_variables ≡ most_variables
  pub sound : bindings.Good (bindings_of f m count)

abbrev pub Good : List ℕ → List ℕ → Type 0
Good f m = Held f m (count_of m)

-- all words but those of bindings are kept
pub record Kept (m m' : List ℕ) : Type 0 where
  pub copies : Same 0 count_place m m'
  pub spare : Same spare_places trail_places m m'
  pub between : Same trail_end value_places m m'
  pub leaves : Same value_end work_words m m'

-- the work words with one more binding
abbrev pub pushed : List ℕ → ℕ → ℕ → List ℕ
pushed m v r = set (set (set m (trail_places + count_of m) v) (value_places + v) (r + 1)) count_place (count_of m + 1)

-- more may be bound, and what was bound still is
pub record Grown (f m m' : List ℕ) : Type 0 where
  pub good : Good f m'
  pub kept : Kept m m'
  pub more : count_of m ≤ count_of m'
  pub older : (n : ℕ) → n ≤ count_of m → bindings_of f m' n ≡ bindings_of f m n
  pub trail : (i : ℕ) → i < count_of m → trail_at m' i ≡ trail_at m i
  pub values : (i : ℕ) → i < count_of m → bound_at m' (trail_at m i) ≡ bound_at m (trail_at m i)

-- a variable at a reference is free
abbrev pub FreeAt : List ℕ → List ℕ → ℕ → Type 0
FreeAt f m r = kind_of (word_at f m r) ≡ 0 → bound_at m (variable_at r (word_at f m r)) ≡ 0

-- a term was followed through what is bound
pub record FollowedTo (f m : List ℕ) (r to : ℕ) : Type 0 where
  pub points : Points f m to 1
  pub same : term_of f m to ≡ follow (bindings_in f m) (term_of f m r)
  pub free : FreeAt f m to

-- a term was passed: the others after it stand from there on
pub record Passed (f m : List ℕ) (r to : ℕ) : Type 0 where
  pub later : r < to
  pub copy : (n : ℕ) → Points f m r (suc (suc n)) → to / 256 ≡ r / 256
  pub points : (n : ℕ) → Points f m r (suc (suc n)) → Points f m to (suc n)
  pub terms : (n : ℕ) → Points f m r (suc (suc n)) → terms_of f m to ≡ rest 1 (terms_of f m r)

-- a free variable may be bound to a term that was followed
pub record Binds (f m : List ℕ) (v r : ℕ) : Type 0 where
  pub copy : v / 16 < copies_of m
  pub free : bound_at m v ≡ 0
  pub points : Points f m r 1
  pub followed : bindings.Followed (bindings_in f m) (term_of f m r)

-- how a meeting ended, by what the rules say of it
abbrev pub Outcome : {T : Type 0} → List ℕ → List ℕ → Result T Unmet → Unified → Type 0
Outcome f m (Ok _) u = u ≡ made (bindings_in f m)
Outcome f m (Err Clash) u = u ≡ clash
Outcome f m (Err Circle) u = u ≡ circle

pub record Met (f m m' : List ℕ) (r : Result (Unit {0}) Unmet) (u : Unified) : Type 0 where
  pub grown : Grown f m m'
  pub outcome : Outcome f m' r u

-- the bindings after a moment are gone
pub record Undone (f m m' : List ℕ) (kept : ℕ) : Type 0 where
  pub good : Good f m'
  pub count : count_of m' ≡ kept
  pub bindings : bindings_in f m' ≡ bindings_of f m kept
  pub stays : (v : ℕ) → v < most_variables → 0 < bound_at m' v → bound_at m' v ≡ bound_at m v
  pub copies : Same 0 count_place m m'
  pub trail : Same spare_places value_places m m'
  pub values : (i : ℕ) → i < kept → bound_at m' (trail_at m i) ≡ bound_at m (trail_at m i)
  pub leaves : Same value_end work_words m m'
