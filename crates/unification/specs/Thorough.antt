-- Machinery: what a comparison notes for itself, so that variables lead it into nothing twice. No public contract speaks of it.
use Rattle.std.specs.Prelude.{Result, Ok, Bool, true, false, List, ◌≡◌, ℕ, ◌+◌, ◌-◌, ◌/◌, ◌≤◌, ◌<◌, length, get_or}
use Rattle.words.specs.Fields.{arity_of}
use Rattle.table.specs.Syntax.{var, under}
use Rattle.table.specs.Decode.{first}
use Rattle.rules.specs.Substitution.{Variable}
use Rattle.rules.proofs.Substitution.{Over}
use Rattle.rules.specs.Machinery.Unify.{Unified, occurs, solution, unify, unifies}
use Rattle.unification.specs.Places.{most_variables, most_references, mark_places}
use Rattle.unification.specs.State.{count_of, bound_at, Points, term_of, terms_of, variable_of, bindings_in}
use Rattle.unification.specs.Good.{word_at, Inside, Ahead, Alike, Good, Grown, Outcome}
use Rattle.unification.specs.declared.unify.Unmet.{Unmet}

-- The notes: how many more terms may be looked into, for each reference a link, and for each variable a mark. Notes of one word have neither.
abbrev pub spare_of : List ℕ → ℕ
spare_of n = get_or n 0 0

abbrev pub link_at : List ℕ → ℕ → ℕ
link_at n r = get_or n (1 + r) 0

abbrev pub mark_at : List ℕ → ℕ → ℕ
mark_at n v = get_or n (mark_places + v) 0

-- two terms are equal under what is bound
abbrev pub Equal : List ℕ → List ℕ → ℕ → ℕ → Type 0
Equal f m r s = under (solution (bindings_in f m)) (term_of f m r) ≡ under (solution (bindings_in f m)) (term_of f m s)

-- links lead down, and to equal terms
pub record Down (n : List ℕ) : Type 0 where
  pub lower : (r : ℕ) → r < most_references → 0 < link_at n r → link_at n r ≤ r

pub record Links (f m n : List ℕ) : Type 0 where
  pub equal : (r : ℕ) → r < most_references → 0 < link_at n r → Equal f m r (link_at n r - 1)

-- a reference that links lead to
pub record Rooted (n : List ℕ) (r to : ℕ) : Type 0 where
  pub low : to ≤ r
  pub equal : (f m : List ℕ) → Links f m n → Equal f m r to

-- notes are true, and the marks of free variables are as said
pub record Notes (f m n : List ℕ) (In : ℕ → ℕ → Type 0) : Type 0 where
  pub down : Down n
  pub links : Links f m n
  pub marks : (y v : ℕ) → y < most_variables → v < most_variables → mark_at n y ≡ v + 1 → bound_at m v ≡ 0 → In v y
  pub awake : 0 < spare_of n

-- no free variable is looked for; one is
abbrev pub Quiet : List ℕ → List ℕ → List ℕ → Type 0
Quiet f m n = Notes f m n (λ v y. ⊥)

abbrev pub Absent : List ℕ → List ℕ → ℕ → ℕ → ℕ → Type 0
Absent f m x v y = (v ≡ x) × (occurs (variable_of x) (solution (bindings_in f m) (variable_of y)) ≡ false)

pub record Checking (f m n : List ℕ) (x : ℕ) : Type 0 where
  pub notes : Notes f m n (Absent f m x)
  pub free : bound_at m x ≡ 0
  pub small : x < most_variables

-- a variable is not the term at a reference
abbrev pub Other : List ℕ → List ℕ → ℕ → ℕ → Type 0
Other f m v r = term_of f m r ≡ var (variable_of v) → ⊥

-- a variable is bound to the term at a reference
pub record Valued (f m : List ℕ) (v r : ℕ) : Type 0 where
  pub small : v < most_variables
  pub points : Points f m r 1
  pub same : solution (bindings_in f m) (variable_of v) ≡ under (solution (bindings_in f m)) (term_of f m r)

-- the arguments of two words, as many as the left one has, and how they are made equal
pub record Arguments (f m : List ℕ) (r s : ℕ) : Type 0 where
  pub inside : Inside f m r
  pub small : s < most_references
  pub lefts : Ahead f m (r + 1) (arity_of (word_at f m r))
  pub rights : Ahead f m (s + 1) (arity_of (word_at f m r))

-- so many pairs of terms from two references on, and how they are made equal
abbrev pub pairs_met : List ℕ → List ℕ → ℕ → ℕ → ℕ → Unified
pairs_met f m l r count = unifies (bindings_in f m) (first count (terms_of f m l)) (first count (terms_of f m r))

abbrev pub arguments_met : List ℕ → List ℕ → ℕ → ℕ → Unified
arguments_met f m r s = pairs_met f m (r + 1) (s + 1) (arity_of (word_at f m r))

-- two applications of one symbol
pub record Applied (f m : List ℕ) (r s : ℕ) : Type 0 where
  pub left : Points f m r 1
  pub right : Points f m s 1
  pub arguments : Arguments f m r s
  pub same : unify (bindings_in f m) (term_of f m r) (term_of f m s) ≡ arguments_met f m r s

-- notes after other notes: only notes of one word limit how much may be looked into
pub record Noting (n n' : List ℕ) : Type 0 where
  pub size : length n' ≡ length n
  pub spare : (length n ≡ 1 → ⊥) → spare_of n' ≡ spare_of n

-- one term fewer may be looked into
pub record Spent (n n' : List ℕ) (none : Bool) : Type 0 where
  pub noting : Noting n n'
  pub others : (i : ℕ) → 0 < i → get_or n' i 0 ≡ get_or n i 0
  pub on : none ≡ false → 0 < spare_of n'
  pub tired : none ≡ true → spare_of n' ≡ 0

-- how a search for a variable ended: where nothing is left to spend, nothing is said of the answer
pub record Looked (f m n n' : List ℕ) (x : ℕ) (r answer : Bool) : Type 0 where
  pub noting : Noting n n'
  pub on : r ≡ false → Checking f m n' x
  pub outcome : 0 < spare_of n' → r ≡ answer

-- how a meeting ended, so too
pub record Meets (f m m' n n' : List ℕ) (r : Result (Unit {0}) Unmet) (u : Unified) : Type 0 where
  pub grown : Grown f m m'
  pub noting : Noting n n'
  pub on : r ≡ Ok tt → Quiet f m' n'
  pub outcome : 0 < spare_of n' → Outcome f m' r u

-- a comparison of two literals began with so many bindings, and has bound more
pub record Began (f m m' : List ℕ) (kept r s : ℕ) : Type 0 where
  pub good : Good f m
  pub alike : Alike f m r s
  pub grown : Grown f m m'
  pub count : kept ≡ count_of m

-- so many pairs are left of it
pub record Remaining (f m m' : List ℕ) (kept r s left right count : ℕ) : Type 0 where
  pub began : Began f m m' kept r s
  pub lefts : Ahead f m' left count
  pub rights : Ahead f m' right count
  pub same : arguments_met f m r s ≡ pairs_met f m' left right count

-- what a variable of a lower copy leads to has variables of lower copies alone
abbrev pub Older : List ℕ → List ℕ → ℕ → Type 0
Older f m c = (x : Variable) → x.copy < c → Over (λ y. y.copy < c) (solution (bindings_in f m) x)

-- a literal of a lower copy, and one of a copy that nothing leads to
pub record Apart (f m : List ℕ) (r s : ℕ) : Type 0 where
  pub lower : r / 256 < s / 256
  pub older : Older f m (s / 256)
