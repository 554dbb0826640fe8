-- Machinery: what the lent work words stand for while a call runs. No public contract speaks of it.
use Rattle.std.specs.Prelude.{List, [], ◌∷◌, ◌≡◌, ℕ, zero, suc, ◌+◌, ◌-◌, ◌/◌, ◌%◌, ◌<◌, length, take, drop, get_or}
use Rattle.std.proofs.Math.Option.{none}
use Rattle.words.specs.Fields.{variables_of, following_of}
use Rattle.table.specs.Syntax.{Term, Terms, Literal, literal_under, under, unders}
use Rattle.table.specs.Reading.{fault, clause_fault}
use Rattle.table.specs.Decode.{terms_from, head_term, literal_of}
use Rattle.rules.specs.Substitution.{Variable}
use Rattle.rules.specs.Tableau.{fresh}
use Rattle.rules.specs.Machinery.Unify.{Bindings}
use Rattle.unification.specs.Places.{value_places, literal_places, parent_places, next_places, step_places, number_places, count_place, trail_places, copies_place, start_places}

-- The regions of the work words (docs/MEMORY.md): copies, bindings, leaves, steps, marks.
abbrev pub start_at : List ℕ → ℕ → ℕ
start_at m copy = get_or m (start_places + copy) 0

abbrev pub copies_of : List ℕ → ℕ
copies_of m = get_or m copies_place 0

abbrev pub count_of : List ℕ → ℕ
count_of m = get_or m count_place 0

abbrev pub trail_at : List ℕ → ℕ → ℕ
trail_at m i = get_or m (trail_places + i) 0

abbrev pub bound_at : List ℕ → ℕ → ℕ
bound_at m v = get_or m (value_places + v) 0

abbrev pub literal_at : List ℕ → ℕ → ℕ
literal_at m leaf = get_or m (literal_places + leaf) 0

abbrev pub parent_at : List ℕ → ℕ → ℕ
parent_at m leaf = get_or m (parent_places + leaf) 0

abbrev pub next_at : List ℕ → ℕ → ℕ
next_at m leaf = get_or m (next_places + leaf) 0

abbrev pub step_at : List ℕ → ℕ → ℕ
step_at m i = get_or m (step_places + i) 0

abbrev pub numbered_at : List ℕ → ℕ → ℕ
numbered_at m v = get_or m (number_places + v) 0

-- the words of the clause that begins at a position of the file
unfoldable pub own_words : List ℕ → ℕ → List ℕ
own_words f p = take (suc (following_of (get_or f p 0))) (drop p f)

-- a well-formed clause begins at a position
pub record ClauseAt (f : List ℕ) (p : ℕ) : Type 0 where
  pub inside : p < length f
  pub sound : clause_fault (get_or f p 0) (drop (suc p) f) ≡ none

-- the clause's words from a reference on: a reference is a copy's number times 256 and an offset within the clause
unfoldable pub words_at : List ℕ → List ℕ → ℕ → List ℕ
words_at f m r = drop (r % 256) (own_words f (start_at m (r / 256)))

-- the terms from a reference on, up to the next literal, and the first of them, as terms of the reference's copy
unfoldable pub terms_of : List ℕ → List ℕ → ℕ → Terms Variable
terms_of f m r = unders (fresh (r / 256)) (terms_from (words_at f m r))

unfoldable pub term_of : List ℕ → List ℕ → ℕ → Term Variable
term_of f m r = under (fresh (r / 256)) (head_term (terms_from (words_at f m r)))

-- the literal at a reference
unfoldable pub literal_at_reference : List ℕ → List ℕ → ℕ → Literal Variable
literal_at_reference f m r =
    literal_under (fresh (r / 256)) (literal_of (get_or (words_at f m r) 0 0) (terms_from (drop 1 (words_at f m r))))

-- words that go on with so many terms of a clause with so many variables, or more, and are well formed to the clause's end
pub record Owing (variables terms : ℕ) (ws : List ℕ) : Type 0 where
  pub more : ℕ
  pub literals : ℕ
  pub place : ℕ
  pub sound : fault variables literals (terms + more) place ws ≡ none

-- so many terms stand from a reference on, or more, in a copy that has been made
pub record Points (f m : List ℕ) (r count : ℕ) : Type 0 where
  pub made : r / 256 < copies_of m
  pub owing : Owing (variables_of (get_or f (start_at m (r / 256)) 0)) count (words_at f m r)

-- a variable is a copy's number times 16 and its number there
abbrev pub variable_of : ℕ → Variable
variable_of v = record { copy = v / 16; number = v % 16 }

-- the bindings, newest first
unfoldable pub bindings_of : List ℕ → List ℕ → ℕ → Bindings
bindings_of f m zero = []
bindings_of f m (suc n) =
    record { variable = variable_of (trail_at m n); value = term_of f m (bound_at m (trail_at m n) - 1) } ∷ bindings_of f m n

abbrev pub bindings_in : List ℕ → List ℕ → Bindings
bindings_in f m = bindings_of f m (count_of m)
