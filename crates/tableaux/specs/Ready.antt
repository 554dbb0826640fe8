-- Machinery: when the work words and a place hold a tableau, and what the steps on them promise one another. No public contract speaks of it.
use Rattle.std.specs.Prelude.{Result, Ok, cond, List, [], ◌∷◌, ◌++◌, map, ◌≡◌, ℕ, suc, ◌+◌, ◌*◌, ◌-◌, ◌≤◌, ◌<◌, eqb, length, drop, get_or, set}
use Rattle.std.proofs.Math.Option.{some}
use Rattle.std.proofs.Math.ListN.{get_elem?}
use Rattle.words.specs.Fields.{symbol_of, arity_of}
use Rattle.table.specs.Decode.{clause_of}
use Rattle.rules.specs.Tableau.{Leaf, Tableau, atom, copy_of}
use Rattle.rules.specs.Tableau as tableau
use Rattle.rules.specs.Machinery.Unify.{Bindings, unify}
use Rattle.unification.specs.Places.{most_variables, step_places, work_words, most_copies, copies_place, start_places}
use Rattle.unification.specs.State.{start_at, copies_of, count_of, trail_at, bound_at, literal_at, parent_at, next_at, step_at, numbered_at, own_words, ClauseAt, literal_at_reference, bindings_in}
use Rattle.unification.specs.Good.{word_at, LiteralStands, Good, Outcome}
use Rattle.index.specs.Places.{noted_place}
use Rattle.tableaux.specs.Leaves.{literal_of_leaf, leaf_at, leaves_from, questions_among, offsets_at, hanging, hung}
use Rattle.tableaux.specs.declared.tableau.Place.{Place}
use Rattle.unification.specs.declared.unify.Unmet.{Unmet}

-- each noted leaf stands for a literal, and its links lead down
pub record Noted (f m : List ℕ) (leaves : ℕ) : Type 0 where
  pub stands : (c : ℕ) → c < leaves → LiteralStands f m (literal_at m c)
  pub up : (c : ℕ) → c < leaves → parent_at m c ≤ c
  pub right : (c : ℕ) → c < leaves → next_at m c ≤ c

-- the open leaves of a place
abbrev pub open_leaves : List ℕ → List ℕ → Place → List Leaf
open_leaves f m place = leaves_from f m place.leaves place.head

-- The work words hold a tableau at a place. Each step closes one leaf, so steps and open leaves together are the noted leaves.
pub record Ready (f m : List ℕ) (place : Place) : Type 0 where
  pub good : Good f m
  pub noted : Noted f m place.leaves
  pub head : place.head ≤ place.leaves
  pub begun : 1 ≤ copies_of m
  pub room : place.leaves ≤ 7 * copies_of m
  pub taken : place.steps + length (open_leaves f m place) ≡ place.leaves

-- the tableau and the bindings that they stand for
pub record Stands (f m : List ℕ) (question : ℕ) (place : Place) (x : Tableau) (bs : Bindings) : Type 0 where
  pub leaves : x.leaves ≡ open_leaves f m place
  pub bindings : bs ≡ bindings_in f m
  pub extensions : suc x.extensions ≡ copies_of m
  pub questions : x.questions ≡ questions_among m question (copies_of m)

-- the notes of the body's literals are as they were
abbrev pub NotesKept : List ℕ → List ℕ → Type 0
NotesKept m m' = (i : ℕ) → noted_place ≤ i → i < work_words → get_or m' i 0 ≡ get_or m i 0

-- what was there at an earlier moment, at a place, is still there
pub record Later (m m' : List ℕ) (place : Place) : Type 0 where
  pub more : count_of m ≤ count_of m'
  pub trail : (i : ℕ) → i < count_of m → trail_at m' i ≡ trail_at m i
  pub bound : (v : ℕ) → v < most_variables → 0 < bound_at m v → bound_at m' v ≡ bound_at m v
  pub copies : copies_of m ≤ copies_of m'
  pub starts : (c : ℕ) → c < copies_of m → start_at m' c ≡ start_at m c
  pub literals : (c : ℕ) → c < place.leaves → literal_at m' c ≡ literal_at m c
  pub parents : (c : ℕ) → c < place.leaves → parent_at m' c ≡ parent_at m c
  pub nexts : (c : ℕ) → c < place.leaves → next_at m' c ≡ next_at m c
  pub steps : (i : ℕ) → i < place.steps → step_at m' i ≡ step_at m i
  pub marks : (v : ℕ) → v < most_variables → numbered_at m' v ≡ numbered_at m v
  pub notes : NotesKept m m'

-- the start
abbrev pub start_leaves : List ℕ → ℕ → List Leaf
start_leaves f question = tableau.hang [] (copy_of 0 (clause_of (own_words f question)))

pub record Begun (f m : List ℕ) (question : ℕ) (place : Place) : Type 0 where
  pub ready : Ready f m place
  pub nothing_bound : count_of m ≡ 0
  pub copies : copies_of m ≡ 1
  pub start : start_at m 0 ≡ question
  pub leaves : open_leaves f m place ≡ start_leaves f question
  pub steps : place.steps ≡ 0
  pub unnumbered : (v : ℕ) → v < most_variables → numbered_at m v ≡ 0

-- the words of two literals of one predicate and arity
pub record Alike (v w : ℕ) : Type 0 where
  pub predicate : symbol_of v ≡ symbol_of w
  pub arity : arity_of v ≡ arity_of w

-- the leftmost open leaf's reference, its parent's head for new leaves, and the leaves right of it
abbrev pub leaf_of : List ℕ → Place → ℕ
leaf_of m place = literal_at m (place.head - 1)

abbrev pub rest_of : List ℕ → Place → ℕ
rest_of m place = next_at m (place.head - 1)

-- a reduction of the leftmost leaf against an ancestor's literal
pub record Reducible (f m : List ℕ) (place : Place) (ancestor : ℕ) : Type 0 where
  pub ready : Ready f m place
  pub some_open : 0 < place.head
  pub stands : LiteralStands f m ancestor
  pub alike : Alike (word_at f m (leaf_of m place)) (word_at f m ancestor)

-- what every step keeps, and the step that it notes
pub record Stepping (f m m' : List ℕ) (place : Place) (step : ℕ) : Type 0 where
  pub good : Good f m'
  pub later : Later m m' place
  pub noted : step_at m' place.steps ≡ step

-- the place after it: the leaf is closed
abbrev pub closed_at : List ℕ → Place → Place
closed_at m place = record { head = rest_of m place; leaves = place.leaves; steps = place.steps + 1 }

pub record Reduced (f m m' : List ℕ) (place : Place) (ancestor step : ℕ) (r : Result Place Unmet) : Type 0 where
  pub stepping : Stepping f m m' place step
  pub outcome : Outcome f m' r (unify (bindings_in f m) (atom (literal_at_reference f m (leaf_of m place))) (atom (literal_at_reference f m ancestor)))
  pub ready : Ready f m' (closed_at m place)
  pub copies : copies_of m' ≡ copies_of m
  pub leaves : open_leaves f m' (closed_at m place) ≡ leaves_from f m place.leaves (rest_of m place)
  pub leads : (next : Place) → r ≡ Ok next → next ≡ closed_at m place

-- a copy of the clause at a position can hang under the leftmost leaf
pub record Openable (f m : List ℕ) (place : Place) (start : ℕ) : Type 0 where
  pub ready : Ready f m place
  pub some_open : 0 < place.head
  pub copies : copies_of m < most_copies
  pub clause : ClauseAt f start

-- an extension of the leftmost leaf by a copy of the clause at a position, entered at an offset
pub record Extensible (f m : List ℕ) (place : Place) (start offset : ℕ) : Type 0 where
  pub openable : Openable f m place start
  pub number : ℕ
  pub entered : get_elem? (offsets_at f start) number ≡ some offset
  pub alike : Alike (word_at f m (leaf_of m place)) (get_or f (start + offset) 0)

-- one more copy, and the step noted
abbrev pub opened : List ℕ → ℕ → ℕ → ℕ → List ℕ
opened m start steps step = set (set (set m (step_places + steps) step) (start_places + copies_of m) start) copies_place (copies_of m + 1)

-- the literals that hang: all but the one that is entered; none is entered at offset 0, where the clause word stands
abbrev pub hanging_at : List ℕ → ℕ → ℕ → List ℕ
hanging_at f start offset = hanging offset 1 (drop 1 (own_words f start))

abbrev pub head_after : ℕ → ℕ → ℕ → ℕ
head_after leaves count rest = cond (eqb count 0) rest (leaves + count)

abbrev pub hung_under : List ℕ → List ℕ → Place → ℕ → ℕ → ℕ → List ℕ
hung_under f m place start copy offset = hung copy place.head (rest_of m place) place.leaves (hanging_at f start offset) m

abbrev pub place_under : List ℕ → List ℕ → Place → ℕ → ℕ → Place
place_under f m place start offset =
    record {
      head = head_after place.leaves (length (hanging_at f start offset)) (rest_of m place);
      leaves = place.leaves + length (hanging_at f start offset);
      steps = place.steps + 1;
    }

-- the copy's literals, but for the one entered, hang under the leaf
pub record Hung (f m m' : List ℕ) (place next : Place) (start offset : ℕ) : Type 0 where
  pub ready : Ready f m' next
  pub leaves :
      open_leaves f m' next
      ≡ tableau.hang ((leaf_at f m (place.head - 1)).literal ∷ (leaf_at f m (place.head - 1)).branch)
      (map (λ (o : ℕ). literal_at_reference f m' (copies_of m * 256 + o)) (hanging_at f start offset))
      ++ leaves_from f m place.leaves (rest_of m place)
  pub steps : next.steps ≡ place.steps + 1

-- one copy more, of the clause at a position
pub record OneMore (f m m' : List ℕ) (place : Place) (start step : ℕ) : Type 0 where
  pub stepping : Stepping f m m' place step
  pub copies : copies_of m' ≡ copies_of m + 1
  pub starts : start_at m' (copies_of m) ≡ start

pub record Extended (f m m' : List ℕ) (place : Place) (start offset step : ℕ) (r : Result Place Unmet) : Type 0 where
  pub copied : OneMore f m m' place start step
  pub outcome :
      Outcome f m' r
      (unify (bindings_in f m) (atom (literal_at_reference f m (leaf_of m place))) (atom (literal_at_reference f m' (copies_of m * 256 + offset))))
  pub hung : (next : Place) → r ≡ Ok next → Hung f m m' place next start offset

-- a restart: nothing is bound, and all of the question's literals hang under the leaf
pub record Restarted (f m m' : List ℕ) (place : Place) (question step : ℕ) (next : Place) : Type 0 where
  pub copied : OneMore f m m' place question step
  pub bindings : bindings_in f m' ≡ bindings_in f m
  pub hung : Hung f m m' place next question 0
