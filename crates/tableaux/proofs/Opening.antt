-- A copy made under the leftmost leaf, and its literals hung there: what an extension and a restart share.
use mathlib.Core.Path.{◌≡◌, refl, ap, ap₂, ◌∙◌}
use mathlib.Core.Bool.{cond}
use mathlib.Core.List.{List, ◌∷◌, ◌++◌, map}
use Prim.Native.Nat.{ℕ, zero, suc, ◌+◌, ◌*◌, ◌-◌, ◌≤◌, ◌<◌}
use native.Mathlib.Omega.{arith}
use borrow.Author.Tests.{ne_eqb, ltb-true, ltb-false}
use lib.Dec.{eqb, ltb}
use lib.ListN.{length, get_or, set, length-set, length-append, length-map}
use lib.Seq.{get_or-set_same, get_or-set_other}
use Rattle.table.specs.Syntax.{Literal}
use Rattle.rules.specs.Substitution.{Variable}
use Rattle.rules.specs.Tableau.{Leaf}
use Rattle.rules.specs.Tableau as tableau
use Rattle.rules.proofs.Unify.Tests.{decide}
use Rattle.unification.specs.Places.{most_leaves, value_places, literal_places, parent_places, next_places, step_places, number_places, count_place, trail_places, work_words, most_copies, copies_place, start_places}
use Rattle.unification.specs.State.{start_at, copies_of, step_at, literal_at_reference, bindings_in}
use Rattle.unification.specs.Good.{LiteralStands, Good}
use Rattle.tableaux.specs.Leaves.{leaf_at, leaves_from, hung}
use Rattle.tableaux.specs.Ready.{Noted, Ready, Later, OneMore, Hung, open_leaves, leaf_of, rest_of, Openable, opened, hanging_at, head_after, hung_under, place_under}
use Rattle.tableaux.specs.declared.tableau.Place.{Place}
use Rattle.tableaux.proofs.Leaves.{SameLeaves, leaves_same, branch_same}
use Rattle.unification.proofs.Bound.{Copied}
use Rattle.tableaux.proofs.Kept.{Carries, good_carried, later_leaves, later_noted, later_then}
use Rattle.tableaux.proofs.Leftmost.{leaves_few, count_few, leaf_noted, rest_low, open_branch, one_closed, steps_few}
use Rattle.tableaux.proofs.Hung.{hung_high, hung_copies, hung_start, hung_good, hung_carries, hung_later, hung_noted, hung_open}

-- the place and the work words after a copy's literals were hung, with premises as the code has them
module _ (f m : List ℕ) (place : Place) (start copy offset : ℕ) {count rest : ℕ} (counted : count ≡ length (hanging_at f start offset)) (er : rest ≡ rest_of m place) where
  pub place_is : {head : ℕ} → head ≡ cond (eqb count 0) rest (place.leaves + count)
      → ◌≡◌ {A = Place} (record { head = head; leaves = place.leaves + count; steps = place.steps + 1 }) (place_under f m place start offset)
  place_is e = rw (e, er, counted)

  pub work_is : {m' : List ℕ} → m' ≡ hung copy place.head rest place.leaves (hanging_at f start offset) m
      → m' ≡ hung_under f m place start copy offset
  work_is e = rw er at e

head_low : (leaves count rest : ℕ) → rest ≤ leaves → head_after leaves count rest ≤ leaves + count
head_low leaves zero rest h = omega arith
head_low leaves (suc n) rest h = rw (ne_eqb (suc n) 0 (λ e. omega arith)) (omega arith)

pub hang_length : (branch : List (Literal Variable)) (at : ℕ → Literal Variable) (os : List ℕ) (rest : List Leaf)
    → length (tableau.hang branch (map at os) ++ rest) ≡ length os + length rest
unfolding tableau.hang
hang_length branch at os rest =
    length-append (tableau.hang branch (map at os)) rest
    ∙ ap (◌+ length rest) (length-map (map at os) (λ (l : Literal Variable). record { literal = l; branch = branch }) ∙ length-map os at)

module _ {f m : List ℕ} {place : Place} {start : ℕ} (x : Openable f m place start) where
  pub steps_small : place.steps < most_leaves
  steps_small = omega (arith, leaves_few x.ready, steps_few x.ready x.some_open)

  pub leaf_stands : LiteralStands f m (leaf_of m place)
  leaf_stands = x.ready.noted.stands (place.head - 1) (leaf_noted x.ready x.some_open)

  -- one copy more, and the step noted
  module _ (step : ℕ) where
    abbrev begun : List ℕ
    begun = opened m start place.steps step

    begun-other : (i : ℕ) → (i ≡ copies_place → ⊥) → (i ≡ 0 + copies_of m → ⊥) → (i ≡ step_places + place.steps → ⊥) → get_or begun i 0 ≡ get_or m i 0
    begun-other i a b c =
        get_or-set_other (set (set m (step_places + place.steps) step) (start_places + copies_of m) start) copies_place i (copies_of m + 1) 0 a
        ∙ get_or-set_other (set m (step_places + place.steps) step) (start_places + copies_of m) i start 0 b
        ∙ get_or-set_other m (step_places + place.steps) i step 0 c

    pub begun_copies : copies_of begun ≡ copies_of m + 1
    begun_copies =
        get_or-set_same (set (set m (step_places + place.steps) step) (start_places + copies_of m) start) copies_place (copies_of m + 1) 0
        (simp length-set (omega (arith, x.ready.good.size)))

    pub begun_start : start_at begun (copies_of m) ≡ start
    begun_start =
        get_or-set_other (set (set m (step_places + place.steps) step) (start_places + copies_of m) start) copies_place (start_places + copies_of m) (copies_of m + 1) 0 (λ e. omega (arith, x.copies))
        ∙ get_or-set_same (set m (step_places + place.steps) step) (start_places + copies_of m) start 0 (simp length-set (omega (arith, x.ready.good.size, x.copies)))

    begun-step : step_at begun place.steps ≡ step
    begun-step =
        get_or-set_other (set (set m (step_places + place.steps) step) (start_places + copies_of m) start) copies_place (step_places + place.steps) (copies_of m + 1) 0 (λ e. omega arith)
        ∙ get_or-set_other (set m (step_places + place.steps) step) (start_places + copies_of m) (step_places + place.steps) start 0 (λ e. omega (arith, x.copies))
        ∙ get_or-set_same m (step_places + place.steps) step 0 (omega (arith, x.ready.good.size, steps_small))

    low : (i : ℕ) → count_place ≤ i → i < step_places → get_or begun i 0 ≡ get_or m i 0
    low i a b = begun-other i (λ e. omega arith) (λ e. omega (arith, x.copies)) (λ e. omega arith)

    pub begun_copied : Copied m begun
    begun_copied = record {
      more = omega (arith, begun_copies);
      starts = λ c l. begun-other (start_places + c) (λ e. omega (arith, x.copies)) (λ e. omega arith) (λ e. omega (arith, x.copies));
    }

    pub begun_carries : Carries f m begun
    begun_carries = record {
      change = record {
        size = simp length-set;
        copied = begun_copied;
        trail = λ i l. low (trail_places + i) (omega arith) (omega (arith, count_few x.ready));
        others = λ v l n. low (value_places + v) (omega arith) (omega arith);
      };
      clauses = record {
        few = omega (arith, begun_copies, x.copies);
        starts = λ c l. decide (ltb c (copies_of m))
            (λ e. let b : c < copies_of m = ltb-true c (copies_of m) e in rw (begun_copied.starts c b) (x.ready.good.starts c b))
            (λ e. let b : c ≡ copies_of m = omega (arith, begun_copies, ltb-false c (copies_of m) e) in rw (b, begun_start) x.clause);
      };
      count = low count_place (omega arith) (omega arith);
    }

    pub begun_good : Good f begun
    begun_good = good_carried x.ready.good begun_carries

    begun-later : Later m begun place
    begun-later =
        let few = leaves_few x.ready in
        let small = steps_small in
        record {
          more = omega (arith, begun_carries.count);
          trail = λ i l. low (trail_places + i) (omega arith) (omega (arith, count_few x.ready));
          bound = λ v l h. low (value_places + v) (omega arith) (omega arith);
          copies = begun_copied.more;
          starts = begun_copied.starts;
          literals = λ c l. low (literal_places + c) (omega arith) (omega arith);
          parents = λ c l. low (parent_places + c) (omega arith) (omega arith);
          nexts = λ c l. low (next_places + c) (omega arith) (omega arith);
          steps = λ i l. begun-other (step_places + i) (λ e. omega arith) (λ e. omega (arith, x.copies)) (λ e. omega arith);
          marks = λ v l. begun-other (number_places + v) (λ e. omega (arith, few)) (λ e. omega (arith, x.copies)) (λ e. omega (arith, small));
          notes = λ i a b. begun-other i (λ e. omega (arith, few)) (λ e. omega (arith, x.copies)) (λ e. omega (arith, small));
        }

    pub one_more : OneMore f m begun place start step
    one_more = record {
      stepping = record { good = begun_good; later = begun-later; noted = begun-step };
      copies = begun_copies;
      starts = begun_start;
    }

    pub begun_leaf : leaf_of begun place ≡ leaf_of m place
    begun_leaf = begun-later.literals (place.head - 1) (leaf_noted x.ready x.some_open)

  -- its literals hung, but for the one entered
  module _ (offset : ℕ) (few : length (hanging_at f start offset) ≤ 7) {step : ℕ} {m₂ : List ℕ} (k : OneMore f m m₂ place start step) where
    room : place.leaves + length (hanging_at f start offset) ≤ most_leaves
    room = omega (arith, few, x.ready.room, x.copies)

    later : Later m m₂ place
    later = k.stepping.later

    rest_is : rest_of m₂ place ≡ rest_of m place
    rest_is = later.nexts (place.head - 1) (leaf_noted x.ready x.some_open)

    rest_small : rest_of m₂ place ≤ place.leaves
    rest_small = rw rest_is (omega (arith, rest_low x.ready x.some_open, x.ready.head))

    noted₂ : Noted f m₂ place.leaves
    noted₂ = later_noted later x.ready.noted

    abbrev last : List ℕ
    last = hung_under f m₂ place start (copies_of m) offset

    abbrev next : Place
    next = place_under f m₂ place start offset

    same : SameLeaves m m₂ place.leaves
    same = later_leaves later x.ready.noted

    made_copy : copies_of m < copies_of m₂
    made_copy = omega (arith, k.copies)

    open_after :
        open_leaves f last next
        ≡ tableau.hang ((leaf_at f m (place.head - 1)).literal ∷ (leaf_at f m (place.head - 1)).branch)
        (map (λ (o : ℕ). literal_at_reference f last (copies_of m * 256 + o)) (hanging_at f start offset))
        ++ leaves_from f m place.leaves (rest_of m place)
    open_after =
        hung_open f m₂ (copies_of m) place.head (rest_of m₂ place) place.leaves start offset room k.stepping.good noted₂ made_copy k.starts x.clause x.ready.head rest_small
        ∙ ap₂ ◌++◌
        (ap (λ (b : List (Literal Variable)). tableau.hang b (map (λ (o : ℕ). literal_at_reference f last (copies_of m * 256 + o)) (hanging_at f start offset)))
        (branch_same f same place.leaves place.head (omega arith) ∙ open_branch x.ready x.some_open))
        (leaves_same f same place.leaves (rest_of m₂ place) (omega arith) ∙ ap (leaves_from f m place.leaves) rest_is)

    after_copies : copies_of last ≡ copies_of m + 1
    after_copies = hung_copies f m₂ (copies_of m) place.head (rest_of m₂ place) place.leaves start offset room ∙ k.copies

    pub after_carries : Carries f m₂ last
    after_carries = hung_carries f m₂ (copies_of m) place.head (rest_of m₂ place) place.leaves start offset room k.stepping.good

    after_later : Later m last place
    after_later =
        later_then later
        (hung_later f m₂ (copies_of m) place.head (rest_of m₂ place) place.leaves start offset room k.stepping.good place refl noted₂ x.copies x.ready.head rest_small)

    after_ready : Ready f last next
    after_ready = record {
      good = hung_good f m₂ (copies_of m) place.head (rest_of m₂ place) place.leaves start offset room k.stepping.good;
      noted = hung_noted f m₂ (copies_of m) place.head (rest_of m₂ place) place.leaves start offset room k.stepping.good noted₂ made_copy k.starts x.clause x.ready.head rest_small;
      head = head_low place.leaves (length (hanging_at f start offset)) (rest_of m₂ place) rest_small;
      begun = omega (arith, after_copies);
      room = omega (arith, after_copies, few, x.ready.room);
      taken =
          omega (
            arith,
            ap length open_after,
            hang_length ((leaf_at f m (place.head - 1)).literal ∷ (leaf_at f m (place.head - 1)).branch) (λ (o : ℕ). literal_at_reference f last (copies_of m * 256 + o)) (hanging_at f start offset) (leaves_from f m place.leaves (rest_of m place)),
            one_closed x.ready x.some_open,
          );
    }

    pub hung_under_lem : Hung f m last place next start offset
    hung_under_lem = record { ready = after_ready; leaves = open_after; steps = refl }

    pub hung_one_more : OneMore f m last place start step
    hung_one_more = record {
      stepping = record {
        good = after_ready.good;
        later = after_later;
        noted = hung_high f m₂ (copies_of m) place.head (rest_of m₂ place) place.leaves start offset room (step_places + place.steps) (omega arith) ∙ k.stepping.noted;
      };
      copies = after_copies;
      starts = hung_start f m₂ (copies_of m) place.head (rest_of m₂ place) place.leaves start offset room (copies_of m) x.copies ∙ k.starts;
    }

    -- what hanging them asks, with the values as the code has them
    pub under_inside : {copy count : ℕ} → copy ≡ copies_of m → count ≡ length (hanging_at f start offset)
        → (length m₂ ≡ work_words) × (copy < most_copies) × (0 < place.head) × (place.head ≤ place.leaves) × (place.leaves < most_leaves) × (place.leaves + count ≤ most_leaves) × (place.steps < most_leaves)
    under_inside ec en = (
      k.stepping.good.size,
      omega (arith, ec, x.copies),
      x.some_open,
      x.ready.head,
      omega (arith, x.ready.room, x.copies),
      omega (arith, en, room),
      steps_small,
    )
