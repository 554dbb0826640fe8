-- The state after the literals of a copy were hung: still good, its leaves noted, the new leaves open before those right of them.
use mathlib.Core.Path.{◌≡◌, refl, sym, ap, ap₂, ◌∙◌}
use mathlib.Core.List.{List, [], ◌∷◌, ◌++◌, map}
use Prim.Native.Nat.{ℕ, ◌+◌, ◌*◌, ◌/◌, ◌%◌, ◌≤◌, ◌<◌}
use native.Mathlib.Omega.{arith}
use borrow.Author.Tests.{ltb-true, ltb-false}
use lib.Dec.{ltb}
use lib.ListN.{length, get_or}
use Rattle.words.specs.Fields.{variables_of}
use Rattle.table.specs.Syntax.{Literal}
use Rattle.rules.specs.Substitution.{Variable}
use Rattle.rules.specs.Tableau.{Leaf}
use Rattle.rules.specs.Tableau as tableau
use Rattle.rules.proofs.Lists.{All}
use Rattle.rules.proofs.Unify.Tests.{decide}
use Rattle.unification.specs.Places.{most_variables, most_leaves, value_places, literal_places, step_places, number_places, count_place, trail_places, most_copies, copies_place, start_places}
use Rattle.unification.specs.State.{start_at, copies_of, count_of, literal_at, own_words, ClauseAt, words_at, literal_at_reference, bindings_in}
use Rattle.unification.specs.Good.{LiteralStands, Good}
use Rattle.tableaux.specs.Leaves.{branch_from, leaves_from, hung}
use Rattle.tableaux.specs.Ready.{Noted, Later, hanging_at, head_after}
use Rattle.tableaux.specs.declared.tableau.Place.{Place}
use Rattle.tableaux.proofs.Hanging.{own_small}
use Rattle.tableaux.proofs.Literals.{ReadsOn, clause_hanging}
use Rattle.tableaux.proofs.Leaves.{SameLeaves, Cell, literal_same, hung_length, hung_other, hung_same, hung_leaves, hung_cells}
use Rattle.unification.proofs.Bound.{Copied}
use Rattle.tableaux.proofs.Kept.{stands_kept, Carries, good_carried}

all_map : {A : Type 0} {P Q : A → Type 0} → ((a : A) → P a → Q a) → (xs : List A) → All P xs → All Q xs
unfolding All
all_map h [] a = tt
all_map h (x ∷ xs) a = (h x a.0, all_map h xs a.1)

-- what can be read at an offset of a clause stands in each copy of it
pub reads_stands : {f m : List ℕ} {p o : ℕ} (copy : ℕ) → start_at m copy ≡ p → copy < copies_of m
    → ReadsOn (variables_of (get_or f p 0)) (own_words f p) o → (o < 256) × LiteralStands f m (copy * 256 + o)
unfolding words_at
reads_stands {f} {m} {p} {o} copy e h r =
    let small : o < 256 = omega (arith, r.within, own_small f p) in
    let c : (copy * 256 + o) / 256 ≡ copy = omega arith in
    let n : (copy * 256 + o) % 256 ≡ o = omega arith in
    (small, record { made = rw c h; literals = r.literals; place = r.place; sound = rw (c, n, e) r.sound })

as_hung : (f m m' : List ℕ) (copy : ℕ) (branch : List (Literal Variable)) → start_at m' copy ≡ start_at m copy → (os : List ℕ) → All (◌< 256) os
    → map (λ (o : ℕ). record { literal = literal_at_reference f m (copy * 256 + o); branch = branch }) os
    ≡ tableau.hang branch (map (λ (o : ℕ). literal_at_reference f m' (copy * 256 + o)) os)
unfolding All tableau.hang
as_hung f m m' copy branch e [] a = refl
as_hung f m m' copy branch e (o ∷ os) a =
    let small : o < 256 = a.0 in
    let c : (copy * 256 + o) / 256 ≡ copy = omega arith in
    let literal : literal_at_reference f m (copy * 256 + o) ≡ literal_at_reference f m' (copy * 256 + o) = sym (literal_same f m m' (copy * 256 + o) (rw c e)) in
    let leaf : ◌≡◌ {A = Leaf} (record { literal = literal_at_reference f m (copy * 256 + o); branch = branch }) (record { literal = literal_at_reference f m' (copy * 256 + o); branch = branch }) =
    λ i. record { literal = literal i; branch = branch } in
    ap₂ ◌∷◌ leaf (as_hung f m m' copy branch e os a.1)

module _ (f m : List ℕ) (copy parent rest leaves start entered : ℕ) where
  abbrev after : List ℕ
  after = hung copy parent rest leaves (hanging_at f start entered) m

  module _ (room : leaves + length (hanging_at f start entered) ≤ most_leaves) where
    hung-low : (i : ℕ) → i < literal_places → get_or after i 0 ≡ get_or m i 0
    hung-low i l = hung_other copy parent rest leaves (hanging_at f start entered) m i (λ k h. (λ e. omega arith, λ e. omega arith, λ e. omega arith))

    pub hung_high : (i : ℕ) → step_places ≤ i → get_or after i 0 ≡ get_or m i 0
    hung_high i l = hung_other copy parent rest leaves (hanging_at f start entered) m i (λ k h. (λ e. omega arith, λ e. omega arith, λ e. omega arith))

    pub hung_copies : copies_of after ≡ copies_of m
    hung_copies = hung-low copies_place (omega arith)

    pub hung_start : (c : ℕ) → c < most_copies → start_at after c ≡ start_at m c
    hung_start c l = hung-low (start_places + c) (omega arith)

    module _ (good : Good f m) where
      few : count_of m ≤ most_variables
      few = omega (arith, good.room)

      hung-copied : Copied m after
      hung-copied = record { more = omega (arith, hung_copies); starts = λ c l. hung_start c (omega (arith, good.copies)) }

      pub hung_carries : Carries f m after
      hung_carries = record {
        change = record {
          size = hung_length copy parent rest leaves (hanging_at f start entered) m;
          copied = hung-copied;
          trail = λ i l. hung-low (trail_places + i) (omega (arith, few));
          others = λ v l n. hung-low (value_places + v) (omega arith);
        };
        clauses = record {
          few = omega (arith, hung_copies, good.copies);
          starts = λ c l. let b : c < copies_of m = omega (arith, hung_copies) in rw (hung-copied.starts c b) (good.starts c b);
        };
        count = hung-low count_place (omega arith);
      }

      pub hung_good : Good f after
      hung_good = good_carried good hung_carries

      pub hung_later : (place : Place) → place.leaves ≡ leaves → Noted f m leaves → copy < most_copies → parent ≤ leaves → rest ≤ leaves → Later m after place
      hung_later place e noted small up right =
          let same : SameLeaves m after leaves = hung_same copy parent rest leaves f small up right (hanging_at f start entered) m room (λ c l. omega (arith, (noted.stands c l).made, good.copies)) in
          record {
            more = omega (arith, hung-low count_place (omega arith));
            trail = λ i l. hung-low (trail_places + i) (omega (arith, few));
            bound = λ v l h. hung-low (value_places + v) (omega arith);
            copies = omega (arith, hung_copies);
            starts = λ c l. hung_start c (omega (arith, good.copies));
            literals = λ c l. same.literal c (omega arith);
            parents = λ c l. same.parent c (omega arith);
            nexts = λ c l. same.next c (omega arith);
            steps = λ i l. hung_high (step_places + i) (omega arith);
            marks = λ v l. hung_high (number_places + v) (omega arith);
            notes = λ i a b. hung_high i (omega arith);
          }

      module _ (noted : Noted f m leaves) (made : copy < copies_of m) (begins : start_at m copy ≡ start) (clause : ClauseAt f start) (up : parent ≤ leaves) (right : rest ≤ leaves) where
        small : copy < most_copies
        small = omega (arith, good.copies)

        in_copies : (c : ℕ) → c < leaves → literal_at m c / 256 < most_copies
        in_copies c l = omega (arith, (noted.stands c l).made, good.copies)

        standing : All (λ o. (o < 256) × LiteralStands f after (copy * 256 + o)) (hanging_at f start entered)
        standing =
            all_map (λ o r. reads_stands copy (hung_start copy small ∙ begins) (omega (arith, hung_copies)) r) (hanging_at f start entered) (clause_hanging clause entered)

        pub hung_noted : Noted f after (leaves + length (hanging_at f start entered))
        hung_noted =
            let same : SameLeaves m after leaves = hung_same copy parent rest leaves f small up right (hanging_at f start entered) m room in_copies in
            let cell : (c : ℕ) → c < leaves + length (hanging_at f start entered) → Cell (LiteralStands f after) after c =
            λ c l. decide (ltb c leaves)
            (λ e. let b : c < leaves = ltb-true c leaves e in (
              rw (same.literal c b) (stands_kept f (hung-copied) (noted.stands c b)),
              rw (same.parent c b) (noted.up c b),
              rw (same.next c b) (noted.right c b),
            ))
            (λ e. hung_cells copy parent rest leaves f small up right (LiteralStands f after) (hanging_at f start entered) m good.size room in_copies standing c (ltb-false c leaves e) l) in
            record { stands = λ c l. (cell c l).0; up = λ c l. (cell c l).1; right = λ c l. (cell c l).2 }

        pub hung_open :
            leaves_from f after (leaves + length (hanging_at f start entered)) (head_after leaves (length (hanging_at f start entered)) rest)
            ≡ tableau.hang (branch_from f m leaves parent) (map (λ (o : ℕ). literal_at_reference f after (copy * 256 + o)) (hanging_at f start entered)) ++ leaves_from f m leaves rest
        hung_open =
            hung_leaves copy parent rest leaves f small up right (hanging_at f start entered) m good.size room in_copies (all_map (λ o a. a.0) (hanging_at f start entered) standing)
            ∙ ap (◌++ leaves_from f m leaves rest) (as_hung f m after copy (branch_from f m leaves parent) (hung_start copy small) (hanging_at f start entered) (all_map (λ o a. a.0) (hanging_at f start entered) standing))
