-- The ancestors of the leaf that is treated, from the nearest up: which of them is the next candidate.
use mathlib.Core.Path.{◌≡◌, sym, ap, ◌∙◌}
use mathlib.Core.Bool.{true, false}
use mathlib.Core.List.{List, [], ◌∷◌}
use mathlib.Core.Option.{some}
use Prim.Native.Nat.{ℕ, zero, suc, ◌+◌, ◌-◌, ◌/◌, ◌≤◌, ◌<◌}
use native.Mathlib.Numerals.{add-one}
use native.Mathlib.Omega.{arith}
use borrow.Author.Tests.{ne_eqb}
use lib.ListN.{length, drop, get_elem?}
use lib.Seq.{drop-drop}
use Rattle.words.specs.declared.Step.{Step}
use Rattle.words.specs.declared.Step.TheVariants.{Reduction}
use Rattle.table.specs.Syntax.{Literal}
use Rattle.rules.specs.Order.{reductions}
use Rattle.rules.specs.Substitution.{Variable}
use Rattle.rules.specs.Tableau.{Leaf, fits, ancestor}
use Rattle.unification.specs.Places.{most_leaves, work_words}
use Rattle.unification.specs.State.{copies_of, literal_at, parent_at, literal_at_reference}
use Rattle.unification.specs.Good.{word_at, Inside, LiteralStands}
use Rattle.tableaux.specs.Leaves.{literal_of_leaf, branch_from}
use Rattle.tableaux.specs.Ready.{Ready, Later, leaf_of}
use Rattle.index.specs.Scanning.{other_sign}
use Rattle.engine.specs.Searching.{without, Treats, Wanted, leaf_treated, Against, Again, Rowed, reductions_at}
use Rattle.engine.specs.declared.search.Ending.TheVariants.{Nothing}
use Rattle.engine.specs.declared.search.Searched.{Searched}
use Rattle.engine.specs.declared.search.Task.{Task}
use Rattle.tableaux.specs.declared.tableau.Place.{Place}
use Rattle.tableaux.proofs.Chains.{chain_none}
use Rattle.tableaux.proofs.Leaves.{literal_same, branch_same}
use Rattle.engine.proofs.Performed.{chain_first, Literate, stands_literate, stands_inside, fits_at, fits_other}
use Rattle.engine.proofs.Searching.Again.{same_leaves, stands_later}
use Rattle.engine.proofs.Searching.Rows.{Rowing, rowing_begin, rowing_by, rowing_end}

-- the first that is left is the one of the number that was dropped
first_left : {A : Type 0} (xs : List A) (n : ℕ) {y : A} {ys : List A} → drop n xs ≡ y ∷ ys → get_elem? xs n ≡ some y
first_left [] zero e = let z : ◌≡◌ {A = ℕ} 0 1 = cc in absurd (omega arith)
first_left [] (suc n) e = let z : ◌≡◌ {A = ℕ} 0 1 = cc in absurd (omega arith)
first_left (x ∷ xs) zero {y} e = let same : x ≡ y = cc in ap some same
first_left (x ∷ xs) (suc n) e = first_left xs n e

ancestor_next : (n : ℕ) (branch : List (Literal Variable)) → ancestor (n + 1) branch ≡ get_elem? branch n
unfolding ancestor
ancestor_next n branch = rw (add-one n)

-- the leaf that is treated stays the same
module _ {f m m' : List ℕ} {place : Place} (ready : Ready f m place) (some_open : 0 < place.head) (later : Later m m' place) where
  leaf-low : place.head - 1 < place.leaves
  leaf-low = omega (arith, ready.head)

  pub leaf_stays : leaf_treated f m' place ≡ leaf_treated f m place
  leaf_stays =
      let c : ℕ = place.head - 1 in
      let made = (ready.noted.stands c leaf-low).made in
      let literal : literal_of_leaf f m' c ≡ literal_of_leaf f m c =
      ap (literal_at_reference f m') (later.literals c leaf-low) ∙ literal_same f m m' (literal_at m c) (later.starts _ made) in
      let branch : branch_from f m' c (parent_at m' c) ≡ branch_from f m c (parent_at m c) =
      ap (branch_from f m' c) (later.parents c leaf-low) ∙ branch_same f (same_leaves ready.noted later) c (parent_at m c) (omega (arith, leaf-low)) in
      λ i. record { literal = literal i; branch = branch i }

  pub word_stays : (r : ℕ) → r / 256 < copies_of m → word_at f m' r ≡ word_at f m r
  word_stays r l = rw (later.starts (r / 256) l)

  pub leaf_word_stays : word_at f m' (leaf_of m' place) ≡ word_at f m (leaf_of m place)
  leaf_word_stays =
      ap (word_at f m') (later.literals (place.head - 1) leaf-low) ∙ word_stays (leaf_of m place) (ready.noted.stands (place.head - 1) leaf-low).made

-- so many ancestors were passed, and these are left
pub record Climbing (f m : List ℕ) (place : Place) (above height : ℕ) : Type 0 where
  pub high : height + above < place.head
  pub rest : drop height (leaf_treated f m place).branch ≡ branch_from f m (place.head - 1) above

abbrev pub climbs : List ℕ → List ℕ → Place → ℕ → ℕ → List Step
climbs f m place above height = reductions (leaf_treated f m place).literal (suc height) (branch_from f m (place.head - 1) above)

module _ {f m₀ : List ℕ} {task : Task} {place : Place} (treats : Treats f m₀ task place) (some_open : 0 < place.head) where
  pub climb_begin : {above : ℕ} → above ≡ parent_at m₀ (place.head - 1) → Climbing f m₀ place above 0
  climb_begin e =
      let low = treats.ready.noted.up (place.head - 1) (omega (arith, treats.ready.head)) in
      record { high = omega arith; rest = rw e }

  pub climb_row : {above : ℕ} → above ≡ parent_at m₀ (place.head - 1) → (tries : ℕ) → Rowing f m₀ m₀ task place tries tries (reductions_at f m₀ place) (climbs f m₀ place above 0)
  climb_row e tries = rw e (rowing_begin treats tries (reductions_at f m₀ place))

  pub climb_end : {m : List ℕ} {tries left above height : ℕ} → Climbing f m₀ place above height → Rowing f m₀ m task place tries left (reductions_at f m₀ place) (climbs f m₀ place above height) → above ≡ 0
      → {r : Searched} → r ≡ without Nothing left → Rowed f m₀ m task place tries r (reductions_at f m₀ place)
  unfolding reductions
  climb_end {height = height} climbing rowing z e =
      let none : climbs f m₀ place 0 height ≡ [] = rw (chain_none (literal_of_leaf f m₀) (parent_at m₀) (place.head - 1)) in
      rowing_end treats (rowing_by treats none (rw z at rowing)) e

  module _ {m : List ℕ} (again : Again f m₀ m place) {above height : ℕ} (climbing : Climbing f m₀ place above height) (some-above : above ≡ 0 → ⊥) where
    small : above ≤ most_leaves
    small = omega (arith, climbing.high, treats.ready.head, treats.ready.room, treats.ready.good.copies)

    pub climb_small : (length m ≡ work_words) × (0 < above) × (above ≤ most_leaves)
    climb_small = (again.good.size, omega arith, omega (arith, small))

    pub climb_few : height < most_leaves
    climb_few = omega (arith, climbing.high, treats.ready.head, treats.ready.room, treats.ready.good.copies)

    inside : above - 1 < place.leaves
    inside = omega (arith, climbing.high, treats.ready.head)

    pub climb_falls : {next : ℕ} → next ≡ parent_at m (above - 1) → next < above
    climb_falls e = omega (arith, e, again.later.parents (above - 1) inside, treats.ready.noted.up (above - 1) inside)

    module _ {literal : ℕ} (el : literal ≡ literal_at m (above - 1)) where
      same_literal : literal ≡ literal_at m₀ (above - 1)
      same_literal = el ∙ again.later.literals (above - 1) inside

      stands₀ : LiteralStands f m₀ literal
      stands₀ = rw same_literal (treats.ready.noted.stands (above - 1) inside)

      stands : LiteralStands f m literal
      stands = stands_later again.later stands₀

      pub climb_inside : Inside f m literal
      climb_inside = stands_inside f m literal again.good stands

      module _ {next : ℕ} (en : next ≡ parent_at m (above - 1)) where
        further : branch_from f m₀ (place.head - 1) above ≡ literal_at_reference f m₀ literal ∷ branch_from f m₀ (place.head - 1) next
        further =
            let same : next ≡ parent_at m₀ (above - 1) = en ∙ again.later.parents (above - 1) inside in
            let first = chain_first (literal_of_leaf f m₀) (parent_at m₀) (place.head - 1) above (omega arith) (omega (arith, climbing.high)) (treats.ready.noted.up (above - 1) inside) in
            first ∙ rw (same, same_literal)

        left_over : drop height (leaf_treated f m₀ place).branch ≡ literal_at_reference f m₀ literal ∷ branch_from f m₀ (place.head - 1) next
        left_over = climbing.rest ∙ further

        pub climb_on : Climbing f m₀ place next (height + 1)
        climb_on =
            record {
              high = omega (arith, climb_falls en, climbing.high);
              rest = sym (drop-drop 1 height (leaf_treated f m₀ place).branch) ∙ rw left_over;
            }

        there₀ : ancestor (height + 1) (leaf_treated f m₀ place).branch ≡ some (literal_at_reference f m₀ literal)
        there₀ = ancestor_next height (leaf_treated f m₀ place).branch ∙ first_left (leaf_treated f m₀ place).branch height left_over

        module _ {word wanted : ℕ} (ew : word ≡ word_at f m literal) (wants : Wanted f m₀ place wanted) where
          leaf_literate : Literate f m₀ (leaf_of m₀ place)
          leaf_literate = stands_literate f m₀ (leaf_of m₀ place) (treats.ready.noted.stands (place.head - 1) (omega (arith, treats.ready.head)))

          same_word : word ≡ word_at f m₀ literal
          same_word = ew ∙ word_stays treats.ready some_open again.later literal stands₀.made

          pub climb_past : (word ≡ wanted → ⊥) → climbs f m₀ place above height ≡ climbs f m₀ place next (height + 1)
          unfolding reductions
          climb_past other =
              let differs : fits (leaf_treated f m₀ place).literal (literal_at_reference f m₀ literal) ≡ false =
              fits_at treats.asked.small leaf_literate (stands_literate f m₀ literal stands₀) ∙ ne_eqb _ _ (λ e. other (same_word ∙ e ∙ sym wants)) in
              rw (further, differs, add-one height)

          pub climb_at : word ≡ wanted → climbs f m₀ place above height ≡ Reduction (height + 1) ∷ climbs f m₀ place next (height + 1)
          unfolding reductions
          climb_at same =
              let fitting : fits (leaf_treated f m₀ place).literal (literal_at_reference f m₀ literal) ≡ true =
              fits_other treats.asked.small leaf_literate (stands_literate f m₀ literal stands₀) (sym same_word ∙ same ∙ wants) in
              rw (further, fitting, add-one height)

          pub climb_against : word ≡ wanted → Against f m place literal (height + 1)
          climb_against same =
              record {
                stands = stands;
                there =
                    ap (λ (l : Leaf). ancestor (height + 1) l.branch) (leaf_stays treats.ready some_open again.later)
                    ∙ there₀
                    ∙ ap some (sym (literal_same f m₀ m literal (again.later.starts _ stands₀.made)));
                word = sym ew ∙ same ∙ wants ∙ ap other_sign (sym (leaf_word_stays treats.ready some_open again.later));
              }
