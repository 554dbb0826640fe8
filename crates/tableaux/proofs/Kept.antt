-- What stays of copies, bindings and leaves where the words that hold them stay.
use mathlib.Core.Path.{◌≡◌, ◌∙◌}
use mathlib.Core.List.{List}
use Prim.Native.Nat.{ℕ, ◌+◌, ◌/◌, ◌≤◌, ◌<◌}
use native.Mathlib.Omega.{arith}
use Rattle.unification.specs.Places.{most_variables, most_leaves, literal_places, parent_places, next_places, step_places, number_places, copies_place, start_places}
use Rattle.unification.specs.State.{copies_of, count_of, literal_at, words_at, literal_at_reference, bindings_in}
use Rattle.unification.specs.Good.{word_at, LiteralStands, Good, Grown}
use Rattle.tableaux.specs.Ready.{Noted, Later}
use Rattle.tableaux.specs.declared.tableau.Place.{Place}
use Rattle.unification.proofs.Bound.{Copied, Clauses, place as on-the-trail}
use Rattle.unification.proofs.Stores.{Change, same_held, same_bindings}
use Rattle.tableaux.proofs.Leaves.{SameLeaves}

-- what a reference into a copy stands for
module _ (f : List ℕ) {m m' : List ℕ} (k : Copied m m') where
  pub literal_kept : (r : ℕ) → r / 256 < copies_of m → literal_at_reference f m' r ≡ literal_at_reference f m r
  unfolding literal_at_reference words_at
  literal_kept r h = rw (k.starts (r / 256) h)

  pub word_kept : (r : ℕ) → r / 256 < copies_of m → word_at f m' r ≡ word_at f m r
  word_kept r h = rw (k.starts (r / 256) h)

  pub stands_kept : {r : ℕ} → LiteralStands f m r → LiteralStands f m' r
  unfolding words_at
  stands_kept {r} s =
      record { made = omega (arith, s.made, k.more); literals = s.literals; place = s.place; sound = rw (k.starts (r / 256) s.made) s.sound }

-- copies and bindings are carried over to other work words; copies may be added
pub record Carries (f m m' : List ℕ) : Type 0 where
  pub change : Change m m' (count_of m) most_variables
  pub clauses : Clauses f m'
  pub count : count_of m' ≡ count_of m

module _ {f m m' : List ℕ} (g : Good f m) (k : Carries f m m') where
  pub good_carried : Good f m'
  good_carried = rw k.count (same_held g k.change k.clauses)

  pub bound_carried : bindings_in f m' ≡ bindings_in f m
  bound_carried = rw k.count (same_bindings g k.change (count_of m) (omega arith))

-- a later moment
module _ {m m' : List ℕ} {place : Place} (l : Later m m' place) where
  pub later_copies : Copied m m'
  later_copies = record { more = l.copies; starts = l.starts }

  module _ {f : List ℕ} (n : Noted f m place.leaves) where
    pub later_leaves : SameLeaves m m' place.leaves
    later_leaves = record {
      literal = l.literals;
      parent = l.parents;
      next = l.nexts;
      start = λ c h. l.starts (literal_at m c / 256) (n.stands c h).made;
    }

    pub later_noted : Noted f m' place.leaves
    later_noted = record {
      stands = λ c h. rw (l.literals c h) (stands_kept f later_copies (n.stands c h));
      up = λ c h. rw (l.parents c h) (n.up c h);
      right = λ c h. rw (l.nexts c h) (n.right c h);
    }

pub later_then : {m m' m'' : List ℕ} {place : Place} → Later m m' place → Later m' m'' place → Later m m'' place
later_then {m} {m'} {m''} k l = record {
  more = omega (arith, k.more, l.more);
  trail = λ i h. l.trail i (omega (arith, k.more)) ∙ k.trail i h;
  bound = λ v s h. l.bound v s (rw (k.bound v s h) h) ∙ k.bound v s h;
  copies = omega (arith, k.copies, l.copies);
  starts = λ c h. l.starts c (omega (arith, k.copies)) ∙ k.starts c h;
  literals = λ c h. l.literals c h ∙ k.literals c h;
  parents = λ c h. l.parents c h ∙ k.parents c h;
  nexts = λ c h. l.nexts c h ∙ k.nexts c h;
  steps = λ i h. l.steps i h ∙ k.steps i h;
  marks = λ v h. l.marks v h ∙ k.marks v h;
  notes = λ i a b. l.notes i a b ∙ k.notes i a b;
}

-- more may be bound, and nothing else changes
pub grown_later : {f m m' : List ℕ} (place : Place) → Good f m → place.leaves ≤ most_leaves → place.steps ≤ most_leaves → Grown f m m' → Later m m' place
grown_later {f} {m} {m'} place h leaves steps g = record {
  more = g.more;
  trail = g.trail;
  bound = λ v s l. let q = on-the-trail f m v (count_of m) (h.listed v s l) in rw q.there at (g.values q.at q.below);
  copies = omega (arith, g.kept.copies.words copies_place (omega arith) (omega arith));
  starts = λ c l. g.kept.copies.words (start_places + c) (omega arith) (omega (arith, h.copies));
  literals = λ c l. g.kept.leaves.words (literal_places + c) (omega arith) (omega arith);
  parents = λ c l. g.kept.leaves.words (parent_places + c) (omega arith) (omega arith);
  nexts = λ c l. g.kept.leaves.words (next_places + c) (omega arith) (omega arith);
  steps = λ i l. g.kept.leaves.words (step_places + i) (omega arith) (omega arith);
  marks = λ v l. g.kept.leaves.words (number_places + v) (omega arith) (omega arith);
  notes = λ i a b. g.kept.leaves.words i (omega arith) b;
}
