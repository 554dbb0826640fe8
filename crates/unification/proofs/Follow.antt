-- A variable followed through what is bound: the outcomes, one law for each, with premises as the code has them.
use lib.Dec.{eqb}
use mathlib.Core.Bool.{false}
use mathlib.Core.List.{List}
use mathlib.Core.Option.{some}
use mathlib.Core.Path.{◌≡◌, refl, sym, ◌∙◌, ap}
use native.Mathlib.Omega.{arith}
use Prim.Native.Nat.{ℕ, zero, suc, ◌-◌, ◌<◌}
use Rattle.words.specs.Fields.{kind_of}
use Rattle.table.specs.Syntax.{var}
use Rattle.rules.specs.Machinery.Unify.{follow}
use Rattle.rules.proofs.Unify.Solution.{follow_app, follow_unbound}
use Rattle.rules.proofs.Unify.Following.{value_of, follow_value}
use Rattle.unification.specs.Places.{most_variables}
use Rattle.unification.specs.State.{bound_at, Points, term_of, variable_of, bindings_in}
use Rattle.unification.specs.Good as state
use Rattle.unification.specs.Good.{word_at, variable_at, names_variable, Inside, FollowedTo}
use Rattle.unification.proofs.References.{variable_term, variable_copy, function_term}
use Rattle.unification.proofs.Walk.{few_variables, inside}
use Rattle.unification.proofs.Bound.{bound_entry, bound_value, unbound}
use Rattle.unification.proofs.Ranks.{rank_of, value_falls}

-- how far a term has been followed
pub record Following (f m : List ℕ) (r at : ℕ) : Type 0 where
  pub points : Points f m at 1
  pub same : follow (bindings_in f m) (term_of f m at) ≡ follow (bindings_in f m) (term_of f m r)

-- it has come to a variable
pub record AtVariable (f m : List ℕ) (r at v : ℕ) : Type 0 where
  pub points : Points f m at 1
  pub same : follow (bindings_in f m) (term_of f m at) ≡ follow (bindings_in f m) (term_of f m r)
  pub named : v ≡ variable_at at (word_at f m at)
  pub term : term_of f m at ≡ var (variable_of v)
  pub small : v < most_variables

module _ {f m : List ℕ} {r : ℕ} where
  pub follow_begin : Points f m r 1 → Following f m r r
  follow_begin p = record { points = p; same = refl }

  module _ (h : state.Good f m) {at : ℕ} (g : Following f m r at) where
    pub follow_inside : Inside f m at
    follow_inside = inside h g.points

    module _ {w k : ℕ} (ew : w ≡ word_at f m at) (ek : k ≡ kind_of w) where
      pub follow_function : (k ≡ 0 → ⊥) → FollowedTo f m r at
      follow_function n =
          let e : kind_of (word_at f m at) ≡ 0 → ⊥ = λ z. n (ek ∙ ap kind_of ew ∙ z) in
          record {
            points = g.points;
            same = rw (function_term g.points e) (sym (follow_app (bindings_in f m) _ _)) ∙ g.same;
            free = λ z. absurd (e z);
          }

      pub follow_variable : k ≡ 0 → {v : ℕ} → v ≡ variable_at at w → AtVariable f m r at v
      follow_variable z {v} ev =
          let kind : kind_of (word_at f m at) ≡ 0 = ap kind_of (sym ew) ∙ sym ek ∙ z in
          let few = few_variables h g.points in
          let e : v ≡ variable_at at (word_at f m at) = ev ∙ ap (variable_at at) ew in
          record {
            points = g.points;
            same = g.same;
            named = e;
            term = rw e (variable_term g.points kind few);
            small = omega (arith, e, variable_copy g.points kind few, g.points.made, h.copies);
          }

module _ {f m : List ℕ} {r at v : ℕ} (h : state.Good f m) (g : AtVariable f m r at v) where
  pub follow_free : bound_at m v ≡ 0 → FollowedTo f m r at
  follow_free z =
      record {
        points = g.points;
        same =
            rw g.term (sym (follow_unbound (bindings_in f m) (variable_of v) (unbound h v z)))
            ∙ ap (follow (bindings_in f m)) (sym g.term) ∙ g.same;
        free = λ _. rw g.named at z;
      }

  module _ (n : bound_at m v ≡ 0 → ⊥) where
    pub follow_positive : 0 < bound_at m v
    follow_positive = omega arith

    value : value_of (bindings_in f m) (variable_of v) ≡ some (term_of f m (bound_at m v - 1))
    value = bound_value h v g.small follow_positive

    pub follow_on : Following f m r (bound_at m v - 1)
    follow_on =
        record {
          points = (bound_entry h v g.small follow_positive).points;
          same =
              sym (follow_value (bindings_in f m) (variable_of v) _ h.sound value) ∙ ap (follow (bindings_in f m)) (sym g.term) ∙ g.same;
        }

    pub follow_falls : rank_of (bindings_in f m) (term_of f m (bound_at m v - 1)) < rank_of (bindings_in f m) (term_of f m at)
    unfolding rank_of
    follow_falls = rw g.term (value_falls (bindings_in f m) h.sound (variable_of v) _ value)
