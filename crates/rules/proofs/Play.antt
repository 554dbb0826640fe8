-- A play keeps a most general solution of its closed pairs, and a step is performed exactly where the rules allow it and the pairs stay unifiable.
use mathlib.Core.Bool.{Bool, true, false}
use mathlib.Core.List.{List, ◌∷◌}
use mathlib.Core.Option.{Option, none, some}
use mathlib.Core.Path.{◌≡◌, refl, sym, ap}
use Rattle.words.specs.declared.Step.{Step}
use Rattle.table.specs.Syntax.{Table}
use Rattle.rules.specs.Substitution.{Pair, Unifiable, MostGeneral}
use Rattle.rules.specs.Comparison.{a_clash, a_circle, NewestFails}
use Rattle.rules.specs.Machinery.Unify.{solution, Unified, made, clash, circle, unify}
use Rattle.rules.specs.Setting.{Setting}
use Rattle.rules.specs.Tableau.{Tableau, start, stepped, closing}
use Rattle.rules.specs.Machinery.Play.{Play, begin, Performed, goes_on, not_possible, clashes, circular, bound_by, newest, closes_pair, performed, perform}
use Rattle.rules.proofs.Unify.{Stands, stands_general, stands_unifiable, stands_none, stands_more}
use Rattle.rules.proofs.Compared.{clash_newest, circle_newest}
use Rattle.rules.proofs.Steps.{Does, reduces, extends, restarts, does}

-- The bindings stand for the closed pairs: a substitution satisfies them exactly if it makes the pairs equal.
abbrev pub Sound : Play → Type 0
Sound p = Stands p.bindings p.tableau.pairs

pub most_general : (p : Play) → Sound p → MostGeneral (solution p.bindings) p.tableau.pairs
most_general p h = stands_general p.bindings p.tableau.pairs h

pub unifiable : (p : Play) → Sound p → Unifiable p.tableau.pairs
unifiable p h = stands_unifiable p.bindings p.tableau.pairs h

pub sound_begin : (t : Table) → Sound (begin t)
unfolding begin start
sound_begin t = stands_none

-- a step that closes a pair adds it, and one that closes none leaves the pairs as they are
abbrev pub Adds : Bool → List Pair → List Pair → Type 0
Adds true before after = (p : Pair) × (after ≡ p ∷ before)
Adds false before after = after ≡ before

does_adds : {S : Setting} {x y : Tableau} {s : Step} → Does S x s y → Adds (closes_pair s) x.pairs y.pairs
does_adds (reduces {leaf = leaf} {m = m} l a f e) = (closing leaf.literal m, ap (λ (z : Tableau). z.pairs) (sym e))
does_adds (extends {leaf = leaf} {m = m} l u k a f e) = (closing leaf.literal m, ap (λ (z : Tableau). z.pairs) (sym e))
does_adds (restarts l u e) = ap (λ (z : Tableau). z.pairs) (sym e)

pub stepped_adds : (S : Setting) (x : Tableau) (s : Step) {y : Tableau} → stepped S x s ≡ some y → Adds (closes_pair s) x.pairs y.pairs
stepped_adds S x s e = does_adds (does s e)

module _ (S : Setting) (p : Play) (s : Step) where
  -- what is known when a step was performed, or was not
  abbrev pub Told : Performed → Type 0
  Told (goes_on q) = (stepped S p.tableau s ≡ some q.tableau) × Sound q
  Told not_possible = stepped S p.tableau s ≡ none
  Told clashes = (y : Tableau) × (stepped S p.tableau s ≡ some y) × NewestFails y.pairs a_clash
  Told circular = (y : Tableau) × (stepped S p.tableau s ≡ some y) × NewestFails y.pairs a_circle

  module _ (h : Sound p) (y : Tableau) (e : stepped S p.tableau s ≡ some y) (a : Pair) (f : y.pairs ≡ a ∷ p.tableau.pairs) where
    told-bound : (r : Unified) → unify p.bindings a.left a.right ≡ r → Told (bound_by y r)
    unfolding bound_by
    told-bound (made bs) u = (e, rw f (stands_more p.bindings p.tableau.pairs h a u))
    told-bound clash u = (y, e, rw f (clash_newest p.bindings p.tableau.pairs h a u))
    told-bound circle u = (y, e, rw f (circle_newest p.bindings p.tableau.pairs h a u))

    told-newest : (ps : List Pair) → ps ≡ a ∷ p.tableau.pairs → Told (newest p.bindings y ps)
    unfolding newest
    told-newest ps k = rw k (told-bound (unify p.bindings a.left a.right) refl)

  told-some : Sound p → (y : Tableau) (b : Bool) → stepped S p.tableau s ≡ some y → Adds b p.tableau.pairs y.pairs
      → Told (performed p.bindings (some y) b)
  unfolding performed
  told-some h y true e a = told-newest h y e a.0 a.1 y.pairs a.1
  told-some h y false e a = (e, rw a h)

  told-performed : Sound p → (o : Option Tableau) → stepped S p.tableau s ≡ o → Told (performed p.bindings o (closes_pair s))
  unfolding performed
  told-performed h none e = e
  told-performed h (some y) e = told-some h y (closes_pair s) e (stepped_adds S p.tableau s e)

  pub told : Sound p → Told (perform S p s)
  unfolding perform
  told h = told-performed h (stepped S p.tableau s) refl
