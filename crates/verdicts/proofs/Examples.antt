-- Examples by computation: document 01's case 1, whose clause 0 has two literals and whose question is clause 1.
use mathlib.Core.Bool.{true, false}
use mathlib.Core.List.{List, [], ◌∷◌}
use mathlib.Core.Path.{◌≡◌, refl}
use Prim.Native.Nat.{ℕ}
use Rattle.words.specs.Steps.{step_of}
use Rattle.leaves.specs.Leaves.{opens, other, hung, started, open_after, hung_under, above, ancestor, leaf_of}
use Rattle.verdicts.specs.Verdicts.{entered_leaf, partner, fitting}
use Rattle.std.specs.Prelude.{None}

unfoldable opened : Unit {0}
unfolding step_of opens other hung started open_after hung_under above ancestor entered_leaf partner fitting
opened = tt

abbrev sizes : List ℕ
sizes = 2 ∷ 1 ∷ []

abbrev steps : List ℕ
steps = 0x40000000 ∷ 0x40000001 ∷ []

-- what a step closes its leaf against: an ancestor, a clause's literal, or nothing where there is none
partners : partner sizes 1 steps 1 (step_of 1) ∷ partner sizes 1 steps 1 (step_of 2) ∷ partner sizes 1 steps 1 (step_of 0x40000200) ∷ partner sizes 1 steps 1 (step_of 0x40000400) ∷ []
    ≡ leaf_of 0 1 0 ∷ None ∷ leaf_of 2 0 1 ∷ None ∷ []
unfolding opened
partners = refl

-- opposite signs fit; the same sign, another predicate and another arity do not
fitting_pairs : fitting 0x8000A001 0x80002001 ∷ fitting 0x80002001 0x80002001 ∷ fitting 0x8000A001 0x80002002 ∷ fitting 0x8000A001 0x80001001 ∷ []
    ≡ true ∷ false ∷ false ∷ false ∷ []
unfolding opened
fitting_pairs = refl
