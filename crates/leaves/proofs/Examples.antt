-- Examples by computation: document 01's case 1, whose clause 0 has two literals and whose question is clause 1.
use mathlib.Core.Bool.{true, false}
use mathlib.Core.List.{List, [], ◌∷◌}
use mathlib.Core.Path.{◌≡◌, refl}
use Prim.Native.Nat.{ℕ}
use Rattle.words.specs.Steps.{step_of}
use Rattle.text.specs.Quoted.{bytes}
use Rattle.leaves.specs.Leaves.{opens, other, leaf_of, hung, started, open_after, leftmost, hung_under, above, ancestor}
use Rattle.leaves.specs.Shown.{cut_to}
use Rattle.leaves.specs.Bound.{copies_by, copy_number, has_variable}
use Rattle.std.specs.Prelude.{None}

unfoldable opened : Unit {0}
unfolding step_of opens other hung started open_after hung_under above ancestor cut_to copies_by copy_number has_variable
opened = tt

abbrev sizes : List ℕ
sizes = 2 ∷ 1 ∷ []

abbrev steps : List ℕ
steps = 0x40000000 ∷ 0x40000001 ∷ []

-- the start's leaf is treated first, then the evening; then no leaf is open
leaves : leftmost sizes 1 steps 0 ∷ leftmost sizes 1 steps 1 ∷ leftmost sizes 1 steps 2 ∷ [] ≡ leaf_of 0 1 0 ∷ leaf_of 1 0 1 ∷ None ∷ []
unfolding opened
leaves = refl

-- the evening hangs under the question, which hangs under nothing
heights : ancestor sizes 1 steps 1 (leaf_of 1 0 1) ∷ ancestor sizes 1 steps 2 (leaf_of 1 0 1) ∷ [] ≡ leaf_of 0 1 0 ∷ None ∷ []
unfolding opened
heights = refl

-- entering the second literal leaves the first open
entered_second : leftmost sizes 1 (0x40000200 ∷ []) 1 ≡ leaf_of 1 0 0
unfolding opened
entered_second = refl

-- a text that is long enough is cut
cuts : cut_to 3 (bytes "abc") ∷ cut_to 3 (bytes "abcd") ∷ [] ≡ bytes "abc" ∷ bytes "abc..." ∷ []
unfolding opened
cuts = refl

-- the second step of three is a reduction: the copies of the others are the first and the second
copy_numbers : copy_number (0x40000000 ∷ 1 ∷ 0x40000001 ∷ []) 0 ∷ copy_number (0x40000000 ∷ 1 ∷ 0x40000001 ∷ []) 1 ∷ copy_number (0x40000000 ∷ 1 ∷ 0x40000001 ∷ []) 3 ∷ [] ≡ 0 ∷ 1 ∷ 2 ∷ []
unfolding opened
copy_numbers = refl

-- at(e,X) has a variable, at(e,mat) has none
variables : has_variable (0x8000A001 ∷ 0x40000001 ∷ 0 ∷ []) ∷ has_variable (0x80002001 ∷ 0x40000001 ∷ 0x40000002 ∷ []) ∷ [] ≡ true ∷ false ∷ []
unfolding opened
variables = refl
