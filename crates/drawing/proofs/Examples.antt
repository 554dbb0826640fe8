-- Examples by computation: document 01's case 1, whose clause 0 has two literals and whose question is clause 1.
use mathlib.Core.List.{List, [], ◌∷◌}
use mathlib.Core.Path.{◌≡◌, refl}
use Prim.Native.Nat.{ℕ}
use Rattle.words.specs.Steps.{step_of}
use Rattle.text.specs.Quoted.{bytes}
use Rattle.text.specs.Digits.{digits_of, significant}
use Rattle.leaves.specs.Leaves.{opens, other, leaf_of, hung, started, open_after, leftmost}
use Rattle.drawing.specs.Graph.{node_text, stroke_text, between_text, line_text, lines_text, under_text, arrow_text, reduction_text}

unfoldable opened : Unit {0}
unfolding step_of digits_of significant opens other hung started open_after node_text stroke_text between_text line_text lines_text under_text arrow_text reduction_text
opened = tt

abbrev sizes : List ℕ
sizes = 2 ∷ 1 ∷ []

abbrev steps : List ℕ
steps = 0x40000000 ∷ 0x40000001 ∷ []

-- the lines of case 1's first step, and a reduction's arrow
lines : under_text (leftmost sizes 1 steps 0) 1 0 2 ≡ bytes "  n0_0 -> n1_0 [style=bold];\n  n0_0 -> n1_1;\n"
unfolding opened
lines = refl

arrow : reduction_text (leaf_of 1 0 1) (leaf_of 0 1 0) ≡ bytes "  n1_1 -> n0_0 [style=dashed, arrowhead=normal, constraint=false];\n"
unfolding opened
arrow = refl
