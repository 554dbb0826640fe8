-- A closed tableau as Graphviz text. Each copy of a clause is a box with its clause's name, and in it each literal is a node. Lines go from a leaf to the
-- literals of the copy that hangs under it, the one to the closed pair's bold; a reduction is a dashed arrow from the leaf to its ancestor.
use Rattle.std.specs.Prelude.{Bool, true, false, List, [], ◌++◌, ℕ, zero, suc, eqb, length, take, get_or, Option, Some, None}
use Rattle.words.specs.Steps.{step_of}
use Rattle.words.specs.declared.Step.{Step}
use Rattle.words.specs.declared.Step.TheVariants.{Reduction, Extension, Restart, Malformed}
use Rattle.text.specs.Quoted.{bytes}
use Rattle.text.specs.Digits.{decimal_text}
use Rattle.leaves.specs.Leaves.{leftmost, ancestor}
use Rattle.leaves.specs.Shown.{Source, sizes_in, question_in, literal_cut, name_cut}
use Rattle.leaves.specs.Bound.{copy_number, told_text}
use Rattle.leaves.specs.declared.leaf.Leaf.{Leaf}

-- a node is a literal of the copy that a step hung
unfoldable pub node_text : ℕ → ℕ → List ℕ
node_text number literal = (bytes "n" ++ decimal_text number) ++ (bytes "_" ++ decimal_text literal)

-- a literal in its copy's box; where it has variables, what it is under the bindings is a second line
unfoldable pub label_text : Source → ℕ → ℕ → ℕ → List ℕ
label_text S made clause literal =
    bytes " [label=\"" ++ (literal_cut S.text S.index S.file clause literal ++ (told_text S (bytes "\\n") [] made clause literal ++ bytes "\"];\n"))

unfoldable pub literal_line : Source → ℕ → ℕ → ℕ → ℕ → List ℕ
literal_line S number made clause literal = bytes "    " ++ (node_text number literal ++ label_text S made clause literal)

-- so many literals from one on
unfoldable pub literal_lines : Source → ℕ → ℕ → ℕ → ℕ → ℕ → List ℕ
literal_lines S number made clause literal zero = []
literal_lines S number made clause literal (suc more) = literal_line S number made clause literal ++ literal_lines S number made clause (suc literal) more

-- the box of a copy of a clause with so many literals: the step that hangs it, and the copy's own number
unfoldable pub box_text : List ℕ → List ℕ → ℕ → ℕ → List ℕ
box_text text index number clause =
    (bytes "  subgraph cluster_" ++ decimal_text number) ++ (bytes " {\n    label=\"" ++ (name_cut text index clause ++ bytes "\";\n"))

unfoldable pub copy_text : Source → ℕ → ℕ → ℕ → ℕ → List ℕ
copy_text S number made clause size = box_text S.text S.index number clause ++ (literal_lines S number made clause 0 size ++ bytes "  }\n")

-- the closed pair's line is bold
unfoldable pub stroke_text : Bool → List ℕ
stroke_text true = bytes " [style=bold];\n"
stroke_text false = bytes ";\n"

-- from a literal to another
unfoldable pub between_text : ℕ → ℕ → ℕ → ℕ → List ℕ
between_text number literal below other = bytes "  " ++ (node_text number literal ++ (bytes " -> " ++ node_text below other))

-- from a leaf to a literal of the copy under it
unfoldable pub line_text : ℕ → ℕ → ℕ → ℕ → ℕ → List ℕ
line_text number literal below entered other = between_text number literal below other ++ stroke_text (eqb other entered)

unfoldable pub lines_text : ℕ → ℕ → ℕ → ℕ → ℕ → ℕ → List ℕ
lines_text number literal below entered other zero = []
lines_text number literal below entered other (suc more) =
    line_text number literal below entered other ++ lines_text number literal below entered (suc other) more

unfoldable pub under_text : Option Leaf → ℕ → ℕ → ℕ → List ℕ
under_text (Some leaf) below entered size = lines_text leaf.number leaf.literal below entered 0 size
under_text None below entered size = []

-- a reduction's arrow, which does not move the nodes
unfoldable pub arrow_text : ℕ → ℕ → Option Leaf → List ℕ
arrow_text number literal (Some to) =
    between_text number literal to.number to.literal ++ bytes " [style=dashed, arrowhead=normal, constraint=false];\n"
arrow_text number literal None = []

unfoldable pub reduction_text : Option Leaf → Option Leaf → List ℕ
reduction_text (Some leaf) to = arrow_text leaf.number leaf.literal to
reduction_text None to = []

-- a step after so many others
unfoldable pub step_drawn : Source → List ℕ → ℕ → List ℕ → ℕ → Step → List ℕ
step_drawn S sizes question steps done (Reduction height) =
    reduction_text (leftmost sizes question steps done) (ancestor sizes question steps height (leftmost sizes question steps done))
step_drawn S sizes question steps done (Extension i j) =
    copy_text S (suc done) (copy_number steps (suc done)) i (get_or sizes i 0) ++ under_text (leftmost sizes question steps done) (suc done) j (get_or sizes i 0)
step_drawn S sizes question steps done Restart = []
step_drawn S sizes question steps done Malformed = []

-- so many steps from one on
unfoldable pub steps_drawn : Source → List ℕ → ℕ → List ℕ → ℕ → ℕ → List ℕ
steps_drawn S sizes question steps done zero = []
steps_drawn S sizes question steps done (suc more) =
    step_drawn S sizes question steps done (step_of (get_or steps done 0)) ++ steps_drawn S sizes question steps (suc done) more

-- the start, then the steps
unfoldable pub copies_text : Source → List ℕ → ℕ → List ℕ → List ℕ
copies_text S sizes question steps = copy_text S 0 0 question (get_or sizes question 0) ++ steps_drawn S sizes question steps 0 (length steps)

unfoldable pub tableau_text : Source → List ℕ → ℕ → List ℕ → List ℕ
tableau_text S sizes question steps =
    bytes "digraph tableau {\n  ordering=out;\n  node [shape=box];\n  edge [arrowhead=none];\n" ++ (copies_text S sizes question steps ++ bytes "}\n")

-- of a file and a proof, which has at most 199 steps
unfoldable pub draw_text : Source → List ℕ → List ℕ
draw_text S steps = tableau_text S (sizes_in S.file) (question_in S.file) (take 199 steps)
