-- Graphviz text put together of parts, one law for each outcome, with premises as the code has them.
use mathlib.Core.Bool.{Bool, true, false}
use mathlib.Core.List.{List, [], ◌++◌}
use mathlib.Core.Path.{◌≡◌}
use Prim.Native.Nat.{ℕ, suc, ◌+◌, ◌-◌, ◌≤◌, ◌<◌}
use native.Mathlib.Numerals.{add-one}
use native.Mathlib.Omega.{arith}
use mir.Syntax.{w32}
use mir.Val.{Fits}
use lib.Dec.{eqb}
use lib.ListN.{length, take, get_or}
use Rattle.words.specs.Steps.{step_of}
use Rattle.words.specs.declared.Step.{Step}
use Rattle.words.specs.declared.Step.TheVariants.{Reduction, Extension, Restart, Malformed}
use Rattle.text.specs.Put.{Put}
use Rattle.text.specs.Quoted.{bytes}
use Rattle.text.specs.Digits.{decimal_text}
use Rattle.text.proofs.Putting.{Left, begin, further, finish, then as joined}
use Rattle.leaves.specs.Leaves.{leftmost, ancestor}
use Rattle.leaves.specs.Shown.{Source, sizes_in, question_in, literal_cut, name_cut}
use Rattle.leaves.specs.Bound.{copy_number, told_text}
use Rattle.drawing.specs.Graph.{node_text, label_text, literal_line, literal_lines, box_text, copy_text, stroke_text, between_text, line_text, lines_text, under_text, arrow_text, reduction_text, step_drawn, steps_drawn, copies_text, tableau_text, draw_text}
use Rattle.leaves.proofs.Showing.{no_bytes, take_within, sized_whole}
use Rattle.leaves.specs.declared.leaf.Leaf.{Leaf}
use Rattle.std.specs.Prelude.{Option, Some, None}

module _ {o₀ o₁ : List ℕ} {n₀ n₁ : ℕ} where
  pub stroke_bold : {b : Bool} → b ≡ true → Put o₀ n₀ (bytes " [style=bold];\n") o₁ n₁ → Put o₀ n₀ (stroke_text b) o₁ n₁
  unfolding stroke_text
  stroke_bold e p = rw e p

  pub stroke_plain : {b : Bool} → b ≡ false → Put o₀ n₀ (bytes ";\n") o₁ n₁ → Put o₀ n₀ (stroke_text b) o₁ n₁
  unfolding stroke_text
  stroke_plain e p = rw e p

  module _ {leaf : Option Leaf} where
    pub under_leaf : (below entered size : ℕ) {l : Leaf} → leaf ≡ Some l
        → Put o₀ n₀ (lines_text l.number l.literal below entered 0 size) o₁ n₁ → Put o₀ n₀ (under_text leaf below entered size) o₁ n₁
    unfolding under_text
    under_leaf below entered size e p = rw e p

    pub reduction_leaf : (to : Option Leaf) {l : Leaf} → leaf ≡ Some l → Put o₀ n₀ (arrow_text l.number l.literal to) o₁ n₁
        → Put o₀ n₀ (reduction_text leaf to) o₁ n₁
    unfolding reduction_text
    reduction_leaf to e p = rw e p

  module _ {o₂ : List ℕ} {n₂ : ℕ} where
    pub node_is : (number literal : ℕ) → Put o₀ n₀ (bytes "n" ++ decimal_text number) o₁ n₁ → Put o₁ n₁ (bytes "_" ++ decimal_text literal) o₂ n₂
        → Put o₀ n₀ (node_text number literal) o₂ n₂
    unfolding node_text
    node_is number literal p q = joined p q

    pub line_is : (number literal below entered other : ℕ) → Put o₀ n₀ (between_text number literal below other) o₁ n₁
        → Put o₁ n₁ (stroke_text (eqb other entered)) o₂ n₂ → Put o₀ n₀ (line_text number literal below entered other) o₂ n₂
    unfolding line_text
    line_is number literal below entered other p q = joined p q

    pub arrow_leaf : (number literal : ℕ) {to : Option Leaf} {l : Leaf} → to ≡ Some l → Put o₀ n₀ (between_text number literal l.number l.literal) o₁ n₁
        → Put o₁ n₁ (bytes " [style=dashed, arrowhead=normal, constraint=false];\n") o₂ n₂ → Put o₀ n₀ (arrow_text number literal to) o₂ n₂
    unfolding arrow_text
    arrow_leaf number literal e p q = rw e (joined p q)

    module _ {o₃ o₄ : List ℕ} {n₃ n₄ : ℕ} where
      pub between_is : (number literal below other : ℕ) → Put o₀ n₀ (bytes "  ") o₁ n₁ → Put o₁ n₁ (node_text number literal) o₂ n₂ → Put o₂ n₂ (bytes " -> ") o₃ n₃
          → Put o₃ n₃ (node_text below other) o₄ n₄ → Put o₀ n₀ (between_text number literal below other) o₄ n₄
      unfolding between_text
      between_is number literal below other p q r s = joined p (joined q (joined r s))

      pub box_is : (text index : List ℕ) (number clause : ℕ) → Put o₀ n₀ (bytes "  subgraph cluster_" ++ decimal_text number) o₁ n₁
          → Put o₁ n₁ (bytes " {\n    label=\"") o₂ n₂ → Put o₂ n₂ (name_cut text index clause) o₃ n₃ → Put o₃ n₃ (bytes "\";\n") o₄ n₄
          → Put o₀ n₀ (box_text text index number clause) o₄ n₄
      unfolding box_text
      box_is text index number clause p q r s = joined p (joined q (joined r s))

    module _ {o₃ : List ℕ} {n₃ : ℕ} where
      module _ {o₄ : List ℕ} {n₄ : ℕ} where
        pub label_is : (S : Source) (made clause literal : ℕ) → Put o₀ n₀ (bytes " [label=\"") o₁ n₁
            → Put o₁ n₁ (literal_cut S.text S.index S.file clause literal) o₂ n₂ → Put o₂ n₂ (told_text S (bytes "\\n") [] made clause literal) o₃ n₃
            → Put o₃ n₃ (bytes "\"];\n") o₄ n₄ → Put o₀ n₀ (label_text S made clause literal) o₄ n₄
        unfolding label_text
        label_is S made clause literal p q r s = joined p (joined q (joined r s))

      pub literal_line_is : (S : Source) (number made clause literal : ℕ) → Put o₀ n₀ (bytes "    ") o₁ n₁ → Put o₁ n₁ (node_text number literal) o₂ n₂
          → Put o₂ n₂ (label_text S made clause literal) o₃ n₃ → Put o₀ n₀ (literal_line S number made clause literal) o₃ n₃
      unfolding literal_line
      literal_line_is S number made clause literal p q r = joined p (joined q r)

      pub copy_is : (S : Source) (number made clause size : ℕ) → Put o₀ n₀ (box_text S.text S.index number clause) o₁ n₁
          → Put o₁ n₁ (literal_lines S number made clause 0 size) o₂ n₂ → Put o₂ n₂ (bytes "  }\n") o₃ n₃ → Put o₀ n₀ (copy_text S number made clause size) o₃ n₃
      unfolding copy_text
      copy_is S number made clause size p q r = joined p (joined q r)

      pub tableau_is : (S : Source) (sizes : List ℕ) (question : ℕ) (steps : List ℕ)
          → Put o₀ n₀ (bytes "digraph tableau {\n  ordering=out;\n  node [shape=box];\n  edge [arrowhead=none];\n") o₁ n₁
          → Put o₁ n₁ (copies_text S sizes question steps) o₂ n₂ → Put o₂ n₂ (bytes "}\n") o₃ n₃ → Put o₀ n₀ (tableau_text S sizes question steps) o₃ n₃
      unfolding tableau_text
      tableau_is S sizes question steps p q r = joined p (joined q r)

    pub copies_is : (S : Source) (sizes : List ℕ) (question : ℕ) (steps : List ℕ) {size : ℕ} → size ≡ get_or sizes question 0 → Put o₀ n₀ (copy_text S 0 0 question size) o₁ n₁
        → Put o₁ n₁ (steps_drawn S sizes question steps 0 (length steps)) o₂ n₂ → Put o₀ n₀ (copies_text S sizes question steps) o₂ n₂
    unfolding copies_text
    copies_is S sizes question steps e p q = joined (rw e at p) q

module _ (out : List ℕ) (at : ℕ) {leaf : Option Leaf} (e : leaf ≡ None) where
  pub under_none : (below entered size : ℕ) → Put out at (under_text leaf below entered size) out at
  unfolding under_text
  under_none below entered size = rw e (no_bytes out at)

  pub reduction_none : (to : Option Leaf) → Put out at (reduction_text leaf to) out at
  unfolding reduction_text
  reduction_none to = rw e (no_bytes out at)

  pub arrow_none : (number literal : ℕ) → Put out at (arrow_text number literal leaf) out at
  unfolding arrow_text
  arrow_none number literal = rw e (no_bytes out at)

pub ruleset stroke_laws = (stroke_bold, stroke_plain)

pub ruleset under_laws = (under_leaf, under_none)

pub ruleset reduction_laws = (reduction_leaf, reduction_none)

pub ruleset arrow_laws = (arrow_leaf, arrow_none)

-- the literals of a copy
pub record Boxing (S : Source) (number made clause size : ℕ) (first : List ℕ) (from : ℕ) (out : List ℕ) (at literal : ℕ) : Type 0 where
  pub low : literal ≤ size
  pub left : Left first from (literal_lines S number made clause 0 size) out at (literal_lines S number made clause literal (size - literal))

pub box_begin : (S : Source) (number made clause size : ℕ) (first : List ℕ) (from : ℕ) → Boxing S number made clause size first from first from 0
box_begin S number made clause size first from = let z : size - 0 ≡ size = omega arith in record { low = omega arith; left = rw z (begin first from (literal_lines S number made clause 0 size)) }

module _ {S : Source} {number made clause size : ℕ} {first : List ℕ} {from : ℕ} {out : List ℕ} {at literal : ℕ} (g : Boxing S number made clause size first from out at literal) where
  pub box_over : size ≤ literal → Put first from (literal_lines S number made clause 0 size) out at
  unfolding literal_lines
  box_over h = let z : size - literal ≡ 0 = omega (arith, h) in finish (rw z at g.left)

  pub box_on : literal < size → {out' : List ℕ} {at' : ℕ} → Put out at (literal_line S number made clause literal) out' at'
      → Boxing S number made clause size first from out' at' (literal + 1)
  unfolding literal_lines
  box_on h {out'} {at'} p = record {
    low = omega arith;
    left = further (literal_line S number made clause literal) (literal_lines S number made clause (literal + 1) (size - (literal + 1))) (turned (size - (literal + 1)) (omega (arith, h))) p;
  }
    where
      turned : (k : ℕ) → size - literal ≡ suc k → Left first from (literal_lines S number made clause 0 size) out at (literal_line S number made clause literal ++ literal_lines S number made clause (literal + 1) k)
      turned k z = rw add-one (rw z at g.left)

-- the lines to a copy
pub record Lining (number literal below entered size : ℕ) (first : List ℕ) (from : ℕ) (out : List ℕ) (at other : ℕ) : Type 0 where
  pub low : other ≤ size
  pub left : Left first from (lines_text number literal below entered 0 size) out at (lines_text number literal below entered other (size - other))

pub lining_begin : (number literal below entered size : ℕ) (first : List ℕ) (from : ℕ) → Lining number literal below entered size first from first from 0
lining_begin number literal below entered size first from = let z : size - 0 ≡ size = omega arith in record { low = omega arith; left = rw z (begin first from (lines_text number literal below entered 0 size)) }

module _ {number literal below entered size : ℕ} {first : List ℕ} {from : ℕ} {out : List ℕ} {at other : ℕ} (g : Lining number literal below entered size first from out at other) where
  pub lining_over : size ≤ other → Put first from (lines_text number literal below entered 0 size) out at
  unfolding lines_text
  lining_over h = let z : size - other ≡ 0 = omega (arith, h) in finish (rw z at g.left)

  pub lining_on : other < size → {out' : List ℕ} {at' : ℕ} → Put out at (line_text number literal below entered other) out' at'
      → Lining number literal below entered size first from out' at' (other + 1)
  unfolding lines_text
  lining_on h {out'} {at'} p = record {
    low = omega arith;
    left = further (line_text number literal below entered other) (lines_text number literal below entered (other + 1) (size - (other + 1))) (turned (size - (other + 1)) (omega (arith, h))) p;
  }
    where
      turned : (k : ℕ) → size - other ≡ suc k
          → Left first from (lines_text number literal below entered 0 size) out at (line_text number literal below entered other ++ lines_text number literal below entered (other + 1) k)
      turned k z = rw add-one (rw z at g.left)

pub ruleset lining_laws = (lining_begin, lining_over, lining_on)

-- a step
module _ (S : Source) (sizes : List ℕ) (question : ℕ) (steps : List ℕ) (done : ℕ) {w : ℕ} (ew : w ≡ get_or steps done 0) {s : Step} (es : s ≡ step_of w) {leaf : Option Leaf} (el : leaf ≡ leftmost sizes question steps done) {out left : List ℕ} {from end : ℕ} where
  pub drawn_reduction : {height : ℕ} → s ≡ Reduction height → {to : Option Leaf} → to ≡ ancestor sizes question steps height leaf → Put out from (reduction_text leaf to) left end
      → Put out from (step_drawn S sizes question steps done (step_of (get_or steps done 0))) left end
  unfolding step_drawn
  drawn_reduction k et p = rw (← ew, ← es, k, ← el, ← et) p

  pub drawn_extension : {i j : ℕ} → s ≡ Extension i j → {size : ℕ} → size ≡ get_or sizes i 0 → {made : ℕ} → made ≡ copy_number steps (done + 1)
      → Put out from (copy_text S (done + 1) made i size ++ under_text leaf (done + 1) j size) left end
      → Put out from (step_drawn S sizes question steps done (step_of (get_or steps done 0))) left end
  unfolding step_drawn
  drawn_extension k ez em p = rw (← ew, ← es, k, ← el, ← ez) (rw (em, add-one) at p)

module _ (S : Source) (sizes : List ℕ) (question : ℕ) (steps : List ℕ) (done : ℕ) {w : ℕ} (ew : w ≡ get_or steps done 0) {s : Step} (es : s ≡ step_of w) (out : List ℕ) (from : ℕ) where
  pub drawn_restart : s ≡ Restart → Put out from (step_drawn S sizes question steps done (step_of (get_or steps done 0))) out from
  unfolding step_drawn
  drawn_restart k = rw (← ew, ← es, k) (no_bytes out from)

  pub drawn_malformed : s ≡ Malformed → Put out from (step_drawn S sizes question steps done (step_of (get_or steps done 0))) out from
  unfolding step_drawn
  drawn_malformed k = rw (← ew, ← es, k) (no_bytes out from)

pub next_fits : {done : ℕ} → done < 4294967295 → Fits w32 (done + 1)
next_fits h = record { fits = omega arith }

pub ruleset drawn_laws = (drawn_reduction, drawn_extension, drawn_restart, drawn_malformed, next_fits)

-- the steps
pub record Drawing (S : Source) (sizes : List ℕ) (question : ℕ) (steps : List ℕ) (first : List ℕ) (from : ℕ) (out : List ℕ) (at done : ℕ) : Type 0 where
  pub low : done ≤ length steps
  pub left : Left first from (steps_drawn S sizes question steps 0 (length steps)) out at (steps_drawn S sizes question steps done (length steps - done))

pub drawing_begin : (S : Source) (sizes : List ℕ) (question : ℕ) (steps first : List ℕ) (from : ℕ) → Drawing S sizes question steps first from first from 0
drawing_begin S sizes question steps first from = let z : length steps - 0 ≡ length steps = omega arith in record { low = omega arith; left = rw z (begin first from (steps_drawn S sizes question steps 0 (length steps))) }

module _ {S : Source} {sizes : List ℕ} {question : ℕ} {steps first : List ℕ} {from : ℕ} {out : List ℕ} {at done : ℕ} (g : Drawing S sizes question steps first from out at done) where
  pub drawing_over : length steps ≤ done → Put first from (steps_drawn S sizes question steps 0 (length steps)) out at
  unfolding steps_drawn
  drawing_over h = let z : length steps - done ≡ 0 = omega (arith, h) in finish (rw z at g.left)

  pub drawing_on : done < length steps → {out' : List ℕ} {at' : ℕ} → Put out at (step_drawn S sizes question steps done (step_of (get_or steps done 0))) out' at'
      → Drawing S sizes question steps first from out' at' (done + 1)
  unfolding steps_drawn
  drawing_on h {out'} {at'} p = record {
    low = omega (arith, h);
    left = further (step_drawn S sizes question steps done (step_of (get_or steps done 0))) (steps_drawn S sizes question steps (done + 1) (length steps - (done + 1))) (turned (length steps - (done + 1)) (omega (arith, h))) p;
  }
    where
      turned : (k : ℕ) → length steps - done ≡ suc k
          → Left first from (steps_drawn S sizes question steps 0 (length steps)) out at (step_drawn S sizes question steps done (step_of (get_or steps done 0)) ++ steps_drawn S sizes question steps (done + 1) k)
      turned k z = rw add-one (rw z at g.left)

pub few_steps : {i n : ℕ} → i < n → n ≤ 199 → Fits w32 i
few_steps h k = record { fits = omega arith }

pub low_step : {i n : ℕ} → i < n → n ≤ 199 → i < 4294967295
low_step h k = omega arith

pub draw_is : (S : Source) (steps : List ℕ) {first sizes : List ℕ} {r : ℕ} → length first ≡ 512 → Put first 0 (sizes_in S.file) sizes r → {question : ℕ} → question ≡ question_in S.file → {own : List ℕ} → own ≡ take 199 steps
    → {o₀ o₁ : List ℕ} {n₀ n₁ : ℕ} → Put o₀ n₀ (tableau_text S sizes question own) o₁ n₁ → Put o₀ n₀ (draw_text S steps) o₁ n₁
unfolding draw_text
draw_is S steps h s eq eo p = rw (sized_whole S.file h s, eq, eo) at p

pub few_own : (steps : List ℕ) {own : List ℕ} → own ≡ take 199 steps → length own ≤ 199
few_own steps e = rw e (take_within 199 steps)

pub ruleset draw_laws = (draw_is, few_own)
