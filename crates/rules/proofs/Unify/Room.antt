-- A number that falls at every call of a comparison: room for more bindings, and the height of the left side under those that there are.
use lib.ListN.{length, length-append}
use mathlib.Core.List.{List, [], ◌∷◌, ◌++◌}
use mathlib.Core.Path.{◌≡◌, sym, ◌∙◌, ap}
use native.Mathlib.Nat.{mul-le-mul_right}
use native.Mathlib.Omega.{arith}
use Prim.Native.Nat.{ℕ, suc, ◌+◌, ◌-◌, ◌*◌, ◌≤◌, ◌<◌}
use Rattle.table.specs.Syntax.{Term, Terms, app, ◌then◌, under, unders}
use Rattle.rules.specs.Substitution.{Variable}
use Rattle.rules.specs.Machinery.Unify.{Bindings, solution, follow, made, unify, height, height_among, doubled}
use Rattle.rules.proofs.Unify.{unify_answers, unify_within}
use Rattle.rules.proofs.Unify.Enough.{Scope, scope_parts, scope_over, scope_height, few_bindings}
use Rattle.rules.proofs.Unify.Heights.{heights_under}
use Rattle.rules.proofs.Unify.Run.{Within}
use Rattle.rules.proofs.Unify.Solution.{Good, follow_solution}

-- for terms over the listed variables, up to a height
unfoldable pub room : List Variable → ℕ → Bindings → Terms Variable → ℕ
room vs h bs ss = (length vs - length bs) * suc (h + doubled (length vs) h) + height_among (unders (solution bs) ss)

module _ (vs : List Variable) (h : ℕ) (bs : Bindings) (good : Good bs) where
  pub room_head : (s : Term Variable) (ss : Terms Variable) (f : ℕ) (arguments : Terms Variable) → follow bs s ≡ app f arguments
      → room vs h bs arguments < room vs h bs (s then ss)
  unfolding room height under
  room_head s ss f arguments e =
      let p : height (under (solution bs) s) ≡ height_among (unders (solution bs) arguments) = ap height (sym (follow_solution bs s good) ∙ ap (under (solution bs)) e) in
      omega arith

  room-less : (new : Bindings) (s : Term Variable) (ss : Terms Variable) → Good (new ++ bs) → Within (Scope vs h) (new ++ bs) → height_among ss ≤ h
      → room vs h (new ++ bs) ss < room vs h bs (s then ss)
  unfolding room height under
  room-less [] s ss g w l = omega arith
  room-less (b ∷ new) s ss g w l =
      let bs' : Bindings = b ∷ new ++ bs in
      let few = few_bindings bs' vs g (scope_over vs h bs' w) in
      let low = heights_under ss (solution bs') (doubled (length vs) h) (scope_height vs h bs' g w) in
      let more = length-append new bs in
      let fewer : suc (length vs - length bs') ≤ length vs - length bs = omega arith in
      let product = mul-le-mul_right (suc (h + doubled (length vs) h)) fewer in
      omega arith

  pub room_tail : (s t : Term Variable) (ss : Terms Variable) → Within (Scope vs h) bs → Scope vs h s → Scope vs h t → height_among ss ≤ h
      → {bs' : Bindings} → unify bs s t ≡ made bs'
      → room vs h bs' ss < room vs h bs (s then ss)
  room_tail s t ss w qs qt l e =
      let (new, longer) = (unify_answers bs good s t).longer e in
      let g = (unify_answers bs good s t).good e in
      let w' = unify_within (Scope vs h) (scope_parts vs h) bs good w s t qs qt e in
      rw longer (room-less new s ss (rw longer at g) (rw longer at w') l)
