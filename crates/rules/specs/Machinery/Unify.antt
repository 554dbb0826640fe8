-- Machinery: how a most general solution is computed. No demand is stated by it; proofs/Unify.antt shows that it finds one exactly where one exists.
use Rattle.std.specs.Prelude.{eqb, length, Bool, true, false, cond, ◌&&◌, ◌||◌, List, [], ◌∷◌, ◌++◌, ℕ, zero, suc, ◌+◌, max}
use Rattle.table.specs.Syntax.{Term, Terms, var, app, nil, ◌then◌, arity, under}
use Rattle.rules.specs.Substitution.{Variable, same_variable, Substitution, Pair}

pub record Binding : Type 0 where
  pub variable : Variable
  pub value : Term Variable

-- newest first
abbrev pub Bindings : Type 0
Bindings = List Binding

-- a term in place of one variable
unfoldable pub replace : Variable → Term Variable → Substitution
replace x t y = cond (same_variable x y) t (var y)

-- the substitution that bindings stand for
unfoldable pub solution : Bindings → Substitution
solution [] x = var x
solution (b ∷ bs) x = under (replace b.variable (under (solution bs) b.value)) (solution bs x)

-- a term, with its variable followed through the bindings to a variable that is free, or to a function or constant
unfoldable pub through : Binding → Term Variable → Term Variable
through b (var x) = cond (same_variable b.variable x) b.value (var x)
through b (app f ts) = app f ts

unfoldable pub follow : Bindings → Term Variable → Term Variable
follow [] t = t
follow (b ∷ bs) t = through b (follow bs t)

-- a variable occurs in a term
unfoldable mutual
  pub occurs : Variable → Term Variable → Bool
  occurs x (var y) = same_variable x y
  occurs x (app f ts) = occurs_among x ts

  pub occurs_among : Variable → Terms Variable → Bool
  occurs_among x nil = false
  occurs_among x (t then ts) = occurs x t || occurs_among x ts

-- Two terms are made equal by more bindings; or two symbols differ; or a variable would hold itself.
pub data Unified : Type 0 where
  made : Bindings → Unified
  clash : Unified
  circle : Unified

unfoldable pub after : Unified → (Bindings → Unified) → Unified
after (made bs) next = next bs
after clash next = clash
after circle next = circle

-- a free variable is bound, unless it occurs in the term under the bindings
unfoldable pub unless_occurs : Bool → Binding → Bindings → Unified
unless_occurs true b bs = circle
unless_occurs false b bs = made (b ∷ bs)

unfoldable pub bind : Bindings → Variable → Term Variable → Unified
bind bs x t = unless_occurs (occurs x (under (solution bs) t)) (record { variable = x; value = t }) bs

unfoldable pub unless_same : Bool → Bindings → Variable → Variable → Unified
unless_same true bs x y = made bs
unless_same false bs x y = bind bs y (var x)

-- number and arity together name a symbol
unfoldable pub same_symbol : ℕ → Terms Variable → ℕ → Terms Variable → Bool
same_symbol f ss g ts = eqb f g && eqb (arity ss) (arity ts)

abbrev pub Compare : Type 0
Compare = Bindings → Terms Variable → Terms Variable → Unified

unfoldable pub if_same : Bool → Compare → Compare
if_same true arguments bs ss ts = arguments bs ss ts
if_same false arguments bs ss ts = clash

-- two terms that have been followed, the right variable bound before the left, and arguments compared by what is given
unfoldable pub meet_by : Compare → Bindings → Term Variable → Term Variable → Unified
meet_by arguments bs (var x) (var y) = unless_same (same_variable x y) bs x y
meet_by arguments bs (app f ss) (var y) = bind bs y (app f ss)
meet_by arguments bs (var x) (app g ts) = bind bs x (app g ts)
meet_by arguments bs (app f ss) (app g ts) = if_same (same_symbol f ss g ts) arguments bs ss ts

-- arguments, left to right and depth first
unfoldable pub each_by : Compare → Compare
each_by arguments bs nil nil = made bs
each_by arguments bs nil (t then ts) = clash
each_by arguments bs (s then ss) nil = clash
each_by arguments bs (s then ss) (t then ts) =
    after (meet_by arguments bs (follow bs s) (follow bs t)) (λ bs'. arguments bs' ss ts)

-- no deeper than so many calls; the depth that is given below is never used up
unfoldable pub compare_within : ℕ → Compare
compare_within zero bs ss ts = circle
compare_within (suc n) bs ss ts = each_by (λ bs' ss' ts'. compare_within n bs' ss' ts') bs ss ts

-- How deep a comparison can go: how high a term can grow under bindings of these variables to terms of this height.
unfoldable mutual
  pub height : Term Variable → ℕ
  height (var x) = zero
  height (app f ts) = height_among ts

  pub height_among : Terms Variable → ℕ
  height_among nil = zero
  height_among (t then ts) = suc (max (height t) (height_among ts))

unfoldable mutual
  pub variables : Term Variable → List Variable
  variables (var x) = x ∷ []
  variables (app f ts) = variables_among ts

  pub variables_among : Terms Variable → List Variable
  variables_among nil = []
  variables_among (t then ts) = variables t ++ variables_among ts

unfoldable pub height_of : Bindings → ℕ
height_of [] = zero
height_of (b ∷ bs) = height b.value + height_of bs

unfoldable pub variables_of : Bindings → List Variable
variables_of [] = []
variables_of (b ∷ bs) = b.variable ∷ variables b.value ++ variables_of bs

unfoldable pub doubled : ℕ → ℕ → ℕ
doubled zero h = h
doubled (suc n) h = doubled n h + doubled n h

unfoldable pub enough : Bindings → Terms Variable → Terms Variable → ℕ
enough bs ss ts =
    let vs = variables_of bs ++ (variables_among ss ++ variables_among ts) in
    height_among ss + doubled (length vs) (height_of bs + height_among ss + height_among ts)

-- two argument lists
unfoldable pub unifies : Compare
unifies bs ss ts = compare_within (suc (enough bs ss ts)) bs ss ts

-- two terms that have been followed
unfoldable pub meet : Bindings → Term Variable → Term Variable → Unified
meet bs s t = meet_by unifies bs s t

-- two terms
unfoldable pub unify : Bindings → Term Variable → Term Variable → Unified
unify bs s t = meet bs (follow bs s) (follow bs t)

-- pairs, one after another
unfoldable pub unify_pairs : Bindings → List Pair → Unified
unify_pairs bs [] = made bs
unify_pairs bs (p ∷ ps) = after (unify bs p.left p.right) (λ bs'. unify_pairs bs' ps)
