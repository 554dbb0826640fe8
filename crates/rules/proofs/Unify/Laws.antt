-- The laws by which unification computes, one for each outcome; how deep a comparison may go does not show in them.
use borrow.Author.Tests.{eq-eqb, ne_eqb}
use lib.Dec.{eqb}
use mathlib.Core.Bool.{Bool, true, false, ◌&&◌, and-false}
use mathlib.Core.List.{List, [], ◌∷◌, ◌++◌}
use mathlib.Core.Path.{◌≡◌, refl, sym, ◌∙◌, ap, ap₂, subst, fun_ext}
use native.Mathlib.Omega.{arith}
use Prim.Native.Nat.{ℕ, suc, ◌+◌, ◌<◌}
use Rattle.table.specs.Syntax.{Term, Terms, var, app, nil, ◌then◌, arity, under}
use Rattle.rules.specs.Substitution.{Variable, Pair, same_variable}
use Rattle.rules.specs.Machinery.Unify.{Bindings, solution, follow, occurs, Unified, made, clash, circle, after, unless_occurs, bind, unless_same, same_symbol, if_same, meet_by, each_by, compare_within, enough, unifies, meet, unify, unify_pairs}
use Rattle.rules.proofs.Unify.Tests.{same_refl, differ}
use Rattle.rules.proofs.Unify.Solution.{Good, is_bound, Followed, follow_followed}
use Rattle.rules.proofs.Unify.Following.{occurs_free}
use Rattle.rules.proofs.Unify.Run.{Property, Within, Each, Hereditary, Fits, compare_right, deeper, each_same}
use Rattle.rules.proofs.Unify.Enough.{Problem, problem_parts, problem_bindings, problem_left, problem_right, problem_fits}

-- more depth than is needed changes nothing
pub ends : (n : ℕ) (bs : Bindings) (ss ts : Terms Variable) → Good bs → enough bs ss ts < n → unifies bs ss ts ≡ compare_within n bs ss ts
unfolding unifies
ends n bs ss ts g l =
    deeper
    (Problem bs ss ts)
    (problem_parts bs ss ts)
    (suc (enough bs ss ts))
    n
    l
    bs
    ss
    ts
    g
    (problem_bindings bs ss ts)
    (problem_left bs ss ts)
    (problem_right bs ss ts)
    (problem_fits bs ss ts)

settled : (Q : Property) → Hereditary Q → (n : ℕ) (bs : Bindings) (ss ts : Terms Variable) → Good bs → Within Q bs → Each Q ss → Each Q ts
    → Fits Q n bs ss
    → compare_within n bs ss ts ≡ unifies bs ss ts
settled Q parts n bs ss ts g w qs qt fits =
    let m = n + suc (enough bs ss ts) in
    deeper Q parts n m (omega arith) bs ss ts g w qs qt fits ∙ sym (ends m bs ss ts g (omega arith))

-- argument lists
pub unifies_nil : (bs : Bindings) → unifies bs nil nil ≡ made bs
unfolding unifies compare_within each_by
unifies_nil bs = refl

pub unifies_longer : (bs : Bindings) (t : Term Variable) (ts : Terms Variable) → unifies bs nil (t then ts) ≡ clash
unfolding unifies compare_within each_by
unifies_longer bs t ts = refl

pub unifies_shorter : (bs : Bindings) (s : Term Variable) (ss : Terms Variable) → unifies bs (s then ss) nil ≡ clash
unfolding unifies compare_within each_by
unifies_shorter bs s ss = refl

pub unifies_then : (bs : Bindings) (s t : Term Variable) (ss ts : Terms Variable) → Good bs
    → unifies bs (s then ss) (t then ts) ≡ after (unify bs s t) (λ bs'. unifies bs' ss ts)
unfolding unifies compare_within each_by unify meet
unifies_then bs s t ss ts g =
    each_same
    Q
    parts
    n
    (compare_within n)
    unifies
    (settled Q parts n)
    (compare_right Q parts n)
    bs
    (s then ss)
    (t then ts)
    g
    (problem_bindings bs (s then ss) (t then ts))
    (problem_left bs (s then ss) (t then ts))
    (problem_right bs (s then ss) (t then ts))
    (problem_fits bs (s then ss) (t then ts))
  where
    n : ℕ
    n = enough bs (s then ss) (t then ts)

    Q : Property
    Q = Problem bs (s then ss) (t then ts)

    parts : Hereditary Q
    parts = problem_parts bs (s then ss) (t then ts)

-- a variable is bound
pub bind_made : (bs : Bindings) (x : Variable) (t : Term Variable) → occurs x (under (solution bs) t) ≡ false
    → bind bs x t ≡ made (record { variable = x; value = t } ∷ bs)
unfolding bind unless_occurs
bind_made bs x t e = ap (λ (c : Bool). unless_occurs c (record { variable = x; value = t }) bs) e

pub bind_circle : (bs : Bindings) (x : Variable) (t : Term Variable) → occurs x (under (solution bs) t) ≡ true → bind bs x t ≡ circle
unfolding bind unless_occurs
bind_circle bs x t e = ap (λ (c : Bool). unless_occurs c (record { variable = x; value = t }) bs) e

-- two terms that were followed
pub meet_same : (bs : Bindings) (x : Variable) → meet bs (var x) (var x) ≡ made bs
unfolding meet meet_by unless_same
meet_same bs x = ap (λ (c : Bool). unless_same c bs x x) (same_refl x)

pub meet_variables : (bs : Bindings) (x y : Variable) → same_variable x y ≡ false → meet bs (var x) (var y) ≡ bind bs y (var x)
unfolding meet meet_by unless_same
meet_variables bs x y e = ap (λ (c : Bool). unless_same c bs x y) e

pub meet_right : (bs : Bindings) (f : ℕ) (ss : Terms Variable) (y : Variable) → meet bs (app f ss) (var y) ≡ bind bs y (app f ss)
unfolding meet meet_by
meet_right bs f ss y = refl

pub meet_left : (bs : Bindings) (x : Variable) (g : ℕ) (ts : Terms Variable) → meet bs (var x) (app g ts) ≡ bind bs x (app g ts)
unfolding meet meet_by
meet_left bs x g ts = refl

pub meet_applied_lem : (bs : Bindings) (f g : ℕ) (ss ts : Terms Variable) → f ≡ g → arity ss ≡ arity ts
    → meet bs (app f ss) (app g ts) ≡ unifies bs ss ts
unfolding meet meet_by same_symbol if_same
meet_applied_lem bs f g ss ts p q =
    ap (λ (c : Bool). if_same c unifies bs ss ts) (ap₂ ◌&&◌ (eq-eqb f g p) (eq-eqb (arity ss) (arity ts) q))

meet_differs : (bs : Bindings) (f g : ℕ) (ss ts : Terms Variable) → same_symbol f ss g ts ≡ false → meet bs (app f ss) (app g ts) ≡ clash
unfolding meet meet_by if_same
meet_differs bs f g ss ts e = ap (λ (c : Bool). if_same c unifies bs ss ts) e

pub meet_clash : (bs : Bindings) (f g : ℕ) (ss ts : Terms Variable) → (f ≡ g → ⊥) → meet bs (app f ss) (app g ts) ≡ clash
unfolding same_symbol
meet_clash bs f g ss ts h = meet_differs bs f g ss ts (ap (λ (c : Bool). c && eqb (arity ss) (arity ts)) (ne_eqb f g h))

pub meet_arity : (bs : Bindings) (f g : ℕ) (ss ts : Terms Variable) → (arity ss ≡ arity ts → ⊥) → meet bs (app f ss) (app g ts) ≡ clash
unfolding same_symbol
meet_arity bs f g ss ts h =
    meet_differs bs f g ss ts (ap (eqb f g &&◌) (ne_eqb (arity ss) (arity ts) h) ∙ and-false (eqb f g))

-- two terms
pub unify_followed : (bs : Bindings) (s t : Term Variable) → unify bs s t ≡ meet bs (follow bs s) (follow bs t)
unfolding unify
unify_followed bs s t = refl

module _ (bs : Bindings) (s t : Term Variable) where
  unify-meets : (s' t' : Term Variable) → follow bs s ≡ s' → follow bs t ≡ t' → unify bs s t ≡ meet bs s' t'
  unfolding unify
  unify-meets s' t' p q = ap₂ (meet bs) p q

  pub unify_same : (x : Variable) → follow bs s ≡ var x → follow bs t ≡ var x → unify bs s t ≡ made bs
  unify_same x p q = unify-meets (var x) (var x) p q ∙ meet_same bs x

  -- the right variable is bound first
  pub unify_right : (u : Term Variable) (y : Variable) → follow bs s ≡ u → follow bs t ≡ var y → (u ≡ var y → ⊥) → unify bs s t ≡ bind bs y u
  unify_right (var x) y p q d = unify-meets (var x) (var y) p q ∙ meet_variables bs x y (differ x y (λ e. d (ap var e)))
  unify_right (app f ss) y p q d = unify-meets (app f ss) (var y) p q ∙ meet_right bs f ss y

  pub unify_variables : (x y : Variable) → Good bs → follow bs s ≡ var x → follow bs t ≡ var y → (x ≡ y → ⊥)
      → unify bs s t ≡ made (record { variable = y; value = var x } ∷ bs)
  unfolding Followed
  unify_variables x y g p q d =
      let free : is_bound bs x ≡ false = subst (Followed bs) p (follow_followed bs g s) in
      unify_right (var x) y p q (λ (e : var x ≡ var y). d (cc))
      ∙ bind_made bs y (var x) (occurs_free bs y x free ∙ differ y x (λ e. d (sym e)))

  pub unify_left : (x : Variable) (g : ℕ) (ts : Terms Variable) → follow bs s ≡ var x → follow bs t ≡ app g ts → unify bs s t ≡ bind bs x (app g ts)
  unify_left x g ts p q = unify-meets (var x) (app g ts) p q ∙ meet_left bs x g ts

  pub unify_applied : (f g : ℕ) (ss ts : Terms Variable) → follow bs s ≡ app f ss → follow bs t ≡ app g ts → f ≡ g → arity ss ≡ arity ts
      → unify bs s t ≡ unifies bs ss ts
  unify_applied f g ss ts p q e a = unify-meets (app f ss) (app g ts) p q ∙ meet_applied_lem bs f g ss ts e a

  pub unify_clash : (f g : ℕ) (ss ts : Terms Variable) → follow bs s ≡ app f ss → follow bs t ≡ app g ts → (f ≡ g → ⊥) → unify bs s t ≡ clash
  unify_clash f g ss ts p q d = unify-meets (app f ss) (app g ts) p q ∙ meet_clash bs f g ss ts d

  pub unify_arity : (f g : ℕ) (ss ts : Terms Variable) → follow bs s ≡ app f ss → follow bs t ≡ app g ts → (arity ss ≡ arity ts → ⊥)
      → unify bs s t ≡ clash
  unify_arity f g ss ts p q d = unify-meets (app f ss) (app g ts) p q ∙ meet_arity bs f g ss ts d

-- a term by itself is a list of one
after_made : (r : Unified) → after r made ≡ r
unfolding after
after_made (made bs) = refl
after_made clash = refl
after_made circle = refl

pub unify_one : (bs : Bindings) (s t : Term Variable) → Good bs → unifies bs (s then nil) (t then nil) ≡ unify bs s t
unify_one bs s t g =
    unifies_then bs s t nil nil g ∙ ap (after (unify bs s t)) (fun_ext unifies_nil) ∙ after_made (unify bs s t)

-- pairs, one after another
after_after : (r : Unified) (next then' : Bindings → Unified) → after (after r next) then' ≡ after r (λ bs. after (next bs) then')
unfolding after
after_after (made bs) next then' = refl
after_after clash next then' = refl
after_after circle next then' = refl

pub pairs_append : (ps qs : List Pair) (bs : Bindings) → unify_pairs bs (ps ++ qs) ≡ after (unify_pairs bs ps) (λ bs'. unify_pairs bs' qs)
unfolding unify_pairs after
pairs_append [] qs bs = refl
pairs_append (p ∷ ps) qs bs =
    ap (after (unify bs p.left p.right)) (fun_ext (pairs_append ps qs))
    ∙ sym (after_after (unify bs p.left p.right) (λ bs'. unify_pairs bs' ps) (λ bs'. unify_pairs bs' qs))
