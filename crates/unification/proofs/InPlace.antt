-- Lists of terms made equal, with the arguments of two applications of one symbol in their places.
use mathlib.Core.Path.{◌≡◌, refl, sym, ◌∙◌, ap}
use native.Mathlib.Nat.{suc-add, zero-add}
use native.Mathlib.Omega.{arith}
use Prim.Native.Nat.{ℕ, zero, suc, ◌+◌}
use Rattle.table.specs.Syntax.{Terms, app, nil, ◌then◌, arity}
use Rattle.table.specs.Decode.{first, rest}
use Rattle.rules.specs.Substitution.{Variable}
use Rattle.rules.specs.Machinery.Unify.{Bindings, Unified, made, clash, circle, after, unify, unifies}
use Rattle.rules.proofs.Unify.{unify_answers}
use Rattle.rules.proofs.Unify.Laws.{unifies_nil, unifies_then, unify_applied}
use Rattle.rules.proofs.Unify.Solution.{Good, follow_app}
use Rattle.unification.proofs.TermLists.{first_nil}

-- the first terms, and then the others
unifies_first : (a k : ℕ) (ss ts : Terms Variable) (bs : Bindings) → Good bs → arity (first a ss) ≡ arity (first a ts)
    → unifies bs (first (a + k) ss) (first (a + k) ts) ≡ after (unifies bs (first a ss) (first a ts)) (λ bs'. unifies bs' (first k (rest a ss)) (first k (rest a ts)))
unfolding first rest arity after
unifies_first zero k ss ts bs g h = rw (zero-add, unifies_nil)
unifies_first (suc a) k nil nil bs g h = rw (suc-add, unifies_nil, first_nil {X = Variable} k) (sym (unifies_nil bs))
unifies_first (suc a) k nil (t then ts) bs g h = absurd (omega arith)
unifies_first (suc a) k (s then ss) nil bs g h = absurd (omega arith)
unifies_first (suc a) k (s then ss) (t then ts) bs g h =
    rw (suc-add, unifies_then bs s t (first (a + k) ss) (first (a + k) ts) g, unifies_then bs s t (first a ss) (first a ts) g)
    (go (unify bs s t) (λ bs' e. unifies_first a k ss ts bs' ((unify_answers bs g s t).good e) (omega arith)))
  where
    go : (u : Unified)
        → ((bs' : Bindings) → u ≡ made bs'
        → unifies bs' (first (a + k) ss) (first (a + k) ts)
        ≡ after (unifies bs' (first a ss) (first a ts)) (λ bs'. unifies bs' (first k (rest a ss)) (first k (rest a ts))))
        → after u (λ bs'. unifies bs' (first (a + k) ss) (first (a + k) ts))
        ≡ after (after u (λ bs'. unifies bs' (first a ss) (first a ts))) (λ bs'. unifies bs' (first k (rest a ss)) (first k (rest a ts)))
    go (made bs') e = e bs' refl
    go clash e = refl
    go circle e = refl

pub unifies_in_place : (f a k : ℕ) (ss ts : Terms Variable) (bs : Bindings) → Good bs → arity (first a ss) ≡ arity (first a ts)
    → unifies bs (app f (first a ss) then first k (rest a ss)) (app f (first a ts) then first k (rest a ts)) ≡ unifies bs (first (a + k) ss) (first (a + k) ts)
unifies_in_place f a k ss ts bs g h =
    unifies_then bs _ _ _ _ g
    ∙ ap
    (λ (u : Unified). after u (λ bs'. unifies bs' (first k (rest a ss)) (first k (rest a ts))))
    (unify_applied bs _ _ f f _ _ (follow_app bs _ _) (follow_app bs _ _) refl h)
    ∙ sym (unifies_first a k ss ts bs g h)
