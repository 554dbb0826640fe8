-- What the machinery's comparison says is what order 5's relation says.
use borrow.Author.Tests.{eqb-true, eq-eqb}
use lib.Dec.{eqb}
use mathlib.Core.Bool.{Bool, true, false, ◌&&◌}
use mathlib.Core.List.{List, [], ◌∷◌}
use mathlib.Core.Path.{◌≡◌, refl, sym, ◌∙◌, ap, ap₂, subst}
use native.Mathlib.Omega.{arith}
use Prim.Native.Nat.{ℕ, zero, suc}
use Rattle.table.specs.Syntax.{Term, Terms, var, app, nil, ◌then◌, arity, under, unders}
use Rattle.rules.specs.Substitution.{Variable, Substitution, same_variable, Pair, Solves, Unifiable, MostGeneral}
use Rattle.rules.specs.Comparison.{Reason, a_clash, a_circle, symbols, held_by_left, Fails, this_pair, inside, FailsAmong, in_first, in_rest, NewestFails, newest_fails}
use Rattle.rules.specs.ComparisonPromises as Promises
use Rattle.rules.specs.Machinery.Unify.{Binding, Bindings, solution, follow, occurs, Unified, made, clash, circle, after, unless_occurs, bind, unless_same, same_symbol, Compare, if_same, meet_by, each_by, compare_within, height, unifies, unify, enough}
use Rattle.rules.proofs.Substitution.{sames, under_under, unders_unders, under_var, arity_unders}
use Rattle.rules.proofs.Unify.Tests.{and_right, same_sym, never}
use Rattle.rules.proofs.Unify.Solution.{Satisfies, Good, Followed, is_bound, follow_followed, follow_solution, follow_under, unbound_solution, general, general_under, solution_satisfies, satisfied_instance}
use Rattle.rules.proofs.Unify.Following.{occurs_free}
use Rattle.rules.proofs.Unify.Run.{Property, Within, Each, Hereditary, EqualTerms, Grown, Right, Fits, FitsTerm, Correct, symbol_same, not_lt_zero, follow_within, fits_head, fits_tail, head_right, compare_right}
use Rattle.rules.proofs.Unify.Enough.{Problem, problem_parts, problem_bindings, problem_left, problem_right, problem_fits}
use Rattle.rules.proofs.Unify.Laws.{unify_one}
use Rattle.rules.proofs.Unify.{Stands, stands_general, stands_unifiable, stands_none, stands_more, made_unifiable, pairs_stand}
use Rattle.rules.proofs.Comparison.{pair, solves_pair, pair_solved, instances, general_exists, occur_hold, among_moved, alike, alone, one_reason, either_side, newest_before, newest_not_unifiable, any_bindings}

-- an outcome, by what fails under the bindings
unfoldable ToldTerms : Bindings → Term Variable → Term Variable → Unified → Type 0
ToldTerms bs s t (made bs') = Unit {0}
ToldTerms bs s t clash = Fails (under (solution bs) s) (under (solution bs) t) a_clash
ToldTerms bs s t circle = Fails (under (solution bs) s) (under (solution bs) t) a_circle

unfoldable ToldArguments : Bindings → Terms Variable → Terms Variable → Unified → Type 0
ToldArguments bs ss ts (made bs') = Unit {0}
ToldArguments bs ss ts clash = FailsAmong (unders (solution bs) ss) (unders (solution bs) ts) a_clash
ToldArguments bs ss ts circle = FailsAmong (unders (solution bs) ss) (unders (solution bs) ts) a_circle

-- a free variable against an application
bind_right_told : (bs : Bindings) (y : Variable) (f : ℕ) (ss : Terms Variable) → is_bound bs y ≡ false → ToldTerms bs (app f ss) (var y) (bind bs y (app f ss))
unfolding bind unless_occurs ToldTerms under occurs
bind_right_told bs y f ss free = go (occurs y (under (solution bs) (app f ss))) refl
  where
    b : Binding
    b = record { variable = y; value = app f ss }

    go : (c : Bool) → occurs y (under (solution bs) (app f ss)) ≡ c → ToldTerms bs (app f ss) (var y) (unless_occurs c b bs)
    go true o =
        subst
        (λ u. Fails (app f (unders (solution bs) ss)) u a_circle)
        (sym (unbound_solution bs y free))
        (this_pair (held_by_left (occur_hold (unders (solution bs) ss) y o)))
    go false o = tt

told_turned : (bs : Bindings) (s t : Term Variable) (r : Unified) → ToldTerms bs s t r → ToldTerms bs t s r
unfolding ToldTerms
told_turned bs s t (made bs') h = tt
told_turned bs s t clash h = either_side _ _ a_clash h
told_turned bs s t circle h = either_side _ _ a_circle h

bind_left_told : (bs : Bindings) (x : Variable) (g : ℕ) (ts : Terms Variable) → is_bound bs x ≡ false → ToldTerms bs (var x) (app g ts) (bind bs x (app g ts))
bind_left_told bs x g ts free = told_turned bs (app g ts) (var x) (bind bs x (app g ts)) (bind_right_told bs x g ts free)

-- two free variables never fail
variables_told : (bs : Bindings) (x y : Variable) → is_bound bs x ≡ false → (c : Bool) → same_variable x y ≡ c
    → ToldTerms bs (var x) (var y) (unless_same c bs x y)
unfolding unless_same ToldTerms bind unless_occurs
variables_told bs x y free true e = tt
variables_told bs x y free false e = go (occurs y (under (solution bs) (var x))) refl
  where
    b : Binding
    b = record { variable = y; value = var x }

    go : (c : Bool) → occurs y (under (solution bs) (var x)) ≡ c → ToldTerms bs (var x) (var y) (unless_occurs c b bs)
    go true o = absurd (never o (occurs_free bs y x free ∙ same_sym y x ∙ e))
    go false o = tt

-- one argument more, made equal by more bindings
module _ (bs bs' : Bindings) (s t : Term Variable) (ss ts : Terms Variable) (good : Good bs) (good' : Good bs')
    (older : (σ : Substitution) → Satisfies σ bs' → Satisfies σ bs) (equal : (σ : Substitution) → Satisfies σ bs' → under σ s ≡ under σ t)
    (solved : (σ : Substitution) → Satisfies σ bs → under σ s ≡ under σ t → Satisfies σ bs') where
  abbrev now : Substitution
  now = solution bs

  abbrev next : Substitution
  next = solution bs'

  next-of-now : (us : Terms Variable) → unders next (unders now us) ≡ unders next us
  next-of-now us =
      unders_unders next now us ∙ sames (λ x. sym (general next bs (older next (solution_satisfies bs' good')) x)) us

  next-solves : Solves next (pair (under now s) (under now t))
  next-solves =
      let sat = older next (solution_satisfies bs' good') in
      solves_pair
      next
      (under now s)
      (under now t)
      (sym (general_under next bs s sat) ∙ equal next (solution_satisfies bs' good') ∙ general_under next bs t sat)

  module _ (σ : Substitution) (m : MostGeneral σ (pair (under now s) (under now t))) where
    abbrev both : Substitution
    both x = under σ (now x)

    both-satisfies : Satisfies both bs'
    both-satisfies =
        solved
        both
        (satisfied_instance σ now bs (solution_satisfies bs good))
        (sym (under_under σ now s) ∙ pair_solved σ (under now s) (under now t) m.solves ∙ under_under σ now t)

    onwards : (us : Terms Variable) → unders both (unders next us) ≡ unders σ (unders now us)
    onwards us = unders_unders both next us ∙ sames (λ x. sym (general both bs' both-satisfies x)) us ∙ sym (unders_unders σ now us)

    abbrev κ' : Substitution
    κ' = (m.general next next-solves).0

    returns : (us : Terms Variable) → unders κ' (unders both (unders next us)) ≡ unders next us
    returns us = ap (unders κ') (onwards us) ∙ instances m next next-solves (unders now us) ∙ next-of-now us

    under-it : {r : Reason} → FailsAmong (unders next ss) (unders next ts) r → FailsAmong (unders σ (unders now ss)) (unders σ (unders now ts)) r
    under-it h = alike (onwards ss) (onwards ts) (among_moved both κ' (returns ss) (returns ts) h)

  rest-fails : {r : Reason} → FailsAmong (unders next ss) (unders next ts) r → FailsAmong (unders now (s then ss)) (unders now (t then ts)) r
  unfolding unders
  rest-fails h =
      let g = general_exists (pair (under now s) (under now t)) (record { by = next; solves = next-solves }) in
      in_rest g.1 (under-it g.0 g.1 h)

  rest-told : (r : Unified) → ToldArguments bs' ss ts r → ToldArguments bs (s then ss) (t then ts) r
  unfolding ToldArguments
  rest-told (made bs'') h = tt
  rest-told clash h = rest-fails h
  rest-told circle h = rest-fails h

module _ (Q : Property) (parts : Hereditary Q) where
  -- arguments of one arity are compared as the relation says, as deep as n
  abbrev Telling : ℕ → Compare → Type 0
  Telling n arguments =
      (bs : Bindings) (ss ts : Terms Variable) → Good bs → Within Q bs → Each Q ss → Each Q ts → Fits Q n bs ss → arity ss ≡ arity ts
      → ToldArguments bs ss ts (arguments bs ss ts)

  module _ (n : ℕ) (arguments : Compare) (correct : Correct Q parts n arguments) (telling : Telling n arguments) where
    applied-told : (bs : Bindings) (f : ℕ) (ss ts : Terms Variable) → arity ss ≡ arity ts → (r : Unified) → ToldArguments bs ss ts r
        → ToldTerms bs (app f ss) (app f ts) r
    unfolding ToldArguments ToldTerms under
    applied-told bs f ss ts a (made bs') h = tt
    applied-told bs f ss ts a clash h = inside (arity_unders (solution bs) ss ∙ a ∙ sym (arity_unders (solution bs) ts)) h
    applied-told bs f ss ts a circle h = inside (arity_unders (solution bs) ss ∙ a ∙ sym (arity_unders (solution bs) ts)) h

    meet-told : (bs : Bindings) (s t : Term Variable) → Good bs → Within Q bs → Followed bs s → Followed bs t → Q s → Q t → FitsTerm Q n bs s
        → ToldTerms bs s t (meet_by arguments bs s t)
    unfolding meet_by if_same same_symbol ToldTerms under Followed FitsTerm Fits height
    meet-told bs (var x) (var y) g w fs ft qs qt fits = variables_told bs x y fs (same_variable x y) refl
    meet-told bs (app f ss) (var y) g w fs ft qs qt fits = bind_right_told bs y f ss ft
    meet-told bs (var x) (app h ts) g w fs ft qs qt fits = bind_left_told bs x h ts fs
    meet-told bs (app f ss) (app h ts) g w fs ft qs qt fits = go (same_symbol f ss h ts) refl
      where
        go : (c : Bool) → same_symbol f ss h ts ≡ c → ToldTerms bs (app f ss) (app h ts) (if_same c arguments bs ss ts)
        go true e =
            let p : f ≡ h = symbol_same f h ss ts e in
            let a : arity ss ≡ arity ts = eqb-true _ _ (and_right (eqb f h) _ e) in
            subst
            (λ k. ToldTerms bs (app f ss) (app k ts) (arguments bs ss ts))
            p
            (applied-told bs f ss ts a (arguments bs ss ts) (telling bs ss ts g w (parts f ss qs) (parts h ts qt) fits a))
        go false e =
            this_pair
            (symbols
            (λ k. never
            (ap₂ ◌&&◌ (eq-eqb f h k.0) (eq-eqb _ _ (sym (arity_unders (solution bs) ss) ∙ k.1 ∙ arity_unders (solution bs) ts)))
            e))

    followed-told : (bs : Bindings) (s t : Term Variable) → Good bs → (r : Unified) → ToldTerms bs (follow bs s) (follow bs t) r → ToldTerms bs s t r
    unfolding ToldTerms
    followed-told bs s t g (made bs') h = tt
    followed-told bs s t g clash h = rw (follow_solution bs s g, follow_solution bs t g) at h
    followed-told bs s t g circle h = rw (follow_solution bs s g, follow_solution bs t g) at h

    -- the first argument, then the rest under what it bound
    both_told : (bs : Bindings) (s t : Term Variable) (ss ts : Terms Variable) → Good bs → (r : Unified)
        → Right Q bs (EqualTerms (follow bs s) (follow bs t)) r → ToldTerms bs s t r
        → ((bs' : Bindings) → Grown Q bs (EqualTerms (follow bs s) (follow bs t)) bs' → ToldArguments bs' ss ts (arguments bs' ss ts))
        → ToldArguments bs (s then ss) (t then ts) (after r (λ bs'. arguments bs' ss ts))
    unfolding after Right ToldTerms ToldArguments unders
    both_told bs s t ss ts g (made bs') h told rest =
        rest-told
        bs
        bs'
        s
        t
        ss
        ts
        g
        h.good
        h.older
        (λ σ k. let o = h.older σ k in sym (follow_under σ bs s o) ∙ h.equal σ k ∙ follow_under σ bs t o)
        (λ σ k e. h.solved σ k (follow_under σ bs s k ∙ e ∙ sym (follow_under σ bs t k)))
        (arguments bs' ss ts)
        (rest bs' h)
    both_told bs s t ss ts g clash h told rest = in_first told
    both_told bs s t ss ts g circle h told rest = in_first told

    each-told : Telling (suc n) (each_by arguments)
    unfolding each_by ToldArguments Each arity
    each-told bs nil nil g w qs qt fits a = tt
    each-told bs nil (t then ts) g w qs qt fits a = absurd (omega arith)
    each-told bs (s then ss) nil g w qs qt fits a = absurd (omega arith)
    each-told bs (s then ss) (t then ts) g w qs qt fits a =
        both_told
        bs
        s
        t
        ss
        ts
        g
        (meet_by arguments bs (follow bs s) (follow bs t))
        (head_right Q parts n arguments correct bs s t ss g w qs.0 qt.0 fits)
        (followed-told
        bs
        s
        t
        g
        (meet_by arguments bs (follow bs s) (follow bs t))
        (meet-told
        bs
        (follow bs s)
        (follow bs t)
        g
        w
        (follow_followed bs g s)
        (follow_followed bs g t)
        (follow_within Q bs s w qs.0)
        (follow_within Q bs t w qt.0)
        (fits_head Q parts n arguments correct bs s ss fits)))
        (λ bs' h. telling bs' ss ts h.good h.within qs.1 qt.1 (fits_tail Q parts n arguments correct bs bs' _ s ss h fits) (omega arith))

  compare-told : (n : ℕ) → Telling n (compare_within n)
  unfolding compare_within Fits
  compare-told zero bs ss ts g w qs qt fits a = absurd (not_lt_zero (fits bs g w (solution_satisfies bs g)))
  compare-told (suc n) bs ss ts g w qs qt fits a =
      each-told n (compare_within n) (compare_right Q parts n) (compare-told n) bs ss ts g w qs qt fits a

-- two terms
unify_told : (bs : Bindings) (s t : Term Variable) → Good bs → ToldArguments bs (s then nil) (t then nil) (unify bs s t)
unfolding unifies arity
unify_told bs s t g =
    rw (unify_one bs s t g) at (compare-told
    (Problem bs (s then nil) (t then nil))
    (problem_parts bs (s then nil) (t then nil))
    (suc (enough bs (s then nil) (t then nil)))
    bs
    (s then nil)
    (t then nil)
    g
    (problem_bindings bs (s then nil) (t then nil))
    (problem_left bs (s then nil) (t then nil))
    (problem_right bs (s then nil) (t then nil))
    (problem_fits bs (s then nil) (t then nil))
    refl)

module _ (bs : Bindings) (s t : Term Variable) (good : Good bs) where
  clash-fails : unify bs s t ≡ clash → Fails (under (solution bs) s) (under (solution bs) t) a_clash
  unfolding ToldArguments unders
  clash-fails e = alone (rw e at (unify_told bs s t good))

  circle-fails : unify bs s t ≡ circle → Fails (under (solution bs) s) (under (solution bs) t) a_circle
  unfolding ToldArguments unders
  circle-fails e = alone (rw e at (unify_told bs s t good))

-- the newest pair, under bindings that stand for the pairs before it
module _ (bs : Bindings) (ps : List Pair) (stands : Stands bs ps) (p : Pair) where
  pub clash_newest : unify bs p.left p.right ≡ clash → NewestFails (p ∷ ps) a_clash
  clash_newest e = newest_fails (stands_general bs ps stands) (clash-fails bs p.left p.right stands.good e)

  pub circle_newest : unify bs p.left p.right ≡ circle → NewestFails (p ∷ ps) a_circle
  circle_newest e = newest_fails (stands_general bs ps stands) (circle-fails bs p.left p.right stands.good e)

  -- one of the two is so where no substitution exists
  newest-exists : (r : Unified) → unify bs p.left p.right ≡ r → ¬ Unifiable (p ∷ ps) → (why : Reason) × NewestFails (p ∷ ps) why
  newest-exists (made bs') e u = absurd (u (stands_unifiable bs' (p ∷ ps) (stands_more bs ps stands p e)))
  newest-exists clash e u = (a_clash, clash_newest e)
  newest-exists circle e u = (a_circle, circle_newest e)

  pub unifiable_or_fails : ¬ Unifiable (p ∷ ps) → (why : Reason) × NewestFails (p ∷ ps) why
  unifiable_or_fails u = newest-exists (unify bs p.left p.right) refl u

pub newest_fails_exactly : Promises.NewestFailsExactly
newest_fails_exactly p ps = (
  λ h. (newest_before h.1, newest_not_unifiable h.1),
  λ u. let m = (made_unifiable ps).1 u.0 in unifiable_or_fails m.0 ps (pairs_stand ps m.0 m.1) p u.1,
)

-- with nothing before it
nothing_bound : MostGeneral var []
unfolding solution
nothing_bound = stands_general [] [] stands_none

alone_newest : {s t : Term Variable} {r : Reason} → NewestFails (pair s t) r → Fails s t r
alone_newest {s} {t} {r} (newest_fails {σ = σ} m h) =
    rw (under_var s, under_var t) at (any_bindings [] σ var m nothing_bound s t r h)

newest_alone : {s t : Term Variable} {r : Reason} → Fails s t r → NewestFails (pair s t) r
newest_alone {s} {t} {r} h =
    let k : Fails (under var s) (under var t) r = rw (under_var s, under_var t) h in
    newest_fails nothing_bound k

pub fails_exactly : Promises.FailsExactly
fails_exactly s t = (
  λ h. newest_not_unifiable (newest_alone h.1),
  λ u. let h = unifiable_or_fails [] [] stands_none (record { left = s; right = t }) u in (h.0, alone_newest h.1),
)

pub comparison_says : Promises.ComparisonSays
comparison_says s t = (
  (λ e. alone_newest (clash_newest [] [] stands_none p e), λ h. back a_clash h (unify [] s t) refl),
  (λ e. alone_newest (circle_newest [] [] stands_none p e), λ h. back a_circle h (unify [] s t) refl),
)
  where
    p : Pair
    p = record { left = s; right = t }

    outcome : Reason → Unified
    outcome a_clash = clash
    outcome a_circle = circle

    back : (r : Reason) → Fails s t r → (u : Unified) → unify [] s t ≡ u → unify [] s t ≡ outcome r
    back r h (made bs) e =
        absurd (newest_not_unifiable (newest_alone h) (stands_unifiable bs (pair s t) (stands_more [] [] stands_none p e)))
    back r h clash e = e ∙ ap outcome (one_reason s t a_clash r (alone_newest (clash_newest [] [] stands_none p e)) h)
    back r h circle e = e ∙ ap outcome (one_reason s t a_circle r (alone_newest (circle_newest [] [] stands_none p e)) h)
