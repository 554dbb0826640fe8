-- A comparison that is deep enough is right, and stays the same when it may go deeper.
use borrow.Author.Tests.{eqb-true, eq-eqb}
use lib.Dec.{eqb}
use mathlib.Core.Bool.{Bool, true, false, cond, ◌&&◌}
use mathlib.Core.List.{[], ◌∷◌, ◌++◌, append_assoc}
use mathlib.Core.Logic.{◌↔◌}
use mathlib.Core.Path.{◌≡◌, refl, sym, ◌∙◌, ap, ap₂}
use native.Mathlib.Omega.{arith}
use Prim.Native.Nat.{ℕ, zero, suc, ◌≤◌, ◌<◌}
use Rattle.table.specs.Syntax.{Term, Terms, var, app, nil, ◌then◌, arity, under, unders}
use Rattle.rules.specs.Substitution.{Variable, Substitution, same_variable}
use Rattle.rules.specs.Machinery.Unify.{Binding, Bindings, solution, through, follow, occurs, Unified, made, clash, circle, after, unless_occurs, bind, unless_same, same_symbol, Compare, if_same, meet_by, each_by, compare_within, height, height_among}
use Rattle.rules.proofs.Substitution.{arity_unders}
use Rattle.rules.proofs.Unify.Tests.{and_left, same_true, same_sym, never}
use Rattle.rules.proofs.Unify.Solution.{Satisfies, Good, Followed, is_bound, follow_under, follow_followed, unbound_solution, general_under, solution_satisfies}
use Rattle.rules.proofs.Unify.Heights.{no_circle}

abbrev pub Property : Type 1
Property = Term Variable → Type 0

-- the variables and the values of bindings have a property
unfoldable pub Within : Property → Bindings → Type 0
Within Q [] = Unit {0}
Within Q (b ∷ bs) = Q (var b.variable) × Q b.value × Within Q bs

unfoldable pub Each : Property → Terms Variable → Type 0
Each Q nil = Unit {0}
Each Q (t then ts) = Q t × Each Q ts

-- what a term has, its arguments have
abbrev pub Hereditary : Property → Type 0
Hereditary Q = (f : ℕ) (ts : Terms Variable) → Q (app f ts) → Each Q ts

through_within : (Q : Property) (b : Binding) (t : Term Variable) → Q b.value → Q t → Q (through b t)
unfolding through
through_within Q b (var x) v q = go (same_variable b.variable x)
  where
    go : (c : Bool) → Q (cond c b.value (var x))
    go true = v
    go false = q
through_within Q b (app f ts) v q = q

pub follow_within : (Q : Property) (bs : Bindings) (t : Term Variable) → Within Q bs → Q t → Q (follow bs t)
unfolding follow Within
follow_within Q [] t w q = q
follow_within Q (b ∷ bs) t w q = through_within Q b (follow bs t) w.1 (follow_within Q bs t w.2 q)

-- what a substitution makes equal
abbrev pub Equation : Type 1
Equation = Substitution → Type 0

-- no substitution that satisfies the bindings solves the equation
abbrev pub Refuted : Bindings → Equation → Type 0
Refuted bs E = (σ : Substitution) → Satisfies σ bs → E σ → ⊥

-- more bindings, satisfied by exactly the substitutions that satisfied the old ones and solve the equation
pub record Grown (Q : Property) (bs : Bindings) (E : Equation) (bs' : Bindings) : Type 0 where
  pub good : Good bs'
  pub within : Within Q bs'
  pub older : (σ : Substitution) → Satisfies σ bs' → Satisfies σ bs
  pub equal : (σ : Substitution) → Satisfies σ bs' → E σ
  pub solved : (σ : Substitution) → Satisfies σ bs → E σ → Satisfies σ bs'
  pub new : Bindings
  pub longer : bs' ≡ new ++ bs

unfoldable pub Right : Property → Bindings → Equation → Unified → Type 0
Right Q bs E (made bs') = Grown Q bs E bs'
Right Q bs E clash = Refuted bs E
Right Q bs E circle = Refuted bs E

module _ (Q : Property) where
  pub right_same : (bs : Bindings) (E F : Equation) → ((σ : Substitution) → Satisfies σ bs → E σ ↔ F σ) → (r : Unified) → Right Q bs E r → Right Q bs F r
  unfolding Right
  right_same bs E F i (made bs') g =
      record {
        good = g.good;
        within = g.within;
        older = g.older;
        equal = λ σ s. (i σ (g.older σ s)).0 (g.equal σ s);
        solved = λ σ s e. g.solved σ s ((i σ s).1 e);
        new = g.new;
        longer = g.longer;
      }
  right_same bs E F i clash h = λ σ s e. h σ s ((i σ s).1 e)
  right_same bs E F i circle h = λ σ s e. h σ s ((i σ s).1 e)

  right_grown : (bs bs' : Bindings) (E F : Equation) → Grown Q bs E bs' → (r : Unified) → Right Q bs' F r → Right Q bs (λ σ. E σ × F σ) r
  unfolding Right
  right_grown bs bs' E F g (made bs'') h =
      record {
        good = h.good;
        within = h.within;
        older = λ σ s. g.older σ (h.older σ s);
        equal = λ σ s. (g.equal σ (h.older σ s), h.equal σ s);
        solved = λ σ s e. h.solved σ (g.solved σ s e.0) e.1;
        new = h.new ++ g.new;
        longer = h.longer ∙ ap (h.new ++◌) g.longer ∙ sym (append_assoc h.new g.new bs);
      }
  right_grown bs bs' E F g clash h = λ σ s e. h σ (g.solved σ s e.0) e.1
  right_grown bs bs' E F g circle h = λ σ s e. h σ (g.solved σ s e.0) e.1

  pub right_after : (bs : Bindings) (E F : Equation) (next : Bindings → Unified) (r : Unified) → Right Q bs E r
      → ((bs' : Bindings) → Grown Q bs E bs' → Right Q bs' F (next bs'))
      → Right Q bs (λ σ. E σ × F σ) (after r next)
  unfolding Right after
  right_after bs E F next (made bs') g k = right_grown bs bs' E F g (next bs') (k bs' g)
  right_after bs E F next clash h k = λ σ s e. h σ s e.0
  right_after bs E F next circle h k = λ σ s e. h σ s e.0

  after_same : (bs : Bindings) (E : Equation) (next other : Bindings → Unified) (r : Unified) → Right Q bs E r
      → ((bs' : Bindings) → Grown Q bs E bs' → next bs' ≡ other bs')
      → after r next ≡ after r other
  unfolding Right after
  after_same bs E next other (made bs') g k = k bs' g
  after_same bs E next other clash h k = refl
  after_same bs E next other circle h k = refl

  pub unchanged : (bs : Bindings) (E : Equation) → Good bs → Within Q bs → ((σ : Substitution) → E σ) → Grown Q bs E bs
  unchanged bs E g w e =
      record { good = g; within = w; older = λ σ s. s; equal = λ σ s. e σ; solved = λ σ s _. s; new = []; longer = refl }

-- a followed term that is not the variable itself
unfoldable pub Other : Variable → Term Variable → Type 0
Other x (var z) = same_variable x z ≡ false
Other x (app f ts) = Unit {0}

circle_refuted : (bs : Bindings) (x : Variable) (t : Term Variable) → Followed bs t → Other x t → occurs x (under (solution bs) t) ≡ true
    → Refuted bs (λ σ. σ x ≡ under σ t)
unfolding Followed Other under occurs
circle_refuted bs x (var z) f d o σ s e = never o (ap (occurs x) (unbound_solution bs z f) ∙ d)
circle_refuted bs x (app f ts) _ d o σ s e = no_circle σ x f (unders (solution bs) ts) o (e ∙ general_under σ bs (app f ts) s)

-- deep enough for every solution that the bindings can come to
unfoldable pub Fits : Property → ℕ → Bindings → Terms Variable → Type 0
Fits Q n bs ss =
    (bs' : Bindings) → Good bs' → Within Q bs' → Satisfies (solution bs') bs → height_among (unders (solution bs') ss) < n

unfoldable pub FitsTerm : Property → ℕ → Bindings → Term Variable → Type 0
FitsTerm Q n bs s =
    (bs' : Bindings) → Good bs' → Within Q bs' → Satisfies (solution bs') bs → height (under (solution bs') s) < n

abbrev pub EqualTerms : Term Variable → Term Variable → Equation
EqualTerms s t σ = under σ s ≡ under σ t

abbrev pub EqualArguments : Terms Variable → Terms Variable → Equation
EqualArguments ss ts σ = unders σ ss ≡ unders σ ts

pub not_lt_zero : {n : ℕ} → n < 0 → ⊥
not_lt_zero l = omega arith

-- symbols agree exactly where applications can be equal
pub symbol_same : (f g : ℕ) (ss ts : Terms Variable) → same_symbol f ss g ts ≡ true → f ≡ g
unfolding same_symbol
symbol_same f g ss ts e = eqb-true f g (and_left (eqb f g) _ e)

symbol_agrees : (f g : ℕ) (ss ts : Terms Variable) (σ : Substitution) → under σ (app f ss) ≡ under σ (app g ts) → same_symbol f ss g ts ≡ true
unfolding same_symbol under
symbol_agrees f g ss ts σ e =
    let p : f ≡ g = cc in
    let q : unders σ ss ≡ unders σ ts = cc in
    ap₂ ◌&&◌ (eq-eqb f g p) (eq-eqb _ _ (sym (arity_unders σ ss) ∙ ap arity q ∙ arity_unders σ ts))

module _ (Q : Property) (parts : Hereditary Q) where
  bind-right : (bs : Bindings) (x : Variable) (t : Term Variable) → Good bs → Within Q bs → is_bound bs x ≡ false → Followed bs t → Other x t
      → Q (var x) → Q t → Right Q bs (λ σ. σ x ≡ under σ t) (bind bs x t)
  unfolding bind unless_occurs Right Good Within Satisfies
  bind-right bs x t g w u f d qx qt = go (occurs x (under (solution bs) t)) refl
    where
      b : Binding
      b = record { variable = x; value = t }

      added : occurs x (under (solution bs) t) ≡ false → Grown Q bs (λ σ. σ x ≡ under σ t) (b ∷ bs)
      added o =
          record {
            good = (record { unbound = u; followed = f; apart = o }, g);
            within = (qx, qt, w);
            older = λ σ s. s.1;
            equal = λ σ s. s.0;
            solved = λ σ s e. (e, s);
            new = b ∷ [];
            longer = refl;
          }

      go : (c : Bool) → occurs x (under (solution bs) t) ≡ c → Right Q bs (λ σ. σ x ≡ under σ t) (unless_occurs c b bs)
      go true o = circle_refuted bs x t f d o
      go false o = added o

  -- arguments are compared rightly as deep as n
  abbrev pub Correct : ℕ → Compare → Type 0
  Correct n arguments =
      (bs : Bindings) (ss ts : Terms Variable) → Good bs → Within Q bs → Each Q ss → Each Q ts → Fits Q n bs ss
      → Right Q bs (EqualArguments ss ts) (arguments bs ss ts)

  module _ (n : ℕ) (arguments : Compare) (correct : Correct n arguments) where
    meet_right : (bs : Bindings) (s t : Term Variable) → Good bs → Within Q bs → Followed bs s → Followed bs t → Q s → Q t → FitsTerm Q n bs s
        → Right Q bs (EqualTerms s t) (meet_by arguments bs s t)
    unfolding meet_by unless_same if_same Right under Followed Other FitsTerm Fits height
    meet_right bs (var x) (var y) g w fs ft qs qt fits = go (same_variable x y) refl
      where
        go : (c : Bool) → same_variable x y ≡ c → Right Q bs (EqualTerms (var x) (var y)) (unless_same c bs x y)
        go true e = unchanged Q bs (EqualTerms (var x) (var y)) g w (λ σ. ap σ (same_true x y e))
        go false e =
            right_same
            Q
            bs
            (λ σ. σ y ≡ σ x)
            (EqualTerms (var x) (var y))
            (λ σ s. (sym, sym))
            (bind bs y (var x))
            (bind-right bs y (var x) g w ft fs (same_sym y x ∙ e) qt qs)
    meet_right bs (app f ss) (var y) g w fs ft qs qt fits =
        right_same
        Q
        bs
        (λ σ. σ y ≡ under σ (app f ss))
        (EqualTerms (app f ss) (var y))
        (λ σ s. (sym, sym))
        (bind bs y (app f ss))
        (bind-right bs y (app f ss) g w ft tt tt qt qs)
    meet_right bs (var x) (app f ts) g w fs ft qs qt fits = bind-right bs x (app f ts) g w fs tt tt qs qt
    meet_right bs (app f ss) (app h ts) g w fs ft qs qt fits = go (same_symbol f ss h ts) refl
      where
        go : (c : Bool) → same_symbol f ss h ts ≡ c → Right Q bs (EqualTerms (app f ss) (app h ts)) (if_same c arguments bs ss ts)
        go true e =
            let p : f ≡ h = symbol_same f h ss ts e in
            right_same
            Q
            bs
            (EqualArguments ss ts)
            (EqualTerms (app f ss) (app h ts))
            (λ σ s. (λ q. ap₂ app p q, λ q. (cc)))
            (arguments bs ss ts)
            (correct bs ss ts g w (parts f ss qs) (parts h ts qt) fits)
        go false e = λ σ s q. never (symbol_agrees f h ss ts σ q) e

    pub fits_head : (bs : Bindings) (s : Term Variable) (ss : Terms Variable) → Fits Q (suc n) bs (s then ss) → FitsTerm Q n bs (follow bs s)
    unfolding Fits FitsTerm height under
    fits_head bs s ss fits =
        λ bs' g w s'. omega (arith, fits bs' g w s', ap height (follow_under (solution bs') bs s s'))

    pub fits_tail : (bs bs' : Bindings) (E : Equation) (s : Term Variable) (ss : Terms Variable) → Grown Q bs E bs' → Fits Q (suc n) bs (s then ss) → Fits Q n bs' ss
    unfolding Fits height under
    fits_tail bs bs' E s ss h fits = λ bs'' g w s'. omega (arith, fits bs'' g w (h.older _ s'))

    pub head_right : (bs : Bindings) (s t : Term Variable) (ss : Terms Variable) → Good bs → Within Q bs → Q s → Q t → Fits Q (suc n) bs (s then ss)
        → Right Q bs (EqualTerms (follow bs s) (follow bs t)) (meet_by arguments bs (follow bs s) (follow bs t))
    head_right bs s t ss g w qs qt fits =
        meet_right
        bs
        (follow bs s)
        (follow bs t)
        g
        w
        (follow_followed bs g s)
        (follow_followed bs g t)
        (follow_within Q bs s w qs)
        (follow_within Q bs t w qt)
        (fits_head bs s ss fits)

    each_right : Correct (suc n) (each_by arguments)
    unfolding each_by Right under Each
    each_right bs nil nil g w qs qt fits = unchanged Q bs (EqualArguments nil nil) g w (λ σ. refl)
    each_right bs nil (t then ts) g w qs qt fits = λ σ s e. let z : ◌≡◌ {A = ℕ} 0 1 = cc in omega arith
    each_right bs (s then ss) nil g w qs qt fits = λ σ s' e. let z : ◌≡◌ {A = ℕ} 0 1 = cc in omega arith
    each_right bs (s then ss) (t then ts) g w qs qt fits =
        right_same
        Q
        bs
        (λ σ. EqualTerms (follow bs s) (follow bs t) σ × EqualArguments ss ts σ)
        (EqualArguments (s then ss) (t then ts))
        both
        (after (meet_by arguments bs (follow bs s) (follow bs t)) (λ bs'. arguments bs' ss ts))
        (right_after
        Q
        bs
        (EqualTerms (follow bs s) (follow bs t))
        (EqualArguments ss ts)
        (λ bs'. arguments bs' ss ts)
        (meet_by arguments bs (follow bs s) (follow bs t))
        (head_right bs s t ss g w qs.0 qt.0 fits)
        (λ bs' h. correct bs' ss ts h.good h.within qs.1 qt.1 (fits_tail bs bs' _ s ss h fits)))
      where
        both : (σ : Substitution) → Satisfies σ bs
            → (EqualTerms (follow bs s) (follow bs t) σ × EqualArguments ss ts σ) ↔ EqualArguments (s then ss) (t then ts) σ
        both σ s' =
            let p = follow_under σ bs s s' in
            let q = follow_under σ bs t s' in
            (λ e. ap₂ ◌then◌ (sym p ∙ e.0 ∙ q) e.1, λ e. (cc, cc))

  pub compare_right : (n : ℕ) → Correct n (compare_within n)
  unfolding compare_within Fits
  compare_right zero bs ss ts g w qs qt fits = absurd (not_lt_zero (fits bs g w (solution_satisfies bs g)))
  compare_right (suc n) bs ss ts g w qs qt fits = each_right n (compare_within n) (compare_right n) bs ss ts g w qs qt fits

  -- two ways to compare arguments that agree as deep as n
  abbrev pub Agree : ℕ → Compare → Compare → Type 0
  Agree n arguments others =
      (bs : Bindings) (ss ts : Terms Variable) → Good bs → Within Q bs → Each Q ss → Each Q ts → Fits Q n bs ss
      → arguments bs ss ts ≡ others bs ss ts

  module _ (n : ℕ) (arguments others : Compare) (agree : Agree n arguments others) where
    meet_same : (bs : Bindings) (s t : Term Variable) → Good bs → Within Q bs → Q s → Q t → FitsTerm Q n bs s
        → meet_by arguments bs s t ≡ meet_by others bs s t
    unfolding meet_by if_same FitsTerm Fits under height
    meet_same bs (var x) (var y) g w qs qt fits = refl
    meet_same bs (app f ss) (var y) g w qs qt fits = refl
    meet_same bs (var x) (app h ts) g w qs qt fits = refl
    meet_same bs (app f ss) (app h ts) g w qs qt fits = go (same_symbol f ss h ts)
      where
        go : (c : Bool) → if_same c arguments bs ss ts ≡ if_same c others bs ss ts
        go true = agree bs ss ts g w (parts f ss qs) (parts h ts qt) fits
        go false = refl

    pub each_same : Correct n arguments → Agree (suc n) (each_by arguments) (each_by others)
    unfolding each_by Each
    each_same correct bs nil nil g w qs qt fits = refl
    each_same correct bs nil (t then ts) g w qs qt fits = refl
    each_same correct bs (s then ss) nil g w qs qt fits = refl
    each_same correct bs (s then ss) (t then ts) g w qs qt fits =
        after_same
        Q
        bs
        (EqualTerms (follow bs s) (follow bs t))
        (λ bs'. arguments bs' ss ts)
        (λ bs'. others bs' ss ts)
        (meet_by arguments bs (follow bs s) (follow bs t))
        (head_right n arguments correct bs s t ss g w qs.0 qt.0 fits)
        (λ bs' h. agree bs' ss ts h.good h.within qs.1 qt.1 (fits_tail n arguments correct bs bs' _ s ss h fits))
        ∙ ap
        (λ (r : Unified). after r (λ bs'. others bs' ss ts))
        (meet_same
        bs
        (follow bs s)
        (follow bs t)
        g
        w
        (follow_within Q bs s w qs.0)
        (follow_within Q bs t w qt.0)
        (fits_head n arguments correct bs s ss fits))

  pub deeper : (n m : ℕ) → n ≤ m → Agree n (compare_within n) (compare_within m)
  unfolding compare_within Fits
  deeper zero m l bs ss ts g w qs qt fits = absurd (not_lt_zero (fits bs g w (solution_satisfies bs g)))
  deeper (suc n) zero l bs ss ts g w qs qt fits = absurd (not_lt_zero l)
  deeper (suc n) (suc m) l bs ss ts g w qs qt fits =
      each_same n (compare_within n) (compare_within m) (deeper n m (omega arith)) (compare_right n) bs ss ts g w qs qt fits
