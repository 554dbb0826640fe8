-- Order 5's relation: it holds only where no substitution exists, for one reason alone, whatever most general solutions are taken and
-- whichever term stands left.
use mathlib.Core.Bool.{Bool, true, ◌||◌, or-true}
use mathlib.Core.List.{List, [], ◌∷◌}
use mathlib.Core.Path.{◌≡◌, refl, sym, ◌∙◌, ap, subst}
use Prim.Native.Nat.{ℕ}
use Rattle.table.specs.Syntax.{Term, Terms, var, app, nil, ◌then◌, arity, under, unders}
use Rattle.rules.specs.Substitution.{Variable, Substitution, Pair, Solves, Unifiable, MostGeneral}
use Rattle.rules.specs.Comparison.{Reason, a_circle, Holds, itself, in_arguments, HoldsAmong, in_this, in_later, Wrong, symbols, held_by_right, held_by_left, Fails, this_pair, inside, FailsAmong, in_first, in_rest, NewestFails, newest_fails}
use Rattle.rules.specs.ComparisonPromises as Promises
use Rattle.rules.specs.Machinery.Unify.{solution, occurs, occurs_among}
use Rattle.rules.proofs.System.Clash.{clash}
use Rattle.rules.proofs.Substitution.{same, sames, under_under, unders_unders, arity_unders}
use Rattle.rules.proofs.Unify.Tests.{decide, same_true, same_refl}
use Rattle.rules.proofs.Unify.Heights.{no_circle}
use Rattle.rules.proofs.Unify.{made_general, made_unifiable}

-- holding a variable, as a test
mutual
  unfolding occurs

  holds_occurs : {x : Variable} {t : Term Variable} → Holds x t → occurs x t ≡ true
  holds_occurs {x} itself = same_refl x
  holds_occurs (in_arguments h) = hold_occur h

  hold_occur : {x : Variable} {ts : Terms Variable} → HoldsAmong x ts → occurs_among x ts ≡ true
  hold_occur {x} (in_this {ts = ts} h) = ap (λ (c : Bool). c || occurs_among x ts) (holds_occurs h)
  hold_occur {x} (in_later {t = t} h) = ap (occurs x t ||◌) (hold_occur h) ∙ or-true (occurs x t)

mutual
  unfolding occurs

  occurs_holds : (t : Term Variable) (x : Variable) → occurs x t ≡ true → Holds x t
  occurs_holds (var y) x e = subst (λ z. Holds x (var z)) (same_true x y e) itself
  occurs_holds (app f ts) x e = in_arguments (occur_hold ts x e)

  pub occur_hold : (ts : Terms Variable) (x : Variable) → occurs_among x ts ≡ true → HoldsAmong x ts
  occur_hold nil x e = clash (cc)
  occur_hold (t then ts) x e =
      decide
      (occurs x t)
      (λ c. in_this (occurs_holds t x c))
      (λ c. in_later (occur_hold ts x (ap (λ (b : Bool). b || occurs_among x ts) (sym c) ∙ e)))

-- the pair of two terms, made equal
abbrev pub pair : Term Variable → Term Variable → List Pair
pair s t = record { left = s; right = t } ∷ []

pub solves_pair : (σ : Substitution) (s t : Term Variable) → under σ s ≡ under σ t → Solves σ (pair s t)
unfolding Solves
solves_pair σ s t e = (e, tt)

pub pair_solved : (σ : Substitution) (s t : Term Variable) → Solves σ (pair s t) → under σ s ≡ under σ t
unfolding Solves
pair_solved σ s t h = h.0

-- a solution is an instance of a most general one, on argument lists
pub instances : {ps : List Pair} {σ : Substitution} (m : MostGeneral σ ps) (τ : Substitution) (h : Solves τ ps) (ts : Terms Variable)
    → unders (m.general τ h).0 (unders σ ts) ≡ unders τ ts
instances {σ = σ} m τ h ts =
    unders_unders (m.general τ h).0 σ ts ∙ sames (λ x. sym ((m.general τ h).1 x)) ts

-- where a solution exists, a most general one does
pub general_exists : (ps : List Pair) → Unifiable ps → (σ : Substitution) × MostGeneral σ ps
general_exists ps u =
    let m = (made_unifiable ps).1 u in
    (solution m.0, made_general ps m.0 m.1)

-- no substitution makes equal what fails
wrong_refuted : {s t : Term Variable} {r : Reason} → Wrong s t r → (τ : Substitution) → under τ s ≡ under τ t → ⊥
unfolding under occurs
wrong_refuted (symbols {f} {g} {ss} {ts} d) τ e =
    let p : f ≡ g = cc in
    let q : unders τ ss ≡ unders τ ts = cc in
    d (p, sym (arity_unders τ ss) ∙ ap arity q ∙ arity_unders τ ts)
wrong_refuted (held_by_right {x} {g} {ts} h) τ e = no_circle τ x g ts (hold_occur h) e
wrong_refuted (held_by_left {x} {f} {ss} h) τ e = no_circle τ x f ss (hold_occur h) (sym e)

mutual
  unfolding under

  pub fails_refuted : {s t : Term Variable} {r : Reason} → Fails s t r → (τ : Substitution) → under τ s ≡ under τ t → ⊥
  fails_refuted (this_pair w) τ e = wrong_refuted w τ e
  fails_refuted (inside a h) τ e = among_refuted h τ (cc)

  among_refuted : {ss ts : Terms Variable} {r : Reason} → FailsAmong ss ts r → (τ : Substitution) → unders τ ss ≡ unders τ ts → ⊥
  among_refuted (in_first h) τ e = fails_refuted h τ (cc)
  among_refuted (in_rest {s} {t} {ss} {ts} {σ = σ} m h) τ e =
      let first : under τ s ≡ under τ t = cc in
      let rest : unders τ ss ≡ unders τ ts = cc in
      let z = solves_pair τ s t first in
      among_refuted h (m.general τ z).0 (instances m τ z ss ∙ rest ∙ sym (instances m τ z ts))

-- Under a substitution that another takes back, the same fails for the same reason.
back_var : (ρ ρ' : Substitution) (x : Variable) → under ρ' (ρ x) ≡ var x → (y : Variable) × (ρ x ≡ var y)
unfolding under
back_var ρ ρ' x e = go (ρ x) refl
  where
    go : (t : Term Variable) → ρ x ≡ t → (y : Variable) × (ρ x ≡ var y)
    go (var y) k = (y, k)
    go (app f ts) k = let z : app f (unders ρ' ts) ≡ var x = ap (under ρ') (sym k) ∙ e in clash (cc)

mutual
  unfolding under

  holds_under : {x y : Variable} {t : Term Variable} (ρ : Substitution) → ρ x ≡ var y → Holds x t → Holds y (under ρ t)
  holds_under {y = y} ρ e itself = subst (λ u. Holds y u) (sym e) itself
  holds_under ρ e (in_arguments h) = in_arguments (hold_under ρ e h)

  hold_under : {x y : Variable} {ts : Terms Variable} (ρ : Substitution) → ρ x ≡ var y → HoldsAmong x ts → HoldsAmong y (unders ρ ts)
  hold_under ρ e (in_this h) = in_this (holds_under ρ e h)
  hold_under ρ e (in_later h) = in_later (hold_under ρ e h)

wrong_moved : {s t : Term Variable} {r : Reason} (ρ ρ' : Substitution) → under ρ' (under ρ s) ≡ s → under ρ' (under ρ t) ≡ t → Wrong s t r
    → Wrong (under ρ s) (under ρ t) r
unfolding under
wrong_moved ρ ρ' p q (symbols {ss = ss} {ts} d) = symbols (λ e. d (e.0, sym (arity_unders ρ ss) ∙ e.1 ∙ arity_unders ρ ts))
wrong_moved ρ ρ' p q (held_by_right {x} {g} {ts} h) =
    let v = back_var ρ ρ' x p in
    subst (λ u. Wrong u (app g (unders ρ ts)) a_circle) (sym v.1) (held_by_right (hold_under ρ v.1 h))
wrong_moved ρ ρ' p q (held_by_left {x} {f} {ss} h) =
    let v = back_var ρ ρ' x q in
    subst (λ u. Wrong (app f (unders ρ ss)) u a_circle) (sym v.1) (held_by_left (hold_under ρ v.1 h))

pub alike : {ss us ts vs : Terms Variable} {r : Reason} → ss ≡ us → ts ≡ vs → FailsAmong ss ts r → FailsAmong us vs r
alike p q h = rw (sym p, sym q) h

-- the arguments after one that is made equal, given that they can be moved
module _ {s t : Term Variable} {σ : Substitution} (m : MostGeneral σ (pair s t)) where
  abbrev pub Movable : Terms Variable → Terms Variable → Reason → Type 0
  Movable ss ts r =
      (κ κ' : Substitution) → unders κ' (unders κ (unders σ ss)) ≡ unders σ ss → unders κ' (unders κ (unders σ ts)) ≡ unders σ ts
      → FailsAmong (unders κ (unders σ ss)) (unders κ (unders σ ts)) r

  rest-moved : {ss ts : Terms Variable} {r : Reason} (ρ ρ' : Substitution) → under ρ' (under ρ s) ≡ s → under ρ' (under ρ t) ≡ t → unders ρ' (unders ρ ss) ≡ ss
      → unders ρ' (unders ρ ts) ≡ ts → Movable ss ts r → FailsAmong (under ρ s then unders ρ ss) (under ρ t then unders ρ ts) r
  rest-moved {ss} {ts} {r} ρ ρ' first-s first_t rest-s rest-t movable = in_rest g.1 moved
    where
      -- σ after ρ' makes the moved pair equal
      back : Substitution
      back x = under σ (ρ' x)

      back-solves : Solves back (pair (under ρ s) (under ρ t))
      back-solves =
          solves_pair
          back
          (under ρ s)
          (under ρ t)
          (sym (under_under σ ρ' (under ρ s)) ∙ ap (under σ) first-s ∙ pair_solved σ s t m.solves ∙ ap (under σ) (sym first_t)
          ∙ under_under σ ρ' (under ρ t))

      g : (τ : Substitution) × MostGeneral τ (pair (under ρ s) (under ρ t))
      g = general_exists (pair (under ρ s) (under ρ t)) (record { by = back; solves = back-solves })

      -- a most general solution of the moved pair, after ρ, makes the pair equal
      forth : Substitution
      forth x = under g.0 (ρ x)

      forth-solves : Solves forth (pair s t)
      forth-solves =
          solves_pair
          forth
          s
          t
          (sym (under_under g.0 ρ s) ∙ pair_solved g.0 (under ρ s) (under ρ t) g.1.solves ∙ under_under g.0 ρ t)

      κ : Substitution
      κ = (m.general forth forth-solves).0

      κ' : Substitution
      κ' = (g.1.general back back-solves).0

      onwards : (us : Terms Variable) → unders κ (unders σ us) ≡ unders g.0 (unders ρ us)
      onwards us = instances m forth forth-solves us ∙ sym (unders_unders g.0 ρ us)

      returns : (us : Terms Variable) → unders ρ' (unders ρ us) ≡ us → unders κ' (unders κ (unders σ us)) ≡ unders σ us
      returns us e =
          ap (unders κ') (onwards us) ∙ instances g.1 back back-solves (unders ρ us) ∙ sym (unders_unders σ ρ' (unders ρ us)) ∙ ap (unders σ) e

      moved : FailsAmong (unders g.0 (unders ρ ss)) (unders g.0 (unders ρ ts)) r
      moved = alike (onwards ss) (onwards ts) (movable κ κ' (returns ss rest-s) (returns ts rest-t))

mutual
  unfolding under

  fails_moved : {s t : Term Variable} {r : Reason} (ρ ρ' : Substitution) → under ρ' (under ρ s) ≡ s → under ρ' (under ρ t) ≡ t → Fails s t r
      → Fails (under ρ s) (under ρ t) r
  fails_moved ρ ρ' p q (this_pair w) = this_pair (wrong_moved ρ ρ' p q w)
  fails_moved ρ ρ' p q (inside {ss = ss} {ts} a h) =
      inside (arity_unders ρ ss ∙ a ∙ sym (arity_unders ρ ts)) (among_moved ρ ρ' (cc) (cc) h)

  pub among_moved : {ss ts : Terms Variable} {r : Reason} (ρ ρ' : Substitution) → unders ρ' (unders ρ ss) ≡ ss → unders ρ' (unders ρ ts) ≡ ts
      → FailsAmong ss ts r
      → FailsAmong (unders ρ ss) (unders ρ ts) r
  among_moved ρ ρ' p q (in_first h) = in_first (fails_moved ρ ρ' (cc) (cc) h)
  among_moved ρ ρ' p q (in_rest {ss = ss} {ts} m h) =
      rest-moved m {ss = ss} {ts = ts} ρ ρ' (cc) (cc) (cc) (cc) (λ κ κ' k l. among_moved κ κ' k l h)

-- Under every most general solution the same fails for the same reason.
module _ {ps : List Pair} {σ τ : Substitution} (m : MostGeneral σ ps) (n : MostGeneral τ ps) where
  abbrev κ : Substitution
  κ = (m.general τ n.solves).0

  abbrev κ' : Substitution
  κ' = (n.general σ m.solves).0

  onwards : (ts : Terms Variable) → unders κ (unders σ ts) ≡ unders τ ts
  onwards ts = instances m τ n.solves ts

  returns : (ts : Terms Variable) → unders κ' (unders κ (unders σ ts)) ≡ unders σ ts
  returns ts = ap (unders κ') (onwards ts) ∙ instances n σ m.solves ts

  pub among_any : (ss ts : Terms Variable) {r : Reason} → FailsAmong (unders σ ss) (unders σ ts) r → FailsAmong (unders τ ss) (unders τ ts) r
  among_any ss ts h = alike (onwards ss) (onwards ts) (among_moved κ κ' (returns ss) (returns ts) h)

-- two terms, as lists of one
none_fails : {ss ts : Terms Variable} {r : Reason} → FailsAmong ss ts r → ss ≡ nil → ⊥
none_fails (in_first h) e = clash (cc)
none_fails (in_rest m h) e = clash (cc)

pub alone : {s t : Term Variable} {r : Reason} → FailsAmong (s then nil) (t then nil) r → Fails s t r
unfolding unders
alone (in_first h) = h
alone (in_rest m h) = absurd (none_fails h refl)

pub any_bindings : Promises.AnyBindings
unfolding unders
any_bindings ps σ τ m n s t r h = alone (among_any m n (s then nil) (t then nil) (in_first h))

-- one reason alone
wrong_one : {s t : Term Variable} {r q : Reason} → Wrong s t r → Wrong s t q → r ≡ q
wrong_one (symbols d) (symbols e) = refl
wrong_one (held_by_right h) (held_by_right k) = refl
wrong_one (held_by_left h) (held_by_left k) = refl

wrong_inside : {f : ℕ} {ss ts : Terms Variable} {r q : Reason} → Wrong (app f ss) (app f ts) r → arity ss ≡ arity ts → r ≡ q
wrong_inside (symbols d) a = absurd (d (refl, a))

mutual
  fails_alike : {s t s' t' : Term Variable} {r q : Reason} → Fails s t q → Fails s' t' r → s ≡ s' → t ≡ t' → r ≡ q
  fails_alike {s = s} {t} {r = r} (this_pair w) (this_pair v) e f =
      let v' : Wrong s t r = rw (e, f) v in wrong_one v' w
  fails_alike {q = q} (this_pair w) (inside {f = g} {ss} {ts} a h) e f =
      let w' : Wrong (app g ss) (app g ts) q = rw (← e, ← f) w in sym (wrong_inside w' a)
  fails_alike {r = r} (inside {f = g} {ss} {ts} a h) (this_pair w) e f =
      let w' : Wrong (app g ss) (app g ts) r = rw (e, f) w in wrong_inside w' a
  fails_alike (inside a h) (inside b k) e f = among_alike h k (cc) (cc)

  among_alike : {ss ts ss' ts' : Terms Variable} {r q : Reason} → FailsAmong ss ts q → FailsAmong ss' ts' r → ss ≡ ss' → ts ≡ ts' → r ≡ q
  among_alike (in_first h) (in_first k) e f = fails_alike h k (cc) (cc)
  among_alike {q = q} (in_first {s} {t} h) (in_rest {s = s'} {t = t'} {σ = σ} m k) e f =
      let a : s ≡ s' = cc in
      let b : t ≡ t' = cc in
      let h' : Fails s' t' q = rw (← a, ← b) h in absurd (fails_refuted h' σ (pair_solved σ s' t' m.solves))
  among_alike {r = r} (in_rest {s} {t} {σ = σ} m h) (in_first {s = s'} {t = t'} k) e f =
      let a : s ≡ s' = cc in
      let b : t ≡ t' = cc in
      let k' : Fails s t r = rw (a, b) k in absurd (fails_refuted k' σ (pair_solved σ s t m.solves))
  among_alike {r = r} (in_rest {s} {t} {ss} {ts} m h) (in_rest {s = s'} {t = t'} {ss = ss'} {ts = ts'} {σ = σ'} n k) e f =
      let a : s ≡ s' = cc in
      let b : t ≡ t' = cc in
      let c : ss ≡ ss' = cc in
      let d : ts ≡ ts' = cc in
      let n' : MostGeneral σ' (record { left = s; right = t } ∷ []) = rw (a, b) n in
      let k' : FailsAmong (unders σ' ss) (unders σ' ts) r = rw (c, d) k in
      among_alike h (among_any n' m ss ts k') refl refl

fails_one : {s t : Term Variable} {r q : Reason} → Fails s t q → Fails s t r → r ≡ q
fails_one h k = fails_alike h k refl refl

among_one : {ss ts : Terms Variable} {r q : Reason} → FailsAmong ss ts q → FailsAmong ss ts r → r ≡ q
among_one h k = among_alike h k refl refl

pub one_reason : Promises.OneReason
one_reason s t r q h k = fails_one k h

pub one_reason_of_the_newest : Promises.OneReasonOfTheNewest
one_reason_of_the_newest ps r q (newest_fails {p = p} {ps = qs} {σ = σ} m h) (newest_fails {σ = τ} n k) =
    fails_one k (any_bindings qs σ τ m n p.left p.right r h)

-- either term may stand left
pair_turned : (σ : Substitution) (s t : Term Variable) → Solves σ (pair s t) → Solves σ (pair t s)
pair_turned σ s t h = solves_pair σ t s (sym (pair_solved σ s t h))

general_turned : {σ : Substitution} {s t : Term Variable} → MostGeneral σ (pair s t) → MostGeneral σ (pair t s)
general_turned {σ} {s} {t} m =
    record { solves = pair_turned σ s t m.solves; general = λ τ h. m.general τ (pair_turned τ t s h) }

wrong_turned : {s t : Term Variable} {r : Reason} → Wrong s t r → Wrong t s r
wrong_turned (symbols d) = symbols (λ e. d (sym e.0, sym e.1))
wrong_turned (held_by_right h) = held_by_left h
wrong_turned (held_by_left h) = held_by_right h

mutual
  fails_turned : {s t : Term Variable} {r : Reason} → Fails s t r → Fails t s r
  fails_turned (this_pair w) = this_pair (wrong_turned w)
  fails_turned (inside a h) = inside (sym a) (among_turned h)

  among_turned : {ss ts : Terms Variable} {r : Reason} → FailsAmong ss ts r → FailsAmong ts ss r
  among_turned (in_first h) = in_first (fails_turned h)
  among_turned (in_rest m h) = in_rest (general_turned m) (among_turned h)

pub either_side : Promises.EitherSide
either_side s t r h = fails_turned h

-- where the newest pair fails, the pairs before it are made equal and no substitution makes all equal
pub newest_before : {p : Pair} {ps : List Pair} {r : Reason} → NewestFails (p ∷ ps) r → Unifiable ps
newest_before (newest_fails {σ = σ} m h) = record { by = σ; solves = m.solves }

pub newest_not_unifiable : {ps : List Pair} {r : Reason} → NewestFails ps r → ¬ Unifiable ps
unfolding Solves
newest_not_unifiable (newest_fails {p} {ps} {σ} m h) u =
    let τ = u.by in
    let g = m.general τ u.solves.1 in
    let instance : (t : Term Variable) → under g.0 (under σ t) ≡ under τ t = λ t. under_under g.0 σ t ∙ same (λ x. sym (g.1 x)) t in
    fails_refuted h g.0 (instance p.left ∙ u.solves.0 ∙ sym (instance p.right))
