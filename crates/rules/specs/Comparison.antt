-- Order 5, "Clash or circle": which is the first pair that can't be made equal where two terms are compared, and why it can't. No algorithm.
use Rattle.std.specs.Prelude.{List, [], ◌∷◌, ◌≡◌, ℕ}
use Rattle.table.specs.Syntax.{Term, Terms, var, app, ◌then◌, arity, under, unders}
use Rattle.rules.specs.Substitution.{Variable, Substitution, Pair, MostGeneral}

-- why a pair can't be made equal
pub data Reason : Type 0 where
  a_clash : Reason
  a_circle : Reason

-- a term holds a variable
mutual
  pub data Holds (x : Variable) : Term Variable → Type 0 where
    itself : Holds x (var x)
    in_arguments : {f : ℕ} {ts : Terms Variable} → HoldsAmong x ts → Holds x (app f ts)

  pub data HoldsAmong (x : Variable) : Terms Variable → Type 0 where
    in_this : {t : Term Variable} {ts : Terms Variable} → Holds x t → HoldsAmong x (t then ts)
    in_later : {t : Term Variable} {ts : Terms Variable} → HoldsAmong x ts → HoldsAmong x (t then ts)

-- The first pair that can't be made equal is either
pub data Wrong : Term Variable → Term Variable → Reason → Type 0 where
  -- two different symbols (or arities)
  symbols : {f g : ℕ} {ss ts : Terms Variable} → ¬ ((f ≡ g) × (arity ss ≡ arity ts)) → Wrong (app f ss) (app g ts) a_clash
  -- or a variable against a larger term that holds it, on either side.
  held_by_right : {x : Variable} {g : ℕ} {ts : Terms Variable} → HoldsAmong x ts → Wrong (var x) (app g ts) a_circle
  held_by_left : {x : Variable} {f : ℕ} {ss : Terms Variable} → HoldsAmong x ss → Wrong (app f ss) (var x) a_circle

-- Two terms are compared, and the first pair that can't be made equal is wrong for this reason.
mutual
  pub data Fails : Term Variable → Term Variable → Reason → Type 0 where
    this_pair : {s t : Term Variable} {r : Reason} → Wrong s t r → Fails s t r
    -- depth first, argument by argument
    inside : {f : ℕ} {ss ts : Terms Variable} {r : Reason} → arity ss ≡ arity ts → FailsAmong ss ts r → Fails (app f ss) (app f ts) r

  -- Left to right: in the first argument, or, where that is made equal, in a later one, under what was bound to make it so.
  pub data FailsAmong : Terms Variable → Terms Variable → Reason → Type 0 where
    in_first : {s t : Term Variable} {ss ts : Terms Variable} {r : Reason} → Fails s t r → FailsAmong (s then ss) (t then ts) r
    in_rest : {s t : Term Variable} {ss ts : Terms Variable} {r : Reason} {σ : Substitution}
        → MostGeneral σ (record { left = s; right = t } ∷ []) → FailsAmong (unders σ ss) (unders σ ts) r
        → FailsAmong (s then ss) (t then ts) r

-- Of these closed pairs, latest first, the newest is compared under everything bound by the pairs before it, and fails.
pub data NewestFails : List Pair → Reason → Type 0 where
  newest_fails : {p : Pair} {ps : List Pair} {σ : Substitution} {r : Reason} → MostGeneral σ ps
      → Fails (under σ p.left) (under σ p.right) r
      → NewestFails (p ∷ ps) r
