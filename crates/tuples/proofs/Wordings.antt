-- The line in two lists of names that show every term alike.
use mathlib.Core.List.{List, [], ◌∷◌}
use mathlib.Core.Path.{◌≡◌, refl}
use Prim.Native.Nat.{ℕ, suc}
use Rattle.naming.specs.Shown.{Names, shown}
use Rattle.tuples.specs.Tuples.{tuples_in, terms_text, each_text, tuples_text, line_text, answers_text}

module _ (n m : Names) (same : (ws : List ℕ) → shown n 0 0 [] ws ≡ shown m 0 0 [] ws) where
  terms-same : (before : ℕ) (vs : List (List ℕ)) → terms_text n before vs ≡ terms_text m before vs
  unfolding terms_text
  terms-same before [] = refl
  terms-same before (v ∷ vs) = rw (same v, terms-same (suc before) vs)

  each_same : (before : ℕ) (ts : List (List (List ℕ))) → each_text n before ts ≡ each_text m before ts
  unfolding each_text
  each_same before [] = refl
  each_same before (t ∷ ts) = rw (terms-same 0 t, each_same (suc before) ts)

  pub answers_same : (name : List ℕ) (disjuncts : ℕ) (question own : List ℕ) → answers_text name n disjuncts question own ≡ answers_text name m disjuncts question own
  unfolding answers_text line_text tuples_text
  answers_same name disjuncts [] own = refl
  answers_same name disjuncts (c ∷ question) own = rw (each_same 0 (tuples_in disjuncts question own))
