-- Small comparisons that compute: cases 5, 7 and 8 of document 01.
use mathlib.Core.List.{[], ◌∷◌}
use mathlib.Core.Path.{◌≡◌, refl}
use Prim.Native.Nat.{ℕ}
use Rattle.table.specs.Syntax.{Term, Terms, var, app, nil, ◌then◌}
use Rattle.rules.specs.Substitution.{Variable}
use Rattle.rules.specs.Machinery.Unify.{made, clash, circle, unifies}
use Rattle.rules.proofs.Unify.Opened.{opened}

-- a variable of the question's copy, and one of the clause's
abbrev asked : ℕ → Term Variable
asked n = var (record { copy = 0; number = n })

abbrev told : ℕ → Term Variable
told n = var (record { copy = 1; number = n })

abbrev constant : ℕ → Term Variable
constant f = app f nil

-- case 5: parent(Y,Y) against parent(X,mother(X))
pub case_5 : unifies [] (asked 0 then asked 0 then nil) (told 0 then app 1 (told 0 then nil) then nil) ≡ circle
unfolding opened
case_5 = refl

-- case 7: p(f(g(Z),Z)) against p(f(X,g(Y)))
abbrev case_7_left : Terms Variable
case_7_left = app 1 (app 2 (asked 0 then nil) then asked 0 then nil) then nil

abbrev case_7_right : Terms Variable
case_7_right = app 1 (told 0 then app 2 (told 1 then nil) then nil) then nil

pub case_7 : unifies [] case_7_left case_7_right
    ≡ made
    (record { variable = record { copy = 0; number = 0 }; value = app 2 (told 1 then nil) }
    ∷ (record { variable = record { copy = 1; number = 0 }; value = app 2 (asked 0 then nil) } ∷ []))
unfolding opened
case_7 = refl

-- case 8: p(f(a,g(Z),Z)) against p(f(X,g(X),b))
pub case_8 : unifies []
    (app 1 (constant 3 then app 2 (asked 0 then nil) then asked 0 then nil) then nil)
    (app 1 (told 0 then app 2 (told 0 then nil) then constant 4 then nil) then nil)
    ≡ clash
unfolding opened
case_8 = refl
