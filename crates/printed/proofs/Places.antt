-- The variables of an answer, numbered by their places, are numbered by first use.
use borrow.Author.Tests.{eq-eqb, ne_eqb}
use mathlib.Core.Bool.{Bool, true, false, cond}
use mathlib.Core.List.{List, [], ◌∷◌, ◌++◌, append_assoc, append-nil, map, map-append}
use mathlib.Core.Path.{◌≡◌, refl, sym, ap, ap₂, ◌∙◌}
use Prim.Native.Nat.{ℕ, zero, suc, ◌+◌, ◌<◌}
use native.Mathlib.Omega.{arith}
use lib.Dec.{eqb}
use lib.ListN.{length, get_or, length-append}
use Rattle.table.specs.Syntax.{Term, var, app, Terms, nil, ◌then◌, under, unders, Literal, literal_under}
use Rattle.rules.specs.Substitution.{Variable, same_variable}
use Rattle.rules.specs.Answer.{occurring, occurring_in, occurring_all, seen_by, firsts_after_by, firsts_by, place_by, seen, firsts_after, place_of, numbered}
use Rattle.rules.proofs.Every.{All, all_then, true_false}
use Rattle.rules.proofs.Firsts as Firsts
use Rattle.rules.proofs.FirstPlaces.{place_left, place_last}
use Rattle.rules.proofs.Sameness.{variables_told}
use Rattle.roundtrip.specs.Renumbered.{noted, known_after, first_uses, number_in, variables_of, variables_in, variable_uses}
use Rattle.roundtrip.proofs.FirstUses.{uses_known, recalled}

-- so many numbers from one on
unfoldable up_from : ℕ → ℕ → List ℕ
up_from from zero = []
up_from from (suc more) = from ∷ up_from (suc from) more

up_length : (from more : ℕ) → length (up_from from more) ≡ more
unfolding up_from
up_length from zero = refl
up_length from (suc more) = ap suc (up_length (suc from) more)

up_at : (from more i : ℕ) → i < more → get_or (up_from from more) i 0 ≡ from + i
unfolding up_from
up_at from zero i h = absurd (omega arith)
up_at from (suc more) zero h = omega arith
up_at from (suc more) (suc i) h = omega (arith, up_at (suc from) more i (omega arith))

noted_there : (from more n : ℕ) → from + n < from + more → noted (up_from from more) (from + n) ≡ up_from from more
unfolding up_from noted
noted_there from zero n h = absurd (omega arith)
noted_there from (suc more) zero h = let e : eqb from (from + 0) ≡ true = eq-eqb from (from + 0) (omega arith) in rw e
noted_there from (suc more) (suc n) h =
    let e : eqb from (from + suc n) ≡ false = ne_eqb from (from + suc n) (λ z. omega arith) in
    let m : from + suc n ≡ suc from + n = omega arith in
    rw (e, m) (ap (λ (ns : List ℕ). from ∷ ns) (noted_there (suc from) more n (omega arith)))

noted_next : (from more : ℕ) → noted (up_from from more) (from + more) ≡ up_from from (suc more)
unfolding up_from noted
noted_next from zero = let m : from + 0 ≡ from = omega arith in rw m
noted_next from (suc more) =
    let e : eqb from (from + suc more) ≡ false = ne_eqb from (from + suc more) (λ z. omega arith) in
    let m : from + suc more ≡ suc from + more = omega arith in
    rw (e, m) (ap (λ (ns : List ℕ). from ∷ ns) (noted_next (suc from) more))

-- counted from 0
count_at : (more i : ℕ) → i < more → get_or (up_from 0 more) i 0 ≡ i
count_at more i h = omega (arith, up_at 0 more i h)

count_there : (more n : ℕ) → n < more → noted (up_from 0 more) n ≡ up_from 0 more
count_there more n h = let z : 0 + n ≡ n = omega arith in rw z at (noted_there 0 more n (omega arith))

count_next : (more : ℕ) → noted (up_from 0 more) more ≡ up_from 0 (suc more)
count_next more = let z : 0 + more ≡ more = omega arith in rw z at (noted_next 0 more)

-- the firsts of a list go on with those that are known
further_firsts : (before xs : List Variable) → (more : List Variable) × (firsts_after before xs ≡ before ++ more)
unfolding firsts_after_by
further_firsts before [] = ([], sym (append-nil before))
further_firsts before (x ∷ xs) = go (seen x before) (further_firsts before xs) (further_firsts (before ++ (x ∷ [])) xs)
  where
    go : (b : Bool) → (more : List Variable) × (firsts_after before xs ≡ before ++ more)
        → (more : List Variable) × (firsts_after (before ++ (x ∷ [])) xs ≡ before ++ (x ∷ []) ++ more)
        → (more : List Variable) × (cond b (firsts_after before xs) (firsts_after (before ++ (x ∷ [])) xs) ≡ before ++ more)
    go true p q = p
    go false p q = (x ∷ q.0, q.1 ∙ append_assoc before (x ∷ []) q.0)

place_below : (x : Variable) (ys : List Variable) → seen x ys ≡ true → place_of x ys < length ys
unfolding seen_by place_by
place_below x [] e = true_false e refl
place_below x (y ∷ ys) e = go (same_variable x y) e (place_below x ys)
  where
    go : (b : Bool) → cond b true (seen x ys) ≡ true → (seen x ys ≡ true → place_of x ys < length ys) → cond b zero (suc (place_of x ys)) < suc (length ys)
    go true e f = omega arith
    go false e f = let h = f e in omega arith

seen_last : (x : Variable) (ys : List Variable) → seen x (ys ++ (x ∷ [])) ≡ true
seen_last = Firsts.seen_last variables_told

-- the places of variables, after some that are known
abbrev Counted : List Variable → List Variable → List Variable → Type 0
Counted before xs ys = known_after (up_from 0 (length before)) (map (λ x. place_of x ys) xs) ≡ up_from 0 (length ys)

places_counted : (before xs : List Variable) → Counted before xs (firsts_after before xs)
unfolding known_after firsts_after_by
places_counted before [] = refl
places_counted before (x ∷ xs) = go (seen x before) refl (places_counted before xs) (places_counted (before ++ (x ∷ [])) xs)
  where
    here : (ys : List Variable) (m : ℕ) → noted (up_from 0 (length before)) (place_of x ys) ≡ up_from 0 m
        → known_after (up_from 0 m) (map (λ x. place_of x ys) xs) ≡ up_from 0 (length ys) → Counted before (x ∷ xs) ys
    here ys m a b = ap (λ (ns : List ℕ). known_after ns (map (λ x. place_of x ys) xs)) a ∙ b

    go : (b : Bool) → seen x before ≡ b → Counted before xs (firsts_after before xs) → Counted (before ++ (x ∷ [])) xs (firsts_after (before ++ (x ∷ [])) xs)
        → Counted before (x ∷ xs) (cond b (firsts_after before xs) (firsts_after (before ++ (x ∷ [])) xs))
    go true e p q =
        let ys = further_firsts before xs in
        let place : place_of x (firsts_after before xs) ≡ place_of x before =
        ap (λ (l : List Variable). place_of x l) ys.1 ∙ place_left variables_told x before ys.0 e in
        here (firsts_after before xs) (length before)
        (ap (λ (n : ℕ). noted (up_from 0 (length before)) n) place ∙ count_there (length before) (place_of x before) (place_below x before e)) p
    go false e p q =
        let ys = further_firsts (before ++ (x ∷ [])) xs in
        let place : place_of x (firsts_after (before ++ (x ∷ [])) xs) ≡ length before =
        ap (λ (l : List Variable). place_of x l) ys.1 ∙ place_left variables_told x (before ++ (x ∷ [])) ys.0 (seen_last x before) ∙ place_last variables_told x before e in
        let long : length (before ++ (x ∷ [])) ≡ suc (length before) = omega (arith, length-append before (x ∷ [])) in
        here (firsts_after (before ++ (x ∷ [])) xs) (suc (length before))
        (ap (λ (n : ℕ). noted (up_from 0 (length before)) n) place ∙ count_next (length before)) (rw long at q)

-- numbers in turn are their own numbers
own_of : (uses : List ℕ) (count : ℕ) → first_uses uses ≡ up_from 0 count → All (λ n. number_in (first_uses uses) n ≡ n) uses
own_of uses count e = all_then own (uses_known uses)
  where
    own : (n : ℕ) → number_in (first_uses uses) n < length (first_uses uses) → number_in (first_uses uses) n ≡ n
    own n h =
        let long : length (first_uses uses) ≡ count = ap (λ (l : List ℕ). length l) e ∙ up_length 0 count in
        let at : get_or (first_uses uses) (number_in (first_uses uses) n) 0 ≡ number_in (first_uses uses) n =
        ap (λ (l : List ℕ). get_or l (number_in (first_uses uses) n) 0) e ∙ count_at count (number_in (first_uses uses) n) (omega arith) in
        sym at ∙ recalled (first_uses uses) n h

-- the variables used after numbering
module _ (number : Variable → ℕ) where
  mutual
    unfolding under variables_of occurring

    variables-placed : (t : Term Variable) → variables_of (under (λ x. var (number x)) t) ≡ map number (occurring t)
    variables-placed (var x) = refl
    variables-placed (app f ts) = all_placed ts

    all_placed : (ts : Terms Variable) → variables_in (unders (λ x. var (number x)) ts) ≡ map number (occurring_in ts)
    all_placed nil = refl
    all_placed (t then ts) = ap₂ ◌++◌ (variables-placed t) (all_placed ts) ∙ sym (map-append number (occurring t) (occurring_in ts))

  uses-placed : (ls : List (Literal Variable)) → variable_uses (map (literal_under (λ x. var (number x))) ls) ≡ map number (occurring_all ls)
  unfolding variable_uses occurring_all literal_under
  uses-placed [] = refl
  uses-placed (l ∷ ls) = ap₂ ◌++◌ (all_placed l.arguments) (uses-placed ls) ∙ sym (map-append number (occurring_in l.arguments) (occurring_all ls))

pub answer_in_order : (ls : List (Literal Variable)) → All (λ n. number_in (first_uses (variable_uses (numbered ls))) n ≡ n) (variable_uses (numbered ls))
unfolding numbered firsts_by up_from
answer_in_order ls =
    let uses : variable_uses (map (literal_under (λ x. var (place_of x (firsts_after [] (occurring_all ls))))) ls) ≡ map (λ x. place_of x (firsts_after [] (occurring_all ls))) (occurring_all ls) =
    uses-placed (λ x. place_of x (firsts_after [] (occurring_all ls))) ls in
    rw uses (own_of (map (λ x. place_of x (firsts_after [] (occurring_all ls))) (occurring_all ls)) (length (firsts_after [] (occurring_all ls))) (places_counted [] (occurring_all ls)))
