-- The answer does not depend on which most general solution was taken; under every other solution the disjuncts are an instance of it.
use lib.ListN.{length, get_or, length-map}
use mathlib.Core.Bool.{Bool, true, false, cond}
use mathlib.Core.List.{List, [], ◌∷◌, ◌++◌, map, append_assoc, map-append}
use mathlib.Core.Path.{◌≡◌, refl, sym, ◌∙◌, ap, ap₂, subst}
use native.Mathlib.Omega.{arith}
use Prim.Native.Nat.{ℕ, zero, suc, ◌+◌, ◌*◌, ◌<◌, ◌≤◌}
use mathlib.Core.Logic.{◌≢◌}
use Rattle.table.specs.Syntax.{Term, var, app, Terms, nil, ◌then◌, under, unders, Literal, literal_under, Table}
use Rattle.table.specs.Encode.{literals_words}
use Rattle.rules.specs.Substitution.{Variable, Substitution, Pair, Solves, MostGeneral, same_variable}
use Rattle.rules.specs.Tableau.{copy_of, Tableau}
use Rattle.rules.specs.Answer.{positive, disjunct, disjuncts, occurring, occurring_in, occurring_all, same_disjunct, seen_by, firsts_after_by, firsts_by, place_by, AllDifferent, per_copy, seen, firsts_after, firsts, place_of, numbered, joined, answer_words}
use Rattle.rules.proofs.Substitution.{unders_var, unders_unders, sames}
use Rattle.rules.proofs.Every.{All, end, ◌also◌, all_first, all_rest, all_append, all_left, all_right, all_then, true_false, Ordered, done, ◌ahead◌, ordered_append}
use Rattle.rules.proofs.Firsts as Firsts
use Rattle.rules.proofs.Sameness.{variables_told, disjuncts_told}
use Rattle.rules.proofs.Unify.Tests.{same_true}
use Rattle.rules.proofs.Distinct.{distinct_below}

-- the disjuncts of an answer, each with its variables so numbered
unfoldable pub numbered_disjuncts : List (List (Literal Variable)) → List (List (Literal ℕ))
numbered_disjuncts ds = map (map (literal_under (λ x. var (place_of x (firsts (occurring_all (joined ds))))))) ds

-- agreement on the variables that occur, and back
mutual
  unfolding under occurring

  agree_on : {Y : Type 0} (σ τ : Variable → Term Y) (t : Term Variable) → All (λ x. σ x ≡ τ x) (occurring t) → under σ t ≡ under τ t
  agree_on σ τ (var x) e = all_first e
  agree_on σ τ (app f ts) e = ap (app f) (agree_in σ τ ts e)

  agree_in : {Y : Type 0} (σ τ : Variable → Term Y) (ts : Terms Variable) → All (λ x. σ x ≡ τ x) (occurring_in ts) → unders σ ts ≡ unders τ ts
  agree_in σ τ nil e = refl
  agree_in σ τ (t then ts) e =
      ap₂ ◌then◌ (agree_on σ τ t (all_left (occurring t) (occurring_in ts) e)) (agree_in σ τ ts (all_right (occurring t) (occurring_in ts) e))

mutual
  unfolding under occurring

  agreed_on : {Y : Type 0} (σ τ : Variable → Term Y) (t : Term Variable) → under σ t ≡ under τ t → All (λ x. σ x ≡ τ x) (occurring t)
  agreed_on σ τ (var x) e = e also end
  agreed_on σ τ (app f ts) e = agreed_in σ τ ts cc

  agreed_in : {Y : Type 0} (σ τ : Variable → Term Y) (ts : Terms Variable) → unders σ ts ≡ unders τ ts → All (λ x. σ x ≡ τ x) (occurring_in ts)
  agreed_in σ τ nil e = end
  agreed_in σ τ (t then ts) e = all_append (agreed_on σ τ t cc) (agreed_in σ τ ts cc)

pub literals_agree :
    {Y : Type 0} (σ τ : Variable → Term Y) (ls : List (Literal Variable)) → All (λ x. σ x ≡ τ x) (occurring_all ls)
    → map (literal_under σ) ls ≡ map (literal_under τ) ls
unfolding occurring_all literal_under
literals_agree σ τ [] e = refl
literals_agree σ τ (l ∷ ls) e =
    ap₂ ◌∷◌
    (ap (λ (ts : Terms _). record { negative = l.negative; predicate = l.predicate; arguments = ts })
    (agree_in σ τ l.arguments (all_left (occurring_in l.arguments) (occurring_all ls) e)))
    (literals_agree σ τ ls (all_right (occurring_in l.arguments) (occurring_all ls) e))

pub literals_agreed :
    {Y : Type 0} (σ τ : Variable → Term Y) (ls : List (Literal Variable)) → map (literal_under σ) ls ≡ map (literal_under τ) ls
    → All (λ x. σ x ≡ τ x) (occurring_all ls)
unfolding occurring_all literal_under
literals_agreed σ τ [] e = end
literals_agreed {Y} σ τ (l ∷ ls) e =
    let h : literal_under σ l ≡ literal_under τ l = cc in
    all_append (agreed_in σ τ l.arguments (ap (λ (k : Literal Y). k.arguments) h)) (literals_agreed σ τ ls cc)

literals_under_under :
    {X Y Z : Type 0} (τ : Y → Term Z) (σ : X → Term Y) (ls : List (Literal X))
    → map (literal_under τ) (map (literal_under σ) ls) ≡ map (literal_under (λ x. under τ (σ x))) ls
unfolding literal_under
literals_under_under τ σ [] = refl
literals_under_under τ σ (l ∷ ls) =
    ap₂ ◌∷◌
    (ap (λ (ts : Terms _). record { negative = l.negative; predicate = l.predicate; arguments = ts }) (unders_unders τ σ l.arguments))
    (literals_under_under τ σ ls)

literals_under_var : {X : Type 0} (ls : List (Literal X)) → map (literal_under var) ls ≡ ls
unfolding literal_under
literals_under_var [] = refl
literals_under_var (l ∷ ls) =
    ap₂ ◌∷◌
    (ap (λ (ts : Terms _). record { negative = l.negative; predicate = l.predicate; arguments = ts }) (unders_var l.arguments))
    (literals_under_var ls)

-- A renaming, undone by another on some variables, keeps apart what is different there.
module _ (r q : Variable → Variable) where
  abbrev Undone : Variable → Type 0
  Undone x = q (r x) ≡ x

  firsts_renamed : (before xs : List Variable) → All Undone before → All Undone xs → firsts_after (map r before) (map r xs) ≡ map r (firsts_after before xs)
  firsts_renamed = Firsts.firsts_renamed variables_told variables_told r q

  place-renamed : (x : Variable) (ys : List Variable) → Undone x → All Undone ys → place_of (r x) (map r ys) ≡ place_of x ys
  unfolding place_by
  place-renamed x [] u us = refl
  place-renamed x (y ∷ ys) u us =
      ap₂ (λ (b : Bool) (n : ℕ). cond b zero (suc n)) (Firsts.same_kept variables_told variables_told r q x y u (all_first us)) (place-renamed x ys u (all_rest us))

  mutual
    unfolding under occurring

    occurring-renamed : (t : Term Variable) → occurring (under (λ x. var (r x)) t) ≡ map r (occurring t)
    occurring-renamed (var x) = refl
    occurring-renamed (app f ts) = occurring-in-renamed ts

    occurring-in-renamed : (ts : Terms Variable) → occurring_in (unders (λ x. var (r x)) ts) ≡ map r (occurring_in ts)
    occurring-in-renamed nil = refl
    occurring-in-renamed (t then ts) = ap₂ ◌++◌ (occurring-renamed t) (occurring-in-renamed ts) ∙ sym (map-append r (occurring t) (occurring_in ts))

  occurring-all-renamed : (ls : List (Literal Variable)) → occurring_all (map (literal_under (λ x. var (r x))) ls) ≡ map r (occurring_all ls)
  unfolding literal_under occurring_all
  occurring-all-renamed [] = refl
  occurring-all-renamed (l ∷ ls) =
      ap₂ ◌++◌ (occurring-in-renamed l.arguments) (occurring-all-renamed ls) ∙ sym (map-append r (occurring_in l.arguments) (occurring_all ls))

  numbered-renamed : (ls : List (Literal Variable)) → All Undone (occurring_all ls) → numbered (map (literal_under (λ x. var (r x))) ls) ≡ numbered ls
  unfolding numbered firsts_by under
  numbered-renamed ls us =
      let o : firsts_after [] (occurring_all (map (literal_under (λ x. var (r x))) ls)) ≡ map r (firsts_after [] (occurring_all ls)) =
      ap (firsts_after []) (occurring-all-renamed ls) ∙ firsts_renamed [] (occurring_all ls) end us in
      rw o
      (literals_under_under (λ x. var (place_of x (map r (firsts_after [] (occurring_all ls))))) (λ x. var (r x)) ls
      ∙ literals_agree _ _ ls (all_then (λ x u. ap var (place-renamed x (firsts_after [] (occurring_all ls)) u (Firsts.firsts_all same_variable [] (occurring_all ls) end us))) us))

-- a term that one substitution takes back to a variable is a variable
name_of : Variable → Term Variable → Variable
name_of x (var y) = y
name_of x (app f ts) = x

taken_back : (ρ τ : Substitution) (x : Variable) → under τ (ρ x) ≡ var x → (ρ x ≡ var (name_of x (ρ x))) × (name_of (name_of x (ρ x)) (τ (name_of x (ρ x))) ≡ x)
unfolding under name_of
taken_back ρ τ x e = go (ρ x) e
  where
    name : (y : Variable) (t : Term Variable) → t ≡ var x → name_of y t ≡ x
    name y (var z) e = cc
    name y (app f ts) e = cc

    go : (t : Term Variable) → under τ t ≡ var x → (t ≡ var (name_of x t)) × (name_of (name_of x t) (τ (name_of x t)) ≡ x)
    go (var y) e = (refl, name y (τ y) e)
    go (app f ts) e = (cc, cc)

-- literals that are taken to others and back are numbered alike
renaming :
    (ρ τ : Substitution) (ls : List (Literal Variable)) → map (literal_under τ) (map (literal_under ρ) ls) ≡ ls
    → (map (literal_under ρ) ls ≡ map (literal_under (λ x. var (name_of x (ρ x)))) ls)
    × All (λ x. name_of (name_of x (ρ x)) (τ (name_of x (ρ x))) ≡ x) (occurring_all ls)
renaming ρ τ ls e =
    let back : All (λ x. under τ (ρ x) ≡ var x) (occurring_all ls) =
    literals_agreed (λ x. under τ (ρ x)) var ls (sym (literals_under_under τ ρ ls) ∙ e ∙ sym (literals_under_var ls)) in (
      literals_agree _ _ ls (all_then (λ x h. (taken_back ρ τ x h).0) back),
      all_then (λ x h. (taken_back ρ τ x h).1) back,
    )

pub numbered_either_way :
    (ρ τ : Substitution) (ls : List (Literal Variable)) → map (literal_under τ) (map (literal_under ρ) ls) ≡ ls
    → numbered (map (literal_under ρ) ls) ≡ numbered ls
numbered_either_way ρ τ ls e =
    let r = renaming ρ τ ls e in
    ap numbered r.0 ∙ numbered-renamed (λ x. name_of x (ρ x)) (λ x. name_of x (τ x)) ls r.1

-- and have as many different variables
pub count_either_way :
    (ρ τ : Substitution) (ls : List (Literal Variable)) → map (literal_under τ) (map (literal_under ρ) ls) ≡ ls
    → length (firsts (occurring_all (map (literal_under ρ) ls))) ≡ length (firsts (occurring_all ls))
unfolding firsts_by
count_either_way ρ τ ls e =
    let r = renaming ρ τ ls e in
    let o = occurring-all-renamed (λ x. name_of x (ρ x)) (λ x. name_of x (τ x)) ls in
    let f = firsts_renamed (λ x. name_of x (ρ x)) (λ x. name_of x (τ x)) [] (occurring_all ls) end r.1 in
    ap (λ (l : List (Literal Variable)). length (firsts_after [] (occurring_all l))) r.0
    ∙ ap (λ (l : List Variable). length (firsts_after [] l)) o
    ∙ ap length f
    ∙ length-map (firsts_after [] (occurring_all ls)) (λ x. name_of x (ρ x))

-- the disjuncts under an instance of a substitution
disjunct_instance :
    (σ τ ρ : Substitution) → ((x : Variable) → τ x ≡ under ρ (σ x)) → (ls : List (Literal Variable))
    → map (λ l. literal_under τ (positive l)) ls ≡ map (literal_under ρ) (map (λ l. literal_under σ (positive l)) ls)
unfolding literal_under positive
disjunct_instance σ τ ρ e [] = refl
disjunct_instance σ τ ρ e (l ∷ ls) =
    ap₂ ◌∷◌
    (ap (λ (ts : Terms Variable). record { negative = false; predicate = l.predicate; arguments = ts })
    (sames e l.arguments ∙ sym (unders_unders ρ σ l.arguments)))
    (disjunct_instance σ τ ρ e ls)

pub copies_instance :
    (σ τ ρ : Substitution) → ((x : Variable) → τ x ≡ under ρ (σ x)) → (t : Table) (x : Tableau)
    → per_copy τ t x ≡ map (map (literal_under ρ)) (per_copy σ t x)
unfolding per_copy disjunct
copies_instance σ τ ρ e t x = go x.questions
  where
    go : (qs : List ℕ) → map (disjunct τ t.question) qs ≡ map (map (literal_under ρ)) (map (disjunct σ t.question) qs)
    go [] = refl
    go (q ∷ qs) = ap₂ ◌∷◌ (disjunct_instance σ τ ρ e (copy_of q t.question)) (go qs)

joined_map : (f : Literal Variable → Literal Variable) (ds : List (List (Literal Variable))) → joined (map (map f) ds) ≡ map f (joined ds)
unfolding joined
joined_map f [] = refl
joined_map f (d ∷ ds) = ap (λ (l : List (Literal Variable)). map f d ++ l) (joined_map f ds) ∙ sym (map-append f d (joined ds))

-- two most general solutions take the disjuncts to one another
record EitherWay (ks ls : List (List (Literal Variable))) : Type 0 where
  there : Substitution
  back : Substitution
  to : ls ≡ map (map (literal_under there)) ks
  fro : All (λ d. map (literal_under back) (map (literal_under there) d) ≡ d) ks

returned : {A B : Type 0} (f : A → B) (g : B → A) (xs : List A) → xs ≡ map g (map f xs) → All (λ x. g (f x) ≡ x) xs
returned f g [] e = end
returned f g (x ∷ xs) e = let h : g (f x) ≡ x = cc in h also returned f g xs (cc)

either_way :
    (t : Table) (x : Tableau) (ps : List Pair) (σ τ : Substitution) → MostGeneral σ ps → MostGeneral τ ps
    → EitherWay (disjuncts σ t x) (disjuncts τ t x)
unfolding disjuncts firsts_by
either_way t x ps σ τ m n =
    let there = m.general τ n.solves in
    let back = n.general σ m.solves in
    let to = copies_instance σ τ there.0 there.1 t x in
    let fro =
    returned (map (literal_under there.0)) (map (literal_under back.0)) (per_copy σ t x)
    (copies_instance τ σ back.0 back.1 t x ∙ ap (map (map (literal_under back.0))) to) in
    record {
      there = there.0;
      back = back.0;
      to =
          ap (firsts_by same_disjunct) to
          ∙ Firsts.firsts_renamed disjuncts_told disjuncts_told (map (literal_under there.0)) (map (literal_under back.0)) [] (per_copy σ t x) end fro;
      fro = Firsts.firsts_all same_disjunct [] (per_copy σ t x) end fro;
    }

-- so with their literals, one after another
joined_to : {ks ls : List (List (Literal Variable))} (w : EitherWay ks ls) → joined ls ≡ map (literal_under w.there) (joined ks)
joined_to {ks} w = ap joined w.to ∙ joined_map (literal_under w.there) ks

joined_back : (ρ τ : Substitution) (ks : List (List (Literal Variable))) → All (λ d. map (literal_under τ) (map (literal_under ρ) d) ≡ d) ks
    → map (literal_under τ) (map (literal_under ρ) (joined ks)) ≡ joined ks
unfolding joined
joined_back ρ τ [] a = refl
joined_back ρ τ (d ∷ ks) a =
    ap (map (literal_under τ)) (map-append (literal_under ρ) d (joined ks)) ∙ map-append (literal_under τ) (map (literal_under ρ) d) (map (literal_under ρ) (joined ks))
    ∙ ap₂ ◌++◌ (all_first a) (joined_back ρ τ ks (all_rest a))

-- the answer's literals, numbered, do not depend on which most general solution was taken, and neither does the number of its variables
pub numbered_once :
    (t : Table) (x : Tableau) (ps : List Pair) (σ τ : Substitution) → MostGeneral σ ps → MostGeneral τ ps
    → numbered (joined (disjuncts σ t x)) ≡ numbered (joined (disjuncts τ t x))
numbered_once t x ps σ τ m n =
    let w = either_way t x ps σ τ m n in
    sym (ap numbered (joined_to w) ∙ numbered_either_way w.there w.back _ (joined_back w.there w.back _ w.fro))

pub count_once :
    (t : Table) (x : Tableau) (ps : List Pair) (σ τ : Substitution) → MostGeneral σ ps → MostGeneral τ ps
    → length (firsts (occurring_all (joined (disjuncts σ t x)))) ≡ length (firsts (occurring_all (joined (disjuncts τ t x))))
count_once t x ps σ τ m n =
    let w = either_way t x ps σ τ m n in
    sym (ap (λ (l : List (Literal Variable)). length (firsts (occurring_all l))) (joined_to w) ∙ count_either_way w.there w.back _ (joined_back w.there w.back _ w.fro))

pub number_once :
    (t : Table) (x : Tableau) (ps : List Pair) (σ τ : Substitution) → MostGeneral σ ps → MostGeneral τ ps
    → length (disjuncts σ t x) ≡ length (disjuncts τ t x)
number_once t x ps σ τ m n = let w = either_way t x ps σ τ m n in sym (ap length w.to ∙ length-map (disjuncts σ t x) (map (literal_under w.there)))

pub answer_once :
    (t : Table) (x : Tableau) (ps : List Pair) (σ τ : Substitution) → MostGeneral σ ps → MostGeneral τ ps
    → answer_words σ t x ≡ answer_words τ t x
unfolding answer_words
answer_once t x ps σ τ m n = ap literals_words (numbered_once t x ps σ τ m n)

at_its_place : (x d : Variable) (ys : List Variable) → seen x ys ≡ true → get_or ys (place_of x ys) d ≡ x
unfolding seen_by place_by
at_its_place x d [] e = true_false e refl
at_its_place x d (y ∷ ys) e = go (same_variable x y) refl (at_its_place x d ys) e
  where
    go : (b : Bool) → same_variable x y ≡ b → (seen x ys ≡ true → get_or ys (place_of x ys) d ≡ x) → cond b true (seen x ys) ≡ true
        → get_or (y ∷ ys) (cond b zero (suc (place_of x ys))) d ≡ x
    go true f g e = sym (same_true x y f)
    go false f g e = g e

-- the literals are the numbered ones with the variables put back
abbrev origin : Variable
origin = record { copy = 0; number = 0 }

pub put_back_lem : List (Literal Variable) → ℕ → Term Variable
put_back_lem ls n = var (get_or (firsts (occurring_all ls)) n origin)

-- different variables of so few copies, with numbers below 16
module _ (copies : ℕ) where
  abbrev pub Few : Variable → Type 0
  Few x = (x.copy < copies) × (x.number < 16)

  coded : Variable → ℕ
  coded x = x.copy * 16 + x.number

  coded-apart : (x y : Variable) → x ≢ y → x.number < 16 → y.number < 16 → coded x ≢ coded y
  unfolding coded
  coded-apart x y d f g h =
      let m : x.copy ≡ y.copy = omega arith in
      let n : x.number ≡ y.number = omega arith in
      d (λ i. record { copy = m i; number = n i })

  coded-differ : (x : Variable) (xs : List Variable) → Few x → All Few xs → All (λ y. x ≢ y) xs → All (λ n. coded x ≢ n) (map coded xs)
  coded-differ x [] f fs d = end
  coded-differ x (y ∷ xs) f fs d = coded-apart x y (all_first d) f.1 (all_first fs).1 also coded-differ x xs f (all_rest fs) (all_rest d)

  coded-ordered : (xs : List Variable) → All Few xs → Ordered (λ x y. x ≢ y) xs → Ordered (λ m n. m ≢ n) (map coded xs)
  coded-ordered [] fs o = done
  coded-ordered (x ∷ xs) fs (d ahead o) = coded-differ x xs (all_first fs) (all_rest fs) d ahead coded-ordered xs (all_rest fs) o

  coded-below : (xs : List Variable) → All Few xs → All (λ n. n < copies * 16) (map coded xs)
  unfolding coded
  coded-below [] fs = end
  coded-below (x ∷ xs) fs =
      let f : Few x = all_first fs in
      let h : x.copy * 16 + x.number < copies * 16 = omega arith in
      h also coded-below xs (all_rest fs)

  pub few_variables : (xs : List Variable) → All Few xs → length (firsts xs) ≤ copies * 16
  unfolding firsts_by
  few_variables xs fs =
      let ys = firsts_after [] xs in
      let gs = Firsts.firsts_all same_variable [] xs end fs in
      let l : length (map coded ys) ≤ copies * 16 = distinct_below (copies * 16) (map coded ys) (coded-ordered ys gs (Firsts.firsts_differ variables_told [] xs done)) (coded-below ys gs) in
      rw (length-map ys coded) at l

-- under every other solution the disjuncts are an instance of the numbered ones by one substitution, each once
maps_under_under :
    {X Y Z : Type 0} (τ : Y → Term Z) (σ : X → Term Y) (ds : List (List (Literal X)))
    → map (map (literal_under τ)) (map (map (literal_under σ)) ds) ≡ map (map (literal_under (λ x. under τ (σ x)))) ds
maps_under_under τ σ [] = refl
maps_under_under τ σ (d ∷ ds) = ap₂ ◌∷◌ (literals_under_under τ σ d) (maps_under_under τ σ ds)

maps_under_var : {X : Type 0} (ds : List (List (Literal X))) → map (map (literal_under var)) ds ≡ ds
maps_under_var [] = refl
maps_under_var (d ∷ ds) = ap₂ ◌∷◌ (literals_under_var d) (maps_under_var ds)

occurring_append : (ks ls : List (Literal Variable)) → occurring_all (ks ++ ls) ≡ occurring_all ks ++ occurring_all ls
unfolding occurring_all
occurring_append [] ls = refl
occurring_append (k ∷ ks) ls =
    ap (λ (r : List Variable). occurring_in k.arguments ++ r) (occurring_append ks ls)
    ∙ sym (append_assoc (occurring_in k.arguments) (occurring_all ks) (occurring_all ls))

maps_agree :
    {Y : Type 0} (σ τ : Variable → Term Y) (ds : List (List (Literal Variable))) → All (λ x. σ x ≡ τ x) (occurring_all (joined ds))
    → map (map (literal_under σ)) ds ≡ map (map (literal_under τ)) ds
unfolding joined
maps_agree σ τ [] a = refl
maps_agree σ τ (d ∷ ds) a =
    let b : All (λ x. σ x ≡ τ x) (occurring_all d ++ occurring_all (joined ds)) = rw (occurring_append d (joined ds)) at a in
    ap₂ ◌∷◌ (literals_agree σ τ d (all_left (occurring_all d) (occurring_all (joined ds)) b))
    (maps_agree σ τ ds (all_right (occurring_all d) (occurring_all (joined ds)) b))

disjuncts_put_back : (ds : List (List (Literal Variable))) → map (map (literal_under (put_back_lem (joined ds)))) (numbered_disjuncts ds) ≡ ds
unfolding numbered_disjuncts put_back_lem firsts_by under
disjuncts_put_back ds =
    maps_under_under (λ n. var (get_or (firsts_after [] (occurring_all (joined ds))) n origin))
    (λ x. var (place_of x (firsts_after [] (occurring_all (joined ds))))) ds
    ∙ maps_agree _ var ds
    (all_then (λ x e. ap var (at_its_place x origin (firsts_after [] (occurring_all (joined ds))) e)) (Firsts.all_seen variables_told [] (occurring_all (joined ds))))
    ∙ maps_under_var ds

pub disjuncts_general :
    (t : Table) (x : Tableau) (ps : List Pair) (σ τ : Substitution) → MostGeneral σ ps → Solves τ ps
    → (ρ : ℕ → Term Variable) × (disjuncts τ t x ≡ firsts_by same_disjunct (map (map (literal_under ρ)) (numbered_disjuncts (disjuncts σ t x))))
unfolding disjuncts
disjuncts_general t x ps σ τ m s =
    let ds = firsts_by same_disjunct (per_copy σ t x) in
    let ρ = m.general τ s in (
      λ n. under ρ.0 (put_back_lem (joined ds) n),
      ap (firsts_by same_disjunct) (copies_instance σ τ ρ.0 ρ.1 t x)
          ∙ sym (Firsts.firsts_mapped disjuncts_told disjuncts_told (map (literal_under ρ.0)) (per_copy σ t x))
          ∙ ap (λ (ds : List (List (Literal Variable))). firsts_by same_disjunct (map (map (literal_under ρ.0)) ds)) (sym (disjuncts_put_back ds))
          ∙ ap (firsts_by same_disjunct) (maps_under_under ρ.0 (put_back_lem (joined ds)) (numbered_disjuncts ds)),
    )

-- no two of the numbered disjuncts are equal
pub ordered_different : {A : Type 0} {xs : List A} → Ordered (λ x y. x ≢ y) xs → AllDifferent xs
unfolding AllDifferent
ordered_different done = tt
ordered_different (a ahead o) = (Firsts.all_each a, ordered_different o)

-- what is put back as it was, was different
undone_different : {A B : Type 0} (f : A → B) (xs : List A) → Ordered (λ x y. x ≢ y) (map f xs) → Ordered (λ x y. x ≢ y) xs
undone_different f [] o = done
undone_different {A} f (x ∷ xs) (a ahead o) = go xs a ahead undone_different f xs o
  where
    go : (ys : List A) → All (λ z. f x ≢ z) (map f ys) → All (λ y. x ≢ y) ys
    go [] b = end
    go (y ∷ ys) b = (λ e. all_first b (ap f e)) also go ys (all_rest b)

pub different_disjuncts : (σ : Substitution) (t : Table) (x : Tableau) → AllDifferent (numbered_disjuncts (disjuncts σ t x))
unfolding disjuncts firsts_by
different_disjuncts σ t x =
    let ds = firsts_after_by same_disjunct [] (per_copy σ t x) in
    let back : map (map (literal_under (put_back_lem (joined ds)))) (numbered_disjuncts ds) ≡ ds = disjuncts_put_back ds in
    ordered_different
    (undone_different (map (literal_under (put_back_lem (joined ds)))) (numbered_disjuncts ds)
    (subst (Ordered (λ x y. x ≢ y)) (sym back) (Firsts.firsts_differ disjuncts_told [] (per_copy σ t x) done)))
