-- The tests of the answer tell equals: variables, terms, literals and disjuncts.
use borrow.Author.Tests.{eqb-true, eq-eqb}
use lib.Dec.{eqb}
use mathlib.Core.Bool.{Bool, true, false, beq, ◌&&◌}
use mathlib.Core.List.{List, [], ◌∷◌}
use mathlib.Core.Path.{◌≡◌, refl, ap, ap₂}
use Prim.Native.Nat.{ℕ}
use Rattle.table.specs.Syntax.{Term, var, app, Terms, nil, ◌then◌, Literal}
use Rattle.rules.specs.Substitution.{Variable, same_variable}
use Rattle.rules.specs.Answer.{same_term, same_terms, same_literal, same_disjunct}
use Rattle.rules.proofs.Every.{true_false}
use Rattle.rules.proofs.Firsts.{Tells}
use Rattle.rules.proofs.Unify.Tests.{and_left, and_right, same_true, same_refl}

pub variables_told : Tells same_variable
variables_told = record { equal = same_true; self = same_refl }

both : {a b : Bool} → a ≡ true → b ≡ true → a && b ≡ true
both e f = ap₂ ◌&&◌ e f

mutual
  unfolding same_term

  term_equal : (s t : Term Variable) → same_term s t ≡ true → s ≡ t
  term_equal (var x) (var y) e = ap var (same_true x y e)
  term_equal (var x) (app g ts) e = true_false e refl
  term_equal (app f ss) (var y) e = true_false e refl
  term_equal (app f ss) (app g ts) e =
      ap₂ app (eqb-true f g (and_left (eqb f g) (same_terms ss ts) e)) (terms_equal ss ts (and_right (eqb f g) (same_terms ss ts) e))

  terms_equal : (ss ts : Terms Variable) → same_terms ss ts ≡ true → ss ≡ ts
  terms_equal nil nil e = refl
  terms_equal nil (t then ts) e = true_false e refl
  terms_equal (s then ss) nil e = true_false e refl
  terms_equal (s then ss) (t then ts) e =
      ap₂ ◌then◌ (term_equal s t (and_left (same_term s t) (same_terms ss ts) e)) (terms_equal ss ts (and_right (same_term s t) (same_terms ss ts) e))

mutual
  unfolding same_term

  term_self : (t : Term Variable) → same_term t t ≡ true
  term_self (var x) = same_refl x
  term_self (app f ts) = both (eq-eqb f f refl) (terms_self ts)

  terms_self : (ts : Terms Variable) → same_terms ts ts ≡ true
  terms_self nil = refl
  terms_self (t then ts) = both (term_self t) (terms_self ts)

sign_equal : (a b : Bool) → beq a b ≡ true → a ≡ b
sign_equal true true e = refl
sign_equal true false e = true_false e refl
sign_equal false true e = true_false e refl
sign_equal false false e = refl

sign_self : (a : Bool) → beq a a ≡ true
sign_self true = refl
sign_self false = refl

pub literal_equal : (l m : Literal Variable) → same_literal l m ≡ true → l ≡ m
unfolding same_literal
literal_equal l m e =
    let signs : Bool = beq l.negative m.negative in
    let predicates : Bool = eqb l.predicate m.predicate in
    let h = and_left (signs && predicates) (same_terms l.arguments m.arguments) e in
    let s = sign_equal l.negative m.negative (and_left signs predicates h) in
    let p = eqb-true l.predicate m.predicate (and_right signs predicates h) in
    let a = terms_equal l.arguments m.arguments (and_right (signs && predicates) (same_terms l.arguments m.arguments) e) in
    λ i. record { negative = s i; predicate = p i; arguments = a i }

pub literal_self : (l : Literal Variable) → same_literal l l ≡ true
unfolding same_literal
literal_self l = both (both (sign_self l.negative) (eq-eqb l.predicate l.predicate refl)) (terms_self l.arguments)

disjunct_equal : (d e : List (Literal Variable)) → same_disjunct d e ≡ true → d ≡ e
unfolding same_disjunct
disjunct_equal [] [] h = refl
disjunct_equal [] (m ∷ ms) h = true_false h refl
disjunct_equal (l ∷ ls) [] h = true_false h refl
disjunct_equal (l ∷ ls) (m ∷ ms) h =
    ap₂ ◌∷◌ (literal_equal l m (and_left (same_literal l m) (same_disjunct ls ms) h)) (disjunct_equal ls ms (and_right (same_literal l m) (same_disjunct ls ms) h))

disjunct_self : (d : List (Literal Variable)) → same_disjunct d d ≡ true
unfolding same_disjunct
disjunct_self [] = refl
disjunct_self (l ∷ ls) = both (literal_self l) (disjunct_self ls)

pub disjuncts_told : Tells same_disjunct
disjuncts_told = record { equal = disjunct_equal; self = disjunct_self }
