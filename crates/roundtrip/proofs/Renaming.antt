-- Laws of other numbers for a table's symbols and variables: what agrees on the numbers used, two renamings in turn, and the uses afterwards.
use mathlib.Core.List.{List, [], ◌∷◌, ◌++◌, map, map-append}
use mathlib.Core.Path.{◌≡◌, refl, sym, ap, ap₂, ◌∙◌}
use Prim.Native.Nat.{ℕ}
use Rattle.table.specs.Syntax.{Term, var, app, Terms, nil, ◌then◌, Literal, Clause}
use Rattle.rules.proofs.Every.{All, end, ◌also◌, all_append, all_first, all_rest, all_left, all_right}
use Rattle.roundtrip.specs.Renumbered.{functions_of, functions_in, variables_of, variables_in, predicate_uses, function_uses, variable_uses, of_all, renamed_term, renamed_terms, renamed_literal, renumbered_clause}

abbrev pub Agree : {X : Type 0} → (ℕ → X) → (ℕ → X) → ℕ → Type 0
Agree a b n = a n ≡ b n

-- agreement on the numbers used
module _ {X : Type 0} (f g : ℕ → ℕ) (v w : ℕ → X) where
  mutual
    unfolding renamed_term functions_of variables_of

    agree : (t : Term ℕ) → All (Agree f g) (functions_of t) → All (Agree v w) (variables_of t) → renamed_term f v t ≡ renamed_term g w t
    agree (var x) fs vs = ap var (all_first vs)
    agree (app h ts) fs vs = ap₂ app (all_first fs) (agrees ts (all_rest fs) vs)

    agrees : (ts : Terms ℕ) → All (Agree f g) (functions_in ts) → All (Agree v w) (variables_in ts) → renamed_terms f v ts ≡ renamed_terms g w ts
    agrees nil fs vs = refl
    agrees (t then ts) fs vs =
        ap₂ ◌then◌ (agree t (all_left (functions_of t) (functions_in ts) fs) (all_left (variables_of t) (variables_in ts) vs))
        (agrees ts (all_right (functions_of t) (functions_in ts) fs) (all_right (variables_of t) (variables_in ts) vs))

  pub agree_literals : (p q : ℕ → ℕ) (ls : List (Literal ℕ)) → All (Agree p q) (predicate_uses ls) → All (Agree f g) (function_uses ls) → All (Agree v w) (variable_uses ls)
      → map (renamed_literal p f v) ls ≡ map (renamed_literal q g w) ls
  unfolding renamed_literal predicate_uses function_uses variable_uses
  agree_literals p q [] ps fs vs = refl
  agree_literals p q (l ∷ ls) ps fs vs =
      rw (all_first ps, agrees l.arguments (all_left (functions_in l.arguments) (function_uses ls) fs) (all_left (variables_in l.arguments) (variable_uses ls) vs))
      (ap (λ (ms : List (Literal X)). record { negative = l.negative; predicate = q l.predicate; arguments = renamed_terms g w l.arguments } ∷ ms)
      (agree_literals p q ls (all_rest ps) (all_right (functions_in l.arguments) (function_uses ls) fs) (all_right (variables_in l.arguments) (variable_uses ls) vs)))

-- and only there: two renamings that give the same
module _ (f g : ℕ → ℕ) (v w : ℕ → ℕ) where
  mutual
    unfolding renamed_term functions_of

    functions-shown : (t : Term ℕ) → renamed_term f v t ≡ renamed_term g w t → All (Agree f g) (functions_of t)
    functions-shown (var x) e = end
    functions-shown (app h ts) e = ◌also◌ {a = h} (cc) (functions-all-shown ts (cc))

    functions-all-shown : (ts : Terms ℕ) → renamed_terms f v ts ≡ renamed_terms g w ts → All (Agree f g) (functions_in ts)
    functions-all-shown nil e = end
    functions-all-shown (t then ts) e = all_append (functions-shown t (cc)) (functions-all-shown ts (cc))

  mutual
    unfolding renamed_term variables_of

    variables-shown : (t : Term ℕ) → renamed_term f v t ≡ renamed_term g w t → All (Agree v w) (variables_of t)
    variables-shown (var x) e = ◌also◌ {a = x} (cc) end
    variables-shown (app h ts) e = variables-all-shown ts (cc)

    variables-all-shown : (ts : Terms ℕ) → renamed_terms f v ts ≡ renamed_terms g w ts → All (Agree v w) (variables_in ts)
    variables-all-shown nil e = end
    variables-all-shown (t then ts) e = all_append (variables-shown t (cc)) (variables-all-shown ts (cc))

module _ (p q f g v w : ℕ → ℕ) where
  abbrev Same : List (Literal ℕ) → Type 0
  Same ls = map (renamed_literal p f v) ls ≡ map (renamed_literal q g w) ls

  pub shown_predicates : (ls : List (Literal ℕ)) → Same ls → All (Agree p q) (predicate_uses ls)
  unfolding predicate_uses renamed_literal
  shown_predicates [] e = end
  shown_predicates (l ∷ ls) e =
      let first : renamed_literal p f v l ≡ renamed_literal q g w l = cc in
      ◌also◌ {a = l.predicate} (ap (λ (m : Literal ℕ). m.predicate) first) (shown_predicates ls (cc))

  pub shown_functions : (ls : List (Literal ℕ)) → Same ls → All (Agree f g) (function_uses ls)
  unfolding function_uses renamed_literal
  shown_functions [] e = end
  shown_functions (l ∷ ls) e =
      let first : renamed_literal p f v l ≡ renamed_literal q g w l = cc in
      all_append (functions-all-shown f g v w l.arguments (ap (λ (m : Literal ℕ). m.arguments) first)) (shown_functions ls (cc))

  pub shown_variables : (ls : List (Literal ℕ)) → Same ls → All (Agree v w) (variable_uses ls)
  unfolding variable_uses renamed_literal
  shown_variables [] e = end
  shown_variables (l ∷ ls) e =
      let first : renamed_literal p f v l ≡ renamed_literal q g w l = cc in
      all_append (variables-all-shown f g v w l.arguments (ap (λ (m : Literal ℕ). m.arguments) first)) (shown_variables ls (cc))

-- the renaming that changes nothing
mutual
  unfolding renamed_term

  unchanged : (t : Term ℕ) → renamed_term (λ n. n) (λ x. x) t ≡ t
  unchanged (var x) = refl
  unchanged (app h ts) = ap (app h) (all_unchanged ts)

  all_unchanged : (ts : Terms ℕ) → renamed_terms (λ n. n) (λ x. x) ts ≡ ts
  all_unchanged nil = refl
  all_unchanged (t then ts) = ap₂ ◌then◌ (unchanged t) (all_unchanged ts)

pub literals_unchanged : (ls : List (Literal ℕ)) → map (renamed_literal (λ n. n) (λ n. n) (λ x. x)) ls ≡ ls
unfolding renamed_literal
literals_unchanged [] = refl
literals_unchanged (l ∷ ls) = rw (all_unchanged l.arguments, literals_unchanged ls)

-- two renamings in turn
module _ {X Y Z : Type 0} (g f : ℕ → ℕ) (w : Y → Z) (v : X → Y) where
  mutual
    unfolding renamed_term

    pub in_turn : (t : Term X) → renamed_term g w (renamed_term f v t) ≡ renamed_term (λ n. g (f n)) (λ x. w (v x)) t
    in_turn (var x) = refl
    in_turn (app h ts) = ap (app (g (f h))) (all_in_turn ts)

    pub all_in_turn : (ts : Terms X) → renamed_terms g w (renamed_terms f v ts) ≡ renamed_terms (λ n. g (f n)) (λ x. w (v x)) ts
    all_in_turn nil = refl
    all_in_turn (t then ts) = ap₂ ◌then◌ (in_turn t) (all_in_turn ts)

  pub literals_in_turn : (q p : ℕ → ℕ) (ls : List (Literal X))
      → map (renamed_literal q g w) (map (renamed_literal p f v) ls) ≡ map (renamed_literal (λ n. q (p n)) (λ n. g (f n)) (λ x. w (v x))) ls
  unfolding renamed_literal
  literals_in_turn q p [] = refl
  literals_in_turn q p (l ∷ ls) = rw (all_in_turn l.arguments, literals_in_turn q p ls)

-- the numbers used after a renaming
module _ (f v : ℕ → ℕ) where
  mutual
    unfolding renamed_term functions_of

    functions-renamed : (t : Term ℕ) → functions_of (renamed_term f v t) ≡ map f (functions_of t)
    functions-renamed (var x) = refl
    functions-renamed (app h ts) = ap (λ (ns : List ℕ). f h ∷ ns) (functions-all-renamed ts)

    functions-all-renamed : (ts : Terms ℕ) → functions_in (renamed_terms f v ts) ≡ map f (functions_in ts)
    functions-all-renamed nil = refl
    functions-all-renamed (t then ts) = ap₂ ◌++◌ (functions-renamed t) (functions-all-renamed ts) ∙ sym (map-append f (functions_of t) (functions_in ts))

  mutual
    unfolding renamed_term variables_of

    variables-renamed : (t : Term ℕ) → variables_of (renamed_term f v t) ≡ map v (variables_of t)
    variables-renamed (var x) = refl
    variables-renamed (app h ts) = variables-all-renamed ts

    variables-all-renamed : (ts : Terms ℕ) → variables_in (renamed_terms f v ts) ≡ map v (variables_in ts)
    variables-all-renamed nil = refl
    variables-all-renamed (t then ts) = ap₂ ◌++◌ (variables-renamed t) (variables-all-renamed ts) ∙ sym (map-append v (variables_of t) (variables_in ts))

module _ (p f v : ℕ → ℕ) where
  predicate-uses-renamed : (ls : List (Literal ℕ)) → predicate_uses (map (renamed_literal p f v) ls) ≡ map p (predicate_uses ls)
  unfolding predicate_uses renamed_literal
  predicate-uses-renamed [] = refl
  predicate-uses-renamed (l ∷ ls) = ap (λ (ns : List ℕ). p l.predicate ∷ ns) (predicate-uses-renamed ls)

  function-uses-renamed : (ls : List (Literal ℕ)) → function_uses (map (renamed_literal p f v) ls) ≡ map f (function_uses ls)
  unfolding function_uses renamed_literal
  function-uses-renamed [] = refl
  function-uses-renamed (l ∷ ls) =
      ap₂ ◌++◌ (functions-all-renamed f v l.arguments) (function-uses-renamed ls) ∙ sym (map-append f (functions_in l.arguments) (function_uses ls))

  pub variable_uses_renamed : (ls : List (Literal ℕ)) → variable_uses (map (renamed_literal p f v) ls) ≡ map v (variable_uses ls)
  unfolding variable_uses renamed_literal
  variable_uses_renamed [] = refl
  variable_uses_renamed (l ∷ ls) =
      ap₂ ◌++◌ (variables-all-renamed f v l.arguments) (variable_uses_renamed ls) ∙ sym (map-append v (variables_in l.arguments) (variable_uses ls))

module _ (p f : ℕ → ℕ) where
  pub predicates_of_all : (cs : List Clause) → of_all predicate_uses (map (renumbered_clause p f) cs) ≡ map p (of_all predicate_uses cs)
  unfolding of_all renumbered_clause
  predicates_of_all [] = refl
  predicates_of_all (c ∷ cs) =
      ap₂ ◌++◌ (predicate-uses-renamed p f _ c.literals) (predicates_of_all cs) ∙ sym (map-append p (predicate_uses c.literals) (of_all predicate_uses cs))

  pub functions_of_all : (cs : List Clause) → of_all function_uses (map (renumbered_clause p f) cs) ≡ map f (of_all function_uses cs)
  unfolding of_all renumbered_clause
  functions_of_all [] = refl
  functions_of_all (c ∷ cs) =
      ap₂ ◌++◌ (function-uses-renamed p f _ c.literals) (functions_of_all cs) ∙ sym (map-append f (function_uses c.literals) (of_all function_uses cs))
