-- Renumbering twice is renumbering once: numbers by first use are their own numbers by first use.
use borrow.Author.Tests.{eqb-true, eqb-false, eq-eqb, ne_eqb}
use mathlib.Core.Bool.{Bool, true, false, ◌&&◌}
use mathlib.Core.List.{List, [], ◌∷◌, ◌++◌, map, map-map}
use mathlib.Core.Path.{◌≡◌, refl, sym, ap, ◌∙◌}
use Prim.Native.Nat.{ℕ}
use lib.Dec.{eqb}
use lib.ListN.{length, get_or, length-map}
use Rattle.names.specs.Numbers as Names
use Rattle.names.specs.Numbers.{Name, same_name}
use Rattle.table.specs.Syntax.{Literal, Clause, Table, all_clauses}
use Rattle.rules.proofs.Every.{All, end, all_append, all_left, all_right, all_then, all_of}
use Rattle.roundtrip.specs.Renumbered.{first_uses, number_in, predicate_uses, function_uses, variable_uses, of_all, predicates, functions, variables, renamed_literal, renumbered_clause, renumbered}
use Rattle.roundtrip.proofs.FirstUses.{Known, uses_known, recalled, named_uses, number_named}
use Rattle.roundtrip.proofs.Renaming.{agree_literals, literals_in_turn, variable_uses_renamed, predicates_of_all, functions_of_all}
use Rattle.roundtrip.proofs.Saying.{clause_made, table_made}
use Rattle.roundtrip.proofs.Limits.{all_renumbered}

-- a number as a name of its own
abbrev single : ℕ → Name
single n = n ∷ []

single_apart : (m n : ℕ) → same_name (single m) (single n) ≡ eqb m n
unfolding same_name
single_apart m n = go (eqb m n)
  where
    go : (b : Bool) → (b && true) ≡ b
    go true = refl
    go false = refl

module _ (uses : List ℕ) where
  abbrev number : ℕ → ℕ
  number n = number_in (first_uses uses) n

  numbers_apart : (m n : ℕ) → Known (first_uses uses) m → Known (first_uses uses) n → eqb (number m) (number n) ≡ eqb m n
  numbers_apart m n h k = go (eqb m n) refl
    where
      go : (b : Bool) → eqb m n ≡ b → eqb (number m) (number n) ≡ b
      go true e = eq-eqb (number m) (number n) (ap (λ (i : ℕ). number i) (eqb-true m n e))
      go false e =
          ne_eqb (number m) (number n)
          (λ f. eqb-false m n e (sym (recalled (first_uses uses) m h) ∙ ap (λ (i : ℕ). get_or (first_uses uses) i 0) f ∙ recalled (first_uses uses) n k))

  named-apart : (m n : ℕ) → Known (first_uses uses) m → Known (first_uses uses) n → same_name (single (number m)) (single (number n)) ≡ eqb m n
  named-apart m n h k = single_apart (number m) (number n) ∙ numbers_apart m n h k

  abbrev Any : ℕ → Type 0
  Any n = Unit {0}

  -- as many numbers as before
  pub as_many : length (first_uses (map number uses)) ≡ length (first_uses uses)
  as_many =
      sym (length-map (first_uses (map number uses)) single)
      ∙ ap (λ (ns : List Name). length ns)
      (sym (named_uses Any single (λ m n h k. single_apart m n) (map number uses) (all_of (λ n. tt) (map number uses)))
      ∙ ap (λ (ns : List Name). Names.first_uses ns) (map-map single number uses)
      ∙ named_uses (Known (first_uses uses)) (λ n. single (number n)) named-apart uses (uses_known uses))
      ∙ length-map (first_uses uses) (λ n. single (number n))

  -- and each its own
  own : (n : ℕ) → Known (first_uses uses) n → number_in (first_uses (map number uses)) (number n) ≡ number n
  own n h =
      sym (number_named Any single (λ m n h k. single_apart m n) (map number uses) (number n) (all_of (λ n. tt) (map number uses)) tt)
      ∙ ap (λ (ns : List Name). Names.number_in (Names.first_uses ns) (single (number n))) (map-map single number uses)
      ∙ number_named (Known (first_uses uses)) (λ n. single (number n)) named-apart uses n (uses_known uses) h

  pub each_own : All (λ n. number_in (first_uses (map number uses)) (number n) ≡ number n) uses
  each_own = all_then own (uses_known uses)

-- a clause
module _ (q p g f : ℕ → ℕ) where
  clause-twice : (c : Clause) → All (λ n. q (p n) ≡ p n) (predicate_uses c.literals) → All (λ n. g (f n) ≡ f n) (function_uses c.literals)
      → renumbered_clause q g (renumbered_clause p f c) ≡ renumbered_clause p f c
  unfolding renumbered_clause
  clause-twice c ps fs =
      let v : ℕ → ℕ = number_in (variables c) in
      let again : variable_uses (map (renamed_literal p f v) c.literals) ≡ map v (variable_uses c.literals) = variable_uses_renamed p f v c.literals in
      let w : ℕ → ℕ = number_in (first_uses (variable_uses (map (renamed_literal p f v) c.literals))) in
      clause_made refl (ap (λ (ns : List ℕ). length (first_uses ns)) again ∙ as_many (variable_uses c.literals))
      (ap (λ (ns : List ℕ). map (renamed_literal q g (number_in (first_uses ns))) (map (renamed_literal p f v) c.literals)) again
      ∙ literals_in_turn g f (number_in (first_uses (map v (variable_uses c.literals)))) v q p c.literals
      ∙ agree_literals (λ n. g (f n)) f (λ n. number_in (first_uses (map v (variable_uses c.literals))) (v n)) v (λ n. q (p n)) p c.literals ps fs (each_own (variable_uses c.literals)))

  clauses-twice : (cs : List Clause) → All (λ n. q (p n) ≡ p n) (of_all predicate_uses cs) → All (λ n. g (f n) ≡ f n) (of_all function_uses cs)
      → map (renumbered_clause q g) (map (renumbered_clause p f) cs) ≡ map (renumbered_clause p f) cs
  unfolding of_all
  clauses-twice [] ps fs = refl
  clauses-twice (c ∷ cs) ps fs =
      rw (
        clause-twice c (all_left (predicate_uses c.literals) (of_all predicate_uses cs) ps) (all_left (function_uses c.literals) (of_all function_uses cs) fs),
        clauses-twice cs (all_right (predicate_uses c.literals) (of_all predicate_uses cs) ps) (all_right (function_uses c.literals) (of_all function_uses cs) fs),
      )

-- the uses of clauses before others, and of those
of_front : {P : ℕ → Type 0} (uses : List (Literal ℕ) → List ℕ) (cs ds : List Clause) → All P (of_all uses (cs ++ ds)) → All P (of_all uses cs)
unfolding of_all
of_front uses [] ds a = end
of_front uses (c ∷ cs) ds a =
    all_append (all_left (uses c.literals) (of_all uses (cs ++ ds)) a) (of_front uses cs ds (all_right (uses c.literals) (of_all uses (cs ++ ds)) a))

of_rest : {P : ℕ → Type 0} (uses : List (Literal ℕ) → List ℕ) (cs ds : List Clause) → All P (of_all uses (cs ++ ds)) → All P (of_all uses ds)
unfolding of_all
of_rest uses [] ds a = a
of_rest uses (c ∷ cs) ds a = of_rest uses cs ds (all_right (uses c.literals) (of_all uses (cs ++ ds)) a)

-- of the clauses of a table that are not the question, and of the question
module _ {P : ℕ → Type 0} (uses : List (Literal ℕ) → List ℕ) (t : Table) (a : All P (of_all uses (all_clauses t))) where
  pub of_clauses : All P (of_all uses t.clauses)
  unfolding all_clauses
  of_clauses = of_front uses t.clauses (t.question ∷ []) a

  pub of_question : All P (uses t.question.literals)
  unfolding all_clauses of_all
  of_question = all_left (uses t.question.literals) [] (of_rest uses t.clauses (t.question ∷ []) a)

module _ (t : Table) where
  abbrev p : ℕ → ℕ
  p = number_in (predicates t)

  abbrev f : ℕ → ℕ
  f = number_in (functions t)

  predicates-again : predicates (renumbered t) ≡ first_uses (map p (of_all predicate_uses (all_clauses t)))
  predicates-again = ap (λ (ns : List ℕ). first_uses ns) (ap (λ (cs : List Clause). of_all predicate_uses cs) (all_renumbered t) ∙ predicates_of_all p f (all_clauses t))

  functions-again : functions (renumbered t) ≡ first_uses (map f (of_all function_uses (all_clauses t)))
  functions-again = ap (λ (ns : List ℕ). first_uses ns) (ap (λ (cs : List Clause). of_all function_uses cs) (all_renumbered t) ∙ functions_of_all p f (all_clauses t))

  predicates-own : All (λ n. number_in (predicates (renumbered t)) (p n) ≡ p n) (of_all predicate_uses (all_clauses t))
  predicates-own = rw predicates-again (each_own (of_all predicate_uses (all_clauses t)))

  functions-own : All (λ n. number_in (functions (renumbered t)) (f n) ≡ f n) (of_all function_uses (all_clauses t))
  functions-own = rw functions-again (each_own (of_all function_uses (all_clauses t)))

pub twice_is_once : (t : Table) → renumbered (renumbered t) ≡ renumbered t
unfolding renumbered
twice_is_once t =
    let q : ℕ → ℕ = number_in (predicates (renumbered t)) in
    let g : ℕ → ℕ = number_in (functions (renumbered t)) in
    table_made
    (clauses-twice q (p t) g (f t) t.clauses (of_clauses predicate_uses t (predicates-own t)) (of_clauses function_uses t (functions-own t)))
    (clause-twice q (p t) g (f t) t.question (of_question predicate_uses t (predicates-own t)) (of_question function_uses t (functions-own t)))
