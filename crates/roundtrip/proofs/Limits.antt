-- The renumbered table is within document 01's limits where the table is, and its file is as long.
use mathlib.Core.Bool.{true, false}
use mathlib.Core.List.{List, [], ◌∷◌, map, map-append}
use mathlib.Core.Path.{◌≡◌, refl, sym, ap, ap₂}
use Prim.Native.Nat.{ℕ, suc, ◌+◌, ◌^◌, ◌≤◌, ◌<◌}
use native.Mathlib.Omega.{arith}
use lib.ListN.{length, length-append, length-map}
use Rattle.table.specs.Syntax.{Term, var, app, Terms, nil, ◌then◌, arity, Literal, Clause, Table, all_clauses}
use Rattle.table.specs.Encode.{term_words, terms_words, literal_words, literals_words, clause_words, clauses_words, body_words, file_words}
use Rattle.table.specs.Limits.{TermWithin, TermsWithin, LiteralWithin, Each, ClauseWithin, Within, FileWithin}
use Rattle.rules.proofs.Every.{All, all_first, all_rest, all_left, all_right, all_then}
use Rattle.roundtrip.specs.Renumbered.{first_uses, number_in, functions_of, functions_in, variables_of, variables_in, predicate_uses, function_uses, variable_uses, of_all, predicates, functions, variables, renamed_term, renamed_terms, renamed_literal, renumbered_clause, renumbered}
use Rattle.roundtrip.proofs.FirstUses.{uses_known, few_uses}
use Rattle.roundtrip.proofs.Uses.{variable_uses_lem, all_predicates, all_functions}

-- other numbers leave a table's shape
module _ {X Y : Type 0} (function : ℕ → ℕ) (variable : X → Y) where
  pub arity_renamed : (ts : Terms X) → arity (renamed_terms function variable ts) ≡ arity ts
  unfolding arity renamed_terms
  arity_renamed nil = refl
  arity_renamed (t then ts) = ap suc (arity_renamed ts)

module _ (predicate function variable : ℕ → ℕ) where
  mutual
    unfolding term_words renamed_term

    term-long : (t : Term ℕ) → length (term_words (renamed_term function variable t)) ≡ length (term_words t)
    term-long (var x) = refl
    term-long (app f ts) = ap suc (terms-long ts)

    terms-long : (ts : Terms ℕ) → length (terms_words (renamed_terms function variable ts)) ≡ length (terms_words ts)
    terms-long nil = refl
    terms-long (t then ts) = simp length-append (ap₂ ◌+◌ (term-long t) (terms-long ts))

  literals_long : (ls : List (Literal ℕ)) → length (literals_words (map (renamed_literal predicate function variable) ls)) ≡ length (literals_words ls)
  unfolding literals_words literal_words renamed_literal
  literals_long [] = refl
  literals_long (l ∷ ls) = simp length-append (ap₂ ◌+◌ (ap suc (terms-long l.arguments)) (literals_long ls))

  pub signs_kept : (ls : List (Literal ℕ)) → Each (λ l. l.negative ≡ true) ls → Each (λ l. l.negative ≡ true) (map (renamed_literal predicate function variable) ls)
  unfolding Each renamed_literal
  signs_kept [] h = tt
  signs_kept (l ∷ ls) h = (h.0, signs_kept ls h.1)

module _ (predicate function : ℕ → ℕ) where
  clauses_long : (cs : List Clause) → length (clauses_words (map (renumbered_clause predicate function) cs)) ≡ length (clauses_words cs)
  unfolding clauses_words clause_words renumbered_clause
  clauses_long [] = refl
  clauses_long (c ∷ cs) =
      simp length-append (ap₂ ◌+◌ (ap suc (literals_long predicate function (number_in (variables c)) c.literals)) (clauses_long cs))

-- numbers below the limits where those used get such numbers
module _ (predicate function variable : ℕ → ℕ) (old new : ℕ) where
  abbrev Symbolic : (ℕ → ℕ) → ℕ → Type 0
  Symbolic number n = number n < 2 ^ 12

  mutual
    unfolding TermWithin renamed_term functions_of variables_of

    term_within : (t : Term ℕ) → TermWithin t old → All (Symbolic function) (functions_of t) → All (λ x. variable x < new) (variables_of t) → TermWithin (renamed_term function variable t) new
    term_within (var x) h fs vs = all_first vs
    term_within (app f ts) h fs vs = (all_first fs, rw (arity_renamed function variable ts) h.1, terms_within ts h.2 (all_rest fs) vs)

    terms_within : (ts : Terms ℕ) → TermsWithin ts old → All (Symbolic function) (functions_in ts) → All (λ x. variable x < new) (variables_in ts) → TermsWithin (renamed_terms function variable ts) new
    terms_within nil h fs vs = tt
    terms_within (t then ts) h fs vs = (
      term_within t h.0 (all_left (functions_of t) (functions_in ts) fs) (all_left (variables_of t) (variables_in ts) vs),
      terms_within ts h.1 (all_right (functions_of t) (functions_in ts) fs) (all_right (variables_of t) (variables_in ts) vs),
    )

  literals_within : (ls : List (Literal ℕ)) → Each (LiteralWithin old) ls → All (Symbolic predicate) (predicate_uses ls) → All (Symbolic function) (function_uses ls)
      → All (λ x. variable x < new) (variable_uses ls) → Each (LiteralWithin new) (map (renamed_literal predicate function variable) ls)
  unfolding Each renamed_literal predicate_uses function_uses variable_uses
  literals_within [] h ps fs vs = tt
  literals_within (l ∷ ls) h ps fs vs = (
    record {
      predicate = all_first ps;
      arity = rw (arity_renamed function variable l.arguments) h.0.arity;
      arguments = terms_within l.arguments h.0.arguments (all_left (functions_in l.arguments) (function_uses ls) fs) (all_left (variables_in l.arguments) (variable_uses ls) vs);
    },
    literals_within ls h.1 (all_rest ps) (all_right (functions_in l.arguments) (function_uses ls) fs) (all_right (variables_in l.arguments) (variable_uses ls) vs),
  )

module _ (predicate function : ℕ → ℕ) where
  few_variables : (c : Clause) → ClauseWithin c → length (variables c) ≤ c.variables
  few_variables c h = few_uses c.variables (variable_uses c.literals) (variable_uses_lem c.variables c.literals h.literals)

  clause_within : (c : Clause) → ClauseWithin c → All (λ p. predicate p < 2 ^ 12) (predicate_uses c.literals) → All (λ f. function f < 2 ^ 12) (function_uses c.literals)
      → ClauseWithin (renumbered_clause predicate function c)
  unfolding renumbered_clause
  clause_within c h ps fs =
      let ls : List (Literal ℕ) = map (renamed_literal predicate function (number_in (variables c))) c.literals in
      let same : length (map (renamed_literal predicate function (number_in (variables c))) c.literals) ≡ length c.literals = length-map c.literals _ in
      record {
        some = rw same h.some;
        few = rw same h.few;
        variables = omega (arith, few_variables c h, h.variables);
        follow = rw (literals_long predicate function (number_in (variables c)) c.literals) h.follow;
        literals = literals_within predicate function (number_in (variables c)) c.variables (length (variables c)) c.literals h.literals ps fs (uses_known (variable_uses c.literals));
      }

  clauses_within : (cs : List Clause) → Each ClauseWithin cs → All (λ p. predicate p < 2 ^ 12) (of_all predicate_uses cs) → All (λ f. function f < 2 ^ 12) (of_all function_uses cs)
      → Each ClauseWithin (map (renumbered_clause predicate function) cs)
  unfolding Each of_all
  clauses_within [] h ps fs = tt
  clauses_within (c ∷ cs) h ps fs = (
    clause_within c h.0 (all_left (predicate_uses c.literals) (of_all predicate_uses cs) ps) (all_left (function_uses c.literals) (of_all function_uses cs) fs),
    clauses_within cs h.1 (all_right (predicate_uses c.literals) (of_all predicate_uses cs) ps) (all_right (function_uses c.literals) (of_all function_uses cs) fs),
  )

-- the numbers by first use of numbers below a limit are below it
below_limit : (limit : ℕ) (uses : List ℕ) → All (λ n. n < limit) uses → All (λ n. number_in (first_uses uses) n < limit) uses
below_limit limit uses h = all_then (λ n k. omega (arith, few_uses limit uses h)) (uses_known uses)

-- no mark is kept
all_unmarked : (predicate function : ℕ → ℕ) (cs : List Clause) → Each (λ (c : Clause). c.restricted ≡ false) (map (renumbered_clause predicate function) cs)
unfolding renumbered_clause Each
all_unmarked predicate function [] = tt
all_unmarked predicate function (c ∷ cs) = (refl, all_unmarked predicate function cs)

module _ (t : Table) where
  pub all_renumbered : all_clauses (renumbered t) ≡ map (renumbered_clause (number_in (predicates t)) (number_in (functions t))) (all_clauses t)
  unfolding all_clauses renumbered
  all_renumbered = sym (map-append (renumbered_clause (number_in (predicates t)) (number_in (functions t))) t.clauses (t.question ∷ []))

  pub renumbered_unmarked : Each (λ (c : Clause). c.restricted ≡ false) (all_clauses (renumbered t))
  renumbered_unmarked = rw all_renumbered (all_unmarked (number_in (predicates t)) (number_in (functions t)) (all_clauses t))

  pub renumbered_within : Within t → Within (renumbered t)
  renumbered_within h = record {
    few = rw (all_renumbered, length-map (all_clauses t) (renumbered_clause (number_in (predicates t)) (number_in (functions t)))) h.few;
    clauses = rw all_renumbered
        (clauses_within (number_in (predicates t)) (number_in (functions t)) (all_clauses t) h.clauses
        (below_limit (2 ^ 12) (of_all predicate_uses (all_clauses t)) (all_predicates (all_clauses t) h.clauses))
        (below_limit (2 ^ 12) (of_all function_uses (all_clauses t)) (all_functions (all_clauses t) h.clauses)));
  }

  body-long : length (body_words (renumbered t)) ≡ length (body_words t)
  unfolding body_words
  body-long = rw all_renumbered (clauses_long (number_in (predicates t)) (number_in (functions t)) (all_clauses t))

  pub file_long : length (file_words (renumbered t)) ≡ length (file_words t)
  unfolding file_words
  file_long = simp length-append (omega (arith, body-long))

  pub renumbered_file : FileWithin t → FileWithin (renumbered t)
  unfolding renumbered renumbered_clause
  renumbered_file h = record {
    table = renumbered_within h.table;
    question = signs_kept (number_in (predicates t)) (number_in (functions t)) (number_in (variables t.question)) t.question.literals h.question;
    unmarked = refl;
    short = omega (arith, body-long, h.short);
  }
