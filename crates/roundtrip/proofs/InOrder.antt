-- A table is already so exactly where its numbers are in the order of their first use.
use mathlib.Core.List.{List, [], ◌∷◌, map}
use mathlib.Core.Logic.{◌↔◌}
use mathlib.Core.Path.{◌≡◌, refl, sym, ap, ap₂, ◌∙◌}
use Prim.Native.Nat.{ℕ}
use Rattle.table.specs.Syntax.{Clause, Table, all_clauses}
use Rattle.table.specs.Limits.{Each}
use Rattle.tptp.proofs.Trees.{each_front, each_rest}
use Rattle.rules.proofs.Every.{All, end, ◌also◌, all_first, all_rest, all_append, all_left, all_right}
use Rattle.roundtrip.specs.Renumbered.{number_in, predicate_uses, function_uses, variable_uses, of_all, predicates, functions, variables, renamed_literal, renumbered_clause, renumbered, AlreadySo, OwnNumbers, ClauseInOrder, InOrder}
use Rattle.roundtrip.proofs.Renaming.{agree_literals, shown_predicates, shown_functions, shown_variables, literals_unchanged}
use Rattle.roundtrip.proofs.Saying.{clause_made, table_made}
use Rattle.roundtrip.proofs.Limits.{all_renumbered}
use Rattle.roundtrip.proofs.Twice.{of_clauses, of_question}

each_all : {A : Type 0} {P : A → Type 0} (xs : List A) → All P xs → Each P xs
unfolding Each
each_all [] a = tt
each_all (x ∷ xs) a = (all_first a, each_all xs (all_rest a))

all_each : {A : Type 0} (P : A → Type 0) (xs : List A) → Each P xs → All P xs
unfolding Each
all_each P [] e = end
all_each P (x ∷ xs) e = e.0 also all_each P xs e.1

abbrev Own : (ℕ → ℕ) → ℕ → Type 0
Own number n = number n ≡ n

module _ (p f : ℕ → ℕ) where
  -- a clause that comes back
  module _ (c : Clause) (e : renumbered_clause p f c ≡ c) where
    literals-back : map (renamed_literal p f (number_in (variables c))) c.literals ≡ map (renamed_literal (λ n. n) (λ n. n) (λ x. x)) c.literals
    unfolding renumbered_clause
    literals-back = ap (λ (d : Clause). d.literals) e ∙ sym (literals_unchanged c.literals)

    own-predicates : All (Own p) (predicate_uses c.literals)
    own-predicates = shown_predicates p (λ n. n) f (λ n. n) (number_in (variables c)) (λ x. x) c.literals literals-back

    own-functions : All (Own f) (function_uses c.literals)
    own-functions = shown_functions p (λ n. n) f (λ n. n) (number_in (variables c)) (λ x. x) c.literals literals-back

    clause-in-order : ClauseInOrder c
    unfolding renumbered_clause OwnNumbers
    clause-in-order = record {
      numbers = each_all (variable_uses c.literals) (shown_variables p (λ n. n) f (λ n. n) (number_in (variables c)) (λ x. x) c.literals literals-back);
      count = sym (ap (λ (d : Clause). d.variables) e);
      unmarked = sym (ap (λ (d : Clause). d.restricted) e);
    }

  all_predicates : (cs : List Clause) → map (renumbered_clause p f) cs ≡ cs → All (Own p) (of_all predicate_uses cs)
  unfolding of_all
  all_predicates [] e = end
  all_predicates (c ∷ cs) e = all_append (own-predicates c (cc)) (all_predicates cs (cc))

  all_functions : (cs : List Clause) → map (renumbered_clause p f) cs ≡ cs → All (Own f) (of_all function_uses cs)
  unfolding of_all
  all_functions [] e = end
  all_functions (c ∷ cs) e = all_append (own-functions c (cc)) (all_functions cs (cc))

  all-in-order : (cs : List Clause) → map (renumbered_clause p f) cs ≡ cs → Each ClauseInOrder cs
  unfolding Each
  all-in-order [] e = tt
  all-in-order (c ∷ cs) e = (clause-in-order c (cc), all-in-order cs (cc))

  -- and one in order
  clause-so : (c : Clause) → All (Own p) (predicate_uses c.literals) → All (Own f) (function_uses c.literals) → ClauseInOrder c → renumbered_clause p f c ≡ c
  unfolding renumbered_clause OwnNumbers
  clause-so c ps fs o =
      clause_made (sym o.unmarked) (sym o.count)
      (agree_literals f (λ n. n) (number_in (variables c)) (λ x. x) p (λ n. n) c.literals ps fs (all_each (Own (number_in (variables c))) (variable_uses c.literals) o.numbers)
      ∙ literals_unchanged c.literals)

  clauses-so : (cs : List Clause) → All (Own p) (of_all predicate_uses cs) → All (Own f) (of_all function_uses cs) → Each ClauseInOrder cs → map (renumbered_clause p f) cs ≡ cs
  unfolding of_all Each
  clauses-so [] ps fs o = refl
  clauses-so (c ∷ cs) ps fs o =
      ap₂ ◌∷◌ (clause-so c (all_left (predicate_uses c.literals) (of_all predicate_uses cs) ps) (all_left (function_uses c.literals) (of_all function_uses cs) fs) o.0)
      (clauses-so cs (all_right (predicate_uses c.literals) (of_all predicate_uses cs) ps) (all_right (function_uses c.literals) (of_all function_uses cs) fs) o.1)

module _ (t : Table) where
  so-then : AlreadySo t → InOrder t
  unfolding AlreadySo OwnNumbers
  so-then e =
      let same : map (renumbered_clause (number_in (predicates t)) (number_in (functions t))) (all_clauses t) ≡ all_clauses t =
      sym (all_renumbered t) ∙ ap (λ (u : Table). all_clauses u) e in
      record {
        predicate_numbers = each_all (of_all predicate_uses (all_clauses t)) (all_predicates (number_in (predicates t)) (number_in (functions t)) (all_clauses t) same);
        function_numbers = each_all (of_all function_uses (all_clauses t)) (all_functions (number_in (predicates t)) (number_in (functions t)) (all_clauses t) same);
        clauses = all-in-order (number_in (predicates t)) (number_in (functions t)) (all_clauses t) same;
      }

  then_so : InOrder t → AlreadySo t
  unfolding AlreadySo OwnNumbers renumbered all_clauses Each
  then_so o =
      let p : ℕ → ℕ = number_in (predicates t) in
      let f : ℕ → ℕ = number_in (functions t) in
      let ps : All (Own p) (of_all predicate_uses (all_clauses t)) = all_each (Own p) (of_all predicate_uses (all_clauses t)) o.predicate_numbers in
      let fs : All (Own f) (of_all function_uses (all_clauses t)) = all_each (Own f) (of_all function_uses (all_clauses t)) o.function_numbers in
      table_made (clauses-so p f t.clauses (of_clauses predicate_uses t ps) (of_clauses function_uses t fs) (each_front ClauseInOrder t.clauses (t.question ∷ []) o.clauses))
      (clause-so p f t.question (of_question predicate_uses t ps) (of_question function_uses t fs) (each_rest ClauseInOrder t.clauses (t.question ∷ []) o.clauses).0)

  pub so_where_in_order : AlreadySo t ↔ InOrder t
  so_where_in_order = (so-then, then_so)
