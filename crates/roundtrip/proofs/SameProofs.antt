-- The renumbered table is the table with other numbers, each once; so a proof over one is a proof over the other.
use mathlib.Core.List.{List, [], ◌∷◌, map}
use mathlib.Core.Logic.{◌↔◌}
use mathlib.Core.Path.{◌≡◌, refl, sym, ap₂, subst}
use Prim.Native.Nat.{ℕ}
use Rattle.words.specs.declared.Step.{Step}
use Rattle.table.specs.Syntax.{Clause, Table, all_clauses}
use Rattle.rules.specs.Setting.{Profile, over}
use Rattle.rules.specs.Tableau.{Closed}
use Rattle.rules.proofs.Every.{All, all_left, all_right, all_then}
use Rattle.roundtrip.specs.Renumbered.{first_uses, number_in, predicate_uses, function_uses, variable_uses, of_all, predicates, functions, variables, renumbered_clause, renumbered}
use Rattle.roundtrip.proofs.FirstUses.{Known, uses_known}
use Rattle.roundtrip.proofs.Renaming.{Agree, agree_literals}
use Rattle.roundtrip.proofs.Saying.{clause_made, table_made}
use Rattle.roundtrip.proofs.Twice.{of_clauses, of_question}
use Rattle.roundtrip.proofs.Permutations.{Permutation, numbering, numbering_known}
use Rattle.roundtrip.proofs.SameSteps.{own, turned_clause, turned_table, closed_forth, closed_back}

-- a numbering of all numbers that gives those used their numbers by first use
abbrev pub ByFirstUse : List ℕ → Permutation ℕ → Type 0
ByFirstUse uses π = (n : ℕ) → Known (first_uses uses) n → number_in (first_uses uses) n ≡ π.to n

abbrev pub predicates_used : Table → List ℕ
predicates_used t = of_all predicate_uses (all_clauses t)

abbrev pub functions_used : Table → List ℕ
functions_used t = of_all function_uses (all_clauses t)

agree_uses : (uses : List ℕ) (π : Permutation ℕ) → ByFirstUse uses π → All (Agree (number_in (first_uses uses)) π.to) uses
agree_uses uses π h = all_then h (uses_known uses)

module _ (p f : ℕ → ℕ) (q g : Permutation ℕ) where
  clause-turned : (c : Clause) → All (Agree p q.to) (predicate_uses c.literals) → All (Agree f g.to) (function_uses c.literals)
      → renumbered_clause p f c ≡ turned_clause q g c
  unfolding renumbered_clause turned_clause
  clause-turned c ps fs =
      clause_made refl refl
      (agree_literals f g.to (number_in (variables c)) (own c).to p q.to c.literals ps fs
      (agree_uses (variable_uses c.literals) (own c) (numbering_known (variable_uses c.literals))))

  clauses-turned : (cs : List Clause) → All (Agree p q.to) (of_all predicate_uses cs) → All (Agree f g.to) (of_all function_uses cs)
      → map (renumbered_clause p f) cs ≡ map (turned_clause q g) cs
  unfolding of_all
  clauses-turned [] ps fs = refl
  clauses-turned (c ∷ cs) ps fs =
      ap₂ ◌∷◌ (clause-turned c (all_left (predicate_uses c.literals) (of_all predicate_uses cs) ps) (all_left (function_uses c.literals) (of_all function_uses cs) fs))
      (clauses-turned cs (all_right (predicate_uses c.literals) (of_all predicate_uses cs) ps) (all_right (function_uses c.literals) (of_all function_uses cs) fs))

pub renumbered_turned : (t : Table) (q g : Permutation ℕ) → ByFirstUse (predicates_used t) q → ByFirstUse (functions_used t) g → turned_table q g t ≡ renumbered t
unfolding renumbered turned_table
renumbered_turned t q g hq hg =
    let p : ℕ → ℕ = number_in (predicates t) in
    let f : ℕ → ℕ = number_in (functions t) in
    let ps : All (Agree p q.to) (predicates_used t) = agree_uses (predicates_used t) q hq in
    let fs : All (Agree f g.to) (functions_used t) = agree_uses (functions_used t) g hg in
    sym (table_made (clauses-turned p f q g t.clauses (of_clauses predicate_uses t ps) (of_clauses function_uses t fs))
    (clause-turned p f q g t.question (of_question predicate_uses t ps) (of_question function_uses t fs)))

-- of the table itself
abbrev pub predicate_numbers : Table → Permutation ℕ
predicate_numbers t = numbering (predicates_used t)

abbrev pub function_numbers : Table → Permutation ℕ
function_numbers t = numbering (functions_used t)

pub turned_so : (t : Table) → turned_table (predicate_numbers t) (function_numbers t) t ≡ renumbered t
turned_so t = renumbered_turned t (predicate_numbers t) (function_numbers t) (numbering_known (predicates_used t)) (numbering_known (functions_used t))

pub same_proofs : (rules : Profile) (t : Table) (bound : ℕ) (steps : List Step) → Closed (over rules t bound) steps ↔ Closed (over rules (renumbered t) bound) steps
same_proofs rules t bound steps =
    subst (λ (u : Table). Closed (over rules t bound) steps ↔ Closed (over rules u bound) steps) (turned_so t)
    (closed_forth rules (predicate_numbers t) (function_numbers t) t bound steps, closed_back rules (predicate_numbers t) (function_numbers t) t bound steps)
