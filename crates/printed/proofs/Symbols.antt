-- The symbols of an answer over the table of a text have names in the text.
use mathlib.Core.List.{List, [], ◌∷◌, ◌++◌}
use mathlib.Core.Path.{subst}
use Prim.Native.Nat.{ℕ, ◌<◌}
use lib.ListN.{length}
use Rattle.words.specs.declared.Step.{Step}
use Rattle.table.specs.Syntax.{Literal, Clause, all_clauses}
use Rattle.clausetext.specs.Syntax as Spoken
use Rattle.clausetext.specs.Syntax.{variable, application, nil, ◌then◌, Role, Axiom, Hypothesis, NegatedConjecture}
use Rattle.names.specs.Numbers.{Name, number_in}
use Rattle.tptp.specs.Said as Said
use Rattle.tptp.specs.Said.{predicates, functions, term_said, terms_said, literal_said, literals_said, clause_said, clauses_said, besides, stated, asking, asked, table_said}
use Rattle.tptp.proofs.Final.{used_below}
use Rattle.rules.specs.Substitution.{Substitution, MostGeneral}
use Rattle.rules.specs.Setting.{Profile, Setting, over}
use Rattle.rules.specs.Tableau.{Tableau, Closed}
use Rattle.rules.specs.Answer.{disjuncts, numbered, joined}
use Rattle.rules.proofs.Every.{All, end, ◌also◌, all_first, all_rest, all_append, all_left, all_right}
use Rattle.rules.proofs.Firsts.{each_all}
use Rattle.rules.proofs.Demands.{closed_passed, accepted_has_answer}
use Rattle.roundtrip.specs.Renumbered.{functions_of, functions_in, predicate_uses, function_uses, of_all, renumbered}
use Rattle.roundtrip.proofs.SameProofs.{predicates_used, functions_used, same_proofs}
use Rattle.roundtrip.proofs.Answers.{answer-predicates, answer-functions}

-- a number that one of the names has; a name that is one of them
abbrev pub Below : List Name → ℕ → Type 0
Below known n = n < length known

abbrev Used : List Name → Name → Type 0
Used known name = number_in known name < length known

module _ (fs vs : List Name) where
  mutual
    unfolding term_said terms_said Said.functions_of Said.functions_in functions_of functions_in

    term_below : (t : Spoken.Term) → All (Used fs) (Said.functions_of t) → All (Below fs) (functions_of (term_said fs vs t))
    term_below (variable x) a = end
    term_below (application f ts) a = all_first a also terms-below ts (all_rest a)

    terms-below : (ts : Spoken.Terms) → All (Used fs) (Said.functions_in ts) → All (Below fs) (functions_in (terms_said fs vs ts))
    terms-below nil a = end
    terms-below (t then ts) a =
        all_append (term_below t (all_left (Said.functions_of t) (Said.functions_in ts) a)) (terms-below ts (all_right (Said.functions_of t) (Said.functions_in ts) a))

module _ (ps fs : List Name) where
  functions-below : (vs : List Name) (ls : List Spoken.Literal) → All (Used fs) (Said.function_uses ls) → All (Below fs) (function_uses (literals_said ps fs vs ls))
  unfolding Said.function_uses function_uses literals_said literal_said
  functions-below vs [] a = end
  functions-below vs (l ∷ ls) a =
      all_append (terms-below fs vs l.arguments (all_left (Said.functions_in l.arguments) (Said.function_uses ls) a))
      (functions-below vs ls (all_right (Said.functions_in l.arguments) (Said.function_uses ls) a))

  predicates-below : (vs : List Name) (ls : List Spoken.Literal) → All (Used ps) (Said.predicate_uses ls) → All (Below ps) (predicate_uses (literals_said ps fs vs ls))
  unfolding Said.predicate_uses predicate_uses literals_said literal_said
  predicates-below vs [] a = end
  predicates-below vs (l ∷ ls) a = all_first a also predicates-below vs ls (all_rest a)

of_both : {P : ℕ → Type 0} (uses : List (Literal ℕ) → List ℕ) (cs ds : List Clause) → All P (of_all uses cs) → All P (of_all uses ds) → All P (of_all uses (cs ++ ds))
unfolding of_all
of_both uses [] ds a b = b
of_both uses (c ∷ cs) ds a b =
    all_append (all_left (uses c.literals) (of_all uses cs) a) (of_both uses cs ds (all_right (uses c.literals) (of_all uses cs) a) b)

-- the numbers of a kind of symbol, over the clauses of a text
module _ (ps fs known : List Name) (said : List Spoken.Literal → List Name) (nothing : All (Used known) (said [])) (uses : List (Literal ℕ) → List ℕ)
    (below : (vs : List Name) (ls : List Spoken.Literal) → All (Used known) (said ls) → All (Below known) (uses (literals_said ps fs vs ls))) where
  stated-below : (cs : List Spoken.Clause) → All (Used known) (Said.of_all said cs) → All (Below known) (of_all uses (clauses_said ps fs (stated cs)))
  unfolding Said.of_all of_all clauses_said clause_said stated
  stated-below [] a = end
  stated-below (c ∷ cs) a = by c.role (all_left (said c.literals) (Said.of_all said cs) a) (stated-below cs (all_right (said c.literals) (Said.of_all said cs) a))
    where
      by : (r : Role) → All (Used known) (said c.literals) → All (Below known) (of_all uses (clauses_said ps fs (stated cs)))
          → All (Below known) (of_all uses (clauses_said ps fs (besides r c.literals (stated cs))))
      by Axiom h hs = all_append (below _ c.literals h) hs
      by Hypothesis h hs = all_append (below _ c.literals h) hs
      by NegatedConjecture h hs = hs

  asked-used : (cs : List Spoken.Clause) → All (Used known) (Said.of_all said cs) → All (Used known) (said (asked cs))
  unfolding Said.of_all asked
  asked-used [] a = nothing
  asked-used (c ∷ cs) a = by c.role (all_left (said c.literals) (Said.of_all said cs) a) (asked-used cs (all_right (said c.literals) (Said.of_all said cs) a))
    where
      by : (r : Role) → All (Used known) (said c.literals) → All (Used known) (said (asked cs)) → All (Used known) (said (asking r c.literals (asked cs)))
      by Axiom h hs = hs
      by Hypothesis h hs = hs
      by NegatedConjecture h hs = h

  question_below : (cs : List Spoken.Clause) → All (Used known) (Said.of_all said cs) → All (Below known) (of_all uses (clause_said ps fs (asked cs) ∷ []))
  unfolding of_all clause_said
  question_below cs a = all_append (below _ (asked cs) (asked-used cs a)) end

  clauses-below : (cs : List Spoken.Clause) → All (Used known) (Said.of_all said cs)
      → All (Below known) (of_all uses (clauses_said ps fs (stated cs) ++ (clause_said ps fs (asked cs) ∷ [])))
  clauses-below cs a = of_both uses (clauses_said ps fs (stated cs)) (clause_said ps fs (asked cs) ∷ []) (stated-below cs a) (question_below cs a)

module _ (cs : List Spoken.Clause) where
  table-predicates : All (Below (predicates cs)) (predicates_used (table_said cs))
  unfolding table_said all_clauses Said.predicate_uses
  table-predicates =
      clauses-below (predicates cs) (functions cs) (predicates cs) Said.predicate_uses end predicate_uses (predicates-below (predicates cs) (functions cs)) cs
      (each_all (Said.of_all Said.predicate_uses cs) (used_below [] (Said.of_all Said.predicate_uses cs)))

  table-functions : All (Below (functions cs)) (functions_used (table_said cs))
  unfolding table_said all_clauses Said.function_uses
  table-functions =
      clauses-below (predicates cs) (functions cs) (functions cs) Said.function_uses end function_uses (functions-below (predicates cs) (functions cs)) cs
      (each_all (Said.of_all Said.function_uses cs) (used_below [] (Said.of_all Said.function_uses cs)))

general_of : (S : Setting) (steps : List Step) (c : Closed S steps) → (τ : Substitution) × MostGeneral τ c.tableau.pairs
general_of S steps c =
    let p = closed_passed S steps c in
    let a = accepted_has_answer S steps p.0 p.1 in
    (a.by, subst (λ (x : Tableau). MostGeneral a.by x.pairs) p.2 a.general)

-- so those of an answer
module _ (cs : List Spoken.Clause) (rules : Profile) (bound : ℕ) (steps : List Step) (c : Closed (over rules (table_said cs) bound) steps)
    (σ : Substitution) (g : MostGeneral σ c.tableau.pairs) where
  abbrev answer : List (Literal ℕ)
  answer = numbered (joined (disjuncts σ (table_said cs) c.tableau))

  other : Closed (over rules (renumbered (table_said cs)) bound) steps
  other = (same_proofs rules (table_said cs) bound steps).0 c

  pub predicates_named : All (Below (predicates cs)) (predicate_uses answer)
  predicates_named =
      let τ = general_of (over rules (renumbered (table_said cs)) bound) steps other in
      answer-predicates rules (table_said cs) bound steps c other σ τ.0 g τ.1 (table-predicates cs)

  pub functions_named : All (Below (functions cs)) (function_uses answer)
  functions_named =
      let τ = general_of (over rules (renumbered (table_said cs)) bound) steps other in
      answer-functions rules (table_said cs) bound steps c other σ τ.0 g τ.1 (table-functions cs)
