-- The clauses written stand for the table renumbered.
use mathlib.Core.Bool.{Bool}
use mathlib.Core.List.{List, [], ◌∷◌, ◌++◌, map, map-append}
use mathlib.Core.Path.{◌≡◌, refl, sym, ap, ap₂, ◌∙◌}
use Prim.Native.Nat.{ℕ, suc, ◌<◌}
use native.Mathlib.Omega.{arith}
use lib.Dec.{eqb}
use lib.ListN.{length, length-map}
use Rattle.names.specs.Numbers as Names
use Rattle.names.specs.Numbers.{Name, same_name}
use Rattle.text.specs.Digits.{decimal_text}
use Rattle.table.specs.Syntax.{Term, var, app, Terms, nil, ◌then◌, Literal, Clause, Table, all_clauses}
use Rattle.table.specs.Limits.{TermWithin, TermsWithin, LiteralWithin, Each, ClauseWithin, Within}
use Rattle.clausetext.specs.Syntax.{Literal as LiteralSaid, NegatedConjecture}
use Rattle.clausetext.specs.Texts.{questions}
use Rattle.tptp.specs.Said as Said
use Rattle.tptp.specs.Said.{term_said, terms_said, literal_said, literals_said, clause_said, clauses_said, stated, asked, table_said}
use Rattle.tptp.proofs.Trees.{each_front, each_rest}
use Rattle.rules.proofs.Every.{All}
use Rattle.roundtrip.specs.Renumbered.{number_in, functions_of, functions_in, variables_of, variables_in, predicate_uses, function_uses, variable_uses, of_all, predicates, functions, variables, renamed_term, renamed_terms, renamed_literal, renumbered_clause, renumbered}
use Rattle.roundtrip.specs.Written.{predicate_name, function_name, variable_name, term_written, terms_written, literal_written, clause_written, axioms_written, table_written}
use Rattle.roundtrip.proofs.FirstUses.{named_uses, number_named}
use Rattle.roundtrip.proofs.Decimals.{apart}
use Rattle.roundtrip.proofs.Uses.{Symbol, variable_uses_lem, all_predicates, all_functions}

-- the names used are those of the numbers used
mutual
  unfolding term_written functions_of Said.functions_of

  functions_named : (t : Term ℕ) → Said.functions_of (term_written t) ≡ map function_name (functions_of t)
  functions_named (var x) = refl
  functions_named (app f ts) = ap (λ (ns : List Name). function_name f ∷ ns) (functions_all_named ts)

  functions_all_named : (ts : Terms ℕ) → Said.functions_in (terms_written ts) ≡ map function_name (functions_in ts)
  functions_all_named nil = refl
  functions_all_named (t then ts) =
      ap₂ ◌++◌ (functions_named t) (functions_all_named ts) ∙ sym (map-append function_name (functions_of t) (functions_in ts))

mutual
  unfolding term_written variables_of Said.variables_of

  variables_named : (t : Term ℕ) → Said.variables_of (term_written t) ≡ map variable_name (variables_of t)
  variables_named (var x) = refl
  variables_named (app f ts) = variables_all_named ts

  variables_all_named : (ts : Terms ℕ) → Said.variables_in (terms_written ts) ≡ map variable_name (variables_in ts)
  variables_all_named nil = refl
  variables_all_named (t then ts) =
      ap₂ ◌++◌ (variables_named t) (variables_all_named ts) ∙ sym (map-append variable_name (variables_of t) (variables_in ts))

predicates_used : (ls : List (Literal ℕ)) → Said.predicate_uses (map literal_written ls) ≡ map predicate_name (predicate_uses ls)
unfolding predicate_uses Said.predicate_uses literal_written
predicates_used [] = refl
predicates_used (l ∷ ls) = ap (λ (ns : List Name). predicate_name l.predicate ∷ ns) (predicates_used ls)

functions_used : (ls : List (Literal ℕ)) → Said.function_uses (map literal_written ls) ≡ map function_name (function_uses ls)
unfolding function_uses Said.function_uses literal_written
functions_used [] = refl
functions_used (l ∷ ls) =
    ap₂ ◌++◌ (functions_all_named l.arguments) (functions_used ls) ∙ sym (map-append function_name (functions_in l.arguments) (function_uses ls))

variables_used : (ls : List (Literal ℕ)) → Said.variable_uses (map literal_written ls) ≡ map variable_name (variable_uses ls)
unfolding variable_uses Said.variable_uses literal_written
variables_used [] = refl
variables_used (l ∷ ls) =
    ap₂ ◌++◌ (variables_all_named l.arguments) (variables_used ls) ∙ sym (map-append variable_name (variables_in l.arguments) (variable_uses ls))

module _ (name : ℕ → Name) (uses : List (Literal ℕ) → List ℕ) (said : List LiteralSaid → List Name)
    (used : (ls : List (Literal ℕ)) → said (map literal_written ls) ≡ map name (uses ls)) where
  all-used : (number last : ℕ) (cs : List Clause) (q : Clause)
      → Said.of_all said (axioms_written number cs ++ (clause_written last NegatedConjecture q ∷ [])) ≡ map name (of_all uses (cs ++ (q ∷ [])))
  unfolding of_all Said.of_all axioms_written clause_written
  all-used number last [] q = ap₂ ◌++◌ (used q.literals) refl ∙ sym (map-append name (uses q.literals) [])
  all-used number last (c ∷ cs) q =
      ap₂ ◌++◌ (used c.literals) (all-used (suc number) last cs q) ∙ sym (map-append name (uses c.literals) (of_all uses (cs ++ (q ∷ []))))

  table-used : (t : Table) → Said.of_all said (table_written t) ≡ map name (of_all uses (all_clauses t))
  unfolding table_written all_clauses
  table-used t = all-used 0 (length t.clauses) t.clauses t.question

-- names of symbols, and of a clause's variables, are kept apart
symbols_apart : (letter m n : ℕ) → Symbol m → Symbol n → same_name (letter ∷ decimal_text m) (letter ∷ decimal_text n) ≡ eqb m n
symbols_apart letter m n h k = apart letter m n (omega arith) (omega arith)

module _ (c : Clause) (h : ClauseWithin c) where
  abbrev Own : ℕ → Type 0
  Own x = x < c.variables

  own-apart : (m n : ℕ) → Own m → Own n → same_name (variable_name m) (variable_name n) ≡ eqb m n
  own-apart m n i j = apart _ m n (omega (arith, h.variables)) (omega (arith, h.variables))

  own_uses : All Own (variable_uses c.literals)
  own_uses = variable_uses_lem c.variables c.literals h.literals

  variables-known : Said.variables (map literal_written c.literals) ≡ map variable_name (variables c)
  variables-known =
      ap (λ (ns : List Name). Names.first_uses ns) (variables_used c.literals)
      ∙ named_uses Own variable_name own-apart (variable_uses c.literals) own_uses

  variable_number : (x : ℕ) → Own x → Names.number_in (Said.variables (map literal_written c.literals)) (variable_name x) ≡ number_in (variables c) x
  variable_number x i =
      ap (λ (ns : List Name). Names.number_in (Names.first_uses ns) (variable_name x)) (variables_used c.literals)
      ∙ number_named Own variable_name own-apart (variable_uses c.literals) x own_uses i

abbrev body_written : Clause → List LiteralSaid
body_written c = map literal_written c.literals

pub clause_made : {a b : Bool} {m n : ℕ} {ls ms : List (Literal ℕ)} → a ≡ b → m ≡ n → ls ≡ ms
    → ◌≡◌ {A = Clause} (record { restricted = a; variables = m; literals = ls }) (record { restricted = b; variables = n; literals = ms })
clause_made g e f = rw (g, e, f)

-- terms, literals and clauses with numbers for their names
module _ (ps fs : List Name) (predicate function : ℕ → ℕ)
    (predicates-same : (p : ℕ) → Symbol p → Names.number_in ps (predicate_name p) ≡ predicate p)
    (functions-same : (f : ℕ) → Symbol f → Names.number_in fs (function_name f) ≡ function f) where
  module _ (limit : ℕ) (vs : List Name) (variable : ℕ → ℕ) (variables-same : (x : ℕ) → x < limit → Names.number_in vs (variable_name x) ≡ variable x) where
    mutual
      unfolding term_said term_written renamed_term TermWithin

      term-same : (t : Term ℕ) → TermWithin t limit → term_said fs vs (term_written t) ≡ renamed_term function variable t
      term-same (var x) h = ap var (variables-same x h)
      term-same (app f ts) h = ap₂ app (functions-same f h.0) (terms-same ts h.2)

      terms-same : (ts : Terms ℕ) → TermsWithin ts limit → terms_said fs vs (terms_written ts) ≡ renamed_terms function variable ts
      terms-same nil h = refl
      terms-same (t then ts) h = ap₂ ◌then◌ (term-same t h.0) (terms-same ts h.1)

    literals-same : (ls : List (Literal ℕ)) → Each (LiteralWithin limit) ls
        → literals_said ps fs vs (map literal_written ls) ≡ map (renamed_literal predicate function variable) ls
    unfolding literals_said literal_said literal_written renamed_literal Each
    literals-same [] h = refl
    literals-same (l ∷ ls) h =
        rw (predicates-same l.predicate h.0.predicate, terms-same l.arguments h.0.arguments, literals-same ls h.1)

  clause_same : (c : Clause) → ClauseWithin c → clause_said ps fs (map literal_written c.literals) ≡ renumbered_clause predicate function c
  unfolding clause_said renumbered_clause
  clause_same c h =
      clause_made refl (ap (λ (ns : List Name). length ns) (variables-known c h) ∙ length-map (variables c) variable_name)
      (literals-same c.variables (Said.variables (map literal_written c.literals)) (number_in (variables c)) (variable_number c h) c.literals h.literals)

  stated-same : (cs : List Clause) → Each ClauseWithin cs → clauses_said ps fs (map body_written cs) ≡ map (renumbered_clause predicate function) cs
  unfolding clauses_said Each
  stated-same [] h = refl
  stated-same (c ∷ cs) h = ap₂ ◌∷◌ (clause_same c h.0) (stated-same cs h.1)

-- the clauses stated, and the question
stated_written : (number last : ℕ) (cs : List Clause) (q : Clause) → stated (axioms_written number cs ++ (clause_written last NegatedConjecture q ∷ [])) ≡ map body_written cs
unfolding stated axioms_written clause_written
stated_written number last [] q = refl
stated_written number last (c ∷ cs) q = ap (λ (cs : List (List LiteralSaid)). map literal_written c.literals ∷ cs) (stated_written (suc number) last cs q)

asked_written : (number last : ℕ) (cs : List Clause) (q : Clause) → asked (axioms_written number cs ++ (clause_written last NegatedConjecture q ∷ [])) ≡ body_written q
unfolding asked axioms_written clause_written
asked_written number last [] q = refl
asked_written number last (c ∷ cs) q = asked_written (suc number) last cs q

questions_written : (number last : ℕ) (cs : List Clause) (q : Clause) → questions (axioms_written number cs ++ (clause_written last NegatedConjecture q ∷ [])) ≡ 1
unfolding questions axioms_written clause_written
questions_written number last [] q = refl
questions_written number last (c ∷ cs) q = omega (arith, questions_written (suc number) last cs q)

pub one_question : (t : Table) → questions (table_written t) ≡ 1
unfolding table_written
one_question t = questions_written 0 (length t.clauses) t.clauses t.question

pub table_made : {cs ds : List Clause} {q r : Clause} → cs ≡ ds → q ≡ r → ◌≡◌ {A = Table} (record { clauses = cs; question = q }) (record { clauses = ds; question = r })
table_made e f = rw (e, f)

pub clauses_within : (t : Table) → Within t → Each ClauseWithin t.clauses
unfolding all_clauses
clauses_within t h = each_front ClauseWithin t.clauses (t.question ∷ []) h.clauses

pub question_within : (t : Table) → Within t → ClauseWithin t.question
unfolding all_clauses Each
question_within t h = (each_rest ClauseWithin t.clauses (t.question ∷ []) h.clauses).0

module _ (t : Table) (h : Within t) where
  predicate-number : (p : ℕ) → Symbol p → Names.number_in (Said.predicates (table_written t)) (predicate_name p) ≡ number_in (predicates t) p
  predicate-number p s =
      ap (λ (ns : List Name). Names.number_in (Names.first_uses ns) (predicate_name p)) (table-used predicate_name predicate_uses Said.predicate_uses predicates_used t)
      ∙ number_named Symbol predicate_name (symbols_apart _) (of_all predicate_uses (all_clauses t)) p (all_predicates (all_clauses t) h.clauses) s

  function-number : (f : ℕ) → Symbol f → Names.number_in (Said.functions (table_written t)) (function_name f) ≡ number_in (functions t) f
  function-number f s =
      ap (λ (ns : List Name). Names.number_in (Names.first_uses ns) (function_name f)) (table-used function_name function_uses Said.function_uses functions_used t)
      ∙ number_named Symbol function_name (symbols_apart _) (of_all function_uses (all_clauses t)) f (all_functions (all_clauses t) h.clauses) s

  pub says_renumbered : table_said (table_written t) ≡ renumbered t
  unfolding table_said renumbered table_written
  says_renumbered =
      let ps : List Name = Said.predicates (table_written t) in
      let fs : List Name = Said.functions (table_written t) in
      let ns : ℕ → ℕ = number_in (predicates t) in
      let ms : ℕ → ℕ = number_in (functions t) in
      table_made
      (ap (λ (cs : List (List LiteralSaid)). clauses_said ps fs cs) (stated_written 0 (length t.clauses) t.clauses t.question)
      ∙ stated-same ps fs ns ms predicate-number function-number t.clauses (clauses_within t h))
      (ap (λ (ls : List LiteralSaid). clause_said ps fs ls) (asked_written 0 (length t.clauses) t.clauses t.question)
      ∙ clause_same ps fs ns ms predicate-number function-number t.question (question_within t h))
