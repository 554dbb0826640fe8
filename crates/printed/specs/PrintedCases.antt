-- Witnesses: texts that say an answer, and texts that do not; and an answer that meets what the promises ask. Each is proved in proofs/PrintedCases.
use Rattle.std.specs.Prelude.{Bool, true, false, List, [], ◌∷◌, ◌≡◌, ℕ}
use Rattle.table.specs.Limits.{Within}
use Rattle.table.specs.Syntax.{Term, var, app, nil, ◌then◌, Literal}
use Rattle.text.specs.Quoted.{bytes}
use Rattle.clausetext.specs.Syntax as Spoken
use Rattle.clausetext.specs.Syntax.{variable, application, Axiom, NegatedConjecture}
use Rattle.clausetext.specs.Texts.{Says}
use Rattle.tptp.specs.Said.{table_said}
use Rattle.naming.specs.Shown.{names_in}
use Rattle.naming.specs.Noting.{Tells, Indexed}
use Rattle.rules.specs.Setting.{base}
use Rattle.rules.specs.Tableau.{Closed}
use Rattle.rules.specs.Verdict.{Answers}
use Rattle.rules.specs.Witnesses.{proof}
use Rattle.printed.specs.Reading.{PrintedSays}
use Rattle.printed.specs.Promises.{printed, Asked}

-- What examples/matinee.p says of the third of May, in short:
-- cnf(bill,axiom,( at(hamlet,may3,matinee) | at(hamlet,may3,evening) )). cnf(when,negated_conjecture,~ at(hamlet,may3,Time)).
abbrev pub constant : List ℕ → Spoken.Term
constant name = application name Spoken.nil

abbrev pub given : Bool → Spoken.Term → Spoken.Literal
given negative time =
    record { negative = negative; predicate = bytes "at"; arguments = Spoken.◌then◌ (constant (bytes "hamlet")) (Spoken.◌then◌ (constant (bytes "may3")) (Spoken.◌then◌ time Spoken.nil)) }

abbrev pub clauses : List Spoken.Clause
clauses =
    record { name = bytes "bill"; role = Axiom; literals = given false (constant (bytes "matinee")) ∷ given false (constant (bytes "evening")) ∷ [] }
    ∷ record { name = bytes "when"; role = NegatedConjecture; literals = given true (variable (bytes "Time")) ∷ [] }
    ∷ []

-- `at` is predicate 0; hamlet, may3, matinee and evening are constants 0 to 3
abbrev pub symbol : ℕ → Term ℕ
symbol f = app f nil

abbrev pub at : Bool → Term ℕ → Term ℕ → Term ℕ → Literal ℕ
at negative play day time = record { negative = negative; predicate = 0; arguments = play then day then time then nil }

abbrev pub matinee : Literal ℕ
matinee = at false (symbol 0) (symbol 1) (symbol 2)

abbrev pub evening : Literal ℕ
evening = at false (symbol 0) (symbol 1) (symbol 3)

abbrev pub answer : List (List (Literal ℕ))
answer = (matinee ∷ []) ∷ (evening ∷ []) ∷ []

-- The answer is said by what the program prints for it; a variable is the same over the whole answer.
pub record SaidSo : Type 0 where
  pub two_disjuncts : PrintedSays clauses (bytes "at(hamlet,may3,matinee)\nor at(hamlet,may3,evening)") answer
  pub two_literals : PrintedSays clauses (bytes "at(hamlet,may3,matinee) & at(hamlet,may3,evening)") ((matinee ∷ evening ∷ []) ∷ [])
  pub variables :
      PrintedSays clauses (bytes "at(X0,may3,X1)\nor at(X1,may3,X0)")
      ((at false (var 0) (symbol 1) (var 1) ∷ []) ∷ (at false (var 1) (symbol 1) (var 0) ∷ []) ∷ [])

-- It is not said by a text with `&` in place of `or`, with an argument left out, with another symbol's name, or with a sign; and nothing is said by a
-- text without `or`, nor by no text.
pub record NotSaidSo : Type 0 where
  pub joined : ¬ PrintedSays clauses (bytes "at(hamlet,may3,matinee) & at(hamlet,may3,evening)") answer
  pub left_out : ¬ PrintedSays clauses (bytes "at(hamlet,matinee)\nor at(hamlet,evening)") answer
  pub other : ¬ PrintedSays clauses (bytes "at(hamlet,may3,evening)\nor at(hamlet,may3,evening)") answer
  pub denied : ¬ PrintedSays clauses (bytes "~ at(hamlet,may3,matinee)\nor ~ at(hamlet,may3,evening)") answer
  pub without_or : (ds : List (List (Literal ℕ))) → ¬ PrintedSays clauses (bytes "at(hamlet,may3,matinee)\nat(hamlet,may3,evening)") ds
  pub no_text : (ds : List (List (Literal ℕ))) → ¬ PrintedSays clauses [] ds

-- What PrintedIsTheAnswer and SameByIndex ask is met: a text, its clauses, an index that tells their names, a closed tableau and its answer (document 01's case 1);
-- and what is printed then.
pub record CaseOne : Type 0 where
  pub text : List ℕ
  pub index : List ℕ
  pub said : List Spoken.Clause
  pub says : Says text said
  pub within : Within (table_said said)
  pub tells : Tells text index said
  pub closed : Closed (base (table_said said) 2) proof
  pub words : List ℕ
  pub answers : Answers (table_said said) closed.tableau 2 words
  pub shows : printed (names_in text index []) (table_said said).question words ≡ bytes "p1(f1,f2)\nor p1(f1,f3)"

-- A text that is read without a refusal, into these words, so that what the promises about the calls ask is met with any index of it.
abbrev pub typed : List ℕ
typed = bytes "cnf(c0,axiom,(p7(f9(X3),f9) | ~ p4(X1))).\ncnf(c1,negated_conjecture,(~ p7(f2,f9) | ~ p4(f9(f2)))).\n"

abbrev pub typed_file : List ℕ
typed_file =
    0xC0000612 ∷ 0x80002000 ∷ 0x40001000 ∷ 0x00000000 ∷ 0x40000000 ∷ 0x80009001 ∷ 0x00000001 ∷ 0xC0000602 ∷ 0x8000A000 ∷ 0x40000001 ∷ 0x40000000
    ∷ 0x80009001 ∷ 0x40001000 ∷ 0x40000001 ∷ 0x00000007 ∷ 0x00000002 ∷ 0x99675DC4 ∷ 0x0000000E ∷ []

abbrev pub AnyIndexWillDo : Type 0
AnyIndexWillDo =
    (cs : List Spoken.Clause) → Says typed cs → (index : List ℕ) (made : Bool) → Indexed typed index made → Asked typed index typed_file cs
