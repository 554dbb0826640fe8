-- Witnesses: what the definitions build and what they refute. No demand holds for want of an example: each of its premises is met by one, and
-- each judgement fails on one. Nothing is proved here; proofs/Witnesses.antt proves each of them.
use Rattle.std.specs.Prelude.{length, Bool, true, false, List, [], ◌∷◌, ◌++◌, ◌↔◌, ◌≢◌, ◌≡◌, ℕ, suc, ◌≤◌, ◌<◌}
use Rattle.std.proofs.Math.Option.{none, some}
use Rattle.words.specs.declared.Step.{Step}
use Rattle.words.specs.declared.Step.TheVariants.{Reduction, Extension, Restart, Malformed}
use Rattle.table.specs.Limits.{Within, Each}
use Rattle.table.specs.Syntax.{Term, var, app, nil, ◌then◌, Literal, Clause, Table}
use Rattle.rules.specs.Substitution.{Variable, Substitution, Unifiable, MostGeneral}
use Rattle.rules.specs.Comparison.{Reason, a_clash, a_circle, Fails}
use Rattle.rules.specs.Setting.{one_way, over, base}
use Rattle.rules.specs.Tableau.{Leaf, Tableau, start, stepped, Closed}
use Rattle.rules.specs.Order.{found, nothing, Before, Searched}
use Rattle.rules.specs.Answer.{Definite, disjuncts_in, Reads}
use Rattle.rules.specs.Truth.{Interpretation, Assignment, AllNegative, all_true, Holds, AllHold, AnswerHolds, TrueAnswer}
use Rattle.rules.specs.Locality.{SameCopied}
use Rattle.rules.specs.Growing.{Larger, moved}
use Rattle.rules.specs.Reordered.{SameTable}
use Rattle.rules.specs.Evidence.{Valuation, clause_true, Grounding, AllInstancesTrue, Evidence, enough, Covers}
use Rattle.rules.specs.Verdict.{malformed, not_allowed, not_unified, leaves_open, refused, Checks, finds, finds_none, runs_out, Answers}
use Rattle.rules.specs.Machinery.Play.{Play, passed, check, search_for}

-- THE EXAMPLE
-- Document 01's case 1, at(e,mat) or at(e,eve); ask at(e,X): at = 1, e = 1, mat = 2, eve = 3.
abbrev pub constant : ℕ → Term ℕ
constant f = app f nil

abbrev pub played : Bool → Term ℕ → Literal ℕ
played negative slot = record { negative = negative; predicate = 1; arguments = constant 1 then slot then nil }

abbrev pub matinee : Literal ℕ
matinee = played false (constant 2)

abbrev pub evening : Literal ℕ
evening = played false (constant 3)

abbrev pub bill : Clause
bill = record { restricted = false; variables = 0; literals = matinee ∷ evening ∷ [] }

abbrev pub which : Clause
which = record { restricted = false; variables = 1; literals = played true (var 0) ∷ [] }

abbrev pub season : Table
season = record { clauses = bill ∷ []; question = which }

abbrev pub proof : List Step
proof = Extension 0 0 ∷ Extension 1 0 ∷ []

abbrev pub matinee_words : List ℕ
matinee_words = 0x80002001 ∷ 0x40000001 ∷ 0x40000002 ∷ []

abbrev pub evening_words : List ℕ
evening_words = 0x80002001 ∷ 0x40000001 ∷ 0x40000003 ∷ []

abbrev pub answer : List ℕ
answer = matinee_words ++ evening_words

-- at(e,mat) as a fact; ask at(e,mat), or at(e,eve)
abbrev pub stated : Clause
stated = record { restricted = false; variables = 0; literals = matinee ∷ [] }

abbrev pub asked : Term ℕ → Table
asked slot = record { clauses = stated ∷ []; question = record { restricted = false; variables = 0; literals = played true slot ∷ [] } }

-- case 5: parent(X,mother(X)); ask parent(Y,Y)
abbrev pub mothers : Table
mothers =
    record {
      clauses =
          record { restricted = false; variables = 1; literals = record { negative = false; predicate = 1; arguments = var 0 then app 1 (var 0 then nil) then nil } ∷ [] }
          ∷ [];
      question = record { restricted = false; variables = 1; literals = record { negative = true; predicate = 1; arguments = var 0 then var 0 then nil } ∷ [] };
    }

-- Order 3's table, p(a); r or p(a); r or s; not s; asking p(X) and r, and its proof, which copies the question twice: p = 1, r = 2, s = 3, a = 1.
abbrev pub plain : Bool → ℕ → Literal ℕ
plain negative p = record { negative = negative; predicate = p; arguments = nil }

abbrev pub about : Bool → Term ℕ → Literal ℕ
about negative x = record { negative = negative; predicate = 1; arguments = x then nil }

abbrev pub twice_told : Table
twice_told =
    record {
      clauses =
          record { restricted = false; variables = 0; literals = about false (constant 1) ∷ [] }
          ∷ record { restricted = false; variables = 0; literals = plain false 2 ∷ about false (constant 1) ∷ [] }
          ∷ record { restricted = false; variables = 0; literals = plain false 2 ∷ plain false 3 ∷ [] }
          ∷ record { restricted = false; variables = 0; literals = plain true 3 ∷ [] }
          ∷ [];
      question = record { restricted = false; variables = 1; literals = about true (var 0) ∷ plain true 2 ∷ [] };
    }

abbrev pub twice_proof : List Step
twice_proof = Extension 0 0 ∷ Extension 1 0 ∷ Extension 4 0 ∷ Extension 2 0 ∷ Extension 3 0 ∷ []

-- TRUTH
-- For every n ≥ 1 there is an interpretation, from any tables within its domain; and an assignment, from any elements.
abbrev pub EveryDomain : Type 0
EveryDomain =
    (n : ℕ) → 0 < n → (f : ℕ → List ℕ → ℕ) (p : ℕ → List ℕ → Bool) → ((s : ℕ) (values : List ℕ) → f s values < n)
    → (I : Interpretation) × (I.size ≡ n) × (I.function ≡ f) × (I.predicate ≡ p)

abbrev pub EveryAssignment : Type 1
EveryAssignment =
    (I : Interpretation) (X : Type 0) (element : X → ℕ) → ((x : X) → element x < I.size) → (a : Assignment I X) × (a.element ≡ element)

-- No answer of no disjuncts holds, and no clause of no literals. Where there are no clauses, all hold.
abbrev pub NoDisjunctIsFalse : Type 1
NoDisjunctIsFalse = (I : Interpretation) (X : Type 0) → ¬ AnswerHolds I {X = X} []

abbrev pub NoLiteralIsFalse : Type 0
NoLiteralIsFalse = (I : Interpretation) (variables : ℕ) → ¬ Holds I (record { restricted = false; variables = variables; literals = [] })

abbrev pub NoClauseHolds : Type 0
NoClauseHolds = (I : Interpretation) → AllHold I []

-- There is an interpretation where the bill holds and its answer "matinee or evening" is true, but "matinee" is not, nor "matinee or matinee".
pub record OnlyEvenings : Type 0 where
  pub world : Interpretation
  pub clauses : AllHold world season.clauses
  pub either : AnswerHolds world ((matinee ∷ []) ∷ (evening ∷ []) ∷ [])
  pub not_matinee : ¬ AnswerHolds world ((matinee ∷ []) ∷ [])
  pub true_answer : TrueAnswer world which 2 answer
  pub no_true_answer : ¬ TrueAnswer world which 1 matinee_words
  pub nor_twice : ¬ TrueAnswer world which 2 (matinee_words ++ matinee_words)

-- There is one where the bill does not hold, and the question's denial does.
pub record ClosedHouse : Type 0 where
  pub world : Interpretation
  pub no_bill : ¬ Holds world bill
  pub denial : Holds world which

-- The question is negative, the bill is not.
abbrev pub QuestionIsNegative : Type 0
QuestionIsNegative = AllNegative season.question.literals × ¬ AllNegative bill.literals

-- THE ANSWER
-- Words are read in one way: whatever disjuncts they are, the number of them is one, and they are those that disjuncts_in finds.
abbrev pub OneReading : Type 0
OneReading =
    (question : Clause) → 1 ≤ length question.literals → (words : List ℕ) (count : ℕ) (ds : List (List (Literal ℕ)))
    → Reads question words count ds → (ds ≡ disjuncts_in question words) × (count ≡ length (disjuncts_in question words))

-- The example's answer is read as two disjuncts; an empty one before both literals together is no reading of it.
abbrev pub ReadAsTwo : Type 0
ReadAsTwo =
    (disjuncts_in which answer ≡ (matinee ∷ []) ∷ (evening ∷ []) ∷ []) × Reads which answer 2 (disjuncts_in which answer)
    × ¬ Reads which answer 2 ([] ∷ (matinee ∷ evening ∷ []) ∷ [])

-- It is the answer of its tableau, and no answer of one disjunct is. It is not definite; that of order 3's proof, which
-- copies the question twice, is.
abbrev pub CaseOneAnswer : Type 0
CaseOneAnswer = (c : Closed (base season 2) proof) → Answers season c.tableau 2 answer × ((words : List ℕ) → ¬ Answers season c.tableau 1 words)

abbrev pub SomeAreDefinite : Type 0
SomeAreDefinite =
    ((c : Closed (base season 2) proof) (σ : Substitution) → MostGeneral σ c.tableau.pairs → ¬ Definite σ season c.tableau)
    × (c : Closed (base twice_told 5) twice_proof) × (length c.tableau.questions ≡ 2)
    × ((σ : Substitution) → MostGeneral σ c.tableau.pairs → Definite σ twice_told c.tableau)

-- An answer is definite exactly when it has one disjunct, and one of one disjunct holds exactly when that is true throughout.
abbrev pub DefiniteIsOne : Type 0
DefiniteIsOne = (t : Table) (x : Tableau) (count : ℕ) (words : List ℕ) (a : Answers t x count words) → Definite a.by t x ↔ (count ≡ 1)

abbrev pub DefiniteHolds : Type 1
DefiniteHolds =
    (I : Interpretation) (X : Type 0) (d : List (Literal X)) → AnswerHolds I (d ∷ []) ↔ ((a : Assignment I X) → all_true I a.element d ≡ true)

-- UNIFICATION
-- Two constants are not made equal, nor a variable and a term that holds it; a variable and a constant are.
abbrev pub Unifications : (x : Variable) → Type 0
Unifications x =
    ¬ Unifiable (record { left = app 1 nil; right = app 2 nil } ∷ []) × ¬ Unifiable (record { left = var x; right = app 1 (var x then nil) } ∷ [])
    × Unifiable (record { left = var x; right = app 1 nil } ∷ [])

-- The substitution that leaves all as it is, is the most general where nothing is asked; one that makes all variables a constant is not.
abbrev pub Generality : Type 0
Generality = MostGeneral var [] × ¬ MostGeneral (λ x. app 1 nil) []

-- COMPARISON
-- Terms of two arguments, over two constants, variables, and a term that holds the first variable.
abbrev pub two : Term Variable → Term Variable → Term Variable
two s t = app 1 (s then t then nil)

abbrev pub mat : Term Variable
mat = app 2 nil

abbrev pub eve : Term Variable
eve = app 3 nil

abbrev pub unknown : ℕ → Term Variable
unknown n = var (record { copy = 0; number = n })

abbrev pub holding : Term Variable
holding = app 4 (unknown 0 then nil)

-- The first pair decides: a clash before a circle, and a circle before a clash; each through what the comparison itself has bound; one symbol at
-- two arities is a clash; an argument is looked into before the next one. Variables that stand crosswise fail for no reason.
pub record Comparisons : Type 0 where
  pub clash_first : Fails (two mat (unknown 0)) (two eve holding) a_clash
  pub circle_first : Fails (two (unknown 0) mat) (two holding eve) a_circle
  pub clash_by_binding : Fails (two (unknown 1) (unknown 1)) (two mat eve) a_clash
  pub circle_by_binding : Fails (two (unknown 1) (unknown 1)) (two (unknown 0) holding) a_circle
  pub two_arities : Fails (app 1 nil) (two mat eve) a_clash
  pub deeper_first : Fails (two (two mat (unknown 0)) mat) (two (two mat holding) eve) a_circle
  pub crosswise : (r : Reason) → ¬ Fails (two (unknown 0) (unknown 1)) (two (unknown 1) (unknown 0)) r

-- TABLEAUX
-- The example's proof is closed with two extensions, and accepted; with one, nothing is closed.
abbrev pub CaseOneCloses : Type 0
CaseOneCloses =
    Closed (base season 2) proof × ((p : Play) × (check (base season 2) proof ≡ passed p)) × ((steps : List Step) → ¬ Closed (base season 1) steps)

-- The checker has every verdict: besides, it refuses for each of its reasons.
pub record EveryRefusal : Type 0 where
  pub twelve : Checks (base season 2) (start season) 0 (Malformed ∷ []) (refused malformed 0)
  pub thirteen : Checks (base season 2) (start season) 0 (proof ++ (Reduction 1 ∷ [])) (refused not_allowed 2)
  pub fourteen : Checks (base (asked (constant 3)) 1) (start (asked (constant 3))) 0 (Extension 0 0 ∷ []) (refused (not_unified a_clash) 0)
  pub fifteen : Checks (base season 2) (start season) 0 (Extension 0 0 ∷ []) (refused leaves_open 1)
  pub twenty : Checks (base mothers 1) (start mothers) 0 (Extension 0 0 ∷ []) (refused (not_unified a_circle) 0)

-- So has the search, and the stated order both its endings.
pub record EveryVerdict : Type 0 where
  pub finds_it : search_for (base season 2) 3 ≡ finds proof 3
  pub runs_out_of_it : search_for (base season 2) 2 ≡ runs_out 2
  pub finds_none_with_one : search_for (base season 1) 4 ≡ finds_none 4
  pub ends_found : Searched (base season 2) (start season) (found proof) 3
  pub ends_with_none : Searched (base season 1) (start season) nothing 4

-- Read one way, the bill's proof restarts the evening, and no proof of one extension does; a positive leaf is never extended, nor a negative one
-- restarted. Under document 01's rules nothing is restarted.
abbrev pub restart_proof : List Step
restart_proof = Extension 0 0 ∷ Restart ∷ Reduction 1 ∷ []

pub record ReadOneWay : Type 0 where
  pub finds_it : search_for (over one_way season 2) 4 ≡ finds restart_proof 4
  pub runs_out_of_it : search_for (over one_way season 2) 3 ≡ runs_out 3
  pub finds_none_with_one : search_for (over one_way season 1) 4 ≡ finds_none 4
  pub base_proof_is_not : ¬ Closed (over one_way season 2) proof
  pub nor_this_in_the_base : ¬ Closed (base season 2) restart_proof

abbrev pub SignsAreKept : Type 0
SignsAreKept =
    (t : Table) (bound : ℕ) (x y : Tableau) (leaf : Leaf) (rest : List Leaf) → x.leaves ≡ leaf ∷ rest
    → ((i j : ℕ) → stepped (over one_way t bound) x (Extension i j) ≡ some y → leaf.literal.negative ≡ true)
    × (stepped (over one_way t bound) x Restart ≡ some y → leaf.literal.negative ≡ false)

abbrev pub BaseNeverRestarts : Type 0
BaseNeverRestarts = (t : Table) (bound : ℕ) (x : Tableau) → stepped (base t bound) x Restart ≡ none

-- One list of steps comes before another; none before itself.
abbrev pub SomeComeBefore : Type 0
SomeComeBefore = Before (Extension 0 0 ∷ []) (Extension 0 1 ∷ []) × ((steps : List Step) → ¬ Before steps steps)

-- The example is within the limits; a question without literals is not.
abbrev pub Limits : Type 0
Limits = Within season × ¬ Within (record { clauses = []; question = record { restricted = false; variables = 0; literals = [] } })

-- OTHER TABLES
-- Any clause may be added at any place before the question: numbers before it stay, numbers from there on, the question's too, move by one.
abbrev pub with_clauses : List Clause → Clause → Table
with_clauses clauses question = record { clauses = clauses; question = question }

abbrev pub EveryAddition : Type 0
EveryAddition =
    (question c : Clause) (before after : List Clause)
    → (larger : Larger (with_clauses (before ++ after) question) (with_clauses (before ++ (c ∷ after)) question))
    × ((i literal : ℕ) → i < length before → moved larger (Extension i literal) ≡ Extension i literal)
    × ((i literal : ℕ) → length before ≤ i → moved larger (Extension i literal) ≡ Extension (suc i) literal)

-- A clause taken away does not make a table larger, nor another question.
abbrev pub NotEveryTableIsLarger : Type 0
NotEveryTableIsLarger = ¬ Larger season (with_clauses [] which) × ¬ Larger season (with_clauses (bill ∷ []) bill)

-- Two clauses in another order, and two literals, are the same table; one clause fewer is not.
abbrev pub AnotherOrder : Type 0
AnotherOrder =
    SameTable (with_clauses (bill ∷ stated ∷ []) which) (with_clauses (stated ∷ record { restricted = false; variables = 0; literals = evening ∷ matinee ∷ [] } ∷ []) which)
    × ¬ SameTable season (with_clauses [] which)

-- Behind another clause the example's steps copy the same clauses under numbers one higher; under their own numbers they do not.
abbrev pub CopiedBehind : Type 0
CopiedBehind =
    SameCopied season (with_clauses (stated ∷ bill ∷ []) which) (λ i. suc i) proof
    × ¬ SameCopied season (with_clauses (stated ∷ bill ∷ []) which) (λ i. i) proof

-- EVIDENCE
-- every variable is given this slot
abbrev pub slot : ℕ → Grounding
slot f x = app f nil

-- The bill, with the question at the matinee and at the evening, is evidence, and a bound of 2 is enough for it; at 1 the search says "none".
pub record BillIsEvidence : Type 0 where
  pub evidence : Evidence season
  pub asks : evidence.questions ≡ slot 2 ∷ slot 3 ∷ []
  pub two_are_enough : enough evidence ≡ 2
  pub none_with_one : search_for (base season 1) 4 ≡ finds_none 4

-- No evidence is without an instance of the question. For at(e,eve), where at(e,mat) is all that is said, there is none,
abbrev pub EvidenceAsks : Type 0
EvidenceAsks = (t : Table) (e : Evidence t) → e.questions ≢ []

abbrev pub NoEvidence : Type 0
NoEvidence = ¬ Evidence (asked (constant 3))

-- and the search says "none" at every bound.
abbrev pub SilentAtEveryBound : Type 0
SilentAtEveryBound = (bound : ℕ) → (budget : ℕ) × (tries : ℕ) × (search_for (base (asked (constant 3)) bound) budget ≡ finds_none tries)

-- "Matinee or evening" covers the evidence; "evening" does not cover an instance at the matinee.
abbrev pub SomeCover : Type 0
SomeCover =
    Covers which (slot 2 ∷ slot 3 ∷ []) ((matinee ∷ []) ∷ (evening ∷ []) ∷ []) × ¬ Covers which (slot 2 ∷ []) ((evening ∷ []) ∷ [])

-- Whether a valuation makes finitely many ground clauses true is decided, so both conditions on evidence are.
abbrev pub TruthIsDecided : Type 0
TruthIsDecided = (cs : List (List (Literal ⊥))) → Dec ((v : Valuation ⊥) × Each (λ c. clause_true v c ≡ true) cs)

-- All ground instances of the bill can be true; those of a fact and of its denial cannot.
abbrev pub SomeAreTrue : Type 0
SomeAreTrue =
    ((v : Valuation ⊥) × AllInstancesTrue v season.clauses)
    × ((v : Valuation ⊥) → ¬ AllInstancesTrue v (stated ∷ record { restricted = false; variables = 0; literals = played true (constant 2) ∷ [] } ∷ []))
