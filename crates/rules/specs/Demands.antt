-- The demands (document 00) as statements, to be read beside document 01. Nothing is proved here; proofs/Demands.antt proves each of them.
-- `check` and `searchFor` are programs: what they say is judged by Closed, Searched and Unifiable, which know nothing of how they go about it.
use Rattle.std.specs.Prelude.{length, Bool, List, map, ◌↔◌, ◌≢◌, ◌≡◌, ℕ, ◌≤◌, ◌<◌}
use Rattle.words.specs.Steps.{encoded}
use Rattle.words.specs.declared.Step.{Step}
use Rattle.table.specs.Limits.{Within, Each}
use Rattle.table.specs.Syntax.{Term, Literal, literal_under, Table}
use Rattle.rules.specs.Substitution.{Variable, Substitution, Solves, MostGeneral}
use Rattle.rules.specs.Setting.{Profile, read_steps, longest_proof, Setting, over, base}
use Rattle.rules.specs.Tableau.{Tableau, start, Closed}
use Rattle.rules.specs.Order.{Before, Ending, Searched, First}
use Rattle.rules.specs.Answer.{per_copy, same_disjunct, firsts_by, place_by, disjuncts, occurring_all, firsts, joined, disjuncts_in, Reads, AllDifferent, Ascending}
use Rattle.rules.specs.System.{◌∈◌}
use Rattle.rules.specs.Truth.{Interpretation, AllNegative, AllHold, TrueAnswer}
use Rattle.rules.specs.Locality.{renumbered, SameCopied}
use Rattle.rules.specs.Growing.{along, Larger, moved}
use Rattle.rules.specs.Reordered.{SameTable}
use Rattle.rules.specs.Evidence.{Valuation, Ground, ground_instance, AllInstancesTrue, Evidence, enough, turned, Covers}
use Rattle.rules.specs.Verdict.{CheckVerdict, Checks, SearchVerdict, finds, finds_none, runs_out, ended, Searches, Answers}
use Rattle.rules.specs.Machinery.Play.{Play, passed, check, checked, search_for, answer_of, disjuncts_of}

-- DEMAND 2
-- What the checker says of a proof's words, read as the profile reads them, is what document 01 says, step by step, and there is one verdict alone.
abbrev pub CheckerFollowsTheRules : Type 0
CheckerFollowsTheRules =
    (S : Setting) (proof : List ℕ) → Checks S (start S.table) 0 (read_steps S.profile proof) (checked (check S (read_steps S.profile proof)))

abbrev pub OneCheckVerdict : Type 0
OneCheckVerdict =
    (S : Setting) (steps : List Step) (c d : CheckVerdict) → Checks S (start S.table) 0 steps c → Checks S (start S.table) 0 steps d
    → c ≡ d

-- The checker accepts exactly the closed tableaux within the bound, whoever wrote them.
abbrev pub AcceptsExactlyTheClosed : Type 0
AcceptsExactlyTheClosed =
    (S : Setting) (proof : List ℕ) → ((p : Play) × (check S (read_steps S.profile proof) ≡ passed p)) ↔ Closed S (read_steps S.profile proof)

-- The stated order has an end, with so many tries, and one alone.
abbrev pub SearchEnds : Type 0
SearchEnds = (S : Setting) → (e : Ending) × (tries : ℕ) × Searched S (start S.table) e tries

abbrev pub OneEnding : Type 0
OneEnding =
    (S : Setting) (e d : Ending) (m n : ℕ) → Searched S (start S.table) e m → Searched S (start S.table) d n → (e ≡ d) × (m ≡ n)

-- What the search says within a budget is what document 01 says, and there is one verdict alone.
abbrev pub SearchFollowsTheOrder : Type 0
SearchFollowsTheOrder = (S : Setting) (budget : ℕ) → Searches S budget (search_for S budget)

abbrev pub OneSearchVerdict : Type 0
OneSearchVerdict =
    (S : Setting) (budget : ℕ) (v w : SearchVerdict) → Searches S budget v → Searches S budget w → v ≡ w

-- It says "ran out" exactly when the stated order needs more tries than the budget; the tries are the budget then, and else those needed.
abbrev pub RunsOutExactly : Type 0
RunsOutExactly =
    (S : Setting) (budget : ℕ) (e : Ending) (tries : ℕ) → Searched S (start S.table) e tries
    → (search_for S budget ≡ runs_out budget) ↔ (budget < tries)

abbrev pub TriesAreThoseMade : Type 0
TriesAreThoseMade =
    (S : Setting) (budget : ℕ) (e : Ending) (tries : ℕ) → Searched S (start S.table) e tries → tries ≤ budget
    → search_for S budget ≡ ended e tries

-- Otherwise it says "none" exactly when no closed tableau exists within the bound under any substitution,
abbrev pub NoneExactly : Type 0
NoneExactly =
    (S : Setting) (budget : ℕ) → search_for S budget ≢ runs_out budget
    → ((tries : ℕ) × (search_for S budget ≡ finds_none tries)) ↔ ((steps : List Step) → ¬ Closed S steps)

-- or hands back the first in the stated order
abbrev pub FoundIsFirst : Type 0
FoundIsFirst =
    (S : Setting) (budget : ℕ) (steps : List Step) (tries : ℕ) → search_for S budget ≡ finds steps tries → First S steps

abbrev pub OneFirst : Type 0
OneFirst = (steps other : List Step) → Before steps other → ¬ Before other steps

abbrev pub FoundIsAccepted : Type 0
FoundIsAccepted =
    (S : Setting) (budget : ℕ) (steps : List Step) (tries : ℕ) → search_for S budget ≡ finds steps tries
    → (p : Play) × (check S steps ≡ passed p)

-- with its most general answer: the disjuncts of the copies of the question under a most general solution, no matter which;
abbrev pub AcceptedHasAnswer : Type 0
AcceptedHasAnswer =
    (S : Setting) (steps : List Step) (p : Play) → check S steps ≡ passed p
    → Answers S.table p.tableau (disjuncts_of S.table p) (answer_of S.table p)

abbrev pub OneAnswer : Type 0
OneAnswer =
    (t : Table) (x : Tableau) (c d : ℕ) (ws vs : List ℕ) → Answers t x c ws → Answers t x d vs → (c ≡ d) × (ws ≡ vs)

-- the disjuncts are read in its words,
abbrev pub AnswerIsRead : Type 0
AnswerIsRead =
    (S : Setting) → Within S.table → S.bound ≤ 32 → (steps : List Step) (c : Closed S steps) (count : ℕ) (words : List ℕ)
    → Answers S.table c.tableau count words → Reads S.table.question words count (disjuncts_in S.table.question words)

-- and the disjuncts under every other solution are an instance of them by one substitution: those that it makes equal appear once, at the first place.
abbrev pub AnswerIsMostGeneral : Type 0
AnswerIsMostGeneral =
    (S : Setting) → Within S.table → S.bound ≤ 32 → (steps : List Step) (c : Closed S steps) (count : ℕ) (words : List ℕ)
    → Answers S.table c.tableau count words → (τ : Substitution) → Solves τ c.tableau.pairs
    → (ρ : ℕ → Term Variable)
    × (disjuncts τ S.table c.tableau ≡ firsts_by same_disjunct (map (map (literal_under ρ)) (disjuncts_in S.table.question words)))

-- No two of the disjuncts that are read in its words are equal.
abbrev pub NoDisjunctTwice : Type 0
NoDisjunctTwice =
    (S : Setting) → Within S.table → S.bound ≤ 32 → (steps : List Step) (c : Closed S steps) (count : ℕ) (words : List ℕ)
    → Answers S.table c.tableau count words → AllDifferent (disjuncts_in S.table.question words)

-- Under every substitution, what each copy of the question says is among the disjuncts, they say nothing else, and they stand in the order of their
-- first places among the copies. No other list is so.
pub record AtFirstPlaces {A : Type 0} (same : A → A → Bool) (long short : List A) : Type 0 where
  pub all_there : Each (λ d. d ∈ short) long
  pub nothing_else : Each (λ d. d ∈ long) short
  pub in_order : Ascending (map (λ d. place_by same d long) short)

abbrev pub DisjunctsAtFirstPlaces : Type 0
DisjunctsAtFirstPlaces = (σ : Substitution) (t : Table) (x : Tableau) → AtFirstPlaces same_disjunct (per_copy σ t x) (disjuncts σ t x)

abbrev pub OneListAtFirstPlaces : Type 0
OneListAtFirstPlaces = (long short other : List (List (Literal Variable))) → AtFirstPlaces same_disjunct long short → AtFirstPlaces same_disjunct long other → short ≡ other

-- A proof has at most 199 steps, 231 where leaves are restarted, an answer at most 528 different variables.
abbrev pub ProofIsShort : Type 0
ProofIsShort =
    (S : Setting) → Within S.table → S.bound ≤ 32 → (steps : List Step) → Closed S steps → length steps ≤ longest_proof S.profile

abbrev pub AnswerHasFewVariables : Type 0
AnswerHasFewVariables =
    (S : Setting) → Within S.table → S.bound ≤ 32 → (steps : List Step) (c : Closed S steps) (σ : Substitution)
    → MostGeneral σ c.tableau.pairs → length (firsts (occurring_all (joined (disjuncts σ S.table c.tableau)))) ≤ 528

-- Its steps have words of their own, so the words of a proof that was found are accepted.
abbrev pub ProofHasWords : Type 0
ProofHasWords =
    (S : Setting) → Within S.table → S.bound ≤ 32 → (steps : List Step) → Closed S steps → read_steps S.profile (map encoded steps) ≡ steps

-- DEMAND 3
-- Each answer found or accepted is true in every interpretation over a finite, non-empty domain where all clauses but the question hold.
abbrev pub AnswersHold : Type 0
AnswersHold =
    (I : Interpretation) (S : Setting) → Within S.table → S.bound ≤ 32
    → AllNegative S.table.question.literals → AllHold I S.table.clauses → (steps : List Step) (p : Play) → check S steps ≡ passed p
    → TrueAnswer I S.table.question (disjuncts_of S.table p) (answer_of S.table p)

-- A run that didn't run out gives the same result with a larger budget.
abbrev pub LargerBudget : Type 0
LargerBudget =
    (S : Setting) (budget larger : ℕ) → search_for S budget ≢ runs_out budget → budget ≤ larger
    → search_for S larger ≡ search_for S budget

-- Once a proof is found, adding clauses before the question or raising the bound never yields "none";
abbrev pub NeverNoneAgain : Type 0
NeverNoneAgain =
    (rules : Profile) (t u : Table) → Larger t u → (bound higher : ℕ) → bound ≤ higher → (budget other tries more : ℕ) (steps : List Step)
    → search_for (over rules t bound) budget ≡ finds steps tries → search_for (over rules u higher) other ≢ finds_none more

-- an accepted proof, its clause numbers moved along, is accepted again with the same answer words.
abbrev pub AcceptedAgain : Type 0
AcceptedAgain =
    (rules : Profile) (t u : Table) (larger : Larger t u) (bound higher : ℕ) → bound ≤ higher → (steps : List Step) (p : Play) → check (over rules t bound) steps ≡ passed p
    → (q : Play) × (check (over rules u higher) (map (moved larger) steps) ≡ passed q) × (disjuncts_of u q ≡ disjuncts_of t p) × (answer_of u q ≡ answer_of t p)

-- Other clauses do not matter: over a table that has the question and the clauses that the steps copy, perhaps under other numbers, the checker
-- says the same of the renumbered steps, with the same answer words.
abbrev pub OnlyCopiedClausesMatter : Type 0
OnlyCopiedClausesMatter =
    (rules : Profile) (t u : Table) (number : ℕ → ℕ) (bound : ℕ) (steps : List Step) → SameCopied t u number steps
    → (check (over rules u bound) (map (renumbered number) steps) ≡ check (over rules t bound) steps)
    × (Closed (over rules t bound) steps ↔ Closed (over rules u bound) (map (renumbered number) steps))
    × ((p : Play) → answer_of u p ≡ answer_of t p)

-- A larger table has them.
abbrev pub LargerHasTheCopied : Type 0
LargerHasTheCopied = (t u : Table) (larger : Larger t u) (steps : List Step) → SameCopied t u (along larger.clauses) steps

-- The order of clauses before the question, and of literals within clauses, does not matter to whether a closed tableau exists.
abbrev pub OrderDoesNotMatter : Type 0
OrderDoesNotMatter =
    (rules : Profile) (t u : Table) → SameTable t u → (bound : ℕ) → ((steps : List Step) × Closed (over rules t bound) steps) ↔ ((steps : List Step) × Closed (over rules u bound) steps)

-- COMPLETENESS
-- Evidence for an answer is answered by a closed tableau within some bound whose answer covers the evidence.
pub record Answered (t : Table) (e : Evidence t) : Type 0 where
  pub bound : ℕ
  pub low : bound ≤ enough e
  pub steps : List Step
  pub closed : Closed (base t bound) steps
  pub covers : AllNegative t.question.literals → (σ : Substitution) → MostGeneral σ closed.tableau.pairs
      → Covers t.question e.questions (disjuncts σ t closed.tableau)

-- All evidence is.
abbrev pub AnswerCompleteness : Type 0
AnswerCompleteness = (t : Table) (e : Evidence t) → Answered t e

-- The disjuncts that are read in that answer's words cover the evidence too.
abbrev pub AnswerWordsCover : Type 0
AnswerWordsCover =
    (t : Table) (e : Evidence t) (a : Answered t e) → Within t → AllNegative t.question.literals → a.bound ≤ 32 → (count : ℕ) (words : List ℕ)
    → Answers t a.closed.tableau count words → Covers t.question e.questions (disjuncts_in t.question words)

-- At that bound or a higher one no search says "none", whatever its budget.
abbrev pub NeverNoneWithEvidence : Type 0
NeverNoneWithEvidence =
    (t : Table) (e : Evidence t) (a : Answered t e) (higher : ℕ) → a.bound ≤ higher → (budget tries : ℕ)
    → search_for (base t higher) budget ≢ finds_none tries

-- With a budget that is large enough it finds a proof.
abbrev pub FoundWithEvidence : Type 0
FoundWithEvidence =
    (t : Table) (e : Evidence t) (bound : ℕ) → enough e ≤ bound
    → (steps : List Step) × (tries : ℕ) × ((budget : ℕ) → tries ≤ budget → search_for (base t bound) budget ≡ finds steps tries)

-- So where a search says "none" there is no evidence for which its bound is enough,
abbrev pub NoneMeans : Type 0
NoneMeans = (t : Table) (bound budget tries : ℕ) → search_for (base t bound) budget ≡ finds_none tries → (e : Evidence t) → bound < enough e

-- and where one says "none" at every bound there is no evidence at all.
abbrev pub NoneAtEveryBound : Type 0
NoneAtEveryBound =
    (t : Table) → ((bound : ℕ) → (budget : ℕ) × (tries : ℕ) × (search_for (base t bound) budget ≡ finds_none tries)) → ¬ Evidence t

-- No answer goes without evidence: where some valuation makes all ground instances of the clauses before the question true, there is evidence
-- exactly where there is a closed tableau within some bound.
abbrev pub EvidenceExactly : Type 0
EvidenceExactly =
    (t : Table) (v : Valuation ⊥) → AllInstancesTrue v t.clauses
    → Evidence t ↔ ((bound : ℕ) × (steps : List Step) × Closed (base t bound) steps)

-- There every answer is evidence's: the disjuncts of a closed tableau under any solution, with any ground terms put for the variables left, are,
-- their literals turned over, the instances of the question in some evidence.
abbrev pub AnswerIsEvidence : Type 0
AnswerIsEvidence =
    (t : Table) (v : Valuation ⊥) → AllInstancesTrue v t.clauses → AllNegative t.question.literals → (bound : ℕ) (steps : List Step)
    (c : Closed (base t bound) steps) (σ : Substitution) → Solves σ c.tableau.pairs → (ρ : Variable → Ground)
    → (e : Evidence t)
    × (map (λ θ. ground_instance θ t.question) e.questions ≡ map (λ d. map turned (map (literal_under ρ) d)) (disjuncts σ t c.tableau))
