-- The witnesses, proved: each statement of specs/Witnesses.antt.
use borrow.Author.Tests.{lt-ltb}
use lib.Dec.{eqb}
use lib.ListN.{length}
use mathlib.Core.Bool.{Bool, true, false, cond, not, true≢false, ◌||◌}
use mathlib.Core.List.{List, [], ◌∷◌, ◌++◌, flatten}
use mathlib.Core.Logic.{◌⊎◌, inl, inr}
use mathlib.Core.Option.{none}
use mathlib.Core.Path.{◌≡◌, refl, sym, ◌∙◌, ap, subst}
use native.Mathlib.Omega.{arith}
use Prim.Native.Nat.{ℕ, zero, suc, ◌+◌, ◌≤◌, ◌<◌}
use Rattle.words.specs.declared.Step.{Step}
use Rattle.words.specs.declared.Step.TheVariants.{Extension, Restart}
use Rattle.table.specs.Limits.{TermWithin, LiteralWithin, Each, ClauseWithin}
use Rattle.table.specs.Syntax.{Term, var, app, Terms, nil, ◌then◌, under, Literal, literal_under, Clause, Table}
use Rattle.table.proofs.Opened.{opened}
use Rattle.rules.specs.Substitution.{Variable, Substitution, Solves, MostGeneral}
use Rattle.rules.specs.Setting.{one_way, Setting, over, base}
use Rattle.rules.specs.Tableau.{Leaf, Tableau, treated, stepped, Closed}
use Rattle.rules.specs.Order.{Precedes, at_once, found, nothing}
use Rattle.rules.specs.Answer.{groups_from, disjuncts_in, disjuncts, answer_words}
use Rattle.rules.specs.Truth.{Interpretation, Assignment, AllNegative, value, atom_true, literal_true, some_true, all_true, some_all_true, Holds, AllHold, AnswerHolds}
use Rattle.rules.specs.System.{◌∈◌, first, later}
use Rattle.rules.specs.Locality.{renumbered, SameClauseAt}
use Rattle.rules.specs.Growing.{Inserted, at_end, kept, added, along, moved}
use Rattle.rules.specs.Reordered.{Reordered, empty, next, swapped, in_turn, SameClause}
use Rattle.rules.specs.Evidence.{Valuation, clause_true, InstanceOf, InstancesTrue, QuestionsTrue, Ground, Grounding, ground_instance, Evidence, leaf_needs, most_others, enough, turned}
use Rattle.rules.specs.Evidence as Evidence
use Rattle.rules.specs.Verdict.{Refusal, not_allowed, Answers, finds_none, runs_out}
use Rattle.rules.specs.Comparison.{a_clash, a_circle, Fails}
use Rattle.rules.specs.Machinery.Unify as Unify
use Rattle.rules.specs.Machinery.Play.{Play, Checking, passed, stopped, check, answer_of, disjuncts_of}
use Rattle.rules.specs.Witnesses as W
use Rattle.rules.proofs.System.Clash.{clash}
use Rattle.rules.proofs.Cases.{played}
use Rattle.rules.proofs.Compared.{fails_exactly, comparison_says}
use Rattle.rules.proofs.Checker.{checker_says}
use Rattle.rules.proofs.Demands.{said, closed_passed, none_exactly, found_is_first, found_is_accepted, accepted_has_answer, one_answer, one_first}
use Rattle.rules.proofs.Reading.{read_once}
use Rattle.rules.proofs.Steps.{Does, extends, restarts, does}
use Rattle.rules.proofs.Valuations.{possible?}

-- truth
pub every_domain : W.EveryDomain
every_domain n positive f p within =
    (record { size = n; function = f; predicate = p; not_empty = positive; within = within }, refl, refl, refl)

pub every_assignment : W.EveryAssignment
every_assignment I X element within = (record { element = element; within = within }, refl)

-- every variable is given the first element
anyone : (I : Interpretation) (X : Type 0) → Assignment I X
anyone I X = (every_assignment I X (λ x. 0) (λ x. I.not_empty)).0

pub no_disjunct_is_false : W.NoDisjunctIsFalse
unfolding AnswerHolds some_all_true
no_disjunct_is_false I X h = true≢false (sym (h (anyone I X)))

pub no_literal_is_false : W.NoLiteralIsFalse
unfolding Holds some_true
no_literal_is_false I variables h = true≢false (sym (h (anyone I ℕ)))

pub no_clause_holds : W.NoClauseHolds
unfolding AllHold
no_clause_holds I = tt

-- the evening is one element, all else the other; what is at the evening is true
slot_of : ℕ → List ℕ → ℕ
slot_of f values = cond (eqb f 3) 1 0

slot_within : (f : ℕ) (values : List ℕ) → slot_of f values < 2
unfolding slot_of
slot_within f values = go (eqb f 3)
  where
    go : (b : Bool) → cond b 1 0 < 2
    go true = omega arith
    go false = omega arith

in_the_evening : ℕ → List ℕ → Bool
in_the_evening p [] = false
in_the_evening p (e ∷ []) = false
in_the_evening p (e ∷ slot ∷ values) = eqb slot 1

evenings : Interpretation
evenings = (every_domain 2 (omega arith) slot_of in_the_evening slot_within).0

unfoldable seen_true : Unit {0}
unfolding every_domain every_assignment evenings anyone slot_of in_the_evening value atom_true literal_true some_true all_true some_all_true Holds AllHold AnswerHolds opened flatten groups_from disjuncts_in
seen_true = tt

-- a literal of the example is within the limits
slot_named_lem : {v : ℕ} (f : ℕ) → f < 4 → LiteralWithin v (W.played false (W.constant f))
unfolding opened Each TermWithin
slot_named_lem f l = record {
  predicate = omega arith;
  arity = omega arith;
  arguments = ((omega arith, omega arith, tt), ((omega arith, omega arith, tt), tt));
}

pub read_as_two : W.ReadAsTwo
unfolding seen_true Each
read_as_two = (
  refl,
  record { counted = refl; alike = (refl, (refl, tt)); positive = (refl, (refl, tt)); whole = refl; within = (slot_named_lem 2 (omega arith), (slot_named_lem 3 (omega arith), tt)) },
  λ h. let wrong : ◌≡◌ {A = ℕ} 0 1 = h.alike.0 in clash wrong,
)

pub only_evenings : W.OnlyEvenings
unfolding seen_true Each
only_evenings = record {
  world = evenings;
  clauses = (λ a. refl, tt);
  either = λ a. refl;
  not_matinee = λ h. true≢false (sym (h (anyone evenings ℕ)));
  true_answer = record { read = read_as_two.1; holds = λ a. refl };
  no_true_answer = λ h. true≢false (sym (h.holds (anyone evenings ℕ)));
  nor_twice = λ h. true≢false (sym (h.holds (anyone evenings ℕ)));
}

-- one element, and nothing is true
pub closed_house : W.ClosedHouse
unfolding seen_true
closed_house =
    let I : Interpretation = (every_domain 1 (omega arith) (λ f values. 0) (λ p values. false) (λ f values. omega arith)).0 in
    record { world = I; no_bill = λ h. true≢false (sym (h (anyone I ℕ))); denial = λ a. refl }

pub question_is_negative : W.QuestionIsNegative
unfolding AllNegative
question_is_negative = ((refl, tt), λ h. true≢false (sym h.0))

-- the answer
pub one_reading : W.OneReading
one_reading question some words count ds r =
    let e = read_once question some r in (e, sym r.counted ∙ ap (λ (es : List (List (Literal ℕ))). length es) e)

-- what the checker says of the example's proof, computed
count_said : Table → Checking → ℕ
count_said t (passed p) = disjuncts_of t p
count_said t (stopped r place) = 0

words_said : Table → Checking → List ℕ
words_said t (passed p) = answer_of t p
words_said t (stopped r place) = []

answer_said : (S : Setting) (steps : List Step) (c : Closed S steps)
    → Answers S.table c.tableau (count_said S.table (check S steps)) (words_said S.table (check S steps))
unfolding count_said words_said
answer_said S steps c = let p = closed_passed S steps c in go p.0 p.1 c.tableau p.2
  where
    go : (p : Play) → check S steps ≡ passed p → (x : Tableau) → p.tableau ≡ x
        → Answers S.table x (count_said S.table (check S steps)) (words_said S.table (check S steps))
    go p e x f = rw (e, ← f) (accepted_has_answer S steps p e)

-- a proof has one answer, however many disjuncts it is said to have
one_count : (S : Setting) (steps : List Step) (c : Closed S steps) {count : ℕ} {words : List ℕ} → Answers S.table c.tableau count words
    → count ≡ count_said S.table (check S steps)
one_count S steps c {count} {words} a = (one_answer S.table c.tableau count _ words _ a (answer_said S steps c)).0

definite_by : (t : Table) (x : Tableau) (σ : Substitution) → MostGeneral σ x.pairs → Answers t x (length (disjuncts σ t x)) (answer_words σ t x)
definite_by t x σ g = record { by = σ; general = g; counted = refl; written = refl }

copies_said : Checking → ℕ
copies_said (passed p) = length p.tableau.questions
copies_said (stopped r place) = 0

copies_said_lem : (S : Setting) (steps : List Step) (c : Closed S steps) → length c.tableau.questions ≡ copies_said (check S steps)
unfolding copies_said
copies_said_lem S steps c =
    let p = closed_passed S steps c in ap (λ (x : Tableau). length x.questions) (sym p.2) ∙ sym (ap copies_said p.1)

pub case_one_answer : W.CaseOneAnswer
unfolding played count_said words_said
case_one_answer c = (
  answer_said (base W.season 2) W.proof c,
  λ words a. let wrong : ◌≡◌ {A = ℕ} 1 2 = one_count (base W.season 2) W.proof c a in absurd (omega arith),
)

pub some_are_definite : W.SomeAreDefinite
unfolding played count_said copies_said
some_are_definite =
    let S : Setting = base W.twice_told 5 in
    let c : Closed S W.twice_proof = (found_is_first S 100 W.twice_proof 7 refl).0 in (
      λ c σ g d.
          let many : length (disjuncts σ W.season c.tableau) ≡ 2 = one_count (base W.season 2) W.proof c (definite_by W.season c.tableau σ g) in
          absurd (let wrong : ◌≡◌ {A = ℕ} 1 2 = sym d ∙ many in omega arith),
      c,
      copies_said_lem S W.twice_proof c,
      λ σ g. one_count S W.twice_proof c (definite_by W.twice_told c.tableau σ g),
    )

pub definite_is_one : W.DefiniteIsOne
definite_is_one t x count words a = (λ d. a.counted ∙ d, λ one. sym a.counted ∙ one)

pub definite_holds : W.DefiniteHolds
unfolding AnswerHolds some_all_true
definite_holds I X d = (λ h a. alone _ (h a), λ h a. rw (h a))
  where
    alone : (b : Bool) → (b || false) ≡ true → b ≡ true
    alone true e = refl
    alone false e = e

-- unification
unfoldable mutual
  depth : Term Variable → ℕ
  depth (var x) = 0
  depth (app f ts) = suc (depths ts)

  depths : Terms Variable → ℕ
  depths nil = 0
  depths (t then ts) = depth t + depths ts

pub unifications : (x : Variable) → W.Unifications x
unfolding Solves under depth
unifications x = (
  λ u. let wrong : ◌≡◌ {A = ℕ} 1 2 = cc u.solves.0 in absurd (omega arith),
  λ u. let deeper : depth (u.by x) ≡ suc (depth (u.by x) + 0) = ap depth u.solves.0 in absurd (omega arith),
  record { by = λ y. app 1 nil; solves = (refl, tt) },
)

pub generality : W.Generality
unfolding Solves under
generality = (
  record { solves = tt; general = λ τ s. (τ, λ x. refl) },
  λ m. let x : Variable = record { copy = 0; number = 0 } in
      let wrong : ◌≡◌ {A = Term Variable} (var x) (app 1 nil) = (m.general var tt).1 x in clash (cc),
)

-- comparison
clashes : (s t : Term Variable) → Unify.unify [] s t ≡ Unify.clash → Fails s t a_clash
clashes s t e = (comparison_says s t).0.0 e

circles : (s t : Term Variable) → Unify.unify [] s t ≡ Unify.circle → Fails s t a_circle
circles s t e = (comparison_says s t).1.0 e

pub comparisons : W.Comparisons
unfolding played Solves
comparisons = record {
  clash_first = clashes _ _ refl;
  circle_first = circles _ _ refl;
  clash_by_binding = clashes _ _ refl;
  circle_by_binding = circles _ _ refl;
  two_arities = clashes _ _ refl;
  deeper_first = circles _ _ refl;
  crosswise = λ r h. (fails_exactly _ _).0 (r, h) (record { by = λ x. W.mat; solves = (refl, tt) });
}

-- tableaux
pub case_one_closes : W.CaseOneCloses
unfolding played
case_one_closes = (
  (found_is_first (base W.season 2) 3 W.proof 3 refl).0,
  found_is_accepted (base W.season 2) 3 W.proof 3 refl,
  (none_exactly (base W.season 1) 4 (λ (e : finds_none 4 ≡ runs_out 4). clash (cc))).0 (4, refl),
)

pub every_refusal : W.EveryRefusal
unfolding played
every_refusal = record {
  twelve = checker_says (base W.season 2) _;
  thirteen = checker_says (base W.season 2) _;
  fourteen = checker_says (base (W.asked (W.constant 3)) 1) _;
  fifteen = checker_says (base W.season 2) _;
  twenty = checker_says (base W.mothers 1) _;
}

pub every_verdict : W.EveryVerdict
unfolding played
every_verdict = record {
  finds_it = refl;
  runs_out_of_it = refl;
  finds_none_with_one = refl;
  ends_found = said (base W.season 2) 3 {e = found W.proof} refl;
  ends_with_none = said (base W.season 1) 4 {e = nothing} refl;
}

-- restarts
not_passed : (S : Setting) (steps : List Step) {r : Refusal} {place : ℕ} → check S steps ≡ stopped r place → ¬ Closed S steps
not_passed S steps e c = let p = closed_passed S steps c in clash (cc (e, p.1))

pub read_one_way : W.ReadOneWay
unfolding played
read_one_way = record {
  finds_it = refl;
  runs_out_of_it = refl;
  finds_none_with_one = refl;
  base_proof_is_not = not_passed (over one_way W.season 2) W.proof {r = not_allowed} {place = 1} refl;
  nor_this_in_the_base = not_passed (base W.season 2) W.restart_proof {r = not_allowed} {place = 1} refl;
}

positive_sign : (b : Bool) → not b ≡ true → b ≡ false
positive_sign true e = clash (cc)
positive_sign false e = refl

pub signs_are_kept : W.SignsAreKept
signs_are_kept t bound x y leaf rest l = (λ i j e. extended (does (Extension i j) e), λ e. restarted (does Restart e))
  where
    extended : {i j : ℕ} → Does (over one_way t bound) x (Extension i j) y → leaf.literal.negative ≡ true
    extended (extends {leaf = other} k u c a f e) = let same : leaf ≡ other = cc in rw same u.0

    restarted : Does (over one_way t bound) x Restart y → leaf.literal.negative ≡ false
    restarted (restarts {leaf = other} k u e) = let same : leaf ≡ other = cc in rw same (positive_sign other.literal.negative u.0)

pub base_never_restarts : W.BaseNeverRestarts
unfolding stepped treated
base_never_restarts t bound x = go x.leaves
  where
    go : (ls : List Leaf) → treated (base t bound) x ls Restart ≡ none
    go [] = refl
    go (leaf ∷ rest) = refl

pub some_come_before : W.SomeComeBefore
unfolding Precedes
some_come_before = (at_once {s = Extension 0 0} {t = Extension 0 1} (inr (refl, omega arith)), λ steps b. one_first steps steps b b)

pub limits : W.Limits
unfolding opened Each TermWithin
limits = (record { few = omega arith; clauses = (bill-within, (which-within, tt)) }, λ w. let some = w.clauses.0.some in omega arith)
  where
    bill-within : ClauseWithin W.bill
    bill-within = record {
      some = omega arith;
      few = omega arith;
      variables = omega arith;
      follow = omega arith;
      literals = (slot_named_lem 2 (omega arith), (slot_named_lem 3 (omega arith), tt));
    }

    which-within : ClauseWithin W.which
    which-within = record {
      some = omega arith;
      few = omega arith;
      variables = omega arith;
      follow = omega arith;
      literals = (record { predicate = omega arith; arity = omega arith; arguments = ((omega arith, omega arith, tt), (omega arith, tt)) }, tt);
    }

-- other tables
all_kept : (cs : List Clause) → Inserted cs cs
all_kept [] = at_end
all_kept (c ∷ cs) = kept (all_kept cs)

kept_along : (cs : List Clause) (i : ℕ) → along (all_kept cs) i ≡ i
unfolding all_kept along
kept_along [] i = refl
kept_along (c ∷ cs) zero = refl
kept_along (c ∷ cs) (suc i) = ap suc (kept_along cs i)

inserted : (c : Clause) (before after : List Clause) → Inserted (before ++ after) (before ++ (c ∷ after))
inserted c [] after = added (all_kept after)
inserted c (b ∷ before) after = kept (inserted c before after)

module _ (c : Clause) where
  numbers-before : (before after : List Clause) (i : ℕ) → i < length before → along (inserted c before after) i ≡ i
  unfolding inserted along
  numbers-before [] after i l = absurd (omega arith)
  numbers-before (b ∷ before) after zero l = refl
  numbers-before (b ∷ before) after (suc i) l = ap suc (numbers-before before after i (omega arith))

  numbers-behind : (before after : List Clause) (i : ℕ) → length before ≤ i → along (inserted c before after) i ≡ suc i
  unfolding inserted along
  numbers-behind [] after i l = ap suc (kept_along after i)
  numbers-behind (b ∷ before) after zero l = absurd (omega arith)
  numbers-behind (b ∷ before) after (suc i) l = ap suc (numbers-behind before after i (omega arith))

pub every_addition : W.EveryAddition
unfolding moved renumbered
every_addition question c before after = (
  record { clauses = inserted c before after; question = refl },
  λ i literal l. ap (λ (n : ℕ). Extension n literal) (numbers-before c before after i l),
  λ i literal l. ap (λ (n : ℕ). Extension n literal) (numbers-behind c before after i l),
)

inserted_length : {cs ds : List Clause} → Inserted cs ds → length cs ≤ length ds
inserted_length at_end = omega arith
inserted_length (kept r) = let l = inserted_length r in omega arith
inserted_length (added r) = let l = inserted_length r in omega arith

pub not_every_table_is_larger : W.NotEveryTableIsLarger
not_every_table_is_larger = (
  λ larger. let wrong : 1 ≤ 0 = inserted_length larger.clauses in absurd (omega arith),
  λ larger. let wrong : ◌≡◌ {A = ℕ} 1 0 = ap (λ (c : Clause). c.variables) larger.question in absurd (omega arith),
)

reordered_length : {A : Type 0} {R : A → A → Type 0} {xs ys : List A} → Reordered R xs ys → length xs ≡ length ys
reordered_length empty = refl
reordered_length (next r s) = ap suc (reordered_length s)
reordered_length swapped = refl
reordered_length (in_turn s t) = reordered_length s ∙ reordered_length t

same_literals : (ls : List (Literal ℕ)) → Reordered ◌≡◌ ls ls
same_literals [] = empty
same_literals (l ∷ ls) = next refl (same_literals ls)

same_clause : (c : Clause) → SameClause c c
same_clause c = record { variables = refl; literals = same_literals c.literals }

pub another_order : W.AnotherOrder
another_order = (
  record {
    clauses = in_turn swapped (next (same_clause W.stated) (next (record { variables = refl; literals = swapped }) empty));
    question = same_clause W.which;
  },
  λ same. let wrong : ◌≡◌ {A = ℕ} 1 0 = reordered_length same.clauses in absurd (omega arith),
)

-- the steps of the example, behind another clause
of_one : {A : Type 0} {m a : A} → m ∈ (a ∷ []) → m ≡ a
of_one first = refl
of_one (later m) = elim m [ ]

of_two : {A : Type 0} {m a b : A} → m ∈ (a ∷ b ∷ []) → (m ≡ a) ⊎ (m ≡ b)
of_two first = inl refl
of_two (later m) = inr (of_one m)

abbrev behind : Table
behind = W.with_clauses (W.stated ∷ W.bill ∷ []) W.which

one_higher : (i j clause literal : ℕ) → Extension clause literal ≡ Extension i j → SameClauseAt W.season behind i (suc i)
    → SameClauseAt W.season behind clause (suc clause)
one_higher i j clause literal e same = let c : clause ≡ i = cc in rw c same

pub copied_behind : W.CopiedBehind
unfolding opened
copied_behind = (
  record { question = refl; copied = λ clause literal m. copied clause literal (of_two m) },
  λ s. let same = (s.copied 0 0 first).clause in
      let clauses : W.bill ≡ W.stated = cc in
      let wrong : ◌≡◌ {A = ℕ} 2 1 = ap (λ (c : Clause). length c.literals) clauses in absurd (omega arith),
)
  where
    copied : (clause literal : ℕ) → (Extension clause literal ≡ Extension 0 0) ⊎ (Extension clause literal ≡ Extension 1 0)
        → SameClauseAt W.season behind clause (suc clause)
    copied clause literal (inl e) = one_higher 0 0 clause literal e (record { clause = refl; question = (λ e. omega arith, λ e. omega arith) })
    copied clause literal (inr e) = one_higher 1 0 clause literal e (record { clause = refl; question = (λ e. refl, λ e. refl) })

-- evidence
unfoldable seen_evidence : Unit {0}
unfolding under literal_under Evidence.literal_true clause_true Each leaf_needs most_others enough turned
seen_evidence = tt

either : (a b : Bool) → (a || (b || false)) ≡ true → (not a || false) ≡ true → (not b || false) ≡ true → ⊥
either true b e f g = true≢false (sym f)
either false true e f g = true≢false (sym g)
either false false e f g = true≢false (sym e)

pub bill_is_evidence : W.BillIsEvidence
unfolding seen_evidence played
bill_is_evidence = record {
  evidence = record {
    clauses = record { clause = W.bill; among = first; by = W.slot 1 } ∷ [];
    questions = W.slot 2 ∷ W.slot 3 ∷ [];
    impossible = λ v h. either (v 1 (app 1 nil then app 2 nil then nil)) (v 1 (app 1 nil then app 3 nil then nil)) h.0.0 h.1.0 h.1.1.0;
    possible = (λ p ts. true, (refl, tt));
  };
  asks = refl;
  two_are_enough = refl;
  none_with_one = refl;
}

pub evidence_asks : W.EvidenceAsks
unfolding Each
evidence_asks t e unasked =
    let p = e.possible in
    e.impossible p.0 (p.1, subst (λ (θs : List Grounding). QuestionsTrue p.0 t.question θs) (sym unasked) tt)

-- an atom's slot; only what is at the matinee is true
named : Ground → ℕ
named (var x) = 0
named (app f ts) = f

slot_named : Terms ⊥ → ℕ
slot_named nil = 0
slot_named (e then nil) = 0
slot_named (e then slot then ts) = named slot

slot_asked : List (Literal ⊥) → ℕ
slot_asked [] = 0
slot_asked (l ∷ ls) = slot_named l.arguments

abbrev at_matinee : Valuation ⊥
at_matinee p ts = eqb (slot_named ts) 2

pub no_evidence : W.NoEvidence
unfolding seen_evidence named slot_named
no_evidence e = e.impossible at_matinee (all-stated e.clauses, none_asked e.questions)
  where
    one_stated : {c : Clause} → c ≡ W.stated → (θ : Grounding) → clause_true at_matinee (ground_instance θ c) ≡ true
    one_stated same θ = rw same refl

    all-stated : (is : List (InstanceOf (W.stated ∷ []))) → InstancesTrue at_matinee is
    all-stated [] = tt
    all-stated (i ∷ is) = (one_stated (of_one i.among) i.by, all-stated is)

    none_asked : (θs : List Grounding) → QuestionsTrue at_matinee (W.asked (W.constant 3)).question θs
    none_asked [] = tt
    none_asked (θ ∷ θs) = (refl, none_asked θs)

pub silent_at_every_bound : W.SilentAtEveryBound
unfolding played
silent_at_every_bound zero = (0, 0, refl)
silent_at_every_bound (suc n) = let e = lt-ltb 0 (suc n) (omega arith) in (1, 1, rw e (rw e))

pub some_cover : W.SomeCover
unfolding seen_evidence named slot_named slot_asked
some_cover = (
  (λ x. app 0 nil, ((W.slot 2, first, refl), ((W.slot 3, later first, refl), tt))),
  λ c. let k = c.1.0 in
      let same : k.0 ≡ W.slot 2 = of_one k.1 in
      let wrong : ◌≡◌ {A = ℕ} 3 2 = ap slot_asked (k.2 ∙ ap (λ (θ : Grounding). ground_instance θ W.which) same) in absurd (omega arith),
)

pub truth_is_decided : W.TruthIsDecided
unfolding Each
truth_is_decided cs = go (possible? (λ (x y : ⊥). absurd x) (λ (c : List (Literal ⊥)). c) cs [])
  where
    go : Dec ((v : Valuation ⊥) × Each (λ c. clause_true v c ≡ true) cs × Unit {0}) → Dec ((v : Valuation ⊥) × Each (λ c. clause_true v c ≡ true) cs)
    go (yes p) = yes (p.0, p.1)
    go (no f) = no (λ p. f (p.0, p.1, tt))

pub some_are_true : W.SomeAreTrue
unfolding seen_evidence
some_are_true = (
  (λ p ts. true, λ i. bill-true (of_one i.among) i.by),
  λ v h. never (v 1 (app 1 nil then app 2 nil then nil)) (h (record { clause = W.stated; among = first; by = W.slot 1 })) (h (record { clause = _; among = later first; by = W.slot 1 })),
)
  where
    bill-true : {c : Clause} → c ≡ W.bill → (θ : Grounding) → clause_true (λ p ts. true) (ground_instance θ c) ≡ true
    bill-true same θ = rw same refl

    never : (a : Bool) → (a || false) ≡ true → (not a || false) ≡ true → ⊥
    never true e f = true≢false (sym f)
    never false e f = true≢false (sym e)
