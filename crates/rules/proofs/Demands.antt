-- The demands, proved: each statement of specs/Demands.antt by the theorems of the other modules.
use borrow.Author.Tests.{le-leb, lt-ltb}
use lib.ListN.{length}
use mathlib.Core.List.{List, [], ◌∷◌, map}
use mathlib.Core.Logic.{◌≢◌}
use mathlib.Core.Path.{◌≡◌, refl, sym, ◌∙◌, ap, ap₂}
use native.Mathlib.Decide.{dec_lt}
use native.Mathlib.Omega.{arith}
use Prim.Native.Nat.{ℕ, ◌≤◌, ◌<◌}
use Rattle.words.specs.Steps.{well_formed, encoded}
use Rattle.words.specs.declared.Step.{Step}
use Rattle.words.specs.declared.Step.TheVariants.{Reduction, Extension, Restart, Malformed}
use Rattle.words.proofs.Roundtrip.{decode_encoded}
use Rattle.table.specs.Limits.{Each, ClauseWithin}
use Rattle.table.specs.Syntax.{app, nil, literal_under, Clause, Table, all_clauses}
use Rattle.rules.specs.Machinery.Unify.{solution}
use Rattle.rules.specs.Setting.{every_leaf, restarting, read_step, read_steps, Setting, over, base}
use Rattle.rules.specs.Tableau.{start, Closed}
use Rattle.rules.specs.Order.{Ending, found, nothing, Searched}
use Rattle.rules.specs.Locality.{renumbered}
use Rattle.rules.specs.Growing.{moved}
use Rattle.rules.specs.Evidence.{Evidence, enough, turned}
use Rattle.rules.specs.Answer.{per_copy, disjuncts, disjuncts_in}
use Rattle.rules.specs.Verdict.{accepted, Checks, finds, finds_none, runs_out, ended}
use Rattle.rules.specs.Machinery.Play.{Play, Checking, passed, stopped, check, checked, search_for, answer_of, disjuncts_of}
use Rattle.rules.specs.Demands
use Rattle.rules.proofs.System.Clash.{clash}
use Rattle.rules.proofs.Lists.{All}
use Rattle.rules.proofs.FirstPlaces as FirstPlaces
use Rattle.rules.proofs.FirstPlaces.{firsts_at_first_places}
use Rattle.rules.proofs.Sameness.{disjuncts_told}
use Rattle.rules.proofs.Locality.{local_check, local_closed, same_disjuncts, same_words_lem}
use Rattle.rules.proofs.Growing.{raised_check, larger_copied}
use Rattle.rules.proofs.Lengths.{InRange}
use Rattle.rules.proofs.Candidates.{never_both_before}
use Rattle.rules.proofs.Checker.{checker_says, one_verdict, accepted_closed, closed_accepted, passed_sound}
use Rattle.rules.proofs.Search.{stated_start, stated_once, program_within, program_beyond, program_searches, one_search, stated_first, FirstClosed}
use Rattle.rules.proofs.Answer.{number_once, answer_once, disjuncts_general, different_disjuncts}
use Rattle.rules.proofs.Variables.{at_most_528}
use Rattle.rules.proofs.Reading.{answer_read, answer_reads}
use Rattle.rules.proofs.ClosedTableaux.{proof_length, step_numbers, answers_hold_as_numbered, larger_bound, larger_table, order_of_clauses}
use Rattle.rules.proofs.Play.{most_general}
use Rattle.rules.proofs.Evidence.{covers_under, covers_all, answered}
use Rattle.rules.proofs.Contradictions.{closed_evidence, closed_asks, asked_once}

-- the checker
pub checker_follows_the_rules : Demands.CheckerFollowsTheRules
checker_follows_the_rules S proof = checker_says S (read_steps S.profile proof)

pub one_check_verdict : Demands.OneCheckVerdict
one_check_verdict S steps c d = one_verdict S

-- what was passed was accepted, and a closed tableau is passed as that tableau
module _ (S : Setting) (steps : List Step) where
  pub passed_closed : (p : Play) → check S steps ≡ passed p → (c : Closed S steps) × (c.tableau ≡ p.tableau)
  unfolding checked
  passed_closed p e =
      let d : Checks S (start S.table) 0 steps (accepted p.tableau) = rw e at (checker_says S steps) in
      let a = accepted_closed S d in
      (record { tableau = p.tableau; made = a.0; no_leaf_open = a.1; unifiable = a.2 }, refl)

  pub closed_passed : (c : Closed S steps) → (p : Play) × (check S steps ≡ passed p) × (p.tableau ≡ c.tableau)
  unfolding checked
  closed_passed c = go (check S steps) refl (one_verdict S (checker_says S steps) (closed_accepted S c))
    where
      go : (k : Checking) → check S steps ≡ k → checked k ≡ accepted c.tableau → (p : Play) × (check S steps ≡ passed p) × (p.tableau ≡ c.tableau)
      go (passed p) e f = (p, e, cc)
      go (stopped r place) e f = clash (cc)

pub accepts_exactly_the_closed : Demands.AcceptsExactlyTheClosed
accepts_exactly_the_closed S proof = (
  λ a. (passed_closed S (read_steps S.profile proof) a.0 a.1).0,
  λ c. let p = closed_passed S (read_steps S.profile proof) c in (p.0, p.1),
)

-- the search
pub search_ends : Demands.SearchEnds
search_ends S = stated_start S

pub one_ending : Demands.OneEnding
one_ending S e d m n = stated_once S

pub search_follows_the_order : Demands.SearchFollowsTheOrder
search_follows_the_order S budget = program_searches S budget

pub one_search_verdict : Demands.OneSearchVerdict
one_search_verdict S budget v w = one_search S budget

ended_not_out : (e : Ending) (n budget : ℕ) → ended e n ≢ runs_out budget
ended_not_out (found steps) n budget f = clash (cc)
ended_not_out nothing n budget f = clash (cc)

pub runs_out_exactly : Demands.RunsOutExactly
runs_out_exactly S budget e tries d = (beyond (dec_lt budget tries), program_beyond S budget d)
  where
    beyond : Dec (budget < tries) → search_for S budget ≡ runs_out budget → budget < tries
    beyond (yes l) f = l
    beyond (no l) f = absurd (ended_not_out e tries budget (sym (program_within S budget d (omega arith)) ∙ f))

pub tries_are_those_made : Demands.TriesAreThoseMade
tries_are_those_made S budget e tries d l = program_within S budget d l

-- a run that did not run out: the ending, with the tries needed
module _ (S : Setting) (budget : ℕ) where
  record Ended : Type 0 where
    ending : Ending
    tries : ℕ
    searched : Searched S (start S.table) ending tries
    enough : tries ≤ budget
    says : search_for S budget ≡ ended ending tries

  not_out_ended : search_for S budget ≢ runs_out budget → Ended
  not_out_ended n = let s = stated_start S in go s.0 s.1 s.2 (dec_lt budget s.1)
    where
      go : (e : Ending) (m : ℕ) → Searched S (start S.table) e m → Dec (budget < m) → Ended
      go e m d (yes l) = absurd (n (program_beyond S budget d l))
      go e m d (no l) =
          let k : m ≤ budget = omega arith in
          record { ending = e; tries = m; searched = d; enough = k; says = program_within S budget d k }

  -- what is said is what the stated order ends with
  pub said : {e : Ending} {n : ℕ} → search_for S budget ≡ ended e n → Searched S (start S.table) e n
  said {e} {n} f =
      let k = not_out_ended (λ h. ended_not_out e n budget (sym f ∙ h)) in
      go k.ending e k.searched (sym k.says ∙ f)
    where
      go : (d e : Ending) {m : ℕ} → Searched S (start S.table) d m → ended d m ≡ ended e n → Searched S (start S.table) e n
      go (found ss) (found rs) {m} s h = let p : ss ≡ rs = cc in let q : m ≡ n = cc in rw (p, q) at s
      go (found ss) nothing s h = clash (cc)
      go nothing (found rs) s h = clash (cc)
      go nothing nothing {m} s h = let q : m ≡ n = cc in rw q at s

pub none_exactly : Demands.NoneExactly
none_exactly S budget n = (
  λ h. stated_first S nothing (said S budget {e = nothing} h.1),
  λ h. let k = not_out_ended S budget n in go h k.ending k.tries (stated_first S k.ending k.searched) k.says,
)
  where
    go : ((steps : List Step) → ¬ Closed S steps) → (e : Ending) (m : ℕ) → FirstClosed S e → search_for S budget ≡ ended e m
        → (tries : ℕ) × (search_for S budget ≡ finds_none tries)
    go h (found ss) m f g = absurd (h ss f.0)
    go h nothing m f g = (m, g)

pub found_is_first : Demands.FoundIsFirst
found_is_first S budget steps tries f = stated_first S (found steps) (said S budget {e = found steps} f)

pub one_first : Demands.OneFirst
one_first steps other = never_both_before

pub found_is_accepted : Demands.FoundIsAccepted
found_is_accepted S budget steps tries f =
    let p = closed_passed S steps (found_is_first S budget steps tries f).0 in
    (p.0, p.1)

-- the answer
pub accepted_has_answer : Demands.AcceptedHasAnswer
unfolding disjuncts_of answer_of
accepted_has_answer S steps p e =
    record {
      by = solution p.bindings;
      general = most_general p (passed_sound S steps p e);
      counted = refl;
      written = refl;
    }

pub one_answer : Demands.OneAnswer
one_answer t x c d ws vs a b = (
  a.counted ∙ number_once t x x.pairs a.by b.by a.general b.general ∙ sym b.counted,
  a.written ∙ answer_once t x x.pairs a.by b.by a.general b.general ∙ sym b.written,
)

pub answer_is_read : Demands.AnswerIsRead
answer_is_read S limits low steps c count words a = rw (a.counted, a.written) (answer_reads S limits low c a.by a.general)

pub answer_is_most_general : Demands.AnswerIsMostGeneral
answer_is_most_general S limits low steps c count words a τ s =
    rw (a.written, answer_read S limits low c a.by a.general)
    (disjuncts_general S.table c.tableau c.tableau.pairs a.by τ a.general s)

pub no_disjunct_twice : Demands.NoDisjunctTwice
no_disjunct_twice S limits low steps c count words a =
    rw (a.written, answer_read S limits low c a.by a.general) (different_disjuncts a.by S.table c.tableau)

pub disjuncts_at_first_places : Demands.DisjunctsAtFirstPlaces
unfolding disjuncts
disjuncts_at_first_places σ t x = firsts_at_first_places disjuncts_told (per_copy σ t x)

pub one_list_at_first_places : Demands.OneListAtFirstPlaces
one_list_at_first_places = FirstPlaces.one_list_at_first_places

-- the sizes
pub short_clauses : (cs : List Clause) → Each ClauseWithin cs → All (λ c. length c.literals ≤ 7) cs
unfolding Each All
short_clauses [] l = tt
short_clauses (c ∷ cs) l = (l.0.few, short_clauses cs l.1)

pub proof_is_short : Demands.ProofIsShort
proof_is_short S limits b steps c = proof_length S (short_clauses (all_clauses S.table) limits.clauses) b c

in_range_words : (S : Setting) → length (all_clauses S.table) ≤ 512 → S.bound ≤ 32 → (s : Step) → InRange S s → read_step S.profile (encoded s) ≡ s
unfolding well_formed
in_range_words S few b (Reduction h) r =
    decode_encoded (restarting S.profile) (Reduction h) ∙ rw (le-leb 1 h r.0, le-leb h 63 (omega arith))
in_range_words S few b (Extension i j) r =
    decode_encoded (restarting S.profile) (Extension i j) ∙ rw (lt-ltb i 512 (omega arith), lt-ltb j 8 (omega arith))
in_range_words S few b Restart r = decode_encoded (restarting S.profile) Restart ∙ rw r
in_range_words S few b Malformed r = absurd r

all_words : (S : Setting) → length (all_clauses S.table) ≤ 512 → S.bound ≤ 32 → (ss : List Step) → All (InRange S) ss → read_steps S.profile (map encoded ss) ≡ ss
unfolding All
all_words S few b [] a = refl
all_words S few b (s ∷ ss) a = ap₂ ◌∷◌ (in_range_words S few b s a.0) (all_words S few b ss a.1)

pub proof_has_words : Demands.ProofHasWords
proof_has_words S limits b steps c =
    all_words S limits.few b steps (step_numbers S (short_clauses (all_clauses S.table) limits.clauses) c)

pub answer_has_few_variables : Demands.AnswerHasFewVariables
answer_has_few_variables S limits b steps c σ g = at_most_528 S limits b c σ g

-- the answer holds
pub answers_hold : Demands.AnswersHold
unfolding disjuncts_of answer_of passed_closed
answers_hold I S limits low negative hold steps p e =
    let c = (passed_closed S steps p e).0 in
    let σ = solution p.bindings in
    let g = most_general p (passed_sound S steps p e) in
    record {
      read = answer_reads S limits low c σ g;
      holds = rw (answer_read S limits low c σ g) (answers_hold_as_numbered I S negative hold c σ g.solves);
    }

-- a larger budget, table or bound
pub larger_budget : Demands.LargerBudget
larger_budget S budget larger n l =
    let k = not_out_ended S budget n in
    let b = k.enough in
    program_within S larger k.searched (omega arith) ∙ sym k.says

pub never_none_again : Demands.NeverNoneAgain
never_none_again rules t u larger bound higher l budget other tries more steps f h =
    let c = (found_is_first (over rules t bound) budget steps tries f).0 in
    let d = (larger_bound l (larger_table larger c).0).0 in
    stated_first (over rules u higher) nothing (said (over rules u higher) other {e = nothing} h) (map (moved larger) steps) d

pub accepted_again : Demands.AcceptedAgain
unfolding answer_of disjuncts_of moved
accepted_again rules t u larger bound higher l steps p e =
    let same = larger_copied larger steps in (
      p,
      raised_check rules u l (map (moved larger) steps) (local_check same rules bound ∙ e),
      ap length (same_disjuncts (solution p.bindings) t u p.tableau larger.question),
      same_words_lem (solution p.bindings) t u p.tableau larger.question,
    )

pub order_does_not_matter : Demands.OrderDoesNotMatter
order_does_not_matter rules t u same bound = order_of_clauses rules same bound

pub larger_has_the_copied : Demands.LargerHasTheCopied
larger_has_the_copied t u larger steps = larger_copied larger steps

-- other clauses
pub only_copied_clauses_matter : Demands.OnlyCopiedClausesMatter
unfolding answer_of
only_copied_clauses_matter rules t u number bound steps same = (
  local_check same rules bound,
  (λ c. local_closed same c, back),
  λ p. same_words_lem (solution p.bindings) t u p.tableau same.question,
)
  where
    back : Closed (over rules u bound) (map (renumbered number) steps) → Closed (over rules t bound) steps
    back c =
        let p = closed_passed (over rules u bound) (map (renumbered number) steps) c in
        (passed_closed (over rules t bound) steps p.0 (sym (local_check same rules bound) ∙ p.1)).0

-- completeness
pub answer_completeness : Demands.AnswerCompleteness
answer_completeness t e = answered t e

pub answer_words_cover : Demands.AnswerWordsCover
answer_words_cover t e a limits negative low count words w =
    let c = a.closed in
    let ρ = answer_is_most_general (base t a.bound) limits low a.steps c count words w w.by w.general.solves in
    covers_under t.question e.questions ρ.0 (disjuncts_in t.question words)
    (covers_all t.question e.questions _ (rw ρ.1 at (a.covers negative w.by w.general)))

pub never_none_with_evidence : Demands.NeverNoneWithEvidence
never_none_with_evidence t e a higher h budget tries f =
    stated_first (base t higher) nothing (said (base t higher) budget {e = nothing} f) a.steps (larger_bound h a.closed).0

-- where no tableau is closed within a bound, the bound is not enough for any evidence
pub not_enough : (t : Table) (bound : ℕ) → ((steps : List Step) → ¬ Closed (base t bound) steps) → (e : Evidence t) → bound < enough e
not_enough t bound f e = go (dec_lt bound (enough e))
  where
    go : Dec (bound < enough e) → bound < enough e
    go (yes l) = l
    go (no l) =
        let a = answered t e in
        let low = a.low in
        absurd (f a.steps (larger_bound {rules = every_leaf} {larger = bound} (omega arith) a.closed).0)

pub found_with_evidence : Demands.FoundWithEvidence
found_with_evidence t e bound h = let s = search_ends (base t bound) in go s.0 s.1 s.2
  where
    go : (x : Ending) (tries : ℕ) → Searched (base t bound) (start t) x tries
        → (steps : List Step) × (tries : ℕ) × ((budget : ℕ) → tries ≤ budget → search_for (base t bound) budget ≡ finds steps tries)
    go (found steps) tries d = (steps, tries, λ budget l. program_within (base t bound) budget d l)
    go nothing tries d = let l = not_enough t bound (stated_first (base t bound) nothing d) e in absurd (omega arith)

pub none_means : Demands.NoneMeans
none_means t bound budget tries f = not_enough t bound (stated_first (base t bound) nothing (said (base t bound) budget {e = nothing} f))

pub none_at_every_bound : Demands.NoneAtEveryBound
none_at_every_bound t h e =
    let a = answered t e in
    let n = h a.bound in
    never_none_with_evidence t e a a.bound (omega arith) n.0 n.1 n.2

pub evidence_exactly : Demands.EvidenceExactly
evidence_exactly t v h = (
  λ e. let a = answered t e in (a.bound, a.steps, a.closed),
  λ c. let u = c.2.unifiable in closed_evidence c.2 u.by u.solves (λ x. app 0 nil) v h,
)

pub answer_is_evidence : Demands.AnswerIsEvidence
unfolding disjuncts
answer_is_evidence t v h negative bound steps c σ solves ρ =
    asked_once t (closed_evidence c σ solves ρ v h) (λ d. map turned (map (literal_under ρ) d)) (per_copy σ t c.tableau) (closed_asks c σ solves ρ v h negative)
