-- The search as a program and the search in the stated order are the same; what it finds is the first closed tableau.
use lib.ListN.{length, get_elem?, length-append, length-map}
use mathlib.Core.Bool.{Bool, true, false, cond}
use mathlib.Core.List.{List, [], ◌∷◌, ◌++◌, Memᴰ}
use mathlib.Core.Logic.{◌⊎◌, ⊎_map}
use mathlib.Core.Option.{none, some}
use mathlib.Core.Path.{◌≡◌, refl, sym, ◌∙◌, ap, ap₂, subst, subst₂}
use native.Mathlib.Decide.{dec_le}
use native.Mathlib.Nat.{mul-suc, mul-le-mul}
use native.Mathlib.Omega.{arith}
use Prim.Native.Nat.{ℕ, zero, suc, ◌+◌, ◌*◌, ◌-◌, max, ◌≤◌, ◌<◌}
use Rattle.words.specs.declared.Step.{Step}
use Rattle.table.specs.Syntax.{Literal, Clause, all_clauses}
use Rattle.table.specs.Limits.{Each, ClauseWithin, Within}
use Rattle.rules.specs.Substitution.{Variable, Unifiable}
use Rattle.rules.specs.Setting.{restarting, most_opened, longest_proof, Setting}
use Rattle.rules.specs.Tableau.{Leaf, Tableau, start, copy_of, hang, others, stepped, Made, as_it_stands, by_step, Closed}
use Rattle.rules.specs.Order as Stated
use Rattle.rules.specs.Order.{Ending, found, nothing, all_closed, stated, Precedes, candidates}
use Rattle.rules.specs.Machinery.Play.{Play, begin, Performed, goes_on, not_possible, clashes, circular, perform, afterwards, plays, most_added, most_more, steps_left, reported, search_for}
use Rattle.rules.specs.Verdict as Verdict
use Rattle.rules.specs.Verdict.{SearchVerdict, ended, Searches}
use Rattle.rules.specs.Machinery.Run.{system, verdict, search}
use Rattle.rules.specs.System.{◌∈◌, first, later, Searched, Tried, arrived, looked, none_left, failed, finds, in_vain_is}
use Rattle.rules.proofs.System.Ways.{Way, here, step, Before, differs, agrees, Earlier, heads, behind, Determined, Bounded}
use Rattle.rules.proofs.System.{decides, one_answer, an_answer, none_no_way, found_way, found_first, run_within, run_beyond, any_depth}
use Rattle.rules.proofs.System.Clash.{clash}
use Rattle.rules.proofs.System.Induction.{Claim, claimed}
use Rattle.rules.proofs.Lists.{none_some, length_others}
use Rattle.rules.proofs.Steps.{Does, reduces, extends, restarts, does, restarts_some}
use Rattle.rules.proofs.Every.{some_same, Ordered, done, ◌ahead◌, all_member}
use Rattle.rules.proofs.Candidates.{candidate_steps, steps_candidate, candidates_ordered, no_leaf_no_step}
use Rattle.rules.proofs.Comparison.{newest_not_unifiable}
use Rattle.rules.proofs.Play.{Sound, sound_begin, unifiable, Told, told}
use Rattle.rules.proofs.Checker.{earlier_solved}
use Rattle.rules.proofs.Variables.{question_within}

to_member : {A : Type 0} {a : A} {xs : List A} → a ∈ xs → Memᴰ a xs
to_member first = Memᴰ.head refl
to_member (later i) = Memᴰ.tail (to_member i)

from_member : {A : Type 0} {a : A} {xs : List A} → Memᴰ a xs → a ∈ xs
from_member (Memᴰ.head e) = rw e first
from_member (Memᴰ.tail i) = later (from_member i)

all_closed_lem : (leaves : List Leaf) → all_closed leaves ≡ true → leaves ≡ []
unfolding all_closed
all_closed_lem [] e = refl
all_closed_lem (leaf ∷ rest) e = clash (cc)

module _ (S : Setting) where
  -- a move that leads on, and one that fails
  next_known : (p : Play) (s : Step) {q : Play} (o : Performed) → Told S p s o → afterwards o ≡ some q → (stepped S p.tableau s ≡ some q.tableau) × Sound q
  unfolding afterwards
  next_known p s {q} (goes_on r) h e = let f : r ≡ q = cc in rw f at h
  next_known p s not_possible h e = absurd (none_some e)
  next_known p s clashes h e = absurd (none_some e)
  next_known p s circular h e = absurd (none_some e)

  pub next_made : (p : Play) (s : Step) {q : Play} → Sound p → afterwards (perform S p s) ≡ some q → (stepped S p.tableau s ≡ some q.tableau) × Sound q
  next_made p s h e = next_known p s (perform S p s) (told S p s h) e

  none-known : (p : Play) (s : Step) (o : Performed) → Told S p s o → {y : Tableau} → stepped S p.tableau s ≡ some y → afterwards o ≡ none → ¬ Unifiable y.pairs
  unfolding afterwards
  none-known p s (goes_on r) h f e u = clash (cc)
  none-known p s not_possible h f e u = clash (cc)
  none-known p s clashes h {y} f e u = let k : y ≡ h.0 = cc h.1 in newest_not_unifiable h.2 (rw k at u)
  none-known p s circular h {y} f e u = let k : y ≡ h.0 = cc h.1 in newest_not_unifiable h.2 (rw k at u)

  -- where the rules allow a step, what it comes to depends on its pairs alone
  tried-known : (p : Play) (s : Step) {y : Tableau} → Sound p → stepped S p.tableau s ≡ some y → afterwards (perform S p s) ≡ none
      → (stated S).fails p.tableau s
  tried-known p s {y} h f e = (y, f, none-known p s (perform S p s) (told S p s h) f e)

  -- a search of plays is a search in the stated order
  as-stated : Claim (system (plays S))
  as-stated =
      record {
        Of = λ p o n. Sound p → Stated.Searched S p.tableau o n;
        OfRow = λ p ms o n. Sound p → ((m : Step) → Memᴰ m ms → Memᴰ m (candidates S p.tableau)) → Tried (stated S) p.tableau ms o n;
        if_arrived = λ e h. arrived e;
        if_looked = λ e r h. looked e (r h (λ m i. i));
        if_none_left = λ h i. none_left;
        if_fails = λ {s = p} {m} e r h i.
            let c = candidate_steps S p.tableau (i m (Memᴰ.head refl)) in
            failed (tried-known p m h c.1 e) (r h (λ k j. i k (Memᴰ.tail j)));
        if_finds = λ {s = p} {t = q} {m} e d h i. let c = next_made p m h e in finds (c.0, unifiable q c.1) (d c.1);
        if_in_vain = λ {s = p} {t = q} {m} e d r h i.
            let c = next_made p m h e in
            in_vain_is (c.0, unifiable q c.1) (d c.1) (r h (λ k j. i k (Memᴰ.tail j)));
      }

  pub searched_stated : {p : Play} {o : Ending} {n : ℕ} → Sound p → Searched (system (plays S)) p o n → Stated.Searched S p.tableau o n
  unfolding as-stated
  searched_stated h d = claimed (system (plays S)) as-stated d h

  -- a step leads to one tableau alone
  pub stated_determined : Determined (stated S)
  stated_determined =
      record {
        one_next = λ f g. some_same (sym g.0 ∙ f.0);
        not_both = λ f g. g.2 (subst (λ (y : Tableau). Unifiable y.pairs) (some_same (sym f.0 ∙ g.1)) f.1);
      }

  -- a way of tableaux is a list of steps that leaves no leaf open and whose pairs are unifiable
  pub record Closes (x : Tableau) (ss : List Step) : Type 0 where
    pub end : Tableau
    pub made : Made S x ss end
    pub no_leaf_open : end.leaves ≡ []
    pub unifiable : Unifiable end.pairs

  way_closes : {x : Tableau} {ss : List Step} → Unifiable x.pairs → Way (stated S) x ss → Closes x ss
  way_closes {x} u (here e) = record { end = x; made = as_it_stands; no_leaf_open = all_closed_lem x.leaves e; unifiable = u }
  way_closes u (step e i f w) =
      let c = way_closes f.1 w in
      record { end = c.end; made = by_step f.0 c.made; no_leaf_open = c.no_leaf_open; unifiable = c.unifiable }

  no_leaf_done : (leaves : List Leaf) → leaves ≡ [] → all_closed leaves ≡ true
  unfolding all_closed
  no_leaf_done leaves e = rw e

  not_done : (x : Tableau) (s : Step) {y : Tableau} → stepped S x s ≡ some y → all_closed x.leaves ≡ false
  not_done x s k = go (all_closed x.leaves) refl
    where
      go : (b : Bool) → all_closed x.leaves ≡ b → b ≡ false
      go true e = absurd (no_leaf_no_step S x s (all_closed_lem x.leaves e) k)
      go false e = refl

  made_way : {x z : Tableau} {ss : List Step} → Made S x ss z → z.leaves ≡ [] → Unifiable z.pairs → Way (stated S) x ss
  made_way {x} as_it_stands e u = here (no_leaf_done x.leaves e)
  made_way {x} (by_step {y = y} {s = s} g m) e u =
      let v : Unifiable y.pairs = record { by = u.by; solves = earlier_solved S u.by m u.solves } in
      step (not_done x s g) (from_member (steps_candidate S x s g)) (g, v) (made_way m e u)

  -- the order of the ways is the stated order
  earlier_precedes : {m n : Step} {ss : List Step} → Ordered Precedes ss → Earlier m n ss → Precedes m n
  earlier_precedes done x = elim x [ ]
  earlier_precedes (a ahead o) (heads i) = all_member a (to_member i)
  earlier_precedes (a ahead o) (behind e) = earlier_precedes o e

  before_stated : {x : Tableau} {ss rs : List Step} → Before (stated S) x ss rs → Stated.Before ss rs
  before_stated {x} (differs e) = Stated.at_once (earlier_precedes (candidates_ordered S x) e)
  before_stated (agrees f b) = Stated.later (before_stated b)

-- every step leaves fewer steps to take
added_most : (cs : List Clause) (i : ℕ) {c : Clause} → get_elem? cs i ≡ some c → length c.literals ≤ suc (most_added cs)
unfolding most_added
added_most [] i e = absurd (none_some e)
added_most (d ∷ cs) zero {c} e = let f : d ≡ c = some_same e in let g : length d.literals ≡ length c.literals = ap (λ (b : Clause). length b.literals) f in omega arith
added_most (d ∷ cs) (suc i) e = let h = added_most cs i e in omega arith

others_length : (ls : List (Literal Variable)) (j : ℕ) {m : Literal Variable} → get_elem? ls j ≡ some m → suc (length (others j ls)) ≡ length ls
unfolding others
others_length ls j e = length_others ls j e

hung_length : (branch ls : List (Literal Variable)) → length (hang branch ls) ≡ length ls
unfolding hang
hung_length branch ls = length-map ls _

copy_length : (n : ℕ) (c : Clause) → length (copy_of n c) ≡ length c.literals
unfolding copy_of
copy_length n c = length-map c.literals _

module _ (S : Setting) where
  added_more : most_added (all_clauses S.table) ≤ most_more S
  unfolding most_more
  added_more = go (restarting S.profile)
    where
      go : (b : Bool) → most_added (all_clauses S.table) ≤ cond b (max (length S.table.question.literals) (most_added (all_clauses S.table))) (most_added (all_clauses S.table))
      go true = omega arith
      go false = omega arith

  question-more : restarting S.profile ≡ true → length S.table.question.literals ≤ most_more S
  unfolding most_more
  question-more e = rw e (omega arith)

  -- a copy that hangs with so few open literals leaves fewer steps
  less-left : (x : Tableau) (leaf : Leaf) (rest : List Leaf) (branch opened : List (Literal Variable)) → x.leaves ≡ leaf ∷ rest → x.extensions < S.bound
      → length opened ≤ most_more S
      → length (hang branch opened ++ rest) + most_more S * (S.bound - suc x.extensions) < length x.leaves + most_more S * (S.bound - x.extensions)
  less-left x leaf rest branch opened l u few =
      let spent : S.bound - x.extensions ≡ suc (S.bound - suc x.extensions) = omega arith in
      let split : most_more S * (S.bound - x.extensions) ≡ most_more S * (S.bound - suc x.extensions) + most_more S =
      rw spent (mul-suc (most_more S) (S.bound - suc x.extensions)) in
      let hung : length (hang branch opened ++ rest) ≡ length opened + length rest =
      length-append (hang branch opened) rest ∙ ap (λ (n : ℕ). n + length rest) (hung_length branch opened) in
      let older : length x.leaves ≡ suc (length rest) = ap length l in
      omega arith

does_left : {S : Setting} {x y : Tableau} {s : Step} → Does S x s y → steps_left S y < steps_left S x
unfolding steps_left
does_left (reduces l a f e) = rw (← e, l) (omega arith)
does_left {S} {x} (extends {leaf = leaf} {rest = rest} {clause = clause} {i = i} {j = j} l u k a f e) =
    let copy = copy_of (suc x.extensions) clause in
    let within : length clause.literals ≤ suc (most_added (all_clauses S.table)) = added_most (all_clauses S.table) i k in
    let copied : length copy ≡ length clause.literals = copy_length (suc x.extensions) clause in
    let added : suc (length (others j copy)) ≡ length copy = others_length copy j a in
    rw (← e) (less-left S x leaf rest (leaf.literal ∷ leaf.branch) (others j copy) l u.1 (omega (arith, within, copied, added, added_more S)))
does_left {S} {x} (restarts {leaf = leaf} {rest = rest} l u e) =
    let copy = copy_of (suc x.extensions) S.table.question in
    let copied : length copy ≡ length S.table.question.literals = copy_length (suc x.extensions) S.table.question in
    let most = question-more S (restarts_some S.profile leaf.literal.negative u.0) in
    rw (← e) (less-left S x leaf rest (leaf.literal ∷ leaf.branch) copy l u.1 (omega (arith, copied, most)))

pub fewer_left :
    (S : Setting) (x : Tableau) (s : Step) {y : Tableau} → stepped S x s ≡ some y → steps_left S y < steps_left S x
fewer_left S x s e = does_left (does s e)

-- so the plays are a bounded system
unfoldable pub bounded : (S : Setting) → Bounded (system (plays S))
bounded S =
    record {
      Good = Sound;
      size = λ p. steps_left S p.tableau;
      decides = λ {s = p} h m. decides (plays S) p m;
      kept = λ {s = p} {t = q} {m} h d i e. (next_made S p m h e).1;
      falls = λ {s = p} {t = q} {m} h d i e. fewer_left S p.tableau m (next_made S p m h e).0;
    }

-- what the program says
module _ (S : Setting) where
  -- the play's answer from the start
  played : (e : Ending) × (n : ℕ) × Searched (system (plays S)) (begin S.table) e n
  unfolding bounded
  played = an_answer (system (plays S)) (bounded S) (sound_begin S.table)

  pub stated_start : (e : Ending) × (n : ℕ) × Stated.Searched S (start S.table) e n
  unfolding begin
  stated_start = (played.0, played.1, searched_stated S (sound_begin S.table) played.2)

  pub stated_once :
      {e d : Ending} {n m : ℕ} → Stated.Searched S (start S.table) e n → Stated.Searched S (start S.table) d m → (e ≡ d) × (n ≡ m)
  stated_once p q = one_answer (stated S) (stated_determined S) p q

  -- so a search in the stated order is a search of plays
  stated-played : {e : Ending} {n : ℕ} → Stated.Searched S (start S.table) e n → Searched (system (plays S)) (begin S.table) e n
  unfolding stated_start
  stated-played d =
      let same = stated_once stated_start.2 d in
      subst₂ (λ (e : Ending) (n : ℕ). Searched (system (plays S)) (begin S.table) e n) same.0 same.1 played.2

  reported-within : (budget n : ℕ) (o : Ending) → n ≤ budget → reported budget (verdict o (budget - n)) ≡ ended o n
  unfolding reported
  reported-within budget n (found p) l = let h : budget - (budget - n) ≡ n = omega arith in ap (Verdict.finds p) h
  reported-within budget n nothing l = let h : budget - (budget - n) ≡ n = omega arith in ap Verdict.finds_none h

  deep : steps_left S (start S.table) < suc (steps_left S (start S.table))
  deep = omega arith

  pub program_within : (budget : ℕ) {e : Ending} {n : ℕ} → Stated.Searched S (start S.table) e n → n ≤ budget → search_for S budget ≡ ended e n
  unfolding begin search_for bounded
  program_within budget {e} {n} d l =
      ap (reported budget) (run_within (plays S) (bounded S) (sound_begin S.table) deep (stated-played d) budget l) ∙ reported-within budget n e l

  pub program_beyond : (budget : ℕ) {e : Ending} {n : ℕ} → Stated.Searched S (start S.table) e n → budget < n → search_for S budget ≡ Verdict.runs_out budget
  unfolding begin search_for reported bounded
  program_beyond budget d l = ap (reported budget) (run_beyond (plays S) (bounded S) (sound_begin S.table) deep (stated-played d) budget l)

  -- the depth that the program goes to makes no difference, if it is over the steps left
  pub any_depth_says :
      (depth budget : ℕ) → steps_left S (start S.table) < depth
      → search_for S budget ≡ reported budget (search (plays S) depth budget (begin S.table))
  unfolding begin search_for bounded
  any_depth_says depth budget l =
      ap (reported budget) (any_depth (plays S) (bounded S) (sound_begin S.table) deep depth l budget)

  pub program_searches : (budget : ℕ) → Searches S budget (search_for S budget)
  program_searches budget = let d = stated_start in go d.0 d.1 d.2 (dec_le d.1 budget)
    where
      go : (e : Ending) (n : ℕ) → Stated.Searched S (start S.table) e n → Dec (n ≤ budget) → Searches S budget (search_for S budget)
      go e n d (yes l) = rw (program_within budget d l) (Verdict.within d l)
      go e n d (no l) = let k : budget < n = omega arith in rw (program_beyond budget d k) (Verdict.beyond d k)

  pub one_search : (budget : ℕ) {v w : SearchVerdict} → Searches S budget v → Searches S budget w → v ≡ w
  one_search budget (Verdict.within d l) (Verdict.within c k) = let h = stated_once d c in ap₂ ended h.0 h.1
  one_search budget (Verdict.within d l) (Verdict.beyond c k) = let h = (stated_once d c).1 in clash (omega arith)
  one_search budget (Verdict.beyond d l) (Verdict.within c k) = let h = (stated_once d c).1 in clash (omega arith)
  one_search budget (Verdict.beyond d l) (Verdict.beyond c k) = refl

  -- none, and the first
  closed-way : {ss : List Step} → Closed S ss → Way (stated S) (start S.table) ss
  closed-way c = made_way S c.made c.no_leaf_open c.unifiable

  way-closed : {ss : List Step} → Way (stated S) (start S.table) ss → Closed S ss
  unfolding begin
  way-closed w =
      let c = way_closes S (unifiable (begin S.table) (sound_begin S.table)) w in
      record { tableau = c.end; made = c.made; no_leaf_open = c.no_leaf_open; unifiable = c.unifiable }

  abbrev pub FirstClosed : Ending → Type 0
  FirstClosed nothing = (ss : List Step) → ¬ Closed S ss
  FirstClosed (found ss) = Closed S ss × ((other : List Step) → Closed S other → (other ≡ ss) ⊎ Stated.Before ss other)

  pub stated_first : (e : Ending) {n : ℕ} → Stated.Searched S (start S.table) e n → FirstClosed e
  stated_first nothing d = λ ss c. none_no_way (stated S) (stated_determined S) d ss (closed-way c)
  stated_first (found ss) d = (
    way-closed (found_way (stated S) (stated_determined S) d),
    λ other c. ⊎_map (λ e. e) (before_stated S) (found_first (stated S) (stated_determined S) d (closed-way c)),
  )

-- within document 01's limits no more steps are left at the start than the longest proof has
added_few : (cs : List Clause) → Each ClauseWithin cs → most_added cs ≤ 6
unfolding most_added Each
added_few [] w = omega arith
added_few (c ∷ cs) w = let h = added_few cs w.1 in let k = w.0.few in omega arith

more_few : (S : Setting) → Within S.table → most_more S ≤ most_opened S.profile
unfolding most_more
more_few S w = go (restarting S.profile)
  where
    go : (b : Bool) → cond b (max (length S.table.question.literals) (most_added (all_clauses S.table))) (most_added (all_clauses S.table)) ≤ cond b 7 6
    go true = omega (arith, (question_within S.table w).few, added_few (all_clauses S.table) w.clauses)
    go false = added_few (all_clauses S.table) w.clauses

pub steps_left_few : (S : Setting) → Within S.table → S.bound ≤ 32 → steps_left S (start S.table) ≤ longest_proof S.profile
unfolding steps_left start
steps_left_few S w b =
    let q : length S.table.question.literals ≤ 7 = (question_within S.table w).few in
    let h = hung_length [] (copy_of 0 S.table.question) in
    let c = copy_length 0 S.table.question in
    let k : S.bound - 0 ≤ 32 = omega arith in
    let m : most_more S * (S.bound - 0) ≤ most_opened S.profile * 32 = mul-le-mul (more_few S w) k in
    omega arith
