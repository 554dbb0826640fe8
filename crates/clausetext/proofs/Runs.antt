-- A whole text read from a state: fine where it may follow, wrong at the first byte after which nothing may.
use Rattle.std.specs.Prelude.{Option, Some, None, Err}
use mathlib.Core.Path.{◌≡◌, refl, sym, ◌∙◌}
use mathlib.Core.Bool.{Bool, true, false, cond, ◌&&◌, ◌||◌}
use mathlib.Core.List.{List, [], ◌∷◌, ◌++◌}
use Prim.Native.Nat.{ℕ, zero, suc, ◌+◌, ◌≤◌, ◌<◌}
use native.Mathlib.Omega.{arith}
use lib.Dec.{eqb, ltb}
use lib.ListN.{length, take, drop}
use Rattle.clausetext.specs.declared.judge.Want.{Want}
use Rattle.clausetext.specs.declared.judge.Want.TheVariants.{Clause as NextClause, Opening, Name, AfterName, Role as NextRole, AfterRole, Formula as NextFormula, Literal as NextLiteral, Atom, Symbol, Term as NextTerm, Ended, Closing, Stop}
use Rattle.clausetext.specs.declared.judge.Mode.{Mode}
use Rattle.clausetext.specs.declared.judge.Mode.TheVariants.{Between, Comment, Word as InWord, Owed}
use Rattle.clausetext.specs.declared.judge.State.{State}
use Rattle.clausetext.specs.Kinds.{kind_of, sign_kind, letter_kind, goes_on}
use Rattle.clausetext.specs.Syntax.{Role}
use Rattle.clausetext.specs.Tokens.{word_ahead, Word, ends, goes, nothing, stops}
use Rattle.clausetext.specs.Texts.{counts, Verdict, all_bytes}
use Rattle.clausetext.specs.Judging.{words, owed_at, row, signed, on_sign, on_ended, on_role, on_lower, on_upper, on_kind, on_byte, step_of, settled, may_end, finished, onward, run}
use Rattle.clausetext.proofs.Following.{rest_over, nothing_left}
use Rattle.clausetext.proofs.Steps.{up_to_dot, owed_from, owed_is, owed_none, Along, between, remark, in_word, owing, tallied, asked, From, state, Goes, step_goes, Before, step_before}
use Rattle.clausetext.proofs.Apart.{false_not_true}

-- the text may end exactly in a state in which nothing is owed
clause_ends : (m : Mode) (v : Want) → v ≡ NextClause → settled m ≡ true → may_end v m ≡ true
unfolding may_end
clause_ends m v e s = rw e s

along_over : {v : Want} {rs : List Role} (m : Mode) → Along v m [] rs → (may_end v m ≡ true) × (rs ≡ [])
unfolding settled
along_over {v = v} Between (between r nothing) = let f = rest_over r in (clause_ends Between v f.0 refl, f.1)
along_over {v = v} Comment (remark r stops) = let f = rest_over r in (clause_ends Comment v f.0 refl, f.1)
along_over {v = v} InWord (in_word (ends a) r nothing) = let f = rest_over r in (clause_ends InWord v f.0 refl, f.1)
along_over {v = v} (Owed i) (owing g (ends a) r nothing) =
    let f = rest_over r in
    (clause_ends (Owed i) v f.0 (owed_none (eqb (owed_at i) 46) (owed_at i) (owed_from (i + 1)) (g ∙ owed_is i)), f.1)

end_goes : (s : State) (at : ℕ) (total : Verdict) → From s [] total → finished s at ≡ total
unfolding finished tallied
end_goes s at total f =
    let a = along_over s.mode f.along in
    let e = rw a.1 at f.tally in
    rw a.0 e

owed_over : (i : ℕ) → eqb (owed_at i) 46 ≡ true → [] ≡ owed_from i
owed_over i e = rw (owed_is i, e)

clause_over : (m : Mode) → settled m ≡ true → Along NextClause m [] []
unfolding settled word_ahead
clause_over Between e = between nothing_left nothing
clause_over Comment e = remark nothing_left stops
clause_over InWord e = in_word (ends refl) nothing_left nothing
clause_over (Owed i) e = owing (owed_over i e) (ends refl) nothing_left nothing

over_along : (v : Want) (m : Mode) → may_end v m ≡ true → Along v m [] []
unfolding may_end
over_along NextClause m e = clause_over m e
over_along Opening m e = false_not_true e
over_along Name m e = false_not_true e
over_along AfterName m e = false_not_true e
over_along NextRole m e = false_not_true e
over_along AfterRole m e = false_not_true e
over_along NextFormula m e = false_not_true e
over_along (NextLiteral p) m e = false_not_true e
over_along (Atom p) m e = false_not_true e
over_along (Symbol d p) m e = false_not_true e
over_along (NextTerm d p) m e = false_not_true e
over_along (Ended d p) m e = false_not_true e
over_along Closing m e = false_not_true e
over_along Stop m e = false_not_true e

end_fine : (s : State) (b : Bool) (at : ℕ) (total : Verdict) → may_end s.want s.mode ≡ b → cond b (counts s.clauses s.questions) (Err at) ≡ total → (p : (at : ℕ) → total ≡ Err at → ⊥) → From s [] total
unfolding tallied
end_fine s true at total e t p = record { roles = []; along = over_along s.want s.mode e; tally = t }
end_fine s false at total e t p = absurd (p at (sym t))

-- read to the end
onward_goes : (text : List ℕ) (total : Verdict) (at : ℕ) (next : State → Verdict) → ((s : State) → From s text total → next s ≡ total) → (t : Option State) → Goes text total t → onward t at next ≡ total
onward_goes text total at next h (Some s) f = h s f
onward_goes text total at next h None f = absurd f

pub run_goes : (text : List ℕ) (s : State) (at : ℕ) (total : Verdict) → From s text total → run s at text ≡ total
unfolding run
run_goes [] s at total f = end_goes s at total f
run_goes (c ∷ text) s at total f =
    onward_goes text total at (λ t. run t (at + 1) text) (λ t. run_goes text t (at + 1) total) (step_of s c) (step_goes s c text total f)

onward_fine : (s : State) (c : ℕ) (text : List ℕ) (at n q : ℕ) (next : State → Verdict) → ((t : State) → next t ≡ counts n q → From t text (counts n q)) → (t : Option State) → Before s c t → onward t at next ≡ counts n q → From s (c ∷ text) (counts n q)
onward_fine s c text at n q next h (Some t) b e = b text (counts n q) (h t e)
onward_fine s c text at n q next h None b e = let z : ◌≡◌ {A = ℕ} 0 1 = cc in absurd (omega arith)

fine_not_wrong : (n q at : ℕ) → counts n q ≡ Err at → ⊥
fine_not_wrong n q at e = let z : ◌≡◌ {A = ℕ} 0 1 = cc in omega arith

pub run_fine : (text : List ℕ) (s : State) (at n q : ℕ) → run s at text ≡ counts n q → From s text (counts n q)
unfolding run finished
run_fine [] s at n q e = end_fine s (may_end s.want s.mode) at (counts n q) refl e (fine_not_wrong n q)
run_fine (c ∷ text) s at n q e =
    onward_fine s c text at n q (λ t. run t (at + 1) text) (λ t. run_fine text t (at + 1) n q) (step_of s c) (step_before s c) e

-- every state can go on to the end of a text
pub record Live (s : State) : Type 0 where
  pub further : List ℕ
  pub bytes : all_bytes further ≡ true
  pub total : Verdict
  pub from : From s further total

first_true : (a b : Bool) → (a && b) ≡ true → a ≡ true
first_true true b e = refl
first_true false b e = e

second_true : (a b : Bool) → (a && b) ≡ true → b ≡ true
second_true true b e = e
second_true false b e = false_not_true e

both_true : (a b : Bool) → a ≡ true → b ≡ true → (a && b) ≡ true
both_true true b e f = f
both_true false b e f = e

more_bytes : (c : ℕ) (text : List ℕ) → ltb c 256 ≡ true → all_bytes text ≡ true → all_bytes (c ∷ text) ≡ true
unfolding all_bytes
more_bytes c text = both_true (ltb c 256) (all_bytes text)

live_by : (s : State) (c : ℕ) (t : State) → ltb c 256 ≡ true → step_of s c ≡ Some t → Live t → Live s
live_by s c t b e l =
    record {
      further = c ∷ l.further;
      bytes = more_bytes c l.further b l.bytes;
      total = l.total;
      from = (rw e at (step_before s c)) l.further l.total l.from;
    }

unfoldable opened : Unit {0}
unfolding step_of on_byte on_kind signed on_sign on_ended row on_lower on_upper on_role kind_of sign_kind letter_kind
opened = tt

module _ (n q : ℕ) where
  live-clause : Live (state NextClause Between n q)
  unfolding tallied all_bytes
  live-clause = record { further = []; bytes = refl; total = counts n q; from = record { roles = []; along = between nothing_left nothing; tally = refl } }

  live-stop : Live (state Stop Between n q)
  unfolding opened
  live-stop = live_by (state Stop Between n q) 46 (state NextClause Between n q) refl refl live-clause

  live-closing : Live (state Closing Between n q)
  unfolding opened
  live-closing = live_by (state Closing Between n q) 41 (state Stop Between n q) refl refl live-stop

  live-ended : (d : ℕ) (p : Bool) → Live (state (Ended d p) Between n q)
  unfolding opened
  live-ended zero true = live_by (state (Ended 0 true) Between n q) 41 (state Closing Between n q) refl refl live-closing
  live-ended zero false = live_by (state (Ended 0 false) Between n q) 41 (state Stop Between n q) refl refl live-stop
  live-ended (suc d) p = live_by (state (Ended (suc d) p) Between n q) 41 (state (Ended d p) Between n q) refl refl (live-ended d p)

  live-word : (v : Want) → Live (state v Between n q) → Live (state v InWord n q)
  unfolding opened
  live-word v l = live_by (state v InWord n q) 32 (state v Between n q) refl refl l

  live-symbol : (d : ℕ) (p : Bool) → Live (state (Symbol d p) Between n q)
  unfolding opened
  live-symbol zero true = live_by (state (Symbol 0 true) Between n q) 41 (state Closing Between n q) refl refl live-closing
  live-symbol zero false = live_by (state (Symbol 0 false) Between n q) 41 (state Stop Between n q) refl refl live-stop
  live-symbol (suc d) p = live_by (state (Symbol (suc d) p) Between n q) 41 (state (Ended d p) Between n q) refl refl (live-ended d p)

  live-name : (v u : Want) → step_of (state v Between n q) 112 ≡ Some (state u InWord n q) → Live (state u Between n q) → Live (state v Between n q)
  live-name v u e l = live_by (state v Between n q) 112 (state u InWord n q) refl e (live-word u l)

  live-term : (d : ℕ) (p : Bool) → Live (state (NextTerm d p) Between n q)
  unfolding opened
  live-term d p = live-name (NextTerm d p) (Symbol (suc d) p) refl (live-symbol (suc d) p)

  live-atom : (p : Bool) → Live (state (Atom p) Between n q)
  unfolding opened
  live-atom p = live-name (Atom p) (Symbol 0 p) refl (live-symbol 0 p)

  live-literal : (p : Bool) → Live (state (NextLiteral p) Between n q)
  unfolding opened
  live-literal p = live-name (NextLiteral p) (Symbol 0 p) refl (live-symbol 0 p)

  live-formula : Live (state NextFormula Between n q)
  unfolding opened
  live-formula = live-name NextFormula (Symbol 0 false) refl (live-symbol 0 false)

  live-after-role : Live (state AfterRole Between n q)
  unfolding opened
  live-after-role = live_by (state AfterRole Between n q) 44 (state NextFormula Between n q) refl refl live-formula

-- the bytes owed can be written
lettered : List ℕ → Bool
lettered [] = true
lettered (x ∷ l) = (eqb x 46 || goes_on (kind_of x)) && lettered l

lettered_drop : (l : List ℕ) (i : ℕ) → lettered l ≡ true → lettered (drop i l) ≡ true
unfolding lettered
lettered_drop [] zero e = e
lettered_drop [] (suc i) e = e
lettered_drop (x ∷ l) zero e = e
lettered_drop (x ∷ l) (suc i) e = lettered_drop l i (second_true (eqb x 46 || goes_on (kind_of x)) (lettered l) e)

word_first : (b : Bool) (x : ℕ) (w rest : List ℕ) → (b || goes_on (kind_of x)) ≡ true → word_ahead rest ≡ false → Word w (w ++ rest) rest → Word (cond b [] (x ∷ w)) (cond b [] (x ∷ w) ++ rest) rest
word_first true x w rest e a h = ends a
word_first false x w rest e a h = goes e h

word_owed : (l rest : List ℕ) → lettered l ≡ true → word_ahead rest ≡ false → Word (up_to_dot l) (up_to_dot l ++ rest) rest
unfolding lettered up_to_dot
word_owed [] rest e a = ends a
word_owed (x ∷ l) rest e a =
    word_first (eqb x 46) x (up_to_dot l) rest (first_true (eqb x 46 || goes_on (kind_of x)) (lettered l) e) a
    (word_owed l rest (second_true (eqb x 46 || goes_on (kind_of x)) (lettered l) e) a)

all_lettered : lettered words ≡ true
unfolding lettered opened
all_lettered = refl

along_owe : {v : Want} {text : List ℕ} {rs : List Role} (i : ℕ) → Along v Between (32 ∷ text) rs → Along v (Owed i) (owed_from i ++ (32 ∷ text)) rs
unfolding owed_from word_ahead opened
along_owe {text = text} i (between r sp) = owing refl (word_owed (drop i words) (32 ∷ text) (lettered_drop words i all_lettered) refl) r sp

first_owed : (b : Bool) (x : ℕ) (w rest : List ℕ) → ltb x 256 ≡ true → all_bytes rest ≡ true → all_bytes (w ++ rest) ≡ true → all_bytes (cond b [] (x ∷ w) ++ rest) ≡ true
first_owed true x w rest e a h = a
first_owed false x w rest e a h = more_bytes x (w ++ rest) e h

bytes_drop : (l : List ℕ) (i : ℕ) → all_bytes l ≡ true → all_bytes (drop i l) ≡ true
unfolding all_bytes
bytes_drop [] zero e = e
bytes_drop [] (suc i) e = e
bytes_drop (x ∷ l) zero e = e
bytes_drop (x ∷ l) (suc i) e = bytes_drop l i (second_true (ltb x 256) (all_bytes l) e)

words_bytes : all_bytes words ≡ true
unfolding all_bytes
words_bytes = refl

owed_bytes : (l rest : List ℕ) → all_bytes l ≡ true → all_bytes rest ≡ true → all_bytes (up_to_dot l ++ rest) ≡ true
unfolding up_to_dot all_bytes
owed_bytes [] rest e a = a
owed_bytes (x ∷ l) rest e a =
    first_owed (eqb x 46) x (up_to_dot l) rest (first_true (ltb x 256) (all_bytes l) e) a
    (owed_bytes l rest (second_true (ltb x 256) (all_bytes l) e) a)

owe_bytes : (i : ℕ) (text : List ℕ) → all_bytes text ≡ true → all_bytes (owed_from i ++ (32 ∷ text)) ≡ true
unfolding owed_from
owe_bytes i text e = owed_bytes (drop i words) (32 ∷ text) (bytes_drop words i words_bytes) (more_bytes 32 text refl e)

live_owed : (v : Want) (i n q : ℕ) → Live (state v Between n q) → Live (state v (Owed i) n q)
unfolding opened
live_owed v i n q l =
    let f = step_before (state v Between n q) 32 l.further l.total l.from in
    record {
      further = owed_from i ++ (32 ∷ l.further);
      bytes = owe_bytes i l.further l.bytes;
      total = l.total;
      from = record { roles = f.roles; along = along_owe i f.along; tally = f.tally };
    }

module _ (n q : ℕ) where
  live-role : Live (state NextRole Between n q)
  unfolding opened
  live-role =
      live_by (state NextRole Between n q) 97 (state AfterRole (Owed 5) (n + 1) q) refl refl (live_owed AfterRole 5 (n + 1) q (live-after-role (n + 1) q))

  live-after-name : Live (state AfterName Between n q)
  unfolding opened
  live-after-name = live_by (state AfterName Between n q) 44 (state NextRole Between n q) refl refl live-role

  live-clause-name : Live (state Name Between n q)
  unfolding opened
  live-clause-name = live-name n q Name AfterName refl live-after-name

  live-opening : Live (state Opening Between n q)
  unfolding opened
  live-opening = live_by (state Opening Between n q) 40 (state Name Between n q) refl refl live-clause-name

  live-between : (v : Want) → Live (state v Between n q)
  live-between NextClause = live-clause n q
  live-between Opening = live-opening
  live-between Name = live-clause-name
  live-between AfterName = live-after-name
  live-between NextRole = live-role
  live-between AfterRole = live-after-role n q
  live-between NextFormula = live-formula n q
  live-between (NextLiteral p) = live-literal n q p
  live-between (Atom p) = live-atom n q p
  live-between (Symbol d p) = live-symbol n q d p
  live-between (NextTerm d p) = live-term n q d p
  live-between (Ended d p) = live-ended n q d p
  live-between Closing = live-closing n q
  live-between Stop = live-stop n q

  live_in : (v : Want) (m : Mode) → Live (state v m n q)
  unfolding opened
  live_in v Between = live-between v
  live_in v Comment = live_by (state v Comment n q) 10 (state v Between n q) refl refl (live-between v)
  live_in v InWord = live-word n q v (live-between v)
  live_in v (Owed i) = live_owed v i n q (live-between v)

pub live : (s : State) → Live s
live s = live_in s.clauses s.questions s.want s.mode

-- the place where a text read from a state goes wrong: so many bytes can go on, and no more
pub record Fails (s : State) (text : List ℕ) (k : ℕ) : Type 0 where
  pub within : k ≤ length text
  pub further : List ℕ
  pub total : Verdict
  pub goes_on_lem : From s (take k text ++ further) total
  pub fails : k < length text → (after : List ℕ) (t : Verdict) → From s (take (suc k) text ++ after) t → ⊥
  pub short : k ≡ length text → (t : Verdict) → From s text t → ⊥

pub record FailsAt (s : State) (text : List ℕ) (at place : ℕ) : Type 0 where
  pub passed : ℕ
  pub place_is : place ≡ at + passed
  pub there : Fails s text passed

always_fine : (n q place : ℕ) (rs : List Role) → tallied n q rs ≡ Err place → ⊥
unfolding tallied
always_fine n q place [] e = fine_not_wrong n q place e
always_fine n q place (r ∷ rs) e = always_fine (n + 1) (asked r q) place rs e

never_wrong : (s : State) (text : List ℕ) (place : ℕ) → From s text (Err place) → ⊥
never_wrong s text place f = always_fine s.clauses s.questions place f.roles f.tally

wrong_here : (b : Bool) (n q at place : ℕ) → cond b (counts n q) (Err at) ≡ Err place → place ≡ at + 0
wrong_here true n q at place e = absurd (fine_not_wrong n q place e)
wrong_here false n q at place e = let f : at ≡ place = cc in omega arith

end_fails : (s : State) (at place : ℕ) → finished s at ≡ Err place → FailsAt s [] at place
unfolding finished
end_fails s at place e =
    let l = live s in
    record {
      passed = 0;
      place_is = wrong_here (may_end s.want s.mode) s.clauses s.questions at place e;
      there = record {
        within = omega arith;
        further = l.further;
        total = l.total;
        goes_on_lem = l.from;
        fails = λ h. absurd (omega arith);
        short = λ h t f. never_wrong s [] place (rw (sym (end_goes s at t f) ∙ e) at f);
      };
    }

onward_fails : (s : State) (c : ℕ) (text : List ℕ) (at place : ℕ) (next : State → Verdict) → ((u : State) → next u ≡ Err place → FailsAt u text (at + 1) place) → (t : Option State) → Before s c t
    → ((after : List ℕ) (total : Verdict) → From s (c ∷ after) total → Goes after total t) → onward t at next ≡ Err place → FailsAt s (c ∷ text) at place
onward_fails s c text at place next h (Some u) b g e =
    let i = h u e in
    let f = i.there in
    let z = i.place_is in
    record {
      passed = suc i.passed;
      place_is = omega arith;
      there = record {
        within = omega (arith, f.within);
        further = f.further;
        total = f.total;
        goes_on_lem = b (take i.passed text ++ f.further) f.total f.goes_on_lem;
        fails = λ k after t a. f.fails (omega arith) after t (g (take (suc i.passed) text ++ after) t a);
        short = λ k t a. f.short (omega arith) t (g text t a);
      };
    }
onward_fails s c text at place next h None b g e =
    let l = live s in
    record {
      passed = 0;
      place_is = (let f : at ≡ place = cc in omega arith);
      there = record {
        within = omega arith;
        further = l.further;
        total = l.total;
        goes_on_lem = l.from;
        fails = λ k after t a. g after t a;
        short = λ k. absurd (omega arith);
      };
    }

pub run_wrong : (text : List ℕ) (s : State) (at place : ℕ) → run s at text ≡ Err place → FailsAt s text at place
unfolding run
run_wrong [] s at place e = end_fails s at place e
run_wrong (c ∷ text) s at place e =
    onward_fails s c text at place (λ t. run t (at + 1) text) (λ t. run_wrong text t (at + 1) place) (step_of s c) (step_before s c) (step_goes s c) e

-- what can go on at all can go on in bytes
pub record Reached (s : State) (begun : List ℕ) : Type 0 where
  pub state_there : State
  pub back : (text : List ℕ) (total : Verdict) → From state_there text total → From s (begun ++ text) total

reached_by : (s : State) (c : ℕ) (begun : List ℕ) (t : Option State) (after : List ℕ) (total : Verdict) → Before s c t → ((u : State) → From u after total → Reached u begun) → Goes after total t → Reached s (c ∷ begun)
reached_by s c begun (Some u) after total b h f =
    let r = h u f in record { state_there = r.state_there; back = λ text t g. b (begun ++ text) t (r.back text t g) }
reached_by s c begun None after total b h f = absurd f

pub reached : (begun after : List ℕ) (s : State) (total : Verdict) → From s (begun ++ after) total → Reached s begun
reached [] after s total f = record { state_there = s; back = λ text t g. g }
reached (c ∷ begun) after s total f =
    reached_by s c begun (step_of s c) (begun ++ after) total (step_before s c) (λ u. reached begun after u total) (step_goes s c (begun ++ after) total f)
