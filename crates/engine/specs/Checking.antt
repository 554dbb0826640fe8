-- Machinery: what the functions of the checker promise one another, and what its verdict stands for. No public contract speaks of it.
use Rattle.std.specs.Prelude.{Result, Ok, Err, Option, Some, None, Bool, true, false, cond, List, ◌≡◌, ℕ, ◌+◌, ◌-◌, ◌≤◌, ◌<◌, eqb, length}
use Rattle.std.proofs.Math.Option.{Option as Maybe, none, some}
use Rattle.std.proofs.Math.ListN.{get_elem?}
use Rattle.words.specs.declared.Step.{Step}
use Rattle.words.specs.declared.Step.TheVariants.{Reduction, Extension, Restart, Malformed as AMalformed}
use Rattle.table.specs.File.{judge, table_in}
use Rattle.table.specs.Decode.{clause_of}
use Rattle.table.specs.Syntax.{Clause, all_clauses}
use Rattle.rules.specs.Setting.{profile_of, read_step, read_steps}
use Rattle.rules.specs.Comparison.{a_clash, a_circle}
use Rattle.rules.specs.Verdict as Verdict
use Rattle.rules.specs.Verdict.{malformed, not_allowed, not_unified, leaves_open, status_of}
use Rattle.rules.specs.Machinery.Play.{Play, Performed, goes_on, not_possible, clashes, circular, perform, refusal, passed, stopped, check}
use Rattle.unification.specs.State.{start_at, copies_of, literal_at, parent_at, own_words}
use Rattle.tableaux.specs.Leaves.{chain, leaf_at}
use Rattle.tableaux.specs.Ready.{Ready, Stands, Later}
use Rattle.tableaux.specs.Entering.{Enters}
use Rattle.index.specs.Noting.{Indexed}
use Rattle.index.specs.declared.entries.Scan.{Scan}
use Rattle.engine.specs.Ended.{setting_for, Ended}
use Rattle.tableaux.specs.declared.tableau.Place.{Place}
use Rattle.unification.specs.declared.unify.Unmet.{Unmet}
use Rattle.unification.specs.declared.unify.Unmet.TheVariants.{Clash, Circle}
use Rattle.engine.specs.declared.Conditions.{Conditions}
use Rattle.engine.specs.declared.check.Refusal.{Refusal}
use Rattle.engine.specs.declared.check.Refusal.TheVariants.{Malformed, NotAllowed, Clashes, Circular, LeavesOpen}
use Rattle.engine.specs.declared.check.Refused.{Refused}

-- parents come before their children
abbrev pub Upward : List ℕ → ℕ → Type 0
Upward m leaves = (c : ℕ) → c < leaves → parent_at m c ≤ c

-- the references of the literals from a leaf up, the leaf's own first
abbrev pub lineage : List ℕ → ℕ → List ℕ
lineage m head = chain (literal_at m) (parent_at m) head head

abbrev pub above_of : Maybe ℕ → Option ℕ
above_of none = None
above_of (some reference) = Some reference

abbrev pub judged_by : Result Place Unmet → Result Place Refusal
judged_by (Ok place) = Ok place
judged_by (Err Clash) = Err Clashes
judged_by (Err Circle) = Err Circular

-- the rules' reason of a refusal, and its number
abbrev pub reason : Refusal → Verdict.Refusal
reason Malformed = malformed
reason NotAllowed = not_allowed
reason Clashes = not_unified a_clash
reason Circular = not_unified a_circle
reason LeavesOpen = leaves_open

abbrev pub status_for : Refusal → ℕ
status_for why = status_of (reason why)

-- the body's literals are noted, where a check goes by notes
abbrev pub NotedFor : Bool → List ℕ → List ℕ → Type 0
NotedFor noted f m = noted ≡ true → Indexed f (length f - 4) m

-- the literal of a number in the clause of a number, and where there is none
pub record LocatedAt (f : List ℕ) (clause literal : ℕ) (s : Scan) : Type 0 where
  pub enters : Enters f (table_in f) (judge f).question s
  pub clauses : s.clauses ≡ clause + 1
  pub literals : s.literals ≡ literal

abbrev pub Located : List ℕ → ℕ → ℕ → Option Scan → Type 0
Located f clause literal (Some s) = LocatedAt f clause literal s
Located f clause literal None = (c : Clause) → get_elem? (all_clauses (table_in f)) clause ≡ some c → get_elem? c.literals literal ≡ none

-- the copy that a step makes, if it makes one, and its clause
abbrev pub Copies : List ℕ → List ℕ → List ℕ → Step → Type 0
Copies f m m' (Reduction height) = copies_of m' ≡ copies_of m
Copies f m m' (Extension i j) =
    (copies_of m' ≡ copies_of m + 1) × (get_elem? (all_clauses (table_in f)) i ≡ some (clause_of (own_words f (start_at m' (copies_of m)))))
Copies f m m' Restart = (copies_of m' ≡ copies_of m + 1) × ((table_in f).question ≡ clause_of (own_words f (start_at m' (copies_of m))))
Copies f m m' AMalformed = ⊥

-- the tableau goes on at a place
pub record Moved (f m m' : List ℕ) (s : Step) (place next : Place) : Type 0 where
  pub ready : Ready f m' next
  pub steps : next.steps ≡ place.steps + 1
  pub later : Later m m' place
  pub copies : Copies f m m' s

abbrev pub Moves : List ℕ → List ℕ → List ℕ → Step → Place → Result Place Refusal → Type 0
Moves f m m' s place (Ok next) = Moved f m m' s place next
Moves f m m' s place (Err why) = Unit {0}

-- a play that the work words stand for
abbrev pub PlayAt : List ℕ → List ℕ → Place → Play → Type 0
PlayAt f m place p = Stands f m (judge f).question place p.tableau p.bindings

-- how a step was judged, by what the rules say of it
abbrev pub Says : List ℕ → List ℕ → Step → Result Place Refusal → Performed → Type 0
Says f m s (Ok next) o = (q : Play) × (o ≡ goes_on q) × PlayAt f m next q
Says f m s (Err Malformed) o = (o ≡ not_possible) × (refusal s ≡ malformed)
Says f m s (Err NotAllowed) o = (o ≡ not_possible) × (refusal s ≡ not_allowed)
Says f m s (Err Clashes) o = o ≡ clashes
Says f m s (Err Circular) o = o ≡ circular
Says f m s (Err LeavesOpen) o = ⊥

-- a word read as a step
abbrev pub read_for : Conditions → ℕ → Step
read_for conditions word = read_step (profile_of conditions.restarts) word

-- the leftmost leaf, if any is open, is restarted
abbrev pub restarts_leaf : List ℕ → List ℕ → Conditions → Place → Bool
restarts_leaf f m conditions place = cond (eqb place.head 0) false ((profile_of conditions.restarts).restarts (leaf_at f m (place.head - 1)).literal.negative)

-- one step at a place, for every play that the work words stand for
pub record Checked (f m m' : List ℕ) (conditions : Conditions) (place : Place) (word : ℕ) (r : Result Place Refusal) : Type 0 where
  pub moves : Moves f m m' (read_for conditions word) place r
  pub says : (p : Play) → PlayAt f m place p → Says f m' (read_for conditions word) r (perform (setting_for f conditions) p (read_for conditions word))

-- the verdict on all steps
pub record AcceptedAs (f m : List ℕ) (question : ℕ) (conditions : Conditions) (offered : List ℕ) (steps : ℕ) : Type 0 where
  pub count : steps ≡ length offered
  pub play : Play
  pub passes : check (setting_for f conditions) (read_steps (profile_of conditions.restarts) offered) ≡ passed play
  pub ended : Ended f m question play

pub record RefusedAs (f : List ℕ) (conditions : Conditions) (offered : List ℕ) (why : Refusal) (place : ℕ) : Type 0 where
  pub stops : check (setting_for f conditions) (read_steps (profile_of conditions.restarts) offered) ≡ stopped (reason why) place

abbrev pub Decided : List ℕ → List ℕ → ℕ → Conditions → List ℕ → Result ℕ Refused → Type 0
Decided f m question conditions offered (Ok steps) = AcceptedAs f m question conditions offered steps
Decided f m question conditions offered (Err refused) = RefusedAs f conditions offered refused.why refused.place
