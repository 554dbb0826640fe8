-- Machinery: how the search over the work words goes along with the rules' own. No public contract speaks of it.
use Rattle.std.specs.Prelude.{Result, Ok, Option, Some, None, Bool, true, cond, not, ◌&&◌, List, [], ◌∷◌, ◌++◌, map, ◌≡◌, ℕ, suc, ◌+◌, ◌*◌, ◌-◌, ◌/◌, ◌^◌, ◌≤◌, ◌<◌, eqb, leb, ltb, length, take, drop, get_or, set}
use Rattle.std.proofs.Math.Option.{some}
use Rattle.words.specs.Steps.{step_word}
use Rattle.words.specs.declared.Step.{Step}
use Rattle.words.specs.declared.Step.TheVariants.{Reduction, Restart}
use Rattle.table.specs.Body.{starts, last_of}
use Rattle.table.specs.Decode.{table_of}
use Rattle.table.specs.Limits.{Readable}
use Rattle.table.specs.Syntax.{Table, all_clauses}
use Rattle.rules.specs.Setting.{Setting, profile_of, over}
use Rattle.rules.specs.Order as order
use Rattle.rules.specs.Machinery.Play.{Play, passed, perform, check_from, plays, search_for}
use Rattle.rules.specs.Machinery.Run.{Result as RunResult, way, no_way, ran_out, search, one, row}
use Rattle.rules.specs.Tableau.{Leaf, ancestor}
use Rattle.rules.specs.Verdict.{finds_none, runs_out}
use Rattle.unification.specs.Places.{most_variables, step_places, copies_place}
use Rattle.engine.specs.Ended.{setting_for}
use Rattle.engine.specs.Ended as ended
use Rattle.unification.specs.State.{copies_of, count_of, step_at, numbered_at, literal_at_reference, bindings_in}
use Rattle.unification.specs.Good.{word_at, LiteralStands, Good, Undone}
use Rattle.tableaux.specs.Leaves.{leaf_at, questions_among}
use Rattle.tableaux.specs.Ready.{open_leaves, Ready, Stands, Later, leaf_of}
use Rattle.engine.specs.Performing.{Comes}
use Rattle.index.specs.Places.{scanned_place, most_noted}
use Rattle.index.specs.Noting.{keys_in, scans_in, ahead, count_at, Linked}
use Rattle.index.specs.Scanning.{other_sign, entries_from}
use Rattle.index.specs.declared.entries.Scan.{Scan}
use Rattle.tableaux.specs.Entering.{Enters, extension_at}
use Rattle.engine.specs.declared.Conditions.{Conditions}
use Rattle.engine.specs.declared.search.Ending.{Ending}
use Rattle.engine.specs.declared.search.Ending.TheVariants.{Found, Nothing, Out}
use Rattle.engine.specs.declared.search.Move.{Move}
use Rattle.engine.specs.declared.search.Move.TheVariants.{Reduce, Enter, Renew}
use Rattle.engine.specs.declared.search.Searched.{Searched}
use Rattle.engine.specs.declared.search.Task.{Task}
use Rattle.tableaux.specs.declared.tableau.Place.{Place}
use Rattle.unification.specs.declared.unify.Unmet.{Unmet}

-- the table and the question that are searched
abbrev pub table_at : List ℕ → Task → Table
table_at f task = table_of (take task.body f)

abbrev pub setting_at : List ℕ → Task → Setting
setting_at f task = over (profile_of task.restarts) (table_at f task) task.bound

abbrev pub question_at : List ℕ → Task → ℕ
question_at f task = last_of 0 (starts 0 0 (take task.body f))

-- a file that can be searched, and a bound that is allowed
pub record Asked (f : List ℕ) (task : Task) : Type 0 where
  pub fits : task.body ≤ length f
  pub short : task.body ≤ 16000
  pub readable : Readable (take task.body f)
  pub small : (i : ℕ) → get_or f i 0 < 2 ^ 32
  pub low : task.bound ≤ 32
  pub asks : task.question ≡ question_at f task

-- no more steps than this can still be taken at a place: a copy has at most seven literals
abbrev pub room_at : List ℕ → List ℕ → Task → Place → ℕ
room_at f m task place = length (open_leaves f m place) + 7 * (task.bound + 1 - copies_of m)

-- the work words can be searched from a place on
pub record Treats (f m : List ℕ) (task : Task) (place : Place) : Type 0 where
  pub asked : Asked f task
  pub ready : Ready f m place
  pub linked : count_at m ≤ most_noted → Linked f task.body m 0

-- the leaf's word with the other sign
abbrev pub Wanted : List ℕ → List ℕ → Place → ℕ → Type 0
Wanted f m place wanted = wanted ≡ other_sign (word_at f m (leaf_of m place))

abbrev pub leaf_treated : List ℕ → List ℕ → Place → Leaf
leaf_treated f m place = leaf_at f m (place.head - 1)

-- the step that a candidate is
abbrev pub step_by : Move → Step
step_by (Reduce literal height) = Reduction height
step_by (Enter scan) = extension_at scan
step_by Renew = Restart

-- what the rules let be done with the leftmost leaf, by its sign
abbrev pub extends_at : List ℕ → List ℕ → Task → Place → Bool
extends_at f m task place = (setting_at f task).profile.extends (leaf_treated f m place).literal.negative

abbrev pub restarts_at : List ℕ → List ℕ → Task → Place → Bool
restarts_at f m task place = (setting_at f task).profile.restarts (leaf_treated f m place).literal.negative

-- an ancestor's literal at a height fits; a literal that is entered fits, and the bound's extensions are not used
pub record Against (f m : List ℕ) (place : Place) (literal height : ℕ) : Type 0 where
  pub stands : LiteralStands f m literal
  pub there : ancestor height (leaf_treated f m place).branch ≡ some (literal_at_reference f m literal)
  pub word : Wanted f m place (word_at f m literal)

abbrev pub Allows : List ℕ → List ℕ → Task → Place → Move → Type 0
Allows f m task place (Reduce literal height) = Against f m place literal height
Allows f m task place (Enter scan) =
    Enters f (table_at f task) (question_at f task) scan × Wanted f m place (get_or f scan.at 0) × (copies_of m ≤ task.bound) × (extends_at f m task place ≡ true)
Allows f m task place Renew = (copies_of m ≤ task.bound) × (restarts_at f m task place ≡ true)

-- a step was taken
pub record Onward (f m m' : List ℕ) (task : Task) (place next : Place) : Type 0 where
  pub ready : Ready f m' next
  pub leaves : place.leaves ≤ next.leaves
  pub steps : next.steps ≡ place.steps + 1
  pub falls : room_at f m' task next < room_at f m task place

pub record Takes (f m m' : List ℕ) (task : Task) (place : Place) (candidate : Move) (r : Result Place Unmet) : Type 0 where
  pub good : Good f m'
  pub later : Later m m' place
  pub noted : step_at m' place.steps ≡ step_word (step_by candidate)
  pub comes :
      (p : Play) → Stands f m (question_at f task) place p.tableau p.bindings
      → Comes f m' (question_at f task) r (perform (setting_at f task) p (step_by candidate))
  pub onward : (next : Place) → r ≡ Ok next → Onward f m m' task place next

-- the bindings and copies made since are gone
pub record Restored (f m m' : List ℕ) (count copies : ℕ) : Type 0 where
  pub between : List ℕ
  pub undone : Undone f m between count
  pub exit : m' ≡ set between copies_place copies

-- all is again as it was at an earlier moment, at a place
pub record Again (f m m' : List ℕ) (place : Place) : Type 0 where
  pub good : Good f m'
  pub later : Later m m' place
  pub count : count_of m' ≡ count_of m
  pub copies : copies_of m' ≡ copies_of m

-- no proof was found, or the budget ended
abbrev pub without : Ending → ℕ → Searched
without ending left = record { ending = ending; left = left; steps = 0 }

-- a proof was found from a place on: the steps to it are noted, the work words hold what it comes to, and the numbers of variables are as they were
pub record Noting (f m m' : List ℕ) (place : Place) (r : Searched) : Type 0 where
  pub good : Good f m'
  pub earlier : (i : ℕ) → i < place.steps → step_at m' i ≡ step_at m i
  pub marks : (v : ℕ) → v < most_variables → numbered_at m' v ≡ numbered_at m v

pub record Finds (f m' : List ℕ) (task : Task) (place : Place) (r : Searched) (p : Play) (result : RunResult Step) : Type 0 where
  pub path : List Step
  pub play : Play
  pub says : result ≡ way path r.left
  pub passes : (at : ℕ) → check_from (setting_at f task) p at path ≡ passed play
  pub bindings : play.bindings ≡ bindings_in f m'
  pub questions : play.tableau.questions ≡ questions_among m' (question_at f task) (copies_of m')
  pub count : r.steps ≡ place.steps + length path
  pub noted : take (length path) (drop (step_places + place.steps) m') ≡ map step_word path

-- How the work words are left, and what the rules say, by how a search ended. A search by scans may be given up with tries left; then nothing is said.
abbrev pub Leaves : Ending → List ℕ → List ℕ → List ℕ → Place → Searched → Type 0
Leaves Found f m m' place r = Noting f m m' place r
Leaves Nothing f m m' place r = Again f m m' place
Leaves Out f m m' place r = count_at m ≤ most_noted → r.left ≡ 0

abbrev pub Tells : Ending → List ℕ → List ℕ → Task → Place → Searched → Play → RunResult Step → Type 0
Tells Found f m' task place r p result = Finds f m' task place r p result
Tells Nothing f m' task place r p result = result ≡ no_way r.left
Tells Out f m' task place r p result = r.left ≡ 0 → result ≡ ran_out

-- A search from a place on, against what the rules say of every play that the work words stand for, to any depth that is enough.
pub record Runs (f m m' : List ℕ) (task : Task) (place : Place) (budget : ℕ) (r : Searched) (says : ℕ → Play → RunResult Step) : Type 0 where
  pub leaves : Leaves r.ending f m m' place r
  pub within : r.left ≤ budget
  pub tells :
      (p : Play) → Stands f m (question_at f task) place p.tableau p.bindings
      → (depth : ℕ) → room_at f m task place ≤ depth → Tells r.ending f m' task place r p (says depth p)

abbrev pub Treated : List ℕ → List ℕ → List ℕ → Task → Place → ℕ → Searched → Type 0
Treated f m m' task place budget r =
    Runs f m m' task place budget r (λ depth p. search (plays (setting_at f task)) (suc depth) budget p)

abbrev pub Attempted : List ℕ → List ℕ → List ℕ → Task → Place → Move → ℕ → Searched → Type 0
Attempted f m m' task place candidate budget r =
    Runs f m m' task place budget r (λ depth p. one (plays (setting_at f task)) depth budget p (step_by candidate))

abbrev pub reductions_at : List ℕ → List ℕ → Place → List Step
reductions_at f m place = order.reductions (leaf_treated f m place).literal 1 (leaf_treated f m place).branch

abbrev pub extensions_at : List ℕ → List ℕ → Task → Place → List Step
extensions_at f m task place = order.extensions (leaf_treated f m place).literal (copies_of m) 0 (all_clauses (table_at f task))

-- the candidates after the reductions
abbrev pub further_at : List ℕ → List ℕ → Task → Place → List Step
further_at f m task place =
    cond (restarts_at f m task place && ltb (copies_of m - 1) task.bound) (Restart ∷ []) []
    ++ cond (extends_at f m task place && ltb (copies_of m - 1) task.bound) (extensions_at f m task place) []

-- the extensions from where a scan stands, and from a link on
abbrev pub extensions_from : List ℕ → Task → ℕ → Scan → List Step
extensions_from f task wanted s = map extension_at (entries_from wanted s (drop s.at (take task.body f)))

abbrev pub extensions_ahead : List ℕ → Task → ℕ → ℕ → List Step
extensions_ahead f task wanted link = map extension_at (ahead (keys_in f task.body) (scans_in f task.body) wanted link)

abbrev pub Rowed : List ℕ → List ℕ → List ℕ → Task → Place → ℕ → Searched → List Step → Type 0
Rowed f m m' task place budget r steps =
    Runs f m m' task place budget r (λ depth p. row (plays (setting_at f task)) depth budget p steps)

-- where a scan has come to, and the cost of scans with one more that passed so many words, up to a limit
abbrev pub reached_by : Option Scan → ℕ → ℕ
reached_by (Some s) body = s.at
reached_by None body = body

unfoldable pub costing : List ℕ → ℕ → ℕ → List ℕ
costing m limit words = cond (ltb (get_or m scanned_place 0) limit) (set m scanned_place (get_or m scanned_place 0 + words + 16)) m

-- a search by scans is given up: it has tries left, and its scans have cost so much
unfoldable pub gives_up : List ℕ → ℕ → ℕ → Bool
gives_up m limit left = not (eqb left 0) && leb limit (get_or m scanned_place 0)

-- the body's literals are noted, where a search goes by notes
abbrev pub LinkedFor : List ℕ → List ℕ → Type 0
LinkedFor f m = count_at m ≤ most_noted → Linked f (length f - 4) m 0

-- the search as a whole
abbrev pub Ends : Ending → List ℕ → List ℕ → ℕ → Conditions → ℕ → Searched → Type 0
Ends Found f m question conditions budget r = ended.Found f m question conditions budget r.left r.steps
Ends Nothing f m question conditions budget r = (search_for (setting_for f conditions) budget ≡ finds_none (budget - r.left)) × (r.left ≤ budget)
Ends Out f m question conditions budget r = search_for (setting_for f conditions) budget ≡ runs_out budget

-- the same with notes or by scans; a search by scans may be given up with tries left
abbrev pub RanBy : Ending → List ℕ → List ℕ → List ℕ → ℕ → Conditions → ℕ → Searched → Type 0
RanBy Found f m₀ m question conditions budget r = Ends Found f m question conditions budget r
RanBy Nothing f m₀ m question conditions budget r = Ends Nothing f m question conditions budget r
RanBy Out f m₀ m question conditions budget r = (r.left ≡ 0 → Ends Out f m question conditions budget r) × (count_at m₀ ≤ most_noted → r.left ≡ 0)

pub record Ran (f m₀ m : List ℕ) (question : ℕ) (conditions : Conditions) (budget : ℕ) (r : Searched) : Type 0 where
  pub within : r.left ≤ budget
  pub ends : RanBy r.ending f m₀ m question conditions budget r

-- the tries that a search by scans may make at most; and whether, with so many tries, it is the search with the whole budget
abbrev pub early_tries : ℕ → ℕ → ℕ
early_tries body budget = cond (ltb budget (body / 8)) budget (body / 8)

unfoldable pub settled_by : Ending → ℕ → ℕ → ℕ → Bool
settled_by Found left most budget = true
settled_by Nothing left most budget = true
settled_by Out left most budget = eqb left 0 && eqb most budget
