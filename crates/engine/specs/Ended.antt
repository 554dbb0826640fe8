-- Machinery: what the work words hold where a search has found a proof or the checker has accepted one. No public contract speaks of it.
use Rattle.std.specs.Prelude.{List, map, ◌≡◌, ℕ, ◌-◌, ◌≤◌, ◌<◌, length, take, drop}
use Rattle.words.specs.Steps.{step_word}
use Rattle.words.specs.declared.Step.{Step}
use Rattle.table.specs.File.{table_in}
use Rattle.rules.specs.Setting.{Setting, profile_of, longest_proof, over}
use Rattle.rules.specs.Verdict.{finds}
use Rattle.rules.specs.Machinery.Play.{Play, passed, check, search_for}
use Rattle.unification.specs.Places.{most_variables, step_places}
use Rattle.unification.specs.State.{copies_of, numbered_at, bindings_in}
use Rattle.unification.specs.Good.{Good}
use Rattle.tableaux.specs.Leaves.{questions_among}
use Rattle.engine.specs.declared.Conditions.{Conditions}

-- the rules of a run over the table of a file
abbrev pub setting_for : List ℕ → Conditions → Setting
setting_for f conditions = over (profile_of conditions.restarts) (table_in f) conditions.bound

-- the play that has come to its end: its bindings and its copies of the question; no variable is numbered yet
pub record Ended (f m : List ℕ) (question : ℕ) (p : Play) : Type 0 where
  pub good : Good f m
  pub bindings : p.bindings ≡ bindings_in f m
  pub questions : p.tableau.questions ≡ questions_among m question (copies_of m)
  pub unnumbered : (v : ℕ) → v < most_variables → numbered_at m v ≡ 0

-- a search has found a proof: its steps stand among the work words
pub record Found (f m : List ℕ) (question : ℕ) (conditions : Conditions) (budget left steps : ℕ) : Type 0 where
  pub proof : List Step
  pub play : Play
  pub says : search_for (setting_for f conditions) budget ≡ finds proof (budget - left)
  pub within : left ≤ budget
  pub count : steps ≡ length proof
  pub few : steps ≤ longest_proof (profile_of conditions.restarts)
  pub noted : take steps (drop step_places m) ≡ map step_word proof
  pub passes : check (setting_for f conditions) proof ≡ passed play
  pub ended : Ended f m question play
