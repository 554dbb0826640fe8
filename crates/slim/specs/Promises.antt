-- What order 12 promises of the call, as statements, to be read beside document 02. Nothing is proved here; proofs/Promises.antt proves each of them.
use Rattle.std.specs.Prelude.{length, get_or, Bool, List, map, ◌↔◌, ◌≡◌, ℕ, ◌≤◌}
use Rattle.words.specs.Steps.{encoded, step_of}
use Rattle.words.specs.declared.Step.{Step}
use Rattle.table.specs.Syntax.{Table}
use Rattle.table.specs.File.{judge, table_in}
use Rattle.table.specs.Limits.{Words}
use Rattle.rules.specs.Setting.{base}
use Rattle.rules.specs.Tableau.{Closed}
use Rattle.rules.specs.Locality.{renumbered}
use Rattle.rules.specs.Machinery.Play.{Play, passed, check, answer_of}
use Rattle.slim.specs.Dropping.{Slim}
use Rattle.slim.specs.Rounds.{kept_flags}
use Rattle.slim.specs.Call.{slim_table, numbers_up_to, Given, granted, slim_call}

-- What is left is what drops lead to when nothing more drops, and that is one, whatever their order.
abbrev pub LeftWhenNothingDrops : Type 0
LeftWhenNothingDrops = (t : Table) → Slim t (kept_flags t)

abbrev pub OneOutcome : Type 0
OneOutcome = (t : Table) (present other : List Bool) → Slim t present → Slim t other → present ≡ other

-- a call that slims: what it gives of an accepted file whose buffers hold it
pub record Slims (file : List ℕ) (given : Given) : Type 0 where
  pub words : Words file
  pub room : ℕ
  pub number_room : ℕ
  pub call : given ≡ slim_call file room number_room
  pub status : given.outcome.status ≡ 0

-- The new file is accepted by the base, with the words and clauses told; it holds what is left, and as many old numbers as clauses are told.
abbrev pub SlimmerFileAccepted : Type 0
SlimmerFileAccepted =
    (file : List ℕ) (given : Given) → Slims file given
    → ((judge given.file).status ≡ 0) × (table_in given.file ≡ slim_table (table_in file))
    × (length given.file ≡ given.outcome.words) × ((judge given.file).clauses ≡ given.outcome.clauses) × (length given.numbers ≡ given.outcome.clauses)

-- At every K a proof exists in the new table exactly when one exists in the old.
abbrev pub SameProofsExist : Type 0
SameProofsExist =
    (file : List ℕ) (given : Given) → Slims file given → (bound : ℕ)
    → ((steps : List Step) × Closed (base (table_in given.file) bound) steps) ↔ ((steps : List Step) × Closed (base (table_in file) bound) steps)

-- A proof accepted for the new file, its clause numbers put back by the numbers told, is accepted for the old with the same answer.
abbrev pub put_back : List ℕ → Step → Step
put_back numbers step = renumbered (λ n. get_or numbers n 0) step

abbrev pub ProofsMoveBack : Type 0
ProofsMoveBack =
    (file : List ℕ) (given : Given) → Slims file given → (bound : ℕ) (steps : List Step) (p : Play)
    → check (base (table_in given.file) bound) steps ≡ passed p
    → (check (base (table_in file) bound) (map (put_back given.numbers) steps) ≡ passed p) × (answer_of (table_in file) p ≡ answer_of (table_in given.file) p)

-- The same of a proof's words, at a bound that a call accepts.
abbrev pub put_back_word : List ℕ → ℕ → ℕ
put_back_word numbers word = encoded (put_back numbers (step_of word))

abbrev pub ProofWordsMoveBack : Type 0
ProofWordsMoveBack =
    (file : List ℕ) (given : Given) → Slims file given → (bound : ℕ) → bound ≤ 32 → (proof : List ℕ) (p : Play)
    → check (base (table_in given.file) bound) (map step_of proof) ≡ passed p
    → check (base (table_in file) bound) (map step_of (map (put_back_word given.numbers) proof)) ≡ passed p

-- Slimming a slim file gives it back word for word, every clause under its own number.
abbrev pub SlimAgain : Type 0
SlimAgain =
    (file : List ℕ) (given : Given) → Slims file given → (room number_room : ℕ) → length given.file ≤ room → length given.numbers ≤ number_room
    → slim_call given.file room number_room ≡ granted given.file (numbers_up_to given.outcome.clauses)
