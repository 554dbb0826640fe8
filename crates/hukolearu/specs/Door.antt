-- The door that every call passes through (document 01, "What comes back"): the checks of input in their order, the first that refuses,
-- and the work words when the call is over.
use Rattle.std.specs.Prelude.{Bool, cond, List, [], ◌∷◌, ◌++◌, Result, Ok, Err, ◌≡◌, ℕ, ◌≤◌, eqb, ltb, length, drop, replicate}
use Rattle.std.proofs.Math.Option.{Option, none, some}
use Rattle.table.specs.File.{judge}
use Rattle.hukolearu.specs.Status as Status
use Rattle.hukolearu.specs.declared.door.Refusal.{Refusal}
use Rattle.hukolearu.specs.declared.door.Inputs.{Inputs}

-- a refusal: the status, and the place
pub record Fault : Type 0 where
  pub status : ℕ
  pub place : ℕ

-- a check of input: nothing, or its refusal
abbrev pub Check : Type 0
Check = Option Fault

abbrev pub refused_if : Bool → ℕ → Check
refused_if wrong status = cond wrong (some (record { status = status; place = 0 })) none

-- the first refusal over a list of checks
unfoldable pub first_fault : List Check → Option Fault
first_fault [] = none
first_fault (none ∷ checks) = first_fault checks
first_fault (some fault ∷ checks) = some fault

-- the least words that work may have, of which a call uses just so many
abbrev pub least_work : ℕ
least_work = 16384

-- 1: work buffer under 16,384 words
abbrev pub work_check : ℕ → Check
work_check work = refused_if (ltb work least_work) Status.work_too_short

-- 2: proof buffer under the words that the call wants: 199 for a search, 231 where leaves are restarted, none for a call that is lent no proof buffer
abbrev pub proof_check : ℕ → ℕ → Check
proof_check least proof = refused_if (ltb proof least) Status.proof_too_short

-- 3: bound over 32
abbrev pub bound_check : ℕ → Check
bound_check bound = refused_if (ltb 32 bound) Status.bound_too_high

-- 4 to 9 and 21: the file's own refusal
abbrev pub file_check : List ℕ → Check
file_check file = cond (eqb (judge file).status 0) none (some (record { status = (judge file).status; place = (judge file).place }))

-- Checks run 1 to 9.
abbrev pub checks : List ℕ → Inputs → List Check
checks file inputs =
    work_check inputs.work ∷ proof_check inputs.least inputs.proof ∷ bound_check inputs.bound ∷ file_check file ∷ []

-- What a call gives: what it says of the first refusal; where there is none, what comes of the work.
unfoldable pub behind : {A : Type 0} → Option Fault → (Fault → A) → A → A
behind none refuse given = given
behind (some fault) refuse given = refuse fault

-- all checks of input are passed
pub record Admitted (file : List ℕ) (inputs : Inputs) : Type 0 where
  pub enough_work : least_work ≤ inputs.work
  pub enough_proof : inputs.least ≤ inputs.proof
  pub low_bound : inputs.bound ≤ 32
  pub good_file : (judge file).status ≡ 0

-- the code's own refusal, where no place is told
abbrev pub placeless : ℕ → Refusal
placeless status = record { status = status; place = 0 }

-- where the question begins, or the first refusal
abbrev pub entry_by : List ℕ → Option Fault → Result ℕ Refusal
entry_by file none = Ok (judge file).question
entry_by file (some fault) = Err (record { status = fault.status; place = fault.place })

abbrev pub entry_of : List ℕ → Inputs → Result ℕ Refusal
entry_of file inputs = entry_by file (first_fault (checks file inputs))

-- status 1 leaves all buffers unchanged; all others leave the first 16,384 work words zero and the rest unchanged
unfoldable pub work_after : List ℕ → List ℕ
work_after work = cond (ltb (length work) least_work) work (replicate least_work 0 ++ drop least_work work)
