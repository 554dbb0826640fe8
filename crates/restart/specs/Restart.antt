-- Order 11 (document 02): the search and the checker by the rules read one way. The checks of input are document 01's, with 231 words for status 2, on the
-- whole file, and 22 comes after them; what follows goes by the restart reading over the table that is seen in the file: all of it for collections,
-- without restricted clauses for education. Each names what comes back and what then stands at the front of the proof and answer buffers.
use Rattle.std.specs.Prelude.{List, [], ◌∷◌, ◌++◌, ◌≡◌, ℕ, length}
use Rattle.std.proofs.Math.Option.{Option, none, some}
use Rattle.table.specs.Syntax.{Table}
use Rattle.rules.specs.Setting.{one_way, read_steps, Setting, over}
use Rattle.rules.specs.Machinery.Play.{check, search_for}
use Rattle.hukolearu.specs.Door.{Check, first_fault, checks, behind, Admitted}
use Rattle.hukolearu.specs.Calls.{Given, search_given, check_given, refused_by, SearchAsked, inputs_by, CheckAsked, check_inputs}
use Rattle.hukolearu.specs.declared.door.Inputs.{Inputs}
use Rattle.restart.specs.Conclusions.{first_negative}

-- the number of the status
abbrev pub no_conclusion : ℕ
no_conclusion = 22

-- 22: the first clause other than the question without a positive literal; place = its clause word
abbrev pub refused_at : Option ℕ → Check
refused_at none = none
refused_at (some place) = some (record { status = no_conclusion; place = place })

abbrev pub restart_checks : List ℕ → Inputs → List Check
restart_checks file inputs = checks file inputs ++ (refused_at (first_negative file) ∷ [])

-- the clause that 22 names, where all other checks are passed
unfoldable pub missing_for : List ℕ → Inputs → Option ℕ
missing_for file inputs = behind (first_fault (checks file inputs)) (λ fault. none) (first_negative file)

-- all checks of input are passed
pub record RestartAdmitted (file : List ℕ) (inputs : Inputs) : Type 0 where
  pub admitted : Admitted file inputs
  pub concluded : first_negative file ≡ none

abbrev pub SearchAccepted : SearchAsked → Type 0
SearchAccepted a = RestartAdmitted a.file (inputs_by one_way a)

abbrev pub CheckAccepted : CheckAsked → Type 0
CheckAccepted a = RestartAdmitted a.file (check_inputs a)

module _ (seen : List ℕ → Table) where
  abbrev pub search_setting : SearchAsked → Setting
  search_setting a = over one_way (seen a.file) a.bound

  abbrev pub check_setting : CheckAsked → Setting
  check_setting a = over one_way (seen a.file) a.bound

  unfoldable pub search_on : SearchAsked → Given
  search_on a =
      behind (first_fault (restart_checks a.file (inputs_by one_way a))) refused_by
      (search_given (search_setting a) a.answer_room (search_for (search_setting a) a.budget))

  unfoldable pub check_on : CheckAsked → Given
  check_on a =
      behind (first_fault (restart_checks a.file (check_inputs a))) refused_by
      (check_given (seen a.file) (length a.offered) a.answer_room (check (check_setting a) (read_steps one_way a.offered)))
