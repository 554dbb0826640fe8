-- Order 8 (document 02): education's search and checker. They pass over restricted clauses and number the others from 0: the checks of input are document
-- 01's, on the whole file, and what follows goes by document 01's rules over the table without restricted clauses. Each names what comes back and
-- what then stands at the front of the proof and answer buffers; the work words are as every call leaves them (`hukolearu/Door.workAfter`).
use Rattle.std.specs.Prelude.{map, length}
use Rattle.words.specs.Steps.{step_of}
use Rattle.seen.specs.Copying.{seen_in}
use Rattle.rules.specs.Setting.{Profile, read_steps, Setting, over, base}
use Rattle.rules.specs.Machinery.Play.{check, search_for}
use Rattle.hukolearu.specs.Door.{first_fault, checks, behind}
use Rattle.hukolearu.specs.Calls.{Given, search_given, check_given, refused_by, SearchAsked, inputs_by, search_inputs, CheckAsked, check_inputs}

abbrev pub search_seen : SearchAsked → Setting
search_seen a = base (seen_in a.file) a.bound

abbrev pub check_seen : CheckAsked → Setting
check_seen a = base (seen_in a.file) a.bound

unfoldable pub education_search : SearchAsked → Given
education_search a =
    behind (first_fault (checks a.file (search_inputs a))) refused_by
    (search_given (search_seen a) a.answer_room (search_for (search_seen a) a.budget))

unfoldable pub education_check : CheckAsked → Given
education_check a =
    behind (first_fault (checks a.file (check_inputs a))) refused_by
    (check_given (seen_in a.file) (length a.offered) a.answer_room (check (check_seen a) (map step_of a.offered)))

-- by any profile's rules
unfoldable pub education_by : Profile → SearchAsked → Given
education_by rules a =
    let S : Setting = over rules (seen_in a.file) a.bound in
    behind (first_fault (checks a.file (inputs_by rules a))) refused_by (search_given S a.answer_room (search_for S a.budget))

unfoldable pub education_check_by : Profile → CheckAsked → Given
education_check_by rules a =
    behind (first_fault (checks a.file (check_inputs a))) refused_by
    (check_given (seen_in a.file) (length a.offered) a.answer_room
    (check (over rules (seen_in a.file) a.bound) (read_steps rules a.offered)))
