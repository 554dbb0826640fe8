-- The public call of order 12: for every file and buffer sizes, the numbers that come back and the words that then stand at the front of both buffers.
use Rattle.std.specs.Prelude.{eqb, leb, length, cond, ◌&&◌, List, [], ◌∷◌, ◌++◌, ℕ, zero, suc}
use Rattle.table.specs.Syntax.{Table}
use Rattle.table.specs.Encode.{file_words}
use Rattle.table.specs.File.{judge, table_in}
use Rattle.slim.specs.Dropping.{chosen, remaining}
use Rattle.slim.specs.Rounds.{kept_flags}
use Rattle.slim.specs.declared.Slimmed.{Slimmed}

-- the table that is left
unfoldable pub slim_table : Table → Table
slim_table t = remaining t (kept_flags t)

-- each kept clause's old number, the question's the last
unfoldable pub numbers_up_to : ℕ → List ℕ
numbers_up_to zero = []
numbers_up_to (suc n) = numbers_up_to n ++ (n ∷ [])

unfoldable pub old_numbers : Table → List ℕ
old_numbers t = chosen (kept_flags t) (numbers_up_to (length t.clauses)) ++ (length t.clauses ∷ [])

-- what the call gives: the numbers that come back, the words of the slimmer file, and the old numbers
pub record Given : Type 0 where
  pub outcome : Slimmed
  pub file : List ℕ
  pub numbers : List ℕ

-- any status but 0: both buffers unchanged, and numbers not named are 0
abbrev pub refused : ℕ → ℕ → Given
refused status place =
    record { outcome = record { status = status; place = place; words = 0; clauses = 0 }; file = []; numbers = [] }

-- the slimmer file's words and the number of its clauses, which is the number of the old numbers
abbrev pub granted : List ℕ → List ℕ → Given
granted file numbers =
    record { outcome = record { status = 0; place = 0; words = length file; clauses = length numbers }; file = file; numbers = numbers }

-- 16 where either buffer is too short
unfoldable pub if_it_fits : Table → ℕ → ℕ → Given
if_it_fits t room number_room =
    cond (leb (length (file_words (slim_table t))) room && leb (length (old_numbers t)) number_room)
    (granted (file_words (slim_table t)) (old_numbers t))
    (refused 16 0)

-- the file's own refusals first
unfoldable pub slim_call : List ℕ → ℕ → ℕ → Given
slim_call file room number_room =
    cond (eqb (judge file).status 0) (if_it_fits (table_in file) room number_room) (refused (judge file).status (judge file).place)
