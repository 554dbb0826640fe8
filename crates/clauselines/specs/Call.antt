-- The public call of order 2: for every file and every size of the buffer, the numbers that come back and the text that then stands at the buffer's front.
use Rattle.std.specs.Prelude.{eqb, leb, length, cond, List, [], ℕ}
use Rattle.table.specs.File.{judge, table_in}
use Rattle.clauselines.specs.Lines.{table_text}
use Rattle.clauselines.specs.declared.TextWritten.{TextWritten}

-- what a call that writes a text gives: the numbers that come back, and the text
pub record Given : Type 0 where
  pub outcome : TextWritten
  pub text : List ℕ

-- any status but 0: no text, and no bytes
abbrev pub refused : ℕ → ℕ → Given
refused status place = record { outcome = record { status = status; place = place; bytes = 0 }; text = [] }

abbrev pub granted : List ℕ → Given
granted text = record { outcome = record { status = 0; place = 0; bytes = length text }; text = text }

-- 16 where the text does not fit
unfoldable pub if_it_fits : List ℕ → ℕ → Given
if_it_fits text room = cond (leb (length text) room) (granted text) (refused 16 0)

-- the file's own refusals first
unfoldable pub write_call : List ℕ → ℕ → Given
write_call file room =
    cond (eqb (judge file).status 0) (if_it_fits (table_text (table_in file)) room) (refused (judge file).status (judge file).place)
