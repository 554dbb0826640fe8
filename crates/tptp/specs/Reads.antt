-- What comes back from a text (document 02, order 1), and what is left in the file buffer.
use Rattle.std.specs.Prelude.{Err, true, List, ◌++◌, ◌≡◌, ℕ, ◌≤◌, length, drop}
use Rattle.clausetext.specs.Syntax.{Clause}
use Rattle.clausetext.specs.Texts.{Says, questions, Verdicts}
use Rattle.table.specs.Syntax.{Table}
use Rattle.table.specs.Encode.{file_words}
use Rattle.table.specs.Limits.{Each, Within}
use Rattle.tptp.specs.Said.{table_said}
use Rattle.tptp.specs.declared.TextRead.{TextRead}

abbrev pub refused : ℕ → ℕ → TextRead
refused status place = record { status = status; place = place; words = 0 }

-- within the limits of document 01 and the file buffer
pub record Fits (t : Table) (buffer : ℕ) : Type 0 where
  pub within : Within t
  pub short : length (file_words t) ≤ 16000
  pub room : length (file_words t) ≤ buffer

-- all literals of the question are negative
abbrev pub Denied : Table → Type 0
Denied t = Each (λ l. l.negative ≡ true) t.question.literals

-- 18 not exactly one question, then 19 over a limit, then 9 a positive literal in the question; else the table's file, later words unchanged
pub data Answered (cs : List Clause) (file : List ℕ) : TextRead → List ℕ → Type 0 where
  unasked : (questions cs ≡ 1 → ⊥) → Answered cs file (refused 18 0) file
  over : questions cs ≡ 1 → (Fits (table_said cs) (length file) → ⊥) → Answered cs file (refused 19 0) file
  positive : questions cs ≡ 1 → Fits (table_said cs) (length file) → (Denied (table_said cs) → ⊥) → Answered cs file (refused 9 0) file
  read : questions cs ≡ 1 → Fits (table_said cs) (length file) → Denied (table_said cs)
      → Answered cs file
      (record { status = 0; place = 0; words = length (file_words (table_said cs)) })
      (file_words (table_said cs) ++ drop (length (file_words (table_said cs))) file)

-- 17 a text over 65,536 bytes, or wrong; else as its clauses are answered
pub data Reads (text file : List ℕ) : TextRead → List ℕ → Type 0 where
  wrong : {place : ℕ} → Verdicts text (Err place) → Reads text file (refused 17 place) file
  fine : {cs : List Clause} {r : TextRead} {file' : List ℕ} → length text ≤ 65536 → Says text cs → Answered cs file r file' → Reads text file r file'
