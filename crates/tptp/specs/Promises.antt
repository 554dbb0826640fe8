-- What is promised of reading a text (document 02, order 1), beside the contract of `read`, which is Reads. Each is proved in proofs/Promises.
use Rattle.std.specs.Prelude.{Err, List, ◌↔◌, ◌≡◌, ℕ, ◌≤◌, length, take, drop}
use Rattle.clausetext.specs.Syntax.{Clause}
use Rattle.clausetext.specs.Texts.{Says, questions, Verdicts}
use Rattle.table.specs.File.{judge, table_in}
use Rattle.tptp.specs.Said.{table_said}
use Rattle.tptp.specs.Reads.{Fits, Denied, Reads}
use Rattle.tptp.specs.declared.TextRead.{TextRead}

-- A text and a buffer have one outcome.
pub record Same (r s : TextRead) (left other : List ℕ) : Type 0 where
  pub numbers : r ≡ s
  pub words : left ≡ other

unfoldable pub OneOutcome : Type 0
OneOutcome =
    (text file : List ℕ) (r s : TextRead) (left other : List ℕ) → Reads text file r left → Reads text file s other → Same r s left other

-- 17 exactly where the text is too long or wrong, with that place.
unfoldable pub WrongExactly : Type 0
WrongExactly = (text file : List ℕ) (r : TextRead) (left : List ℕ) → Reads text file r left → r.status ≡ 17 ↔ Verdicts text (Err r.place)

-- Of a permitted text: 18, then 19, then 9, then 0, each exactly where the order says.
pub record Exactly (cs : List Clause) (room : ℕ) (r : TextRead) : Type 0 where
  pub eighteen : r.status ≡ 18 ↔ (questions cs ≡ 1 → ⊥)
  pub nineteen : r.status ≡ 19 ↔ ((questions cs ≡ 1) × (Fits (table_said cs) room → ⊥))
  pub nine : r.status ≡ 9 ↔ ((questions cs ≡ 1) × Fits (table_said cs) room × (Denied (table_said cs) → ⊥))
  pub zero : r.status ≡ 0 ↔ ((questions cs ≡ 1) × Fits (table_said cs) room × Denied (table_said cs))

unfoldable pub StatusExactly : Type 0
StatusExactly =
    (text file : List ℕ) (r : TextRead) (left : List ℕ) (cs : List Clause)
    → length text ≤ 65536 → Says text cs → Reads text file r left → Exactly cs (length file) r

-- On 0 the words written are a question file that is accepted and holds the table that the text says, and later words are unchanged.
pub record Written (cs : List Clause) (file left : List ℕ) (words : ℕ) : Type 0 where
  pub judged : (judge (take words left)).status ≡ 0
  pub table : table_in (take words left) ≡ table_said cs
  pub later : drop words left ≡ drop words file

unfoldable pub FileAccepted : Type 0
FileAccepted =
    (text file : List ℕ) (r : TextRead) (left : List ℕ) (cs : List Clause)
    → Says text cs → Reads text file r left → r.status ≡ 0 → Written cs file left r.words

-- A refusal leaves the file buffer unchanged, and tells no words.
unfoldable pub RefusalChangesNothing : Type 0
RefusalChangesNothing = (text file : List ℕ) (r : TextRead) (left : List ℕ) → Reads text file r left → (r.status ≡ 0 → ⊥) → left ≡ file
