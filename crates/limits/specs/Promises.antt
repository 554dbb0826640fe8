-- What is promised of the limits: a text with one question that is refused by 19 with a buffer that has room for every file passes a limit, which is
-- then told; and where none is passed the text is read. Proved in proofs/Promises.
use Rattle.std.specs.Prelude.{true, false, List, [], ◌≡◌, ℕ, ◌≤◌}
use Rattle.clausetext.specs.Syntax.{Clause}
use Rattle.clausetext.specs.Texts.{Says, questions}
use Rattle.tptp.specs.Said.{table_said}
use Rattle.tptp.specs.Reads.{Fits}
use Rattle.limits.specs.Over.{is_nothing, first_over}

unfoldable pub NothingPassed : Type 0
NothingPassed =
    (text : List ℕ) (cs : List Clause) (room : ℕ) → Says text cs → questions cs ≡ 1 → 16000 ≤ room → is_nothing (first_over [] cs).limit ≡ true
    → Fits (table_said cs) room

unfoldable pub OverIsTold : Type 0
OverIsTold =
    (text : List ℕ) (cs : List Clause) (room : ℕ) → Says text cs → questions cs ≡ 1 → 16000 ≤ room → (Fits (table_said cs) room → ⊥)
    → is_nothing (first_over [] cs).limit ≡ false
