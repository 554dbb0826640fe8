-- What order 1 (document 02) says of a text's judgement, as statements. Nothing is proved here; proofs/Promises.antt proves each of them.
-- `judged` is a program over the bytes; what it says is judged by Permitted, Says and WrongAt, which know nothing of how it goes about it.
use Rattle.std.specs.Prelude.{Err, ◌≡◌, true, List, ◌++◌, ◌↔◌, ℕ, ◌≤◌, ◌<◌, length}
use Rattle.clausetext.specs.Syntax.{Clause}
use Rattle.clausetext.specs.Texts.{counts, Says, Permitted, CanGoOn, all_bytes, WrongAt, questions, Verdict, Verdicts}
use Rattle.clausetext.specs.Judging.{judged}

-- A text over 65,536 bytes is refused at 65,536, whatever stands in it.
abbrev pub LongTextRefused : Type 0
LongTextRefused = (text : List ℕ) → 65536 < length text → judged text ≡ Err 65536

-- Any other text is refused exactly when it is not permitted.
abbrev pub RefusedExactly : Type 0
RefusedExactly = (text : List ℕ) → length text ≤ 65536 → ((place : ℕ) × (judged text ≡ Err place)) ↔ (Permitted text → ⊥)

-- The place is exact: the first byte after which no permitted text can go on, or the text's length where it stops short; and there is one.
abbrev pub PlaceExactly : Type 0
PlaceExactly = (text : List ℕ) (place : ℕ) → length text ≤ 65536 → (judged text ≡ Err place) ↔ WrongAt text place

abbrev pub OnePlace : Type 0
OnePlace = (text : List ℕ) (j k : ℕ) → WrongAt text j → WrongAt text k → j ≡ k

-- A permitted text says one thing, and its clauses and questions are counted.
abbrev pub OneReading : Type 0
OneReading = (text : List ℕ) (cs ds : List Clause) → Says text cs → Says text ds → cs ≡ ds

abbrev pub CountedExactly : Type 0
CountedExactly =
    (text : List ℕ) (cs : List Clause) → length text ≤ 65536 → Says text cs → judged text ≡ counts (length cs) (questions cs)

-- All of it at once: the verdict is the one that the order states.
abbrev pub VerdictExactly : Type 0
VerdictExactly = (text : List ℕ) (v : Verdict) → (judged text ≡ v) ↔ Verdicts text v

-- What can go on to a permitted text can do so in bytes.
abbrev pub GoesOnInBytes : Type 0
GoesOnInBytes =
    (begun : List ℕ) → CanGoOn begun → (further : List ℕ) × (all_bytes further ≡ true) × Permitted (begun ++ further)
