-- Why a text is refused, in plain words, by the status of its reading (document 02, order 1).
use Rattle.std.specs.Prelude.{Ok, Err, List, [], ◌++◌, ◌≡◌, ℕ, ◌≤◌, length}
use Rattle.text.specs.Quoted.{bytes}
use Rattle.clausetext.specs.Judging.{judged}
use Rattle.tptp.specs.declared.TextRead.{TextRead}
use Rattle.clausetext.specs.Syntax.{Clause}
use Rattle.clausetext.specs.Texts.{Verdict, counts, Says}
use Rattle.text.specs.Put.{Put}
use Rattle.limits.specs.Over.{first_over}
use Rattle.limits.specs.Told.{over_text, Told}
use Rattle.assistant.specs.Refusals.{wrong_text, unasked_text, positive_text}
use Rattle.assistant.specs.Results.{szs_text}

-- the questions of a text, 0 where it goes wrong
abbrev pub counted : Verdict → ℕ
counted (Err place) = 0
counted (Ok counts) = counts.questions

unfoldable pub questions_in : List ℕ → ℕ
questions_in text = counted (judged text)

-- 17 the text goes wrong, 18 not exactly one question, 9 a positive literal in it, else 19 the clause and the limit that it passes
pub record Refusal (name text : List ℕ) (read : TextRead) (out : List ℕ) (at : ℕ) (out' : List ℕ) (r : ℕ) : Type 0 where
  pub wrong : read.status ≡ 17 → Put out at (wrong_text name text read.place) out' r
  pub unasked : read.status ≡ 18 → Put out at (unasked_text name text (questions_in text)) out' r
  pub positive : read.status ≡ 9 → Put out at (positive_text name text) out' r
  pub over : (read.status ≡ 17 → ⊥) → (read.status ≡ 18 → ⊥) → (read.status ≡ 9 → ⊥) → Told name text out at out' r

-- with the line for other tools
abbrev pub input_error : List ℕ → List ℕ → List ℕ
input_error name why = why ++ szs_text (bytes "InputError") name

pub record Refused (name text : List ℕ) (read : TextRead) (out out' : List ℕ) (r : ℕ) : Type 0 where
  pub wrong : read.status ≡ 17 → Put out 0 (input_error name (wrong_text name text read.place)) out' r
  pub unasked : read.status ≡ 18 → Put out 0 (input_error name (unasked_text name text (questions_in text))) out' r
  pub positive : read.status ≡ 9 → Put out 0 (input_error name (positive_text name text)) out' r
  pub over : (read.status ≡ 17 → ⊥) → (read.status ≡ 18 → ⊥) → (read.status ≡ 9 → ⊥) → length text ≤ 65536 → (cs : List Clause) → Says text cs
      → Put out 0 (input_error name (over_text name (first_over [] cs))) out' r
