-- All that `ask` writes of a text whose file has a name.
use Rattle.std.specs.Prelude.{Err, List, [], ◌≡◌, ℕ, ◌≤◌, ◌<◌, length}
use Rattle.table.specs.Encode.{file_words}
use Rattle.clausetext.specs.Syntax.{Clause}
use Rattle.clausetext.specs.Texts.{Says, questions, Verdicts}
use Rattle.tptp.specs.Said.{table_said}
use Rattle.tptp.specs.Reads.{Fits, Denied}
use Rattle.text.specs.Put.{Put}
use Rattle.text.specs.Quoted.{bytes}
use Rattle.limits.specs.Over.{first_over}
use Rattle.limits.specs.Told.{over_text}
use Rattle.assistant.specs.Refusals.{wrong_text, unasked_text, positive_text}
use Rattle.answering.specs.declared.Options.{Options}
use Rattle.answering.specs.Refusing.{input_error}
use Rattle.answering.specs.Looking.{looked}
use Rattle.answering.specs.Results.{said_in, result_text}

-- Of the clauses that a text says: not exactly one question; over a limit, with the first clause that passes one; a positive literal in the question; else the
-- result of the question put to the text's table, bound by bound.
pub data SaysOf (o : Options) (name text : List ℕ) (cs : List Clause) : List ℕ → Type 0 where
  unasked : (questions cs ≡ 1 → ⊥) → SaysOf o name text cs (input_error name (unasked_text name text (questions cs)))
  over : questions cs ≡ 1 → (Fits (table_said cs) 16384 → ⊥) → SaysOf o name text cs (input_error name (over_text name (first_over [] cs)))
  positive : questions cs ≡ 1 → Fits (table_said cs) 16384 → (Denied (table_said cs) → ⊥) → SaysOf o name text cs (input_error name (positive_text name text))
  answered : questions cs ≡ 1 → Fits (table_said cs) 16384 → Denied (table_said cs)
      → SaysOf o name text cs (result_text o name (said_in cs) (looked (file_words (table_said cs)) o.limit o.budget))

-- A limit over 32; a text that is too long or goes wrong; else as its clauses are answered.
pub data AskSays (o : Options) (name text : List ℕ) : List ℕ → Type 0 where
  unlimited : 32 < o.limit → AskSays o name text (bytes "The limit is over 32.\n")
  wrong : {place : ℕ} → o.limit ≤ 32 → Verdicts text (Err place) → AskSays o name text (input_error name (wrong_text name text place))
  said : {cs : List Clause} {all : List ℕ} → o.limit ≤ 32 → length text ≤ 65536 → Says text cs → SaysOf o name text cs all → AskSays o name text all

-- it is written from the front of the page, as far as there is room, and counted past its end
pub record Asks (o : Options) (name text out out' : List ℕ) (r : ℕ) : Type 0 where
  pub all : List ℕ
  pub says : AskSays o name text all
  pub written : Put out 0 all out' r
