-- What is said of a text that is refused: the file, line and column, the bytes around the place and what was expected; how many questions there are,
-- and the names of two; the limit. The name of the file comes first.
use Rattle.std.specs.Prelude.{cond, List, ◌++◌, ℕ, eqb, ltb, length, take, drop}
use Rattle.text.specs.Quoted.{bytes}
use Rattle.clausetext.specs.Judging.{start}
use Rattle.clausetext.specs.Stuck.{stuck_in, question_from}
use Rattle.clausetext.specs.declared.judge.State.{State}
use Rattle.names.specs.Noting.{name_at}
use Rattle.assistant.specs.declared.place.Position.{Position}
use Rattle.assistant.specs.Place.{position_of, figure_text, excerpt_text}
use Rattle.assistant.specs.Expected.{expected_text}

-- file, line and column
unfoldable pub head_text : List ℕ → Position → List ℕ
head_text name p =
    name ++ ((bytes ":" ++ figure_text p.line) ++ ((bytes ":" ++ figure_text p.column) ++ bytes ": the text goes wrong here\n"))

unfoldable pub hope_text : State → List ℕ
hope_text s = bytes "expected " ++ (expected_text s.want s.mode ++ bytes "\n")

-- 17: a text over 65,536 bytes, or one that goes wrong
unfoldable pub long_text : List ℕ → List ℕ
long_text name = name ++ bytes ": the text is longer than 65536 bytes\n"

unfoldable pub located_text : List ℕ → List ℕ → ℕ → List ℕ
located_text name text place =
    head_text name (position_of (take place text)) ++ excerpt_text (take place text) (drop place text) (position_of (take place text)).column

-- of clause text that begins at a place of a longer text
unfoldable pub wrong_in_text : List ℕ → List ℕ → ℕ → ℕ → List ℕ
wrong_in_text name text from place = located_text name text place ++ hope_text (stuck_in start (drop from text))

unfoldable pub wrong_text : List ℕ → List ℕ → ℕ → List ℕ
wrong_text name text place = cond (ltb 65536 (length text)) (long_text name) (wrong_in_text name text 0 place)

-- 18: no question, or two
abbrev pub question_name : List ℕ → ℕ → List ℕ
question_name text many = name_at text (question_from many start 0 0 text)

unfoldable pub twice_text : List ℕ → List ℕ → List ℕ
twice_text name text =
    name
    ++ ((bytes ": there is more than one question (role negated_conjecture): " ++ question_name text 1)
    ++ ((bytes " and " ++ question_name text 2) ++ bytes "\n"))

unfoldable pub unasked_text : List ℕ → List ℕ → ℕ → List ℕ
unasked_text name text questions =
    cond (eqb questions 0) (name ++ bytes ": there is no question: no clause has the role negated_conjecture\n") (twice_text name text)

-- 9: a positive literal in the question
unfoldable pub positive_text : List ℕ → List ℕ → List ℕ
positive_text name text =
    name ++ ((bytes ": the question " ++ question_name text 1) ++ bytes " has a literal without `~`: all its literals must be denied\n")

-- 19: over a limit
unfoldable pub over_text : List ℕ → List ℕ
over_text name =
    name
    ++ bytes
    ": the table is over a limit: 512 clauses, 16000 words in all, 4096 predicates, 4096 functions; a clause 7 literals, 16 variables, 255 words; 4 arguments\n"
