-- Machinery: what the inner functions promise one another. The public contract rests on none of this.
use Rattle.std.specs.Prelude.{eqb, length, take, get_or, Bool, false, not, ◌&&◌, ◌||◌, List, [], ◌∷◌, ◌≡◌, ℕ, ◌+◌, ◌%◌, ◌≤◌, ◌<◌}
use Rattle.std.specs.Coded.{×_prop, Unit-prop, le_prop}
use Rattle.std.proofs.Props.{props}
use Rattle.words.specs.Fields.{kind_of}
use Rattle.table.specs.Syntax.{Table, all_clauses}
use Rattle.table.specs.Build.{at_front}
use Rattle.table.specs.Encode.{clauses_words, body_words}
use Rattle.table.specs.File.{judge}
use Rattle.table.specs.Limits.{Each, Words}
use Rattle.slim.specs.Dropping.{some_of, chosen}
use Rattle.slim.specs.Rounds.{round}
use Rattle.slim.specs.Call.{numbers_up_to, Given}
use Rattle.slim.specs.declared.Slimmed.{Slimmed}
use Rattle.slim.specs.declared.writing.Size.{Size}

-- an accepted file, and where its question begins
pub record Ready (file : List ℕ) (question : ℕ) : Type 0 where
  pub accepted : (judge file).status ≡ 0
  pub small : Words file
  pub asks : question ≡ (judge file).question

-- There is one proof of it at most, so that a struct may keep the fact. It stands here because a ghost field cites specs/ alone.
words_once : (file : List ℕ) → IsProp (Words file)
unfolding Each
words_once [] = Unit-prop
words_once (w ∷ file) = ×_prop le_prop (words_once file)

pub ready_once : (file : List ℕ) (question : ℕ) → IsProp (Ready file question)
ready_once file question = hlevel (props, words_once)

-- so many clauses before the question have been passed, and the next clause begins here
pub record Passed (t : Table) (number at : ℕ) : Type 0 where
  pub below : number ≤ length t.clauses
  pub place : at ≡ length (clauses_words (take number t.clauses))

-- the kind of a literal's word, predicate, arity and sign, as an index; and that of the opposite sign
abbrev pub kind_index : ℕ → ℕ
kind_index w = w % 65536

abbrev pub opposite_index : ℕ → ℕ
opposite_index w = (w % 65536 + 32768) % 65536

abbrev pub marking : ℕ → ℕ → Bool
marking k w = eqb (kind_of w) 2 && eqb (kind_index w) k

-- the kinds of literals among words have been marked
pub record Marked (words : List ℕ) (before after : List Bool) : Type 0 where
  pub long : length after ≡ 65536
  pub marks : (k : ℕ) → k < 65536 → get_or after k false ≡ (get_or before k false || some_of (marking k) words)

-- exactly the kinds of literals among words are marked
pub record Marks (words : List ℕ) (marks : List Bool) : Type 0 where
  pub long : length marks ≡ 65536
  pub shows : (k : ℕ) → k < 65536 → get_or marks k false ≡ some_of (marking k) words

-- a literal's word whose opposite kind is not marked
abbrev pub lonely : List Bool → ℕ → Bool
lonely marks w = eqb (kind_of w) 2 && not (get_or marks (opposite_index w) false)

-- a round has been made, and nothing dropped where it says so
pub record Swept (t : Table) (before after : List Bool) (dropped : Bool) : Type 0 where
  pub made : after ≡ round t before
  pub still : dropped ≡ false → after ≡ before

-- the words of the clauses kept before the question, and their numbers
abbrev pub kept_words : Table → List Bool → List ℕ
kept_words t present = clauses_words (chosen present t.clauses)

abbrev pub kept_numbers : List Bool → List ℕ
kept_numbers present = chosen present (numbers_up_to (length present))

-- how large the file of a table is
pub record Sized (t : Table) (size : Size) : Type 0 where
  pub question : size.question ≡ length (clauses_words t.clauses)
  pub body : size.body ≡ length (body_words t)
  pub clauses : size.clauses ≡ length (all_clauses t)
  pub short : size.body + 4 ≤ 16000

-- what a call gives has come about
pub record Told (given : Given) (r : Slimmed) (slimmer slimmer' numbers numbers' : List ℕ) : Type 0 where
  pub outcome : r ≡ given.outcome
  pub file : slimmer' ≡ at_front given.file slimmer
  pub old : numbers' ≡ at_front given.numbers numbers
