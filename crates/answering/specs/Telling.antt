-- Machinery: what the functions promise one another.
use Rattle.std.specs.Prelude.{Bool, List, [], ◌++◌, ◌≡◌, ℕ, zero, suc, ◌+◌, ◌≤◌, length, get_or}
use Rattle.table.specs.File.{judge, table_in}
use Rattle.clausetext.specs.Syntax.{Clause}
use Rattle.names.specs.Numbers.{Name}
use Rattle.names.specs.Noting.{names_at}
use Rattle.tptp.specs.Said.{table_said}
use Rattle.text.specs.Put.{Put}
use Rattle.naming.specs.Index.{clause_places}
use Rattle.naming.specs.Shown.{names_in}
use Rattle.naming.specs.Noting.{Admissible}
use Rattle.assistant.specs.Results.{behind_text}
use Rattle.answering.specs.declared.Options.{Options}
use Rattle.answering.specs.declared.look.Looked.{Looked}
use Rattle.answering.specs.Looking.{LookedUp, looked}
use Rattle.answering.specs.Results.{Wording, said_in, paged, found_text, result_text}

-- a file's table in the names that an index gives
abbrev pub words_in : List ℕ → List ℕ → List ℕ → Wording
words_in text index file = record {
  table = table_in file;
  names = names_in text index [];
  clauses = names_at text (clause_places index);
}

pub record Wordable (index file : List ℕ) : Type 0 where
  pub long : length index ≡ 16896
  pub accepted : (judge file).status ≡ 0

-- a page that was written from its front has been put down, cut
pub record CutTo (page : List ℕ) (n : ℕ) (out : List ℕ) (at : ℕ) (out' : List ℕ) (r : ℕ) : Type 0 where
  pub told : (first text : List ℕ) → length first ≡ 262144 → Put first 0 text page n → Put out at (paged text) out' r

-- the lines of clauses by their numbers, so many from one on
abbrev pub used_line : List Name → ℕ → ℕ → List ℕ → List ℕ
used_line ns number zero others = others
used_line ns number (suc more) others = behind_text (get_or ns number []) (suc more) ++ others

unfoldable pub used_lines : List Name → List ℕ → ℕ → ℕ → List ℕ
used_lines ns copies number zero = []
used_lines ns copies number (suc more) = used_line ns number (get_or copies number 0) (used_lines ns copies (suc number) more)

unfoldable pub used_text : List Name → List ℕ → ℕ → List ℕ
used_text ns copies question = used_lines ns copies 0 question ++ behind_text (get_or ns question []) (get_or copies question 0 + 1)

-- an accepted file, and no more steps and words than a search gives
pub record Holds (file steps words : List ℕ) : Type 0 where
  pub accepted : (judge file).status ≡ 0
  pub few_steps : length steps ≤ 199
  pub few_words : length words ≤ 4096

-- what was found, in the names of the clauses that the text says
pub record FoundIn (wanted : Bool) (name text file : List ℕ) (l : Looked) (steps words out : List ℕ) (at : ℕ) (out' : List ℕ) (r : ℕ) : Type 0 where
  pub told : (cs : List Clause) → Admissible text cs → table_in file ≡ table_said cs
      → Put out at (found_text wanted name (said_in cs) l.bound l.tries l.outcome.disjuncts steps words) out' r

-- what was looked up, by its numbers and words
abbrev pub as_looked : Looked → List ℕ → List ℕ → LookedUp
as_looked l steps words = record { bound = l.bound; tries = l.tries; given = record { outcome = l.outcome; proof = steps; answer = words } }

pub record Told (o : Options) (name text file : List ℕ) (l : Looked) (steps words out : List ℕ) (at : ℕ) (out' : List ℕ) (r : ℕ) : Type 0 where
  pub told : (cs : List Clause) → Admissible text cs → table_in file ≡ table_said cs
      → Put out at (result_text o name (said_in cs) (as_looked l steps words)) out' r

-- the question of a file has been put, and the result written
pub record Answered (o : Options) (name text file out out' : List ℕ) (r : ℕ) : Type 0 where
  pub told : (cs : List Clause) → Admissible text cs → table_in file ≡ table_said cs
      → Put out 0 (result_text o name (said_in cs) (looked file o.limit o.budget)) out' r
