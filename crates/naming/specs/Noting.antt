-- The names of a text by their numbers, in an index.
use Rattle.std.specs.Prelude.{Bool, true, List, [], ◌≡◌, ℕ, ◌≤◌, ◌<◌, length, get_or}
use Rattle.clausetext.specs.Syntax.{Clause}
use Rattle.clausetext.specs.Texts.{Says, questions}
use Rattle.names.specs.Noting.{name_at}
use Rattle.tptp.specs.Said.{predicates, functions, table_said}
use Rattle.tptp.specs.Reads.{Fits}
use Rattle.naming.specs.Index.{name_of, function_places, predicate_places, clause_places}
use Rattle.naming.specs.Firsts.{Noted}
use Rattle.naming.specs.Clauses.{file_names}

-- an index tells the names of clauses: the n-th function's and the n-th predicate's by first use
pub record Tells (text index : List ℕ) (cs : List Clause) : Type 0 where
  pub functions : (n : ℕ) → name_of text (function_places index) n ≡ get_or (functions cs) n []
  pub predicates : (n : ℕ) → name_of text (predicate_places index) n ≡ get_or (predicates cs) n []

-- a text that document 02's 17, 18 and 19 do not refuse: it says clauses, one of them a question, within the limits
pub record Admissible (text : List ℕ) (cs : List Clause) : Type 0 where
  pub limited : length text ≤ 65536
  pub says : Says text cs
  pub one : questions cs ≡ 1
  pub room : ℕ
  pub fits : Fits (table_said cs) room

-- an index has been made of a text that has been read: it tells the names of functions and predicates, and those of clauses in the order of the file
pub record Indexed (text index : List ℕ) (r : Bool) : Type 0 where
  pub long : length index ≡ 16896
  pub made : (cs : List Clause) → Admissible text cs → r ≡ true
  pub told : r ≡ true → (cs : List Clause) → Says text cs → Tells text index cs
  pub clauses : r ≡ true → (cs : List Clause) → Says text cs → (n : ℕ) → name_of text (clause_places index) n ≡ get_or (file_names cs) n []

-- Machinery: an index made of functions and predicates, and the names of clauses noted.
pub record Listed (text index : List ℕ) (r : Bool) : Type 0 where
  pub long : length index ≡ 16896
  pub made : (cs : List Clause) → Admissible text cs → r ≡ true
  pub told : r ≡ true → (cs : List Clause) → Says text cs → Tells text index cs

pub record ClausesNamed (text names : List ℕ) (r : Bool) : Type 0 where
  pub long : length names ≡ 512
  pub made : (cs : List Clause) → Admissible text cs → r ≡ true
  pub told : r ≡ true → (cs : List Clause) → Says text cs → (n : ℕ) → name_of text names n ≡ get_or (file_names cs) n []

-- an index without names, and one in which functions and predicates have been noted
pub record Unnamed (text index : List ℕ) : Type 0 where
  pub long : length index ≡ 16896
  pub none : (n : ℕ) → n < 16896 → name_at text (get_or index n 0) ≡ []

pub record BothNoted (words places index index' : List ℕ) : Type 0 where
  pub functions : Noted words places 1 (function_places index) (function_places index')
  pub predicates : Noted words places 2 (predicate_places index) (predicate_places index')
  pub long : length index' ≡ 16896
