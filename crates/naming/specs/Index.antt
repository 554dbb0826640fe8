-- Where the names of a text stand: places in an index, one for each number. A place past the text's end has no name.
use Rattle.std.specs.Prelude.{cond, List, [], ◌≡◌, ℕ, ◌+◌, ◌*◌, ◌<◌, ltb, length, take, drop, get_or}
use Rattle.std.specs.Borrow.{Bor}
use Rattle.names.specs.Numbers.{Name}
use Rattle.names.specs.Noting.{name_at, names_at}

-- a part of the text that is the name at a place: its bytes, and the same place in memory
pub record IsName (text : Bor (List ℕ)) (at : ℕ) (r : Bor (List ℕ)) : Type 0 where
  pub bytes : r.now ≡ name_at text.now at
  pub place : at < length text.now → r.ref_ptr ≡ (text.ref_ptr.0, at + text.ref_ptr.1)

-- the name with a number, by the places of names; empty where there are not so many
abbrev pub name_of : List ℕ → List ℕ → ℕ → Name
name_of text places number = get_or (names_at text places) number []

pub record IsNamed (text : Bor (List ℕ)) (places : List ℕ) (number : ℕ) (r : Bor (List ℕ)) : Type 0 where
  pub bytes : r.now ≡ name_of text.now places number
  pub place : number < length places → get_or places number 0 < length text.now
      → r.ref_ptr ≡ (text.ref_ptr.0, get_or places number 0 + text.ref_ptr.1)

-- An index: places of 4,096 functions, of 4,096 predicates, of 512 clauses in the order of the file, and of 16 variables of each of them.
abbrev pub function_places : List ℕ → List ℕ
function_places index = take 4096 index

abbrev pub predicate_places : List ℕ → List ℕ
predicate_places index = take 4096 (drop 4096 index)

abbrev pub clause_places : List ℕ → List ℕ
clause_places index = take 512 (drop 8192 index)

abbrev pub variable_places : List ℕ → ℕ → List ℕ
variable_places index clause = cond (ltb clause 512) (take 16 (drop (8704 + clause * 16) index)) []
