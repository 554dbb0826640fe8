-- The words of the body as they are completed: machinery.
use Rattle.std.specs.Prelude.{Bool, true, false, cond, List, [], ◌∷◌, ◌++◌, map, ◌≡◌, ℕ, zero, suc, ◌+◌, ◌-◌, ◌%◌, ◌≤◌, ◌<◌, eqb, leb, length, take, drop}
use Rattle.words.specs.Fields.{kind_of}
use Rattle.clausetext.specs.Syntax.{Literal, Clause}
use Rattle.clausetext.specs.Texts.{Says}
use Rattle.names.specs.Numbers.{Name, first_uses, number_in}
use Rattle.names.specs.Noting.{names_at, uses_of, numbered}
use Rattle.table.specs.Encode.{clauses_words}
use Rattle.table.specs.Limits.{Each, ClauseWithin}
use Rattle.tptp.specs.Said.{predicates, functions, clause_said, clauses_said}
use Rattle.tptp.specs.Sketch.{Item, clauses_items}
use Rattle.tptp.specs.Memory.{items_of}
use Rattle.tptp.specs.Shapes.{sort_kind, shape_by, fits_by}

unfoldable pub item_names : List Item → List Name
item_names [] = []
item_names (i ∷ is) = i.name ∷ item_names is

-- an item has not too many parts
abbrev pub Fit : Item → Type 0
Fit i = fits_by i.sort i.parts ≡ true

-- a word with the number of its name, where it is of a kind
abbrev pub plus : ℕ → List Name → ℕ → Name → ℕ
plus kind known w name = cond (eqb (kind_of w) kind) (w + number_in known name) w

-- the word of an item: bare, with the number of a function, and of a predicate
abbrev pub bare : Item → ℕ
bare i = shape_by i.sort i.parts

abbrev pub with_function : List Name → Item → ℕ
with_function fs i = plus 1 fs (bare i) i.name

abbrev pub with_predicate : List Name → List Name → Item → ℕ
with_predicate ps fs i = plus 2 ps (with_function fs i) i.name

-- a number below a limit for a name of a kind
abbrev pub Under : ℕ → List Name → ℕ → Item → Type 0
Under k known limit i = sort_kind i.sort ≡ k → number_in known i.name < limit

abbrev pub Below : ℕ → List Name → Item → Type 0
Below k known i = Under k known 4096 i

unfoldable pub bodies : List Clause → List (List Literal)
bodies [] = []
bodies (c ∷ cs) = c.literals ∷ bodies cs

-- the items of what a text says, in memory
pub record Held (text marks places : List ℕ) : Type 0 where
  pub said : List Clause
  pub says : Says text said
  pub items : items_of text marks places ≡ clauses_items said

-- the words of a text's items, with the numbers of functions and predicates
pub record Numbered (text places words : List ℕ) : Type 0 where
  pub said : List Clause
  pub says : Says text said
  pub words_are : words ≡ map (with_predicate (predicates said) (functions said)) (clauses_items said)
  pub names_are : names_at text places ≡ item_names (clauses_items said)
  pub fit : Each Fit (clauses_items said)
  pub named : Each (Below 1 (functions said)) (clauses_items said)
  pub stated : Each (Below 2 (predicates said)) (clauses_items said)

-- a clause of a text within document 01's limits
abbrev pub ClauseFits : List Clause → Clause → Type 0
ClauseFits cs c = ClauseWithin (clause_said (predicates cs) (functions cs) c.literals)

-- the words of the clauses, in the order of the text, unless a clause is over a limit
pub record Completed (text words : List ℕ) (r : Bool) : Type 0 where
  pub said : List Clause
  pub says : Says text said
  pub written : r ≡ true → words ≡ clauses_words (clauses_said (predicates said) (functions said) (bodies said))
  pub within : r ≡ true → Each (ClauseFits said) said
  pub over : r ≡ false → Each (ClauseFits said) said → ⊥

-- how many words come before the next clause word
unfoldable pub span : List ℕ → ℕ
span [] = zero
span (w ∷ ws) = cond (eqb (kind_of w) 3) zero (suc (span ws))

-- the words from a place to another
abbrev pub part : ℕ → ℕ → List ℕ → List ℕ
part from end ws = take (end - from) (drop from ws)

-- the variables of a part have been numbered, or there are more than 16
pub record PartNumbered (text places words : List ℕ) (from end : ℕ) (words' : List ℕ) (many : ℕ) : Type 0 where
  pub within : many ≤ 16 → many ≡ length (first_uses (uses_of 0 (part from end words) (names_at text (part from end places))))
  pub numbers : many ≤ 16 → words' ≡ take from words ++ (numbered 0 [] (part from end words) (names_at text (part from end places)) ++ drop end words)
  pub over : 16 < many → 16 < length (first_uses (uses_of 0 (part from end words) (names_at text (part from end places))))
  pub long : length words' ≡ length words

-- how many marks come before the next of a sort, or of a later one
unfoldable pub ahead : ℕ → List ℕ → ℕ
ahead sort [] = zero
ahead sort (m ∷ ms) = cond (leb sort (m % 8)) zero (suc (ahead sort ms))

-- a part of the words, and room for them and a trailer
pub record Parted (words : List ℕ) (at end clauses : ℕ) (file : List ℕ) : Type 0 where
  pub ordered : at ≤ end
  pub inside : end ≤ length words
  pub room : length words + 4 ≤ length file
  pub short : length words ≤ 15996
  pub few : clauses ≤ 512

-- the words with a part moved to the end
abbrev pub moved_last : List ℕ → ℕ → ℕ → List ℕ
moved_last words at end = (take at words ++ drop end words) ++ part at end words
