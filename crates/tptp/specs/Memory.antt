-- The items of a text as they stand in memory: machinery.
use Rattle.std.specs.Prelude.{Bool, List, [], ◌∷◌, ◌≡◌, ℕ, zero, suc, ◌+◌, ◌*◌, ◌/◌, ◌%◌, ◌≤◌, ◌<◌, length, take, get_or}
use Rattle.clausetext.specs.declared.kind.Mark.{Mark}
use Rattle.clausetext.specs.Syntax.{Clause}
use Rattle.clausetext.specs.Texts.{Says}
use Rattle.names.specs.Numbers.{Name}
use Rattle.names.specs.Noting.{name_at}
use Rattle.tptp.specs.Sketch.{Item, clauses_items, Gathering, part_added, gathered, begun, name_sort, on_word, on_capital, on_mark}
use Rattle.tptp.specs.declared.sketch.Progress.{Progress}

-- a mark is an item's sort and eight times the number of its parts
abbrev pub item_of : List ℕ → ℕ → ℕ → Item
item_of text mark at = record { sort = mark % 8; parts = mark / 8; name = name_at text at }

unfoldable pub items_of : List ℕ → List ℕ → List ℕ → List Item
items_of text [] places = []
items_of text (m ∷ ms) [] = []
items_of text (m ∷ ms) (at ∷ places) = item_of text m at ∷ items_of text ms places

-- the innermost is the last
unfoldable pub inner_of : List ℕ → ℕ → List ℕ
inner_of inner zero = []
inner_of inner (suc depth) = get_or inner depth 0 ∷ inner_of inner depth

abbrev pub sketch_of : List ℕ → List ℕ → List ℕ → List ℕ → Progress → Gathering
sketch_of text marks places inner p = record {
  items = items_of text (take p.count marks) (take p.count places);
  inner = inner_of inner p.depth;
  stage = p.stage;
  negative = p.negative;
}

-- no item has more parts than there are items
pub record Small (marks : List ℕ) (count : ℕ) : Type 0 where
  pub each : (k : ℕ) → get_or marks k 0 ≤ 8 * count + 7

-- the first marks, so many, with a part more of the innermost; the others as they were
pub record PartAdded (marks inner : List ℕ) (count : ℕ) (marks' : List ℕ) : Type 0 where
  pub long : length marks' ≡ length marks
  pub items : (text places : List ℕ) → items_of text (take count marks') (take count places) ≡ part_added (items_of text (take count marks) (take count places)) inner
  pub small : Small marks' (count + 1)

-- the memory of a gathering has room for a whole text
pub record Ready (marks places inner : List ℕ) (p : Progress) : Type 0 where
  pub marks_long : length marks ≡ 65536
  pub places_long : length places ≡ 65536
  pub inner_long : length inner ≡ 65536
  pub small : Small marks p.count
  pub few : p.count ≤ 65535
  pub deep : p.depth ≤ 65535

-- a gathering of a text after one token more
pub record Further (text : List ℕ) (step : Gathering → Gathering) (marks places inner : List ℕ) (p : Progress) (marks' places' inner' : List ℕ) (r : Progress) : Type 0 where
  pub marks_long : length marks' ≡ 65536
  pub places_long : length places' ≡ 65536
  pub inner_long : length inner' ≡ 65536
  pub small : Small marks' r.count
  pub few : r.count ≤ p.count + 1
  pub deep : r.depth ≤ p.depth + 1
  pub same : sketch_of text marks' places' inner' r ≡ step (sketch_of text marks places inner p)

abbrev pub adding : ℕ → Name → Gathering → Gathering
adding sort name g = gathered g sort name

abbrev pub beginning : Name → Gathering → Gathering
beginning name g = begun g name

abbrev pub word_met : Name → Gathering → Gathering
word_met name g = on_word g name

abbrev pub capital_met : Name → Gathering → Gathering
capital_met name g = on_capital g name

abbrev pub mark_met : Mark → Gathering → Gathering
mark_met m g = on_mark g m

-- a name is a predicate where there is no list of parts but the clause's
pub record NameSort (depth : ℕ) (negative : Bool) (r : ℕ) : Type 0 where
  pub below : r < 8
  pub is : (inner : List ℕ) → r ≡ name_sort (inner_of inner depth) negative

-- a sign has been met, which changes no item
abbrev pub gathering_of : List Item → List ℕ → Progress → Gathering
gathering_of items inner p = record { items = items; inner = inner_of inner p.depth; stage = p.stage; negative = p.negative }

pub record Signed (step : Gathering → Gathering) (inner : List ℕ) (p : Progress) (inner' : List ℕ) (r : Progress) : Type 0 where
  pub long : length inner' ≡ 65536
  pub count : r.count ≡ p.count
  pub deep : r.depth ≤ p.depth + 1
  pub same : (items : List Item) → length items ≡ p.count → gathering_of items inner' r ≡ step (gathering_of items inner p)

-- room for one list of parts more
pub record Deepening (inner : List ℕ) (p : Progress) : Type 0 where
  pub long : length inner ≡ 65536
  pub few : p.count ≤ 65535
  pub deep : p.depth ≤ 65535

-- The items of a text have been gathered: those of the clauses that it says.
pub record Gathered (text marks places : List ℕ) (count : ℕ) : Type 0 where
  pub said : List Clause
  pub says : Says text said
  pub items : items_of text (take count marks) (take count places) ≡ clauses_items said
  pub marks_long : length marks ≡ 65536
  pub places_long : length places ≡ 65536
  pub few : count ≤ 65536

-- memory that holds nothing yet
pub record Empty (marks places inner : List ℕ) : Type 0 where
  pub marks_long : length marks ≡ 65536
  pub places_long : length places ≡ 65536
  pub inner_long : length inner ≡ 65536
  pub small : Small marks 0
