-- What the functions within the call promise one another: machinery.
use Rattle.std.specs.Prelude.{List, ◌≡◌, ℕ, ◌+◌, ◌≤◌, length}
use Rattle.clausetext.specs.Syntax.{Clause}
use Rattle.clausetext.specs.Texts.{Says, questions}
use Rattle.tptp.specs.Sketch.{clauses_items}
use Rattle.tptp.specs.Memory.{items_of}
use Rattle.tptp.specs.Body.{Held}

-- the items of a text with one question, which has so many clauses, and room for their words
pub record Askable (text marks places words file : List ℕ) (clauses : ℕ) : Type 0 where
  pub limited : length text ≤ 65536
  pub held : Held text marks places
  pub one : questions held.said ≡ 1
  pub count : clauses ≡ length held.said
  pub few : clauses ≤ 512
  pub marks_even : length marks ≡ length words
  pub places_even : length places ≡ length words
  pub short : length words ≤ 15996
  pub room : length words + 4 ≤ length file

-- a text with one question, and so many clauses
pub record Asked (text : List ℕ) (clauses : ℕ) : Type 0 where
  pub limited : length text ≤ 65536
  pub said : List Clause
  pub says : Says text said
  pub one : questions said ≡ 1
  pub count : clauses ≡ length said

-- its items, without room for their words
pub record Gatherable (text marks places : List ℕ) (clauses : ℕ) : Type 0 where
  pub asked : Asked text clauses
  pub items : items_of text marks places ≡ clauses_items asked.said
  pub even : length marks ≡ length places
