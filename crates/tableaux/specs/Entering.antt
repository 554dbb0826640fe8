-- Machinery: what it is to enter a literal of a clause of the table, where a scan of the body stands at it. No public contract speaks of it.
use Rattle.std.specs.Prelude.{true, List, ◌≡◌, ℕ, ◌+◌, ◌-◌, ◌≤◌, ◌<◌, eqb, length, drop, get_or}
use Rattle.std.proofs.Math.Option.{none, some}
use Rattle.std.proofs.Math.ListN.{get_elem?}
use Rattle.words.specs.Fields.{arity_of, variables_of, literal_shaped}
use Rattle.words.specs.declared.Step.{Step}
use Rattle.words.specs.declared.Step.TheVariants.{Extension}
use Rattle.table.specs.Syntax.{Literal, Table, all_clauses}
use Rattle.table.specs.Decode.{terms_from, literal_of, clause_of}
use Rattle.table.specs.Reading.{fault}
use Rattle.tableaux.specs.Leaves.{offsets_at}
use Rattle.unification.specs.State.{own_words, ClauseAt}
use Rattle.index.specs.declared.entries.Scan.{Scan}

-- the step that enters the literal where a scan stands
abbrev pub extension_at : Scan → Step
extension_at s = Extension (s.clauses - 1) s.literals

-- the literal that begins with the first of a clause's words
abbrev pub literal_from : List ℕ → Literal ℕ
literal_from ws = literal_of (get_or ws 0 0) (terms_from (drop 1 ws))

-- words that go on with just so many terms of a clause with so many variables, then with literals, and are well formed to the clause's end
pub record Owes (variables terms : ℕ) (ws : List ℕ) : Type 0 where
  pub literals : ℕ
  pub place : ℕ
  pub sound : fault variables literals terms place ws ≡ none

-- The literal of a number stands at an offset of the clause that begins at a position, and its arguments follow.
pub record LiteralAt (f : List ℕ) (p number offset : ℕ) : Type 0 where
  pub least : 1 ≤ offset
  pub most : offset < 256
  pub inside : p + offset < length f
  pub word : get_or (drop offset (own_words f p)) 0 0 ≡ get_or f (p + offset) 0
  pub shaped : literal_shaped (get_or f (p + offset) 0) ≡ true
  pub owing : Owes (variables_of (get_or f p 0)) (arity_of (get_or f (p + offset) 0)) (drop 1 (drop offset (own_words f p)))
  pub literal : get_elem? (clause_of (own_words f p)).literals number ≡ some (literal_from (drop offset (own_words f p)))

-- A scan enters a literal of a clause of the table, by their numbers; the clause is the question exactly if it begins where the question does.
pub record Enters (f : List ℕ) (t : Table) (question : ℕ) (s : Scan) : Type 0 where
  pub begins : ClauseAt f s.start
  pub later : s.start < s.at
  pub begun : 1 ≤ s.clauses
  pub clause : get_elem? (all_clauses t) (s.clauses - 1) ≡ some (clause_of (own_words f s.start))
  pub asks : eqb s.start question ≡ eqb (s.clauses - 1) (length t.clauses)
  pub offset : get_elem? (offsets_at f s.start) s.literals ≡ some (s.at - s.start)
  pub literal : LiteralAt f s.start s.literals (s.at - s.start)
