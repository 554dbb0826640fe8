-- Machinery: what the functions below the call promise one another. No public contract speaks of it.
use Rattle.std.specs.Prelude.{ltb, length, Bool, true, false, cond, List, map, ◌≡◌, ℕ, ◌+◌, ◌*◌, min, ◌<◌}
use Rattle.std.specs.Prelude as Prelude
use Rattle.std.proofs.Math.ListN.{get_elem?}
use Rattle.std.proofs.Math.Option.{Option, none, some}
use Rattle.table.specs.Syntax.{Clause}
use Rattle.table.specs.Decode.{clause_of}
use Rattle.table.specs.File.{table_in}
use Rattle.rules.specs.Setting.{profile_of, read_steps}
use Rattle.rules.specs.Tableau.{copy_of}
use Rattle.rules.specs.Machinery.Play.{Play, begin}
use Rattle.text.specs.Put.{put}
use Rattle.unification.specs.Places.{most_references}
use Rattle.unification.specs.State.{start_at, copies_of, own_words, literal_at_reference, bindings_in}
use Rattle.unification.specs.Good.{LiteralStands, Good}
use Rattle.engine.specs.Ended.{setting_for}
use Rattle.answers.specs.Writing.{Item, resolved}
use Rattle.engine.specs.declared.Conditions.{Conditions}
use Rattle.answers.proofs.Items.{word_by}
use Rattle.bound_literals.specs.Bound.{play_from, copies, literal_of_copy, tableau_number, words_under, slots_of}

-- what there is room for is written from a position on, and the next position is the end at most
pub record Filled (out : List ℕ) (from : ℕ) (ws left : List ℕ) (next : ℕ) : Type 0 where
  pub written : left ≡ put out from ws
  pub ends : next ≡ min (from + length ws) (length out)

-- the words of items, each variable by its number in the tableau
abbrev pub named : List Item → List ℕ
named is = map (word_by tableau_number) is

-- the clause of a copy that has been made, and the words of its literal under what is bound
unfoldable pub clause_held : List ℕ → List ℕ → ℕ → Option Clause
clause_held f m copy = cond (ltb copy (copies_of m)) (some (clause_of (own_words f (start_at m copy)))) none

unfoldable pub words_held : List ℕ → List ℕ → ℕ → ℕ → List ℕ
words_held f m copy number = words_under (resolved f m) (literal_of_copy copy number (clause_held f m copy))

-- a copy's literal stands so far among its clause's words
pub record LiteralFor (f m : List ℕ) (copy number offset : ℕ) : Type 0 where
  pub small : copy * 256 + offset < most_references
  pub stands : LiteralStands f m (copy * 256 + offset)
  pub literal : get_elem? (copy_of copy (clause_of (own_words f (start_at m copy)))) number ≡ some (literal_at_reference f m (copy * 256 + offset))

-- where a copy's literal stands, if there is one
abbrev pub OffsetFor : List ℕ → List ℕ → ℕ → ℕ → Prelude.Option ℕ → Type 0
OffsetFor f m copy number Prelude.None = get_elem? (copy_of copy (clause_of (own_words f (start_at m copy)))) number ≡ none
OffsetFor f m copy number (Prelude.Some offset) = LiteralFor f m copy number offset

-- what comes of steps, by the rules' own play
abbrev pub play_after : List ℕ → Conditions → List ℕ → Option Play
play_after f conditions steps = play_from (setting_for f conditions) (begin (table_in f)) (read_steps (profile_of conditions.restarts) steps)

abbrev pub slots_after : List ℕ → Conditions → List ℕ → List ℕ
slots_after f conditions steps = slots_of (table_in f) (read_steps (profile_of conditions.restarts) steps) (play_after f conditions steps)

-- all steps are taken: the work words hold the play's bindings and the copies
pub record Taken (f m : List ℕ) (conditions : Conditions) (steps : List ℕ) : Type 0 where
  pub play : Play
  pub comes : play_after f conditions steps ≡ some play
  pub good : Good f m
  pub bindings : play.bindings ≡ bindings_in f m
  pub clauses : (copy : ℕ) → get_elem? (copies (table_in f) (read_steps (profile_of conditions.restarts) steps)) copy ≡ clause_held f m copy

-- by the answer
pub record Replayed (f m : List ℕ) (conditions : Conditions) (steps : List ℕ) (r : Bool) : Type 0 where
  pub taken : r ≡ true → Taken f m conditions steps
  pub refused : r ≡ false → play_after f conditions steps ≡ none
