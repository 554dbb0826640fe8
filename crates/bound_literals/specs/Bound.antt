-- What the variables of a tableau are bound to: each literal of each copy, under the bindings that steps have made (document 01, "Tableau rules").
use Rattle.std.specs.Prelude.{length, take, drop, replicate, List, [], ◌∷◌, ◌++◌, map, ℕ, zero, suc, ◌+◌, ◌*◌, ◌/◌, ◌%◌, min}
use Rattle.std.proofs.Math.ListN.{get_elem?}
use Rattle.std.proofs.Math.Option.{Option, none, some}
use Rattle.words.specs.Steps.{step_of}
use Rattle.words.specs.declared.Step.{Step}
use Rattle.words.specs.declared.Step.TheVariants.{Reduction, Extension, Restart, Malformed}
use Rattle.table.specs.Syntax.{var, Literal, literal_under, Clause, Table, all_clauses}
use Rattle.table.specs.Encode.{literal_words}
use Rattle.table.specs.File.{table_in}
use Rattle.rules.specs.Setting.{Setting, base}
use Rattle.rules.specs.Substitution.{Variable, Substitution}
use Rattle.rules.specs.Tableau.{copy_of}
use Rattle.rules.specs.Machinery.Unify.{solution}
use Rattle.rules.specs.Machinery.Play.{Play, begin, Performed, goes_on, not_possible, clashes, circular, perform}
use Rattle.hukolearu.specs.Door.{first_fault, checks, behind}
use Rattle.hukolearu.specs.declared.door.Inputs.{Inputs}

-- the play after steps, if each of them can be taken
unfoldable pub onto : Performed → (Play → Option Play) → Option Play
onto (goes_on p) next = next p
onto not_possible next = none
onto clashes next = none
onto circular next = none

unfoldable pub play_from : Setting → Play → List Step → Option Play
play_from S p [] = some p
play_from S p (s ∷ ss) = onto (perform S p s) (λ q. play_from S q ss)

-- the clause that a step makes a copy of, if it makes one
unfoldable pub copied_by : Table → Step → List Clause
copied_by t (Reduction height) = []
copied_by t (Extension i j) = take 1 (drop i (all_clauses t))
copied_by t Restart = t.question ∷ []
copied_by t Malformed = []

unfoldable pub copied : Table → List Step → List Clause
copied t [] = []
copied t (s ∷ ss) = copied_by t s ++ copied t ss

-- the clauses of all copies by their numbers: copy 0 is the question's, the start
abbrev pub copies : Table → List Step → List Clause
copies t steps = t.question ∷ copied t steps

-- a literal of a copy, as the tableau has it, if the copy has so many
unfoldable pub literal_of_copy : ℕ → ℕ → Option Clause → Option (Literal Variable)
literal_of_copy copy number none = none
literal_of_copy copy number (some clause) = get_elem? (copy_of copy clause) number

-- a number for each variable of a tableau: a clause has at most 16
abbrev pub tableau_number : Variable → ℕ
tableau_number x = x.copy * 16 + x.number

-- the words of a literal under a substitution
unfoldable pub words_under : Substitution → Option (Literal Variable) → List ℕ
words_under σ none = []
words_under σ (some l) = literal_words (literal_under (λ x. var (tableau_number x)) (literal_under σ l))

-- after steps that have come to a play: a copy's literal by its number
unfoldable pub words_after : Table → List Step → Play → ℕ → ℕ → List ℕ
words_after t steps p copy number = words_under (solution p.bindings) (literal_of_copy copy number (get_elem? (copies t steps) copy))

-- A slot: 65 words, zeros after the literal's own, and how many are its own. 64 are shown; where there are 65, the literal is longer.
unfoldable pub slot : List ℕ → List ℕ
slot ws = take 65 (ws ++ replicate 65 0) ++ (min (length ws) 65 ∷ [])

-- so many slots from a number on: 7 for each copy
unfoldable pub slots_from : (ℕ → ℕ → List ℕ) → ℕ → ℕ → List ℕ
slots_from words i zero = []
slots_from words i (suc more) = slot (words (i / 7) (i % 7)) ++ slots_from words (suc i) more

-- of 33 copies, where each step could be taken
unfoldable pub slots_of : Table → List Step → Option Play → List ℕ
slots_of t steps none = []
slots_of t steps (some p) = slots_from (words_after t steps p) 0 231

-- The call: nothing where the file, the bound or the work words are refused, or a step cannot be taken.
abbrev pub asked : ℕ → ℕ → Inputs
asked bound work = record { bound = bound; work = work; proof = 0; least = 0 }

unfoldable pub bound_literals : List ℕ → ℕ → List ℕ → ℕ → List ℕ
bound_literals file bound steps work =
    behind (first_fault (checks file (asked bound work))) (λ fault. [])
    (slots_of (table_in file) (map step_of steps) (play_from (base (table_in file) bound) (begin (table_in file)) (map step_of steps)))
