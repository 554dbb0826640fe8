-- Examples by computation: document 01's case 1, a name that stands twice, and texts that go wrong.
use mathlib.Core.Bool.{true, false}
use mathlib.Core.List.{List, [], ◌∷◌}
use mathlib.Core.Path.{◌≡◌, refl}
use Rattle.words.specs.Steps.{step_of, encoded, well_formed, step_word}
use Rattle.names.specs.Numbers.{Name}
use Rattle.requests.specs.Pieces.{digit_of, up_to, value_from, number_of, word_of, same_bytes}
use Rattle.text.specs.Quoted.{bytes}
use Rattle.text.specs.Digits.{digits_of, significant}
use Rattle.written_proofs.specs.Steps.{begins, stands, only_from, tells, clause_text, step_text, steps_text}
use Rattle.written_proofs.specs.Reading.{piece, pieces_from, number_said, clause_said, step_made, clause_made, verb_turn, turn, complete, reads, read_proof}
use Rattle.written_proofs.specs.declared.read.Awaited.TheVariants.{Step as step, Height, Clause, Literal}

unfoldable opened : Unit {0}
unfolding step_of encoded well_formed step_word digit_of up_to value_from number_of word_of same_bytes digits_of significant begins stands only_from tells clause_text step_text steps_text piece pieces_from number_said clause_said step_made clause_made verb_turn turn complete reads read_proof
opened = tt

-- the clauses of a table, two of them with one name
abbrev names : List Name
names = bytes "open" ∷ bytes "bill" ∷ bytes "bill" ∷ bytes "q" ∷ []

written : steps_text names (0x40000000 ∷ 0x40000202 ∷ 1 ∷ 0x80000000 ∷ []) ≡ bytes "extend open 0\nextend 2 1\nreduce 1\n80000000\n"
unfolding opened
written = refl

-- a unique name's number is read too, and hexadecimal words, on one line or more
read : read_proof names (bytes "extend 0 0 40000202\r\n  reduce 1") ≡ record { words = 0x40000000 ∷ 0x40000202 ∷ 1 ∷ []; whole = true; place = 31; awaits = step }
unfolding opened
read = refl

-- a name that stands twice tells no clause; no height is over 63; a text may not end within a step; other words are no steps
twice : read_proof names (bytes "reduce 1 extend bill 0") ≡ record { words = 1 ∷ []; whole = false; place = 16; awaits = Clause }
unfolding opened
twice = refl

too_high : read_proof names (bytes "reduce 64") ≡ record { words = []; whole = false; place = 7; awaits = Height }
unfolding opened
too_high = refl

cut_off : read_proof names (bytes "extend q") ≡ record { words = []; whole = false; place = 8; awaits = Literal 3 }
unfolding opened
cut_off = refl

no_verb : read_proof names (bytes "close 1") ≡ record { words = []; whole = false; place = 0; awaits = step }
unfolding opened
no_verb = refl

nothing : read_proof names [] ≡ record { words = []; whole = true; place = 0; awaits = step }
unfolding opened
nothing = refl
