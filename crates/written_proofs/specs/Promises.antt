-- What is promised of written proofs.
use Rattle.std.specs.Prelude.{true, List, ◌≡◌, ℕ, length, take}
use Rattle.table.specs.Limits.{Words}
use Rattle.written_proofs.specs.Steps.{names_of, steps_text}
use Rattle.written_proofs.specs.Reading.{read_proof}
use Rattle.written_proofs.specs.declared.read.Awaited.TheVariants.{Step as step}

-- Reading is the inverse of writing: what is written of a list of words, steps or not, is read as that list, and nothing in it is wrong.
abbrev pub ReadsBack : Type 0
ReadsBack = (text places steps : List ℕ) → Words steps
    → read_proof (names_of text (take 512 places)) (steps_text (names_of text (take 512 places)) steps)
    ≡ record { words = steps; whole = true; place = length (steps_text (names_of text (take 512 places)) steps); awaits = step }
