-- What is said of a proof's text that cannot be read: the file, line and column, the bytes around the place and what was expected.
use Rattle.std.specs.Prelude.{List, ◌++◌, ℕ, take, drop}
use Rattle.text.specs.Quoted.{bytes}
use Rattle.assistant.specs.declared.place.Position.{Position}
use Rattle.assistant.specs.Place.{position_of, figure_text, excerpt_text}
use Rattle.written_proofs.specs.declared.read.Awaited.{Awaited}
use Rattle.written_proofs.specs.declared.read.Awaited.TheVariants.{Step, Height, Clause, Literal}

unfoldable pub awaited_text : Awaited → List ℕ
awaited_text Step = bytes "expected `reduce` and a height, `extend` with a clause and a literal, or a step's word in hexadecimal digits\n"
awaited_text Height = bytes "expected a height, 1 to 63\n"
awaited_text Clause = bytes "expected a clause: a name that one clause alone has, or a number\n"
awaited_text (Literal clause) = bytes "expected the number of a literal, 0 to 7\n"

-- file, line and column
unfoldable pub head_text : List ℕ → Position → List ℕ
head_text name p =
    name ++ ((bytes ":" ++ figure_text p.line) ++ ((bytes ":" ++ figure_text p.column) ++ bytes ": the proof goes wrong here\n"))

unfoldable pub unreadable_text : List ℕ → List ℕ → ℕ → Awaited → List ℕ
unreadable_text name said place awaited =
    head_text name (position_of (take place said))
    ++ (excerpt_text (take place said) (drop place said) (position_of (take place said)).column ++ awaited_text awaited)
