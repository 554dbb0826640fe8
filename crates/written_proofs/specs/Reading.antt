-- A proof read from text: pieces separated by blanks. A piece that is `reduce` awaits a height, `extend` a clause and then a literal;
-- another is a step's word in one to eight hexadecimal digits. The first piece that is not what is awaited is wrong.
use Rattle.std.specs.Prelude.{Bool, true, false, cond, List, [], ◌∷◌, ◌≡◌, ℕ, suc, Option, Some, None, eqb, leb, ltb, length}
use Rattle.words.specs.declared.Step.{Step}
use Rattle.words.specs.declared.Step.TheVariants.{Reduction, Extension}
use Rattle.words.specs.Steps.{encoded}
use Rattle.names.specs.Numbers.{Name}
use Rattle.requests.specs.Pieces.{same_bytes, piece as upToSpace, number_of, word_of}
use Rattle.text.specs.Quoted.{bytes}
use Rattle.text.specs.Put.{Put}
use Rattle.written_proofs.specs.Steps.{begins, only}
use Rattle.written_proofs.specs.declared.read.Awaited.{Awaited}
use Rattle.written_proofs.specs.declared.read.Awaited.TheVariants.{Step as step, Height, Clause, Literal}
use Rattle.written_proofs.specs.declared.read.Turn.{Turn}
use Rattle.written_proofs.specs.declared.read.Turn.TheVariants.{Awaits, Makes, Wrong}
use Rattle.written_proofs.specs.declared.read.Reading.{Reading}

-- a blank is a space or any byte below it: the end of a line too
abbrev pub blank : ℕ → Bool
blank c = leb c 32

-- the bytes up to a blank or the end
unfoldable pub piece : List ℕ → List ℕ
piece [] = []
piece (c ∷ cs) = cond (blank c) [] (c ∷ piece cs)

-- a piece and the place where it begins
pub record Piece : Type 0 where
  pub at : ℕ
  pub own : List ℕ

-- the pieces of a text from a place on; inside a piece none begins
unfoldable pub pieces_from : ℕ → (inside : Bool) → List ℕ → List Piece
pieces_from at inside [] = []
pieces_from at inside (c ∷ cs) =
    cond (blank c) (pieces_from (suc at) false cs)
    (cond inside (pieces_from (suc at) true cs) (record { at = at; own = c ∷ piece cs } ∷ pieces_from (suc at) true cs))

-- a number in decimal digits, if a piece says one
unfoldable pub number_said : List ℕ → Option ℕ
number_said p = number_of 10 (upToSpace p)

-- a clause by its name, if no other has it, or by its number
unfoldable pub clause_said : List Name → List ℕ → Option ℕ
clause_said ns p = cond (begins p) (only ns p) (number_said p)

-- a step, if a word holds it
unfoldable pub step_made : Step → Turn
step_made s = cond (eqb (encoded s) 0xC0000000) Wrong (Makes (encoded s))

abbrev pub word_made : Option ℕ → Turn
word_made None = Wrong
word_made (Some w) = Makes w

abbrev pub height_made : Option ℕ → Turn
height_made None = Wrong
height_made (Some h) = step_made (Reduction h)

unfoldable pub clause_made : Option ℕ → Turn
clause_made None = Wrong
clause_made (Some i) = cond (ltb i 512) (Awaits (Literal i)) Wrong

abbrev pub literal_made : ℕ → Option ℕ → Turn
literal_made i None = Wrong
literal_made i (Some j) = step_made (Extension i j)

unfoldable pub verb_turn : List ℕ → Turn
verb_turn p =
    cond (same_bytes p (bytes "reduce")) (Awaits Height)
    (cond (same_bytes p (bytes "extend")) (Awaits Clause) (word_made (word_of (upToSpace p))))

-- what a piece does, by what is awaited
unfoldable pub turn : List Name → Awaited → List ℕ → Turn
turn ns step p = verb_turn p
turn ns Height p = height_made (number_said p)
turn ns Clause p = clause_made (clause_said ns p)
turn ns (Literal i) p = literal_made i (number_said p)

-- what was read: the steps' words; whether that is all; the place where the text goes wrong, or its end; and what was awaited there
pub record Read : Type 0 where
  pub words : List ℕ
  pub whole : Bool
  pub place : ℕ
  pub awaits : Awaited

-- a text may end where a step is awaited
unfoldable pub complete : Awaited → Bool
complete step = true
complete Height = false
complete Clause = false
complete (Literal i) = false

abbrev pub wrong_at : ℕ → Awaited → Read
wrong_at place a = record { words = []; whole = false; place = place; awaits = a }

abbrev pub after : ℕ → Read → Read
after w r = record { words = w ∷ r.words; whole = r.whole; place = r.place; awaits = r.awaits }

abbrev pub went : ℕ → Awaited → Turn → (Awaited → Read) → Read
went at a (Awaits b) goes = goes b
went at a (Makes w) goes = after w (goes step)
went at a Wrong goes = wrong_at at a

unfoldable pub reads : List Name → (end : ℕ) → Awaited → List Piece → Read
reads ns end a [] = record { words = []; whole = complete a; place = end; awaits = a }
reads ns end a (p ∷ ps) = went p.at a (turn ns a p.own) (λ b. reads ns end b ps)

unfoldable pub read_proof : List Name → List ℕ → Read
read_proof ns said = reads ns (length said) step (pieces_from 0 false said)

-- what the call tells of it, and the steps at the front of the buffer
pub record Told (read : Read) (steps left : List ℕ) (r : Reading) : Type 0 where
  pub whole : r.whole ≡ read.whole
  pub place : r.place ≡ read.place
  pub awaits : r.awaited ≡ read.awaits
  pub words : Put steps 0 read.words left r.steps
