-- A line as a request: its verb is the first piece, and the pieces after it are the fields of the verb's row.
-- A row tells the kind of each field and the most that it may be: a number's limit, a list's length.
use Rattle.std.specs.Prelude.{Bool, false, cond, ◌&&◌, List, [], ◌∷◌, ℕ, ◌+◌, ◌*◌, Option, Some, None, eqb, ltb, length, drop}
use Rattle.std.specs.Option.{option_and_then}
use Prim.Native.Char.{code}
use Rattle.text.specs.Quoted.{bytes}
use Rattle.requests.specs.Pieces.{piece_at, pieces_at, decimal_at, same_bytes, is_word, run_from}
use Rattle.requests.specs.Records.{is_record}
use Rattle.requests.specs.Bytes.{bytes_of}
use Rattle.requests.specs.declared.piece.Number.{Number}
use Rattle.requests.specs.declared.listed.Run.{Run}
use Rattle.requests.specs.declared.request.Field.{Field}
use Rattle.requests.specs.declared.request.Field.TheVariants.{Number as number, Words, Records, Bytes, Unknown}
use Rattle.requests.specs.declared.request.Said.{Said}

abbrev pub said : ℕ → ℕ → Option Said
said value next = Some (record { value = value; next = next })

-- a number up to a limit
abbrev pub up_to : ℕ → Option Number → Option Said
up_to limit (Some n) = cond (ltb limit n.value) None (said n.value n.next)
up_to limit None = None

unfoldable pub number_at : ℕ → List ℕ → ℕ → Option Said
number_at limit line at = up_to limit (decimal_at (code " ") line at)

-- pieces of a kind: `-` stands for none; else there are one or more, up to so many
abbrev pub counted : ℕ → ℕ → Run → Option Said
counted room at run = cond (eqb run.count 0) None (cond (ltb room run.count) None (said at run.next))

unfoldable pub list_at : ℕ → List ℕ → ℕ → Run → Option Said
list_at room line at run = cond (same_bytes (piece_at line at) (bytes "-")) (said at (at + 2)) (counted room at run)

abbrev pub run_at : (List ℕ → Bool) → ℕ → List ℕ → ℕ → Option Said
run_at kind room line at = list_at room line at (run_from kind 0 at (pieces_at line at))

abbrev pub words_at : ℕ → List ℕ → ℕ → Option Said
words_at room line at = run_at is_word room line at

abbrev pub records_at : ℕ → List ℕ → ℕ → Option Said
records_at room line at = run_at is_record room line at

-- bytes: `-` stands for none; else the piece is one or more, up to so many, and nothing else
abbrev pub wholly : ℕ → ℕ → ℕ → ℕ → Option Said
wholly room at long count =
    cond (eqb count 0) None (cond (eqb long (count * 2)) (cond (ltb room count) None (said at (at + long + 1))) None)

unfoldable pub bytes_at : ℕ → List ℕ → ℕ → Option Said
bytes_at room line at =
    cond (same_bytes (piece_at line at) (bytes "-")) (said at (at + 2)) (wholly room at (length (piece_at line at)) (length (bytes_of (drop at line))))

-- a list comes after a bar: where it begins
unfoldable pub barred_at : List ℕ → ℕ → Option ℕ
barred_at line at = cond (same_bytes (piece_at line at) (bytes "/")) (Some (at + 2)) None

-- a field by its kind; one of no kind is said by no line
unfoldable pub field_at : List ℕ → ℕ → Field → Option Said
field_at line at (number limit) = number_at limit line at
field_at line at (Words room) = option_and_then (words_at room line) (barred_at line at)
field_at line at (Records room) = option_and_then (records_at room line) (barred_at line at)
field_at line at (Bytes room) = option_and_then (bytes_at room line) (barred_at line at)
field_at line at Unknown = None

-- the line ends with the fields of a row
abbrev pub further : Option Said → (ℕ → Bool) → Bool
further (Some s) rest = rest s.next
further None rest = false

unfoldable pub ends_with : List ℕ → ℕ → List Field → Bool
ends_with line at [] = ltb (length line) at
ends_with line at (f ∷ row) = further (field_at line at f) (λ next. ends_with line next row)

-- what the fields say, up to the first that is missing
abbrev pub value_and : Option Said → (ℕ → List ℕ) → List ℕ
value_and (Some s) rest = s.value ∷ rest s.next
value_and None rest = []

unfoldable pub values_from : List ℕ → ℕ → List Field → List ℕ
values_from line at [] = []
values_from line at (f ∷ row) = value_and (field_at line at f) (λ next. values_from line next row)

-- the verb is the first piece
unfoldable pub asks : List ℕ → List ℕ → List Field → Bool
asks line verb row = same_bytes (piece_at line 0) verb && ends_with line (length verb + 1) row

unfoldable pub values_asked : List ℕ → List ℕ → List Field → List ℕ
values_asked line verb row = cond (same_bytes (piece_at line 0) verb) (values_from line (length verb + 1) row) []
