-- Lines and columns, and the bytes around a place as they are shown.
use Rattle.std.specs.Prelude.{cond, List, [], ◌∷◌, ◌++◌, ℕ, ◌+◌, ◌-◌, min, eqb, ltb, length, take, drop, replicate}
use Rattle.text.specs.Quoted.{bytes}
use Rattle.text.specs.Digits.{decimal_text}
use Rattle.assistant.specs.declared.place.Position.{Position}

-- a line ends in LF
unfoldable pub line_from : ℕ → List ℕ → ℕ
line_from n [] = n
line_from n (c ∷ before) = cond (eqb c 10) (line_from (n + 1) before) (line_from n before)

-- a column is a byte
unfoldable pub column_from : ℕ → List ℕ → ℕ
column_from n [] = n
column_from n (c ∷ before) = cond (eqb c 10) (column_from 1 before) (column_from (n + 1) before)

-- the position after some bytes; lines and columns are counted from 1
abbrev pub position_of : List ℕ → Position
position_of before = record { line = line_from 1 before; column = column_from 1 before }

-- a number, as far as a word holds it
unfoldable pub figure_text : ℕ → List ℕ
figure_text n = cond (ltb 4294967295 n) (bytes "4294967295") (decimal_text n)

-- a byte that is no printable character of ASCII is shown as `?`
unfoldable pub shown_byte : ℕ → ℕ
shown_byte c = cond (ltb c 32) 63 (cond (ltb 126 c) 63 c)

-- bytes as they are shown, up to the end of their line
unfoldable pub shown_line : List ℕ → List ℕ
shown_line [] = []
shown_line (c ∷ more) = cond (eqb c 10) [] (shown_byte c ∷ shown_line more)

-- at most 40 bytes of the line before the place are shown, and 40 from it on
abbrev pub shown_before : ℕ → ℕ
shown_before column = min (column - 1) 40

-- the bytes around the place, so many of those before it
unfoldable pub around_text : List ℕ → List ℕ → ℕ → List ℕ
around_text before rest back = bytes "  " ++ (shown_line (drop (length before - back) before) ++ shown_line (take 40 rest))

-- a mark below the place
unfoldable pub mark_text : ℕ → List ℕ
mark_text back = bytes "\n  " ++ (replicate back 32 ++ bytes "^\n")

unfoldable pub excerpt_text : List ℕ → List ℕ → ℕ → List ℕ
excerpt_text before rest column = around_text before rest (shown_before column) ++ mark_text (shown_before column)
