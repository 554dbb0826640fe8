-- Machinery: where the notes of a body's literals stand in the lent work words (docs/MEMORY.md). These are the numbers of `index::places`. No public contract speaks of it.
-- Powers of two that are fields of a note's words stand in `Noting` as they are.
use Rattle.std.specs.Prelude.{ℕ}

-- what the scans of a search have cost
abbrev pub scanned_place : ℕ
scanned_place = 35

-- the literals that a body may have: 7 for each of 512 clauses
abbrev pub most_noted : ℕ
most_noted = 3584

-- how many literals are noted
abbrev pub noted_place : ℕ
noted_place = 4095

-- three words for each literal, by its number
abbrev pub note_places : ℕ
note_places = 4096

-- for each clause the number of its first literal
abbrev pub first_places : ℕ
first_places = 14848

-- for each key the first literal that is the last with its word, and how many keys there are
abbrev pub head_places : ℕ
head_places = 15360

abbrev pub key_count : ℕ
key_count = 1024
