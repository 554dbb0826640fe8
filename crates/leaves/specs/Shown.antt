-- Clauses and their literals as they are shown: in the names of the text, each literal as its clause has it. What is long is cut, with a mark.
use Rattle.std.specs.Prelude.{cond, List, [], ◌∷◌, ◌++◌, ℕ, zero, suc, ◌-◌, leb, ltb, length, take, drop, get_or}
use Rattle.words.specs.Fields.{literals_of}
use Rattle.table.specs.File.{trailer, clause_part}
use Rattle.text.specs.Quoted.{bytes}
use Rattle.naming.specs.Index.{name_of, clause_places, variable_places}
use Rattle.naming.specs.Shown.{names_in, shown, literal_part}

-- what is shown from: the text and the index of its names, the file, and what is bound, as slots (specs/Bound)
pub record Source : Type 0 where
  pub text : List ℕ
  pub index : List ℕ
  pub file : List ℕ
  pub bound : List ℕ

-- the words of a clause of a file, none where there is no such clause
abbrev pub clause_in : List ℕ → ℕ → List ℕ
clause_in file number = take (clause_part file number).count (drop (clause_part file number).start file)

-- how many literals it has
abbrev pub size_in : List ℕ → ℕ → ℕ
size_in file number = literals_of (get_or (clause_in file number) 0 0)

-- so many clauses from a number on
unfoldable pub sizes_from : List ℕ → ℕ → ℕ → List ℕ
sizes_from file number zero = []
sizes_from file number (suc more) = size_in file number ∷ sizes_from file (suc number) more

-- of all clauses that a file may have
abbrev pub sizes_in : List ℕ → List ℕ
sizes_in file = sizes_from file 0 512

-- the question is the last clause, and the file's trailer says how many there are
unfoldable pub question_in : List ℕ → ℕ
question_in file = cond (ltb (length file) 4) 0 (trailer file 1 - 1)

-- the word of a literal of a file
abbrev pub literal_word_in : List ℕ → ℕ → ℕ → ℕ
literal_word_in file clause literal = get_or (literal_part (clause_in file clause) literal) 0 0

-- a literal in the names of the text, its variables in their names in the clause
unfoldable pub literal_shown : List ℕ → List ℕ → List ℕ → ℕ → ℕ → List ℕ
literal_shown text index file clause number =
    shown (names_in text index (variable_places index clause)) 1 0 [] (literal_part (clause_in file clause) number)

-- up to so many bytes; a longer text is cut there and marked
unfoldable pub cut_to : ℕ → List ℕ → List ℕ
cut_to most t = cond (leb (length t) most) t (take most t ++ bytes "...")

-- a literal up to 120 bytes, a clause's name up to 60
abbrev pub literal_cut : List ℕ → List ℕ → List ℕ → ℕ → ℕ → List ℕ
literal_cut text index file clause number = cut_to 120 (literal_shown text index file clause number)

abbrev pub name_cut : List ℕ → List ℕ → ℕ → List ℕ
name_cut text index clause = cut_to 60 (name_of text (clause_places index) clause)
