-- The judgement of a question file (document 01, statuses 4 to 9, and document 02's 21), and the lookup of a clause.
use Rattle.std.specs.Prelude.{Bool, cond, ◌&&◌, List, ◌≡◌, ℕ, ◌+◌, ◌-◌, ◌*◌, eqb, leb, ltb, length, take, drop, get_or}
use Rattle.std.proofs.Math.Option.{Option, none, some}
use Rattle.std.specs.Borrow.{Bor}
use Rattle.words.specs.Fields.{following_of, restricted_of}
use Rattle.words.specs.Fingerprint.{fingerprint}
use Rattle.table.specs.Body.{body_fault, starts, last_of, any_positive}
use Rattle.table.specs.Decode.{table_of}
use Rattle.table.specs.Syntax.{Table}
use Rattle.table.specs.declared.Judgement.{Judgement}

-- a body, then a four-word trailer: (0) position of the question's clause word, (1) number of clauses, (2) fingerprint, (3) body length
abbrev pub body_of : List ℕ → List ℕ
body_of file = take (length file - 4) file

-- the clauses that a file holds
abbrev pub table_in : List ℕ → Table
table_in file = table_of (body_of file)

abbrev pub trailer : List ℕ → ℕ → ℕ
trailer file k = get_or file (length file - 4 + k) 0

-- the positions of the clauses of a file
abbrev pub clause_starts : List ℕ → List ℕ
clause_starts file = starts 0 0 (body_of file)

-- status 4: file under 6 or over 16,000 words
unfoldable pub size_fits : List ℕ → Bool
size_fits file = leb 6 (length file) && leb (length file) 16000

-- status 5: trailer (3) is not file length − 4, (1) not 1–512, or (0) not below (3)
unfoldable pub trailer_fits : List ℕ → Bool
trailer_fits file =
    eqb (trailer file 3) (length file - 4) && leb 1 (trailer file 1) && leb (trailer file 1) 512 && ltb (trailer file 0) (trailer file 3)

-- status 6: fingerprint differs
unfoldable pub fingerprint_fits : List ℕ → Bool
fingerprint_fits file = eqb (fingerprint (body_of file)) (trailer file 2)

-- status 8: clauses read differ from (1), or the last doesn't begin at (0)
unfoldable pub clauses_fit : List ℕ → Bool
clauses_fit file =
    eqb (length (clause_starts file)) (trailer file 1) && eqb (last_of 0 (clause_starts file)) (trailer file 0)

-- status 9: positive literal in the question, whose words are the last of the body
abbrev pub question_words : List ℕ → List ℕ
question_words file = drop (trailer file 0) (body_of file)

-- status 21: a restricted question
abbrev pub question_restricted : List ℕ → Bool
question_restricted file = restricted_of (get_or file (trailer file 0) 0)

abbrev pub refused : ℕ → ℕ → Judgement
refused status place = record { status = status; place = place; clauses = 0; question = 0 }

-- The checks run 4 to 9, then 21. Status 7: malformed body; place = word.
unfoldable pub judge_read : List ℕ → Option ℕ → Judgement
judge_read file (some place) = refused 7 place
judge_read file none =
    cond (clauses_fit file)
    (cond (any_positive (question_words file)) (refused 9 0)
    (cond (question_restricted file) (refused 21 0) (record { status = 0; place = 0; clauses = trailer file 1; question = trailer file 0 })))
    (refused 8 0)

unfoldable pub judge_body : List ℕ → Judgement
judge_body file = cond (fingerprint_fits file) (judge_read file (body_fault 0 0 (body_of file))) (refused 6 0)

unfoldable pub judge : List ℕ → Judgement
judge file = cond (size_fits file) (cond (trailer_fits file) (judge_body file) (refused 5 0)) (refused 4 0)

-- A part of a file: where it begins, and how many words it has.
pub record Part : Type 0 where
  pub start : ℕ
  pub count : ℕ

-- the clause word and the words that follow
abbrev pub part_from : List ℕ → ℕ → Part
part_from file start = record { start = start; count = following_of (get_or file start 0) + 1 }

-- for a file refused, or a number not below the clause count, the part has length 0
unfoldable pub clause_part : List ℕ → ℕ → Part
clause_part file number =
    cond (eqb (judge file).status 0 && ltb number (judge file).clauses)
    (part_from file (get_or (clause_starts file) number 0))
    (record { start = 0; count = 0 })

-- a slice that is a part of another: the same words, and the same place in memory (a word is four bytes)
pub record Stands (file : Bor (List ℕ)) (part : Part) (r : Bor (List ℕ)) : Type 0 where
  pub words : r.now ≡ take part.count (drop part.start file.now)
  pub place : r.ref_ptr ≡ (file.ref_ptr.0, part.start * 4 + file.ref_ptr.1)
