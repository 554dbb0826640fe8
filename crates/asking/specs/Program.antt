-- Document 01, "The program": what `ask` writes, from what it reads.
use Rattle.std.specs.Prelude.{Bool, cond, ◌&&◌, List, [], ◌∷◌, ℕ, ◌%◌, eqb, leb, length}
use Rattle.words.specs.Bytes.{words_of}
use Rattle.hukolearu.specs.Calls.{Given, refused, SearchAsked, search_call}
use Rattle.asking.specs.Report.{report_text}

-- Input that is no multiple of 4 bytes, under 2 words or over 16,002 words prints status 4.
unfoldable pub readable : ℕ → Bool
readable bytes = eqb (bytes % 4) 0 && leb 8 bytes && leb bytes 64008

-- It has a 4,096-word answer buffer; its proof and work buffers are as long as a search needs.
abbrev pub question : List ℕ → ℕ → ℕ → SearchAsked
question file bound budget =
    record { file = file; bound = bound; budget = budget; proof_room = 199; answer_room = 4096; work_room = 16384 }

unfoldable pub asked : List ℕ → ℕ → ℕ → Given
asked file bound budget = search_call (question file bound budget)

-- It reads K, budget, file.
unfoldable pub said_of : List ℕ → Given
said_of [] = refused 4 0 0
said_of (bound ∷ []) = refused 4 0 0
said_of (bound ∷ budget ∷ file) = asked file bound budget

unfoldable pub given_text : Given → List ℕ
given_text g = report_text g.outcome.status g.outcome.place g.outcome.tries g.outcome.disjuncts g.proof g.answer

-- standard input as words, lowest byte first
unfoldable pub ask_text : List ℕ → List ℕ
ask_text input = cond (readable (length input)) (given_text (said_of (words_of input))) (given_text (said_of []))
