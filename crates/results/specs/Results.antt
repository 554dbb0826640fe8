-- The result lines of `calls`.
use Rattle.std.specs.Prelude.{Bool, true, false, List, [], ◌∷◌, ◌++◌, ℕ, min, length, take, drop}
use Rattle.text.specs.Quoted.{bytes}
use Rattle.text.specs.Digits.{decimal_text, words_text, bytes_text, long_decimal_text}
use Rattle.hukolearu.specs.declared.Outcome.{Outcome}
use Rattle.results.specs.Buffers.{all_are, both_untouched, text_kept, kept, work_kept, written}
use Rattle.season.specs.declared.Report.{Report}

-- a list after a bar
unfoldable pub barred_text : List ℕ → List ℕ
barred_text ws = bytes " / " ++ words_text ws

unfoldable pub barred_bytes_text : List ℕ → List ℕ
barred_bytes_text bs = bytes " / " ++ bytes_text bs

-- ` buffers` follows where a word that should be unchanged or zero is not
abbrev pub verdict_text : Bool → List ℕ
verdict_text true = bytes "\n"
verdict_text false = bytes " buffers\n"

unfoldable pub lists_text : List ℕ → List ℕ → Bool → List ℕ
lists_text first second intact = barred_text first ++ barred_text second ++ verdict_text intact

-- a status, its place, and how much was written, under a name
unfoldable pub counted_text : ℕ → ℕ → List ℕ → ℕ → List ℕ
counted_text status place name count =
    bytes "status " ++ decimal_text status ++ (bytes " place " ++ decimal_text place) ++ (name ++ decimal_text count)

-- OUTCOME: six numbers, the words at the front of the proof buffer, those at the front of the answer buffer
unfoldable pub first_numbers_text : Outcome → List ℕ
first_numbers_text o =
    bytes "status " ++ decimal_text o.status ++ (bytes " place " ++ decimal_text o.place) ++ (bytes " proof " ++ decimal_text o.proof)

unfoldable pub last_numbers_text : Outcome → List ℕ
last_numbers_text o =
    bytes " disjuncts " ++ decimal_text o.disjuncts ++ (bytes " answer " ++ decimal_text o.answer) ++ (bytes " tries " ++ decimal_text o.tries)

unfoldable pub outcome_text : Outcome → ℕ → List ℕ → List ℕ → List ℕ → List ℕ
outcome_text o steps proof answer work =
    first_numbers_text o ++ last_numbers_text o
    ++ lists_text (take steps proof) (take o.answer answer) (kept o.status (drop steps proof) (drop o.answer answer) work)

-- the bound before it
unfoldable pub least_text : ℕ → Outcome → ℕ → List ℕ → List ℕ → List ℕ → List ℕ
least_text bound o steps proof answer work =
    bytes "bound " ++ decimal_text bound ++ bytes " " ++ outcome_text o steps proof answer work

-- a clause that was looked up; of no words where the file or the number is refused
unfoldable pub found_text : ℕ → List ℕ → List ℕ
found_text start ws =
    bytes "start " ++ decimal_text start ++ (bytes " length " ++ decimal_text (min (length ws) 4294967295)) ++ barred_text ws ++ bytes "\n"

unfoldable pub clause_text : ℕ → List ℕ → List ℕ
clause_text start [] = bytes "start - length 0 / -\n"
clause_text start (w ∷ ws) = found_text start (w ∷ ws)

-- a slimmer file: four numbers, the words at the front of the file's buffer, the clauses' numbers at the front of theirs
unfoldable pub slimmed_text : ℕ → ℕ → ℕ → ℕ → List ℕ → List ℕ → List ℕ
slimmed_text status place words clauses file numbers =
    counted_text status place (bytes " words ") words ++ (bytes " clauses " ++ decimal_text clauses)
    ++ lists_text (take words file) (take clauses numbers) (both_untouched (drop words file) (drop clauses numbers))

-- the desk: the status, and what it says of a matinee, of an evening and of any slot
unfoldable pub slots_text : ℕ → ℕ → ℕ → List ℕ
slots_text matinee evening either =
    bytes " matinee " ++ decimal_text matinee ++ (bytes " evening " ++ decimal_text evening) ++ (bytes " either " ++ decimal_text either)

unfoldable pub desk_text : ℕ → ℕ → ℕ → ℕ → List ℕ
desk_text status matinee evening either = bytes "status " ++ decimal_text status ++ slots_text matinee evening either ++ bytes "\n"

-- a file read from a text: three numbers, and the words at the front of the file's buffer
unfoldable pub read_text : ℕ → ℕ → ℕ → List ℕ → List ℕ
read_text status place words file =
    counted_text status place (bytes " words ") words ++ barred_text (take words file) ++ verdict_text (all_are 0xA5A5A5A5 (drop words file))

-- bytes at the front of a text's buffer after three numbers
unfoldable pub byte_line_text : ℕ → ℕ → ℕ → List ℕ → Bool → List ℕ
byte_line_text status place count text intact =
    counted_text status place (bytes " bytes ") count ++ barred_bytes_text (take count text) ++ verdict_text intact

-- a text written: three numbers, and the bytes at the front of the text's buffer
unfoldable pub written_text : ℕ → ℕ → ℕ → List ℕ → List ℕ
written_text status place count text =
    counted_text status place (bytes " bytes ") count ++ barred_bytes_text (take count text) ++ verdict_text (all_are 0xA5 (drop count text))

-- a listing: the same, and the work words are looked at too
unfoldable pub listed_text : ℕ → ℕ → ℕ → List ℕ → List ℕ → List ℕ
listed_text status place count text work =
    counted_text status place (bytes " bytes ") count ++ barred_bytes_text (take count text) ++ verdict_text (text_kept status (drop count text) work)

-- a season report: the status and its place, six counts, the sum of tries; and the words that were written into the proof and answer buffers
unfoldable pub found_counts_text : Report → List ℕ
found_counts_text r =
    counted_text r.status r.place (bytes " definite ") r.definite ++ (bytes " indefinite " ++ decimal_text r.indefinite)

unfoldable pub other_counts_text : Report → List ℕ
other_counts_text r =
    bytes " none " ++ decimal_text r.none ++ (bytes " ranout " ++ decimal_text r.ranout) ++ (bytes " toolong " ++ decimal_text r.toolong)

unfoldable pub last_counts_text : Report → List ℕ
last_counts_text r = bytes " refused " ++ decimal_text r.refused ++ (bytes " tries " ++ long_decimal_text r.tries)

unfoldable pub season_text : Report → List ℕ → List ℕ → List ℕ → List ℕ
season_text r proof answer work =
    found_counts_text r ++ other_counts_text r ++ last_counts_text r
    ++ lists_text (take (written proof) proof) (take (written answer) answer) (work_kept r.status work)
