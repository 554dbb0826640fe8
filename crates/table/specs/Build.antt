-- A question file built in a buffer: words put behind those that stand, and the trailer sealed behind a body.
use Rattle.std.specs.Prelude.{List, [], ◌∷◌, ◌++◌, ℕ, ◌+◌, length, take, drop}
use Rattle.words.specs.Fingerprint.{fingerprint}

-- words at the front of a buffer, later words unchanged
abbrev pub at_front : List ℕ → List ℕ → List ℕ
at_front words buffer = words ++ drop (length words) buffer

-- words in place of as many of a buffer's, from a place on
abbrev pub behind : List ℕ → ℕ → List ℕ → List ℕ
behind buffer at words = take at buffer ++ words ++ drop (at + length words) buffer

-- trailer: position of the question's clause word, number of clauses, fingerprint, body length
abbrev pub trailer_words : List ℕ → ℕ → ℕ → List ℕ
trailer_words body question clauses = question ∷ clauses ∷ fingerprint body ∷ length body ∷ []

-- the trailer behind the body that stands at a buffer's front
abbrev pub sealed : List ℕ → ℕ → ℕ → ℕ → List ℕ
sealed buffer body question clauses = behind buffer body (trailer_words (take body buffer) question clauses)
