-- What `ask` writes, to the letter: document 01's case 1 as the clauses of a text, at(e,mat) or at(e,eve), and the question at(e,X).
use Rattle.std.specs.Prelude.{Bool, true, false, List, [], ◌∷◌, ◌≡◌, ℕ}
use Rattle.table.specs.Encode.{file_words}
use Rattle.clausetext.specs.Syntax.{variable, application, nil, ◌then◌, Axiom, NegatedConjecture, Clause}
use Rattle.tptp.specs.Said.{table_said}
use Rattle.text.specs.Quoted.{bytes}
use Rattle.answering.specs.declared.Options.{Options}
use Rattle.answering.specs.Looking.{looked}
use Rattle.answering.specs.Results.{said_in, result_text}

abbrev pub case_one : List Clause
case_one =
    record {
      name = bytes "bill";
      role = Axiom;
      literals =
          record { negative = false; predicate = bytes "at"; arguments = application (bytes "e") nil then application (bytes "mat") nil then nil }
          ∷ record { negative = false; predicate = bytes "at"; arguments = application (bytes "e") nil then application (bytes "eve") nil then nil }
          ∷ [];
    }
    ∷ record {
      name = bytes "when";
      role = NegatedConjecture;
      literals = record { negative = true; predicate = bytes "at"; arguments = application (bytes "e") nil then variable (bytes "X") then nil } ∷ [];
    }
    ∷ []

abbrev pub asking : ℕ → ℕ → Bool → Options
asking limit budget proof = record { limit = limit; budget = budget; proof = proof }

abbrev pub written : ℕ → ℕ → Bool → List ℕ
written limit budget proof =
    result_text (asking limit budget proof) (bytes "c1.p") (said_in case_one) (looked (file_words (table_said case_one)) limit budget)

-- an open answer, the question copied twice
abbrev pub FoundOpen : Type 0
FoundOpen =
    written 2 100 false
    ≡ bytes
    "Found: an answer with 2 alternatives, not definite (bound 2, tries 7)\nat(e,mat)\nor at(e,eve)\nClauses behind it, and how often each was used:\n  bill 1\n  when 2\n% SZS status Unsatisfiable for c1.p\n% SZS answers Tuple [([mat]|[eve])|_] for c1.p\n"

-- none up to a limit, and a budget that does not last
abbrev pub NoneFound : Type 0
NoneFound =
    written 1 100 false
    ≡ bytes
    "None up to 1: no proof uses so few clauses; it looked everywhere, in 4 tries.\nTry a larger limit (--limit, up to 32), or add the clause that is missing.\n% SZS status GaveUp for c1.p\n"

abbrev pub RanOut : Type 0
RanOut =
    written 32 5 true
    ≡ bytes
    "Ran out at 2 after 5 tries: nothing is known yet.\nTry a larger budget (--budget, up to 4294967295), or a slimmer table (hukolearu slim).\n% SZS status ResourceOut for c1.p\n"
