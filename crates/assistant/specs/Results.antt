-- The first lines of a result in plain words, with what to try next, and the lines for other tools (the SZS ontology's words, in comments).
use Rattle.std.specs.Prelude.{cond, List, ◌++◌, ℕ, eqb, ltb}
use Rattle.text.specs.Quoted.{bytes}
use Rattle.text.specs.Digits.{decimal_text}

-- the bound of the proof, and the tries of all bounds
unfoldable pub cost_text : ℕ → ℕ → List ℕ
cost_text bound tries = (bytes " (bound " ++ decimal_text bound) ++ ((bytes ", tries " ++ decimal_text tries) ++ bytes ")\n")

-- a definite answer is one with a single disjunct
unfoldable pub found_text : ℕ → ℕ → ℕ → List ℕ
found_text disjuncts bound tries =
    cond (eqb disjuncts 1) (bytes "Found: a definite answer" ++ cost_text bound tries)
    ((bytes "Found: an answer with " ++ decimal_text disjuncts) ++ (bytes " alternatives, not definite" ++ cost_text bound tries))

-- status 16: a proof whose answer is longer than its room
unfoldable pub too_long_text : ℕ → ℕ → List ℕ
too_long_text bound tries = bytes "Found: an answer too long to be shown, over 4096 words" ++ cost_text bound tries

-- what to try after "none": a larger limit, as long as there is one
unfoldable pub larger_text : ℕ → List ℕ
larger_text limit =
    cond (ltb limit 32) (bytes "Try a larger limit (--limit, up to 32), or add the clause that is missing.\n")
    (bytes "32 is the largest limit. Add the clause that is missing, or ask for less.\n")

unfoldable pub none_text : ℕ → ℕ → List ℕ
none_text limit tries =
    (bytes "None up to " ++ decimal_text limit)
    ++ ((bytes ": no proof uses so few clauses; it looked everywhere, in " ++ decimal_text tries) ++ (bytes " tries.\n" ++ larger_text limit))

unfoldable pub ran_out_text : ℕ → ℕ → List ℕ
ran_out_text bound tries =
    (bytes "Ran out at " ++ decimal_text bound)
    ++ ((bytes " after " ++ decimal_text tries)
    ++ bytes " tries: nothing is known yet.\nTry a larger budget (--budget, up to 4294967295), or a slimmer table (hukolearu slim).\n")

-- a line for other tools
unfoldable pub szs_text : List ℕ → List ℕ → List ℕ
szs_text status name = (bytes "% SZS status " ++ status) ++ ((bytes " for " ++ name) ++ bytes "\n")

-- a clause behind the answer: its name, and how often it was used
unfoldable pub behind_text : List ℕ → ℕ → List ℕ
behind_text name copies = (bytes "  " ++ name) ++ ((bytes " " ++ decimal_text copies) ++ bytes "\n")
