-- The result of `ask` in plain words, in the text's own names, with the line for other tools.
use Rattle.std.specs.Prelude.{Bool, true, false, cond, List, [], ◌∷◌, ◌++◌, map, ℕ, eqb, leb, length, take, get_or}
use Rattle.words.specs.Steps.{step_of}
use Rattle.words.specs.declared.Step.{Step}
use Rattle.table.specs.Syntax.{Table}
use Rattle.table.specs.Encode.{clause_words}
use Rattle.clausetext.specs.Syntax.{Clause}
use Rattle.names.specs.Numbers.{Name}
use Rattle.tptp.specs.Said.{predicates, functions, table_said}
use Rattle.text.specs.Quoted.{bytes}
use Rattle.naming.specs.Clauses.{file_names}
use Rattle.naming.specs.Shown.{Names, shown}
use Rattle.tuples.specs.Tuples.{answers_text}
use Rattle.listing.specs.Behind.{Listed, listed}
use Rattle.written_proofs.specs.Steps.{steps_text}
use Rattle.hukolearu.specs.Status as Status
use Rattle.assistant.specs.Results.{none_text, ran_out_text, too_long_text, szs_text, behind_text}
use Rattle.assistant.specs.Results as Lines
use Rattle.answering.specs.Looking.{LookedUp}
use Rattle.answering.specs.declared.Options.{Options}

-- the table that was asked, the names that its words are shown in, and the names of its clauses
pub record Wording : Type 0 where
  pub table : Table
  pub names : Names
  pub clauses : List Name

-- in the names of a text's clauses; a variable of an answer has no name there, and is shown as `X` and its number
abbrev pub said_in : List Clause → Wording
said_in cs = record {
  table = table_said cs;
  names = record { functions = functions cs; predicates = predicates cs; variables = [] };
  clauses = file_names cs;
}

-- a text of over 262,144 bytes is cut there, and marked
unfoldable pub paged : List ℕ → List ℕ
paged text = cond (leb (length text) 262144) text (take 262144 text ++ bytes " ...\n")

-- the first line, and the answer: a line for each disjunct
unfoldable pub answer_text : Wording → ℕ → ℕ → ℕ → List ℕ → List ℕ
answer_text w bound tries disjuncts words =
    Lines.found_text disjuncts bound tries ++ (shown w.names (length w.table.question.literals) 0 [] words ++ bytes "\n")

-- a line for each clause behind the proof, by its name, with the number of its copies, as order 7 lists them
unfoldable pub behind_lines : List Name → List Listed → List ℕ
behind_lines ns [] = []
behind_lines ns (l ∷ ls) = behind_text (get_or ns l.number []) l.copies ++ behind_lines ns ls

unfoldable pub clauses_text : List Name → Table → List Step → List ℕ
clauses_text ns t steps = bytes "Clauses behind it, and how often each was used:\n" ++ behind_lines ns (listed t steps)

-- the proof, where it is wanted
unfoldable pub proof_text : Bool → List Name → List ℕ → List ℕ
proof_text true ns steps = bytes "Proof:\n" ++ paged (steps_text ns steps)
proof_text false ns steps = []

-- what the answer rests on
unfoldable pub grounds_text : Bool → List Name → Table → List ℕ → List ℕ
grounds_text wanted ns t steps = clauses_text ns t (map step_of steps) ++ proof_text wanted ns steps

-- the lines for other tools: the status, and the answers as tuples
unfoldable pub tuples_line : List ℕ → Wording → ℕ → List ℕ → List ℕ
tuples_line name w disjuncts words = answers_text name w.names disjuncts (clause_words w.table.question) words

unfoldable pub lines_text : List ℕ → Wording → ℕ → List ℕ → List ℕ
lines_text name w disjuncts words = szs_text (bytes "Unsatisfiable") name ++ paged (tuples_line name w disjuncts words)

unfoldable pub found_text : Bool → List ℕ → Wording → ℕ → ℕ → ℕ → List ℕ → List ℕ → List ℕ
found_text wanted name w bound tries disjuncts steps words =
    paged (answer_text w bound tries disjuncts words)
    ++ (grounds_text wanted w.clauses w.table steps ++ lines_text name w disjuncts words)

-- no answer to show: none up to the limit, ran out, or an answer that is too long
unfoldable pub end_text : ℕ → List ℕ → ℕ → ℕ → ℕ → List ℕ
end_text limit name status bound tries =
    cond (eqb status Status.none_found) (none_text limit tries ++ szs_text (bytes "GaveUp") name)
    (cond (eqb status Status.ran_out) (ran_out_text bound tries ++ szs_text (bytes "ResourceOut") name)
    (cond (eqb status Status.answer_too_long) (too_long_text bound tries ++ szs_text (bytes "Unsatisfiable") name) []))

unfoldable pub result_text : Options → List ℕ → Wording → LookedUp → List ℕ
result_text o name w l =
    cond (eqb l.given.outcome.status Status.done)
    (found_text o.proof name w l.bound l.tries l.given.outcome.disjuncts l.given.proof l.given.answer)
    (end_text o.limit name l.given.outcome.status l.bound l.tries)
