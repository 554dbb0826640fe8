-- What is said of a partner's proof: accepted; or the first step that is wrong, with its leaf and the literal that it is closed against, each as its
-- clause has it, by the clause's name and number, and under what the steps before have bound.
use Rattle.std.specs.Prelude.{Bool, true, false, cond, not, ◌&&◌, List, [], ◌++◌, ℕ, zero, suc, ◌+◌, eqb, ltb, take, drop, get_or, Option, Some, None}
use Rattle.words.specs.Fields.{sign_of, symbol_of, arity_of}
use Rattle.words.specs.Steps.{step_of}
use Rattle.words.specs.declared.Step.{Step}
use Rattle.words.specs.declared.Step.TheVariants.{Reduction, Extension, Restart, Malformed}
use Rattle.text.specs.Quoted.{bytes}
use Rattle.text.specs.Digits.{decimal_text}
use Rattle.naming.specs.Index.{clause_places}
use Rattle.written_proofs.specs.Steps.{names_of, steps_text}
use Rattle.leaves.specs.Leaves.{leftmost, ancestor, leaf_of}
use Rattle.leaves.specs.Shown.{Source, sizes_in, question_in, literal_word_in, literal_shown, name_cut}
use Rattle.leaves.specs.Bound.{copy_number, told_text}
use Rattle.leaves.specs.declared.leaf.Leaf.{Leaf}

-- accepted, in so many steps: an answer is definite if it has a single disjunct
unfoldable pub cost_text : ℕ → List ℕ
cost_text steps = (bytes " (steps " ++ decimal_text steps) ++ bytes ")\n"

unfoldable pub accepted_text : ℕ → ℕ → List ℕ
accepted_text disjuncts steps =
    cond (eqb disjuncts 1) (bytes "Accepted: a definite answer" ++ cost_text steps)
    ((bytes "Accepted: an answer with " ++ decimal_text disjuncts) ++ (bytes " alternatives, not definite" ++ cost_text steps))

unfoldable pub too_long_text : ℕ → List ℕ
too_long_text steps = bytes "Accepted: an answer too long to be shown, over 4096 words" ++ cost_text steps

-- where a copy was hung
unfoldable pub hung_text : ℕ → List ℕ
hung_text zero = bytes ", hung at the start\n"
hung_text (suc number) = (bytes ", hung by step " ++ decimal_text (suc number)) ++ bytes "\n"

-- a clause by its name and its number
unfoldable pub clause_shown : Source → ℕ → List ℕ
clause_shown S clause = name_cut S.text S.index clause ++ ((bytes " (clause " ++ decimal_text clause) ++ bytes ")")

-- a literal of a copy, after a label
unfoldable pub of_text : Source → ℕ → ℕ → ℕ → List ℕ
of_text S number clause literal = (bytes ", literal " ++ decimal_text literal) ++ (bytes " of " ++ (clause_shown S clause ++ hung_text number))

-- what its variables are bound to there
unfoldable pub there_text : Source → List ℕ → ℕ → ℕ → ℕ → List ℕ
there_text S steps number clause literal = told_text S (bytes "  there: ") (bytes "\n") (copy_number steps number) clause literal

unfoldable pub leaf_text : Source → List ℕ → List ℕ → Option Leaf → List ℕ
leaf_text S steps label (Some leaf) =
    label
    ++ (literal_shown S.text S.index S.file leaf.clause leaf.literal
    ++ (of_text S leaf.number leaf.clause leaf.literal ++ there_text S steps leaf.number leaf.clause leaf.literal))
leaf_text S steps label None = label ++ bytes "there is none\n"

-- a literal of a clause, if it has so many
unfoldable pub entered_leaf : List ℕ → ℕ → ℕ → ℕ → Option Leaf
entered_leaf sizes number clause literal = cond (ltb literal (get_or sizes clause 0)) (leaf_of number clause literal) None

-- what a step closes its leaf against: an ancestor, or the entered literal of the copy that it hangs
unfoldable pub partner : List ℕ → ℕ → List ℕ → ℕ → Step → Option Leaf
partner sizes question steps done (Reduction height) = ancestor sizes question steps height (leftmost sizes question steps done)
partner sizes question steps done (Extension i j) = entered_leaf sizes (suc done) i j
partner sizes question steps done Restart = None
partner sizes question steps done Malformed = None

unfoldable pub partner_label : Step → List ℕ
partner_label (Reduction height) = bytes "ancestor: "
partner_label (Extension i j) = bytes "clause: "
partner_label Restart = bytes "literal: "
partner_label Malformed = bytes "literal: "

-- 12, 13, 14 and 20, as the checker has them
unfoldable pub fault_text : ℕ → List ℕ
fault_text status =
    cond (eqb status 12) (bytes " is no step\n")
    (cond (eqb status 14) (bytes " is a clash: under what is bound so far the two literals have different symbols in one place\n")
    (cond (eqb status 20) (bytes " is a circle: under what is bound so far a variable would stand for a term that holds it\n") (bytes " is not possible\n")))

-- a fitting pair of words: opposite sign, same predicate and arity
unfoldable pub fitting : ℕ → ℕ → Bool
fitting v w = not (eqb (sign_of v) (sign_of w)) && eqb (symbol_of v) (symbol_of w) && eqb (arity_of v) (arity_of w)

-- why a step is not possible: no leaf, nothing to close it against, literals that do not fit, or else the limit
unfoldable pub pair_text : ℕ → Bool → List ℕ
pair_text limit false = bytes "The two literals do not fit: a pair has opposite signs, the same predicate and as many arguments.\n"
pair_text limit true = (bytes "The limit is reached: " ++ decimal_text limit) ++ bytes " clauses may be used.\n"

unfoldable pub against_text : List ℕ → ℕ → ℕ → ℕ → Option Leaf → List ℕ
against_text file limit clause literal (Some to) = pair_text limit (fitting (literal_word_in file clause literal) (literal_word_in file to.clause to.literal))
against_text file limit clause literal None = bytes "There is no such clause, literal or ancestor.\n"

unfoldable pub why_text : List ℕ → ℕ → Option Leaf → Option Leaf → List ℕ
why_text file limit (Some leaf) to = against_text file limit leaf.clause leaf.literal to
why_text file limit None to = bytes "All leaves are closed already.\n"

-- only for a step that is not possible
unfoldable pub reason_text : ℕ → List ℕ → ℕ → Option Leaf → Option Leaf → List ℕ
reason_text status file limit leaf to = cond (eqb status 13) (why_text file limit leaf to) []

-- a step's leaf and the literal that it is closed against
unfoldable pub pair_shown : Source → List ℕ → Step → Option Leaf → Option Leaf → List ℕ
pair_shown S steps s leaf to = leaf_text S steps (bytes "leaf: ") leaf ++ leaf_text S steps (partner_label s) to

-- the step itself, as a readable proof has it
unfoldable pub step_shown : List ℕ → List ℕ → List ℕ → ℕ → List ℕ
step_shown text index steps done = bytes "  " ++ steps_text (names_of text (clause_places index)) (take 1 (drop done steps))

unfoldable pub head_text : List ℕ → List ℕ → List ℕ → ℕ → ℕ → List ℕ
head_text text index steps status done =
    (bytes "Not accepted: step " ++ decimal_text (done + 1)) ++ (fault_text status ++ step_shown text index steps done)

unfoldable pub wrong_step : Source → List ℕ → ℕ → ℕ → ℕ → Step → Option Leaf → Option Leaf → List ℕ
wrong_step S steps limit status done s leaf to = head_text S.text S.index steps status done ++ (pair_shown S steps s leaf to ++ reason_text status S.file limit leaf to)

-- 15: the steps end with leaves open
unfoldable pub open_text : Source → List ℕ → Option Leaf → ℕ → List ℕ
open_text S steps leaf done =
    (bytes "Not accepted: leaves are open after the last step, " ++ decimal_text done)
    ++ (bytes "; the leftmost:\n" ++ leaf_text S steps (bytes "leaf: ") leaf)

unfoldable pub refused_with : Source → List ℕ → ℕ → List ℕ → ℕ → ℕ → ℕ → List ℕ
refused_with S sizes question steps limit status done =
    cond (eqb status 15) (open_text S steps (leftmost sizes question steps done) done)
    (wrong_step S steps limit status done (step_of (get_or steps done 0)) (leftmost sizes question steps done)
    (partner sizes question steps done (step_of (get_or steps done 0))))

-- of a file and a proof: the checker's status and place, which counts the steps that were taken
unfoldable pub refused_text : Source → List ℕ → ℕ → ℕ → ℕ → List ℕ
refused_text S steps limit status place = refused_with S (sizes_in S.file) (question_in S.file) steps limit status place
