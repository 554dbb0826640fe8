-- What a text was expected to go on with where it goes wrong.
use Rattle.std.specs.Prelude.{cond, List, ℕ, zero, suc, ltb}
use Rattle.text.specs.Quoted.{bytes}
use Rattle.clausetext.specs.declared.judge.Want.{Want}
use Rattle.clausetext.specs.declared.judge.Want.TheVariants.{Clause, Opening, Name, AfterName, Role, AfterRole, Formula, Literal, Atom, Symbol, Term, Ended, Closing, Stop}
use Rattle.clausetext.specs.declared.judge.Mode.{Mode}
use Rattle.clausetext.specs.declared.judge.Mode.TheVariants.{Between, Comment, Word, Owed}

-- between the literals of a clause, or within a list of arguments
unfoldable pub symbol_text : ℕ → List ℕ
symbol_text zero = bytes "arguments in parentheses, `|` or `)`"
symbol_text (suc depth) = bytes "arguments in parentheses, `,` or `)`"

unfoldable pub ended_text : ℕ → List ℕ
ended_text zero = bytes "`|` or `)`"
ended_text (suc depth) = bytes "`,` or `)`"

unfoldable pub wanted_text : Want → List ℕ
wanted_text Clause = bytes "`cnf`, or the end of the text"
wanted_text Opening = bytes "`(`"
wanted_text Name = bytes "the clause's name, which begins with a small letter"
wanted_text AfterName = bytes "`,` after the clause's name"
wanted_text Role = bytes "a role: axiom, hypothesis or negated_conjecture"
wanted_text AfterRole = bytes "`,` after the role"
wanted_text Formula = bytes "`(`, `~` or a predicate, which begins with a small letter"
wanted_text (Literal p) = bytes "`~` or a predicate, which begins with a small letter"
wanted_text (Atom p) = bytes "a predicate, which begins with a small letter"
wanted_text (Symbol d p) = symbol_text d
wanted_text (Term d p) = bytes "a term: a variable with a capital letter, or a function or constant with a small one"
wanted_text (Ended d p) = ended_text d
wanted_text Closing = bytes "`)`"
wanted_text Stop = bytes "`.`"

-- the bytes of `cnf` and of the roles that are owed, by their place in "cnf.axiom.hypothesis.negated_conjecture."
unfoldable pub owed_text : ℕ → List ℕ
owed_text i =
    cond (ltb i 4) (bytes "`cnf` and then `(`")
    (cond (ltb i 10) (bytes "`axiom` and then `,`")
    (cond (ltb i 21) (bytes "`hypothesis` and then `,`") (bytes "`negated_conjecture` and then `,`")))

unfoldable pub expected_text : Want → Mode → List ℕ
expected_text w Between = wanted_text w
expected_text w Comment = wanted_text w
expected_text w Word = wanted_text w
expected_text w (Owed i) = owed_text i
