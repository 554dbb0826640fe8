-- Where a text cannot go on, and whose question it asks, byte by byte as Judging has it: for showing a refusal. No promise rests on this.
use Rattle.std.specs.Prelude.{Option, Some, None, cond, List, [], ◌∷◌, ℕ, ◌+◌, eqb}
use Rattle.clausetext.specs.declared.judge.Want.{Want}
use Rattle.clausetext.specs.declared.judge.Want.TheVariants.{Clause, Opening, Name, AfterName, Role, AfterRole, Formula, Literal, Atom, Symbol, Term, Ended, Closing, Stop}
use Rattle.clausetext.specs.declared.judge.State.{State}
use Rattle.clausetext.specs.Judging.{step_of}

-- what comes after a step, or where it is stuck
abbrev pub after : {A : Type 0} → Option State → A → (State → A) → A
after (Some t) stuck rest = rest t
after None stuck rest = stuck

-- the state in which the bytes cannot go on, or in which they end
unfoldable pub stuck_in : State → List ℕ → State
stuck_in s [] = s
stuck_in s (c ∷ text) = after (step_of s c) s (λ t. stuck_in t text)

-- while a clause's name is wanted, its first byte may be here
abbrev pub name_begun : Want → ℕ → ℕ → ℕ
name_begun Clause at name = name
name_begun Opening at name = name
name_begun Name at name = at
name_begun AfterName at name = name
name_begun Role at name = name
name_begun AfterRole at name = name
name_begun Formula at name = name
name_begun (Literal p) at name = name
name_begun (Atom p) at name = name
name_begun (Symbol d p) at name = name
name_begun (Term d p) at name = name
name_begun (Ended d p) at name = name
name_begun Closing at name = name
name_begun Stop at name = name

-- where the name of the clause begins whose role makes so many questions
unfoldable pub question_from : ℕ → State → ℕ → ℕ → List ℕ → ℕ
question_from many s at name [] = at
question_from many s at name (c ∷ text) =
    after (step_of s c) at
    (λ t. cond (eqb t.questions many) (name_begun s.want at name)
    (question_from many t (at + 1) (name_begun s.want at name) text))
