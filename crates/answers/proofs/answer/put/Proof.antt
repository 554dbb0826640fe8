-- One word is stored, and nothing is numbered.
use borrow.Author.Rules.{rules}
use mathlib.Core.Path.{refl}
use Rattle.answers.proofs.Writing.{wrote_word}
use Rattle.answers.proofs.answer.put.Statement.{statement}
use Rattle.answers.proofs.answer.put.Tie as tie

pub put_spec : {M : Type 1} → statement M
put_spec = tie.close (tie.spec (λ c. search rules) (λ c. search rules) (λ c. search rules) (λ c. search rules) (λ c. λ m. wrote_word refl refl))
