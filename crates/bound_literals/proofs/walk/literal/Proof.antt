use borrow.Author.Rules.{rules}
use native.Mathlib.Omega.{arith}
use Rattle.bound_literals.proofs.Filling.{literal_next, literal_filled, literal_fits, literal_read, fill_inside}
use Rattle.bound_literals.proofs.walk.literal.Statement.{statement}
use Rattle.bound_literals.proofs.walk.literal.Tie as tie

ruleset all = (rules, literal_fits, literal_read)

pub literal_spec : {M : Type 1} → statement M
literal_spec =
    tie.close
    (tie.spec
    (λ c κs. search all)
    (λ c κs. search all)
    (λ c. search all)
    (λ c κs. search all)
    (λ c κs. (c.requires.0, literal_next c.requires.1 (omega (arith, c.word_at-word.type_inv, c.word_at-word.ensures)) c.word_at-word.ensures c.arity.ensures, fill_inside (omega arith) c.one-begun.ensures))
    (λ c. search all)
    (λ c. literal_filled c.requires.1 (omega (arith, c.word_at-word.type_inv, c.word_at-word.ensures)) c.word_at-word.ensures c.arity.ensures c.one-begun.ensures c.put_terms.ensures))
