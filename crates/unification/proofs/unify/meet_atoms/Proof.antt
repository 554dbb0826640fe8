-- All arguments of two literals are left to be made equal.
use borrow.Author.Rules.{rules}
use native.Mathlib.Omega.{arith}
use Rattle.unification.proofs.Atoms.{atoms_inside}
use Rattle.unification.proofs.ThoroughAtoms.{all_remain}
use Rattle.unification.proofs.unify.meet_atoms.Statement.{statement}
use Rattle.unification.proofs.unify.meet_atoms.Tie as tie

pub meet_atoms_spec : {M : Type 1} → statement M
meet_atoms_spec =
    tie.close
    (tie.spec
    (λ c. search rules)
    (λ c κs. atoms_inside c.requires.0 c.requires.1)
    (λ c κs. search rules)
    (λ c. omega (arith, c.requires.1.left.made, c.requires.0.copies))
    (λ c. omega (arith, c.requires.1.right.made, c.requires.0.copies))
    (λ c κs. (c.args.work.now, all_remain c.requires.0 c.requires.1 c.word_at.ensures c.arity-count.ensures))
    (λ c. search rules)
    (λ c. c.meet_rest.ensures c.args.work.now (all_remain c.requires.0 c.requires.1 c.word_at.ensures c.arity-count.ensures)))
