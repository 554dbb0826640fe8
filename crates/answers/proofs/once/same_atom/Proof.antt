-- The atoms are made equal and what was bound for it is taken back.
use borrow.Author.Rules.{rules}
use Rattle.answers.proofs.Repeats.{atoms_apart, atoms_bound, atoms_same}
use Rattle.answers.proofs.once.same_atom.Statement.{statement}
use Rattle.answers.proofs.once.same_atom.Tie as tie

pub same_atom_spec : {M : Type 1} → statement M
same_atom_spec =
    tie.close
    (tie.spec
    (λ c. search rules)
    (λ c κs. search rules)
    (λ c. search rules)
    (λ c κs. search rules)
    (λ c. search rules)
    (λ c. search rules)
    (λ c. search rules)
    (λ c. let entry = c in atoms_apart entry.requires.0 entry.requires.1 c.meet_atoms-met.ensures (c.undo.ensures _ c.meet_atoms-met.ensures.grown.good) c.in_default.is)
    (λ c. search rules)
    (λ c. let entry = c in atoms_bound entry.requires.0 entry.requires.1 c.meet_atoms-met.ensures (c.undo.ensures _ c.meet_atoms-met.ensures.grown.good) c.in-Ok.is c.if-bound-kept.true)
    (λ c. search rules)
    (λ c. let entry = c in atoms_same entry.requires.0 entry.requires.1 c.meet_atoms-met.ensures (c.undo.ensures _ c.meet_atoms-met.ensures.grown.good) c.in-Ok.is c.if-bound-kept.false))
