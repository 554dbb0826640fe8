-- The pairs that are left are made equal; where that takes too long, it is done thoroughly from the first pair on.
use borrow.Author.Rules.{rules}
use mathlib.Core.Path.{refl}
use native.Mathlib.Omega.{arith}
use Rattle.unification.proofs.ThoroughAtoms.{brief_quiet, brief_met, remaining_began, remaining_met}
use Rattle.unification.proofs.unify.meet_rest.Statement.{statement}
use Rattle.unification.proofs.unify.meet_rest.Tie as tie

pub meet_rest_spec : {M : Type 1} → statement M
meet_rest_spec =
    tie.close
    (tie.spec
    (λ c. search rules)
    (λ c κs. let b = c.requires.1 in (b.began.grown.good, brief_quiet refl (omega arith), b.lefts, b.rights))
    (λ c. search rules)
    (λ c. search rules)
    (λ c m b. remaining_met b (brief_met c.meet_all-met.ensures c.if-notes-ne0.true))
    (λ c κs. (c.requires.0, remaining_began c.requires.1 c.meet_all-met.ensures.grown))
    (λ c. search rules)
    (λ c m b. c.meet_thoroughly.ensures m (remaining_began b c.meet_all-met.ensures.grown)))
