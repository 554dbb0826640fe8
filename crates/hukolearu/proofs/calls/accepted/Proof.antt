use borrow.Author.Rules.{rules}
use mathlib.Core.Path.{refl}
use Rattle.hukolearu.proofs.CallsTold.{refuses, held_over, fit_told, fit_writable}
use Rattle.hukolearu.proofs.calls.accepted.Statement.{statement}
use Rattle.hukolearu.proofs.calls.accepted.Tie as tie

pub accepted_spec : {M : Type 1} → statement M
accepted_spec =
    tie.close
    (tie.spec
    (λ c κs. search rules)
    (λ c κs. search rules)
    (λ c. search rules)
    (λ c. refuses (held_over c.fits.ensures _ _ _ (rw c.if-not-fits.true)) _ _ c.refused.ensures)
    (λ c κs. fit_writable _ c.fits.ensures (rw c.if-not-fits.false) c.requires)
    (λ c. search rules)
    (λ c. search rules)
    (λ c. fit_told c.fits.ensures _ _ _ _ (rw c.if-not-fits.false) c.granted.ensures refl))
