use borrow.Author.Rules.{rules}
use Rattle.hukolearu.proofs.CallsTold.{refuses, held_over, found_told, fit_writable}
use Rattle.hukolearu.proofs.calls.found.Statement.{statement}
use Rattle.hukolearu.proofs.calls.found.Tie as tie

pub found_spec : {M : Type 1} → statement M
found_spec =
    tie.close
    (tie.spec
    (λ c κs. search rules)
    (λ c κs. search rules)
    (λ c. search rules)
    (λ c. refuses (held_over c.fits.ensures _ _ _ (rw c.if-not-fits.true)) _ _ c.refused.ensures)
    (λ c κs. (c.fits.ensures.chose.good.size, c.requires.1, c.requires.2))
    (λ c κs. fit_writable _ c.fits.ensures (rw c.if-not-fits.false) c.requires.0)
    (λ c. search rules)
    (λ c. search rules)
    (λ c. search rules)
    (λ c. found_told c.fits.ensures _ _ _ c.requires.0 c.requires.1 (rw c.if-not-fits.false) c.granted.ensures c.copy_steps.ensures))
