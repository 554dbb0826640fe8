-- The copy is the file of what education sees; where the file is refused there is none, and collections' call gives the refusal.
use borrow.Author.Rules.{rules}
use lib.Seq.{length-take-le}
use mathlib.Core.Path.{refl, sym, ap, ◌∙◌}
use native.Mathlib.Omega.{arith}
use Rattle.rules.specs.Setting.{profile_of}
use Rattle.hukolearu.specs.Calls.{Given, check_with, at_front}
use Rattle.education.proofs.Telling.{copy_refused, copy_short, check_refused, check_copy}
use Rattle.education.proofs.check_by.Statement.{statement}
use Rattle.education.proofs.check_by.Tie as tie

returns : tie.Need-returns-then-length-eq0
returns c =
    let a = c.args in
    let asked = check_with a.file.now a.conditions.bound a.offered.now a.answer.now a.work.now in
    let e = check_refused (profile_of a.conditions.restarts) asked (copy_refused a.file.now c.copy_seen-length.ensures.0 c.if-length-eq0.true) in
    let t = c.check_by.ensures in
    (t.0 ∙ ap (λ (g : Given). g.outcome) (sym e), (t.1.0 ∙ ap (λ (g : Given). at_front g.answer a.answer.now) (sym e), t.1.1))

array-share-prefix-copy : tie.Need-slice_bounds-copy-end
array-share-prefix-copy c =
    let seen = c.copy_seen-length in
    omega (arith, copy_short c.args.file.now c.shared_slice_known-1.given seen.ensures.0 c.if-length-eq0.false, seen.auto.copy, c.file_buffer-copy.ensures)

slice-aggregate : tie.Need-slice_bounds-check_by-end
slice-aggregate c =
    let seen = c.copy_seen-length in
    sym (length-take-le seen.result seen.new.copy (omega (arith, copy_short c.args.file.now c.shared_slice_known-1.given seen.ensures.0 c.if-length-eq0.false, seen.auto.copy, c.file_buffer-copy.ensures)))

returns-2 : tie.Need-returns
returns-2 c =
    let a = c.args in
    let asked = check_with a.file.now a.conditions.bound a.offered.now a.answer.now a.work.now in
    let seen = c.copy_seen-length in
    let e = check_copy a.file.now c.shared_slice_known-1.given seen.ensures.0 c.if-length-eq0.false c.file_buffer-copy.result seen.ensures.1 (profile_of a.conditions.restarts) asked refl in
    let t = c.check_by-2.ensures in
    (t.0 ∙ ap (λ (g : Given). g.outcome) (sym e), (t.1.0 ∙ ap (λ (g : Given). at_front g.answer a.answer.now) (sym e), t.1.1))

pub check_by_spec : {M : Type 1} → statement M
check_by_spec =
    tie.close
    (tie.spec
    (λ c κs. search rules)
    (λ c. search rules)
    (λ c κs. search rules)
    (λ c κs. search rules)
    (λ c. search rules)
    (λ c. search rules)
    returns
    array-share-prefix-copy
    slice-aggregate
    (λ c κs. search rules)
    (λ c. search rules)
    (λ c. search rules)
    returns-2)
