use borrow.Author.Rules.{rules}
use Rattle.hukolearu.proofs.DoorLaws.{work_untouched, work_cleared}
use Rattle.hukolearu.proofs.door.leave.Statement.{statement}
use Rattle.hukolearu.proofs.door.leave.Tie as tie

ruleset all = (rules, work_untouched, work_cleared)

pub leave_spec : {M : Type 1} → statement M
leave_spec = tie.close (tie.spec (λ c. search all) (λ c κs. search all) (λ c. search all) (λ c. search all))
