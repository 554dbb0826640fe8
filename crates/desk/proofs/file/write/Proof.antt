use native.Mathlib.Omega.{arith}
use Rattle.desk.proofs.Writing.{room_for_question, room_for_trailer, body_short, file_written}
use borrow.Author.Rules.{rules}
use Rattle.desk.proofs.file.write.Statement.{statement}
use Rattle.desk.proofs.file.write.Tie as tie

pub write_spec : {M : Type 1} → statement M
write_spec =
    tie.close
    (tie.spec
    (λ c κs. search rules)
    (λ c κs. room_for_question c.args.slot c.requires c.put_records-question.ensures)
    (λ c. search rules)
    (λ c κs. room_for_trailer c.args.slot c.requires c.put_records-question.ensures c.put_question-body.ensures)
    (λ c. omega (arith, body_short c.args.slot c.requires c.put_records-question.ensures c.put_question-body.ensures))
    (λ c. search rules)
    (λ c. file_written c.args.slot c.requires c.put_records-question.ensures c.put_question-body.ensures c.seal.ensures))
