use Rattle.reports.proofs.Lining.{put_empty, put_wrong, put_said}
use Rattle.reports.proofs.records.put_record.Goals as goal

pub returns-in-Ok-Some : goal.returns-in-Ok-Some
returns-in-Ok-Some c = put_said c.in-Ok-Some.is (rw c.in-Ok-Some.is at c.in-Ok-Some.field-0-is) c.word-a.ensures c.word-b.ensures c.word.ensures

pub returns-in-Ok-None : goal.returns-in-Ok-None
returns-in-Ok-None c = put_empty c.in-Ok-None.is (rw c.in-Ok-None.is at c.in-Ok-None.field-0-is)

pub returns-in-Err : goal.returns-in-Err
returns-in-Err c = put_wrong c.in-Err.is
