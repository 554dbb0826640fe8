use native.Mathlib.Omega.{arith}
use Rattle.desk.proofs.Writing.{write_room, three_more, write_next, write_done}
use Rattle.desk.proofs.file.put_records.Goals as goal

pub bounds-records-i-in-loop-i : goal.bounds-records-i-in-loop-i
bounds-records-i-in-loop-i c = omega (arith, three_more c.loop-i.invariant (omega arith))

pub bounds-records-i-in-loop-i-2 : goal.bounds-records-i-in-loop-i-2
bounds-records-i-in-loop-i-2 c = omega (arith, three_more c.loop-i.invariant (omega arith))

pub put_record-at-requires : goal.put_record-at-requires
put_record-at-requires c = write_room c.loop-i.invariant (omega arith)

pub loop-i-preserved : goal.loop-i-preserved
loop-i-preserved c = write_next c.loop-i.invariant (omega arith) (rw c.slot_of.ensures at c.put_record-at.ensures)

pub returns : goal.returns
returns c = write_done c.loop-i.invariant (omega arith)
