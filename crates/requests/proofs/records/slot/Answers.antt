use Rattle.std.proofs.Common.{rules}
use Rattle.requests.proofs.DeskRecords.{slot_m, slot_e, slot_x, slot_other, no_slot}
use Rattle.requests.proofs.records.slot.Goals as goal

pub returns-in-109 : goal.returns-in-109
returns-in-109 c = slot_m c.args.c c.in-109.is

pub returns-in-101 : goal.returns-in-101
returns-in-101 c = slot_e c.args.c c.in-101.is

pub returns-in-120 : goal.returns-in-120
returns-in-120 c = slot_x c.args.c c.in-120.is

pub returns-in-63 : goal.returns-in-63
returns-in-63 c = slot_other c.args.c c.in-63.is

pub returns-in_default : goal.returns-in_default
returns-in_default c = no_slot c.args.c (search rules) (search rules) (search rules) (search rules)
