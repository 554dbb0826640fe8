use Rattle.std.proofs.Common.{◌∙◌, arith}
use Rattle.requests.proofs.DeskRecords.{no_day, no_house, slot_missing, slot_long, slot_none, slot_read}
use Rattle.requests.proofs.records.RecordListed.read.Goals as goal

pub returns-in_err-day : goal.returns-in_err-day
returns-in_err-day c = c.from_residual.ensures ∙ no_day c.args.piece.now c.in_err-day.ensures

pub returns-in_err-house : goal.returns-in_err-house
returns-in_err-house c = c.from_residual-in_err-house.ensures ∙ no_house c.args.piece.now c.in_ok-day.ensures c.in_err-house.ensures

pub returns-in_default : goal.returns-in_default
returns-in_default c =
    slot_missing c.args.piece.now c.in_ok-day.ensures c.in_ok-house.ensures c.rest.ensures c.in_default.len_below

pub returns-in_default-2 : goal.returns-in_default-2
returns-in_default-2 c =
    slot_long c.args.piece.now c.in_ok-day.ensures c.in_ok-house.ensures c.rest.ensures (omega (arith, c.in_default.len_at_least))

pub returns-in_err-slot : goal.returns-in_err-slot
returns-in_err-slot c =
    c.from_residual-in_err-slot.ensures
    ∙ slot_none c.args.piece.now c.in_ok-day.ensures c.in_ok-house.ensures c.rest.ensures (omega (arith, c.in-len1.len_at_least, c.in-len1.len_below)) c.in_err-slot.ensures

pub returns : goal.returns
returns c =
    slot_read c.args.piece.now c.in_ok-day.ensures c.in_ok-house.ensures c.rest.ensures (omega (arith, c.in-len1.len_at_least, c.in-len1.len_below)) c.in_ok-slot.ensures
