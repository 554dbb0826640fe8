use Rattle.hukolearu.proofs.CallsTold.{accepted_answerable, refuses, tells, refused_given, accepted_given}
use Rattle.hukolearu.proofs.calls.checked.Goals as goal

pub accepted-requires : goal.accepted-requires
accepted-requires c = accepted_answerable _ _ _ _ _ c.run.ensures c.requires c.in-Ok.is

pub returns-in-Err : goal.returns-in-Err
returns-in-Err c = refuses (refused_given _ _ _ _ _ c.run.ensures _ c.in-Err.is c.status.ensures) _ _ c.refused.ensures

pub returns-in-Ok : goal.returns-in-Ok
returns-in-Ok c = tells (accepted_given _ _ _ _ _ c.run.ensures _ c.requires c.in-Ok.is) c.accepted.ensures
