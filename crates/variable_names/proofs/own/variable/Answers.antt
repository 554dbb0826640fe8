use Rattle.std.proofs.Common.{rules}
use Rattle.variable_names.proofs.Named.{said_variable, wrong_variable}
use Rattle.naming.proofs.Indexing.{fine_short, fine_said}
use Rattle.variable_names.proofs.own.variable.Goals as goal

ruleset all = (rules, said_variable, wrong_variable, fine_short, fine_said)

pub in_text-requires : goal.in_text-requires
in_text-requires c = search all

pub returns-in-Err : goal.returns-in-Err
returns-in-Err c = search all

pub returns-in-Ok : goal.returns-in-Ok
returns-in-Ok c = search all
