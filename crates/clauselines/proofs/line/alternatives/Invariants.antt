use Rattle.std.proofs.Common.{◌-◌, drop}
use Rattle.table.specs.Decode.{literals_from}
use Rattle.clauselines.specs.Lines.{alternatives_text}
use Rattle.clauselines.proofs.Clauses.{Owed}
use Rattle.clauselines.proofs.line.alternatives.Given as goal

abbrev pub invariant-loop : goal.invariant-loop
invariant-loop l =
    Owed l.own l.reached.word (l.many - l.counter) l.fn.out l.from (alternatives_text (literals_from (drop l.at l.own))) l.out l.reached.byte
