use borrow.Author.Rules.{rules}
use mathlib.Core.List.{[]}
use Rattle.naming.specs.Shown.{names_in}
use Rattle.tuples.proofs.Walking.{line_parts}
use Rattle.tuples.proofs.line.Goals as goal

pub returns : goal.returns
returns c =
    let a = c.args in
    line_parts a.name.now (names_in a.text.now a.index.now []) a.disjuncts a.question.now a.own.now c.bytes-a.ensures c.tuples-b.ensures c.bytes-c.ensures c.bytes-d.ensures c.byte.ensures
