use mathlib.Core.List.{[]}
use native.Mathlib.Omega.{arith}
use borrow.Author.Rules.{rules}
use Rattle.naming.specs.Shown.{names_in}
use Rattle.tuples.proofs.Walking.{walk_other, walk_value, walk_laws}
use Rattle.tuples.proofs.disjunct.Goals as goal

ruleset all = (rules, walk_laws)

pub loop-q-init : goal.loop-q-init
loop-q-init c = search all

pub loop-q-preserved-then-not-first_use : goal.loop-q-preserved-then-not-first_use
loop-q-preserved-then-not-first_use c =
    let a = c.args in
    walk_other (names_in a.text.now a.index.now []) a.question.now a.own.now a.from a.out.now a.start c.loop-q.invariant (omega arith)
    c.rest-left.ensures c.width-size.ensures c.onward-at.ensures c.first_use.ensures c.if-not-first_use.true

pub loop-q-preserved : goal.loop-q-preserved
loop-q-preserved c =
    let a = c.args in
    walk_value (names_in a.text.now a.index.now []) a.question.now a.own.now a.from a.out.now a.start c.loop-q.invariant (omega arith)
    c.rest-left.ensures c.width-size.ensures c.onward-at.ensures c.first_use.ensures c.if-not-first_use.false
    c.front.ensures c.term-byte.ensures

pub returns : goal.returns
returns c = search all
