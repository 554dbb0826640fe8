use borrow.Author.Rules.{rules}
use Rattle.std.proofs.Common.{◌≤◌, length}
use Rattle.variable_names.specs.Finding.{first_of}
use Rattle.variable_names.proofs.Walks.{first_found, first_nowhere}
use Rattle.variable_names.proofs.Named.{among_found, among_laws}
use Rattle.variable_names.proofs.own.among.Goals as goal

ruleset all = (rules, among_laws)

pub returns-then-number-gt16 : goal.returns-then-number-gt16
returns-then-number-gt16 c = search all

pub returns-in-Some : goal.returns-in-Some
returns-in-Some c =
    let at = first_found c.args.wanted c.number.new.words c.in-Some.ensures in
    among_found c.args.text c.args.marks.now c.args.places.now c.args.wanted c.put_kinds.ensures c.number.ensures c.if-number-gt16.false
    c.args.words.now c.requires.0 c.requires.1 c.requires.2 at c.name.ensures

pub returns-in-None : goal.returns-in-None
returns-in-None c =
    let far : length c.number.new.words ≤ first_of c.args.wanted c.number.new.words = first_nowhere c.args.wanted c.number.new.words c.in-None.ensures in
    search all
