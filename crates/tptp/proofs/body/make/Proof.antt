use Rattle.tptp.proofs.Making.{functions_over, predicates_over, predicates_even, all_numbered, make_laws}
use borrow.Author.Rules.{rules}
use Rattle.tptp.proofs.body.make.Statement.{statement}
use Rattle.tptp.proofs.body.make.Tie as tie

ruleset all = (rules, make_laws)

shapes-requires : tie.Need-shapes-requires
shapes-requires c κs = search all

same_length : tie.Need-shape_of-words-then-not-shapes
same_length c = search all

returns : tie.Need-returns-then-not-shapes
returns c = search all

number-requires : tie.Need-number-requires
number-requires c κs = search all

same-length-2 : tie.Need-shape_of-words-then-number-gt4096
same-length-2 c = search all

returns-2 : tie.Need-returns-then-number-gt4096
returns-2 c =
    functions_over _ c.requires.0 c.requires.1 c.requires.2 c.shapes.ensures c.if-not-shapes.false c.number.ensures (search rules)

number-requires-2 : tie.Need-number-requires-2
number-requires-2 c κs = search all

same-length-3 : tie.Need-shape_of-words-then-number-gt4096-2
same-length-3 c = search all

returns-3 : tie.Need-returns-then-number-gt4096-2
returns-3 c =
    predicates_over _ c.requires.0 c.requires.1 c.requires.2 c.shapes.ensures c.if-not-shapes.false c.number.ensures (search rules) c.number-2.ensures (search rules)

complete-requires : tie.Need-complete-requires
complete-requires c κs = (
  predicates_even _ c.requires.0 c.requires.1 c.requires.2 c.shapes.ensures c.if-not-shapes.false c.number.ensures (search rules) c.number-2.ensures (search rules),
  all_numbered _ c.requires.0 c.requires.1 c.requires.2 c.shapes.ensures c.if-not-shapes.false c.number.ensures (search rules) c.number-2.ensures (search rules),
)

same-length-4 : tie.Need-shape_of-words
same-length-4 c = search all

returns-4 : tie.Need-returns
returns-4 c = search all

pub make_spec : {M : Type 1} → statement M
make_spec =
    tie.close
    (tie.spec
    shapes-requires
    same_length
    returns
    number-requires
    same-length-2
    returns-2
    number-requires-2
    same-length-3
    returns-3
    complete-requires
    same-length-4
    returns-4)
