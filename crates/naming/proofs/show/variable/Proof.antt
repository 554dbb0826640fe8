use borrow.Author.Rules.{rules}
use Rattle.naming.proofs.Showing.{variable_laws}
use Rattle.naming.proofs.show.variable.Statement.{statement}
use Rattle.naming.proofs.show.variable.Tie as tie

ruleset all = (rules, variable_laws)

-- src/show.rt:63:46
wide-requires : tie.Need-wide-requires
wide-requires c κs = search rules

-- src/show.rt:63:9
name-requires : tie.Need-name-name-requires
name-requires c κs = search rules

-- src/show.rt:65:9
field-requires : tie.Need-field-requires
field-requires c κs = search rules

-- src/show.rt:65:9
same_length : tie.Need-shape_of-out-then-name-eq0
same_length c = search rules

-- src/show.rt:65:9
returns : tie.Need-returns-then-name-eq0
returns c = search all

-- src/show.rt:67:5
bytes-requires : tie.Need-bytes-requires
bytes-requires c κs = search rules

-- src/show.rt:60:1
same-length-2 : tie.Need-shape_of-out
same-length-2 c = search rules

-- src/show.rt:60:1
returns-2 : tie.Need-returns
returns-2 c = search all

pub variable_spec : {M : Type 1} → statement M
variable_spec =
    tie.close
    (tie.spec
    wide-requires
    name-requires
    field-requires
    same_length
    returns
    bytes-requires
    same-length-2
    returns-2)
