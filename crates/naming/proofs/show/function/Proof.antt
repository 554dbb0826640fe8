use borrow.Author.Rules.{rules}
use Rattle.naming.proofs.Showing.{function_named}
use Rattle.naming.proofs.show.function.Statement.{statement}
use Rattle.naming.proofs.show.function.Tie as tie

ruleset all = (rules, function_named)

-- src/show.rt:110:46
wide-requires : tie.Need-wide-requires
wide-requires c κs = search rules

-- src/show.rt:110:9
function-requires : tie.Need-function-name-requires
function-requires c κs = search rules

-- src/show.rt:111:5
bytes-requires : tie.Need-bytes-requires
bytes-requires c κs = search rules

-- src/show.rt:106:1
same_length : tie.Need-shape_of-out
same_length c = search rules

-- src/show.rt:106:1
returns : tie.Need-returns
returns c = search all

pub function_spec : {M : Type 1} → statement M
function_spec =
    tie.close (tie.spec wide-requires function-requires bytes-requires same_length returns)
