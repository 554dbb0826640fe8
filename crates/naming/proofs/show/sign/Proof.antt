use borrow.Author.Rules.{rules}
use Rattle.naming.proofs.Showing.{sign_laws}
use Rattle.naming.proofs.show.sign.Statement.{statement}
use Rattle.naming.proofs.show.sign.Tie as tie

ruleset all = (rules, sign_laws)

-- src/show.rt:90:9
bytes-requires : tie.Need-bytes-requires
bytes-requires c κs = search rules

-- src/show.rt:90:9
same_length : tie.Need-shape_of-out-then-negative
same_length c = search rules

-- src/show.rt:90:9
returns : tie.Need-returns-then-negative
returns c = search all

-- src/show.rt:86:1
returns-2 : tie.Need-returns
returns-2 c = search all

pub sign_spec : {M : Type 1} → statement M
sign_spec = tie.close (tie.spec bytes-requires same_length returns returns-2)
