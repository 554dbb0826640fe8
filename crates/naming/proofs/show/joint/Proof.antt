use borrow.Author.Rules.{rules}
use Rattle.naming.proofs.Showing.{joint_laws}
use Rattle.naming.proofs.show.joint.Statement.{statement}
use Rattle.naming.proofs.show.joint.Tie as tie

ruleset all = (rules, joint_laws)

-- src/show.rt:75:9
returns : tie.Need-returns-then-before-eq0
returns c = search all

-- src/show.rt:78:9
bytes-requires : tie.Need-bytes-requires
bytes-requires c κs = search rules

-- src/show.rt:78:9
same_length : tie.Need-shape_of-out-then-atoms-eq0
same_length c = search rules

-- src/show.rt:78:9
returns-2 : tie.Need-returns-then-atoms-eq0
returns-2 c = search all

-- src/show.rt:80:8
rem-if3 : tie.Need-nonzero_rem-before
rem-if3 c = search rules

-- src/show.rt:81:9
bytes-requires-2 : tie.Need-bytes-requires-then-before-atoms-eq0
bytes-requires-2 c κs = search rules

-- src/show.rt:81:9
same-length-2 : tie.Need-shape_of-out-then-before-atoms-eq0
same-length-2 c = search rules

-- src/show.rt:81:9
returns-3 : tie.Need-returns-then-before-atoms-eq0
returns-3 c = search all

-- src/show.rt:83:5
bytes-requires-3 : tie.Need-bytes-requires-2
bytes-requires-3 c κs = search rules

-- src/show.rt:71:1
same-length-3 : tie.Need-shape_of-out
same-length-3 c = search rules

-- src/show.rt:71:1
returns-4 : tie.Need-returns
returns-4 c = search all

pub joint_spec : {M : Type 1} → statement M
joint_spec =
    tie.close
    (tie.spec
    returns
    bytes-requires
    same_length
    returns-2
    rem-if3
    bytes-requires-2
    same-length-2
    returns-3
    bytes-requires-3
    same-length-3
    returns-4)
