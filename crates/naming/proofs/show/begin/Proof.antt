use borrow.Author.Rules.{rules}
use Rattle.naming.proofs.Showing.{literal_begun}
use Rattle.naming.proofs.show.begin.Statement.{statement}
use Rattle.naming.proofs.show.begin.Tie as tie

-- src/show.rt:100:9
joint-requires : tie.Need-joint-joined-requires
joint-requires c κs = search rules

-- src/show.rt:101:23
negative-requires : tie.Need-negative-requires
negative-requires c κs = search rules

-- src/show.rt:101:9
sign-requires : tie.Need-sign-signed-requires
sign-requires c κs = search rules

-- src/show.rt:102:52
symbol-requires : tie.Need-symbol-requires
symbol-requires c κs = search rules

-- src/show.rt:102:47
wide-requires : tie.Need-wide-requires
wide-requires c κs = search rules

-- src/show.rt:102:9
predicate-requires : tie.Need-predicate-name-requires
predicate-requires c κs = search rules

-- src/show.rt:103:5
bytes-requires : tie.Need-bytes-requires
bytes-requires c κs = search rules

-- src/show.rt:96:1
same_length : tie.Need-shape_of-out
same_length c = search rules

-- src/show.rt:96:1
returns : tie.Need-returns
returns c = let a = c.args in literal_begun a.text a.index.now a.atoms a.before a.w c.joint-joined.ensures c.negative.ensures c.sign-signed.ensures c.symbol.ensures c.wide.ensures c.predicate-name.ensures c.bytes.ensures

pub begin_spec : {M : Type 1} → statement M
begin_spec =
    tie.close
    (tie.spec
    joint-requires
    negative-requires
    sign-requires
    symbol-requires
    wide-requires
    predicate-requires
    bytes-requires
    same_length
    returns)
