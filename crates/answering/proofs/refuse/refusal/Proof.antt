use borrow.Author.Rules.{rules}
use Rattle.answering.proofs.refuse.refusal.Statement.{statement}
use Rattle.answering.proofs.refuse.refusal.Tie as tie
use Rattle.answering.proofs.Refusing.{refusal_laws}

ruleset all = (rules, refusal_laws)

-- src/refuse.rt:26:52
wide-requires : tie.Need-wide-requires
wide-requires c κs = search rules

-- src/refuse.rt:26:9
wrong-requires : tie.Need-wrong-requires
wrong-requires c κs = search rules

-- src/refuse.rt:26:9
same_length : tie.Need-shape_of-out-then-read-eq17
same_length c = search rules

-- src/refuse.rt:26:9
returns : tie.Need-returns-then-read-eq17
returns c = search all

-- src/refuse.rt:29:54
questions-requires : tie.Need-questions-requires
questions-requires c κs = search rules

-- src/refuse.rt:29:9
unasked-requires : tie.Need-unasked-requires
unasked-requires c κs = search rules

-- src/refuse.rt:29:9
same-length-2 : tie.Need-shape_of-out-then-read-eq18
same-length-2 c = search rules

-- src/refuse.rt:29:9
returns-2 : tie.Need-returns-then-read-eq18
returns-2 c = search all

-- src/refuse.rt:32:9
positive-requires : tie.Need-positive-requires
positive-requires c κs = search rules

-- src/refuse.rt:32:9
same-length-3 : tie.Need-shape_of-out-then-read-eq9
same-length-3 c = search rules

-- src/refuse.rt:32:9
returns-3 : tie.Need-returns-then-read-eq9
returns-3 c = search all

-- src/refuse.rt:34:5
over-requires : tie.Need-over-requires
over-requires c κs = search rules

-- src/refuse.rt:22:1
same-length-4 : tie.Need-shape_of-out
same-length-4 c = search rules

-- src/refuse.rt:22:1
returns-4 : tie.Need-returns
returns-4 c = search all

pub refusal_spec : {M : Type 1} → statement M
refusal_spec =
    tie.close
    (tie.spec
    wide-requires
    wrong-requires
    same_length
    returns
    questions-requires
    unasked-requires
    same-length-2
    returns-2
    positive-requires
    same-length-3
    returns-3
    over-requires
    same-length-4
    returns-4)
