use borrow.Author.Rules.{rules}
use Rattle.answering.proofs.Telling.{grounds_are}
use Rattle.answering.proofs.tell.grounds.Statement.{statement}
use Rattle.answering.proofs.tell.grounds.Tie as tie

ruleset all = (rules, grounds_are)

rest-requires : tie.Need-rest-requires
rest-requires c κs = search rules

front-requires : tie.Need-front-places-requires
front-requires c κs = search rules

clauses-requires : tie.Need-clauses-next-requires
clauses-requires c κs = search rules

proof-requires : tie.Need-proof-requires
proof-requires c κs = search rules

same_length : tie.Need-shape_of-out
same_length c = search rules

returns : tie.Need-returns
returns c = search all

pub grounds_spec : {M : Type 1} → statement M
grounds_spec =
    tie.close
    (tie.spec
    rest-requires
    front-requires
    clauses-requires
    proof-requires
    same_length
    returns)
