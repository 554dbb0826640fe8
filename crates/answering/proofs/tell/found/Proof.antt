use borrow.Author.Rules.{rules}
use Rattle.answering.proofs.Telling.{found_is}
use Rattle.answering.proofs.tell.found.Statement.{statement}
use Rattle.answering.proofs.tell.found.Tie as tie

ruleset all = (rules, found_is)

answer-page-requires : tie.Need-answer_page-a-requires
answer-page-requires c κs = search rules

grounds-requires : tie.Need-grounds-b-requires
grounds-requires c κs = search rules

lines-requires : tie.Need-lines-requires
lines-requires c κs = search rules

same_length : tie.Need-shape_of-out
same_length c = search rules

returns : tie.Need-returns
returns c = search all

pub found_spec : {M : Type 1} → statement M
found_spec =
    tie.close
    (tie.spec
    answer-page-requires
    grounds-requires
    lines-requires
    same_length
    returns)
