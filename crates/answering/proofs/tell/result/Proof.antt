use borrow.Author.Rules.{rules}
use Rattle.answering.proofs.tell.result.Statement.{statement}
use Rattle.answering.proofs.tell.result.Tie as tie
use Rattle.answering.proofs.Telling.{told_laws}

ruleset all = (rules, told_laws)

-- src/tell.rt:161:9
found-in-requires : tie.Need-found_in-requires
found-in-requires c κs = search rules

-- src/tell.rt:161:9
same_length : tie.Need-shape_of-out-then-l-eq-DONE
same_length c = search rules

-- src/tell.rt:161:9
returns : tie.Need-returns-then-l-eq-DONE
returns c = search all

-- src/tell.rt:163:5
ended-requires : tie.Need-ended-requires
ended-requires c κs = search rules

-- src/tell.rt:146:1
same-length-2 : tie.Need-shape_of-out
same-length-2 c = search rules

-- src/tell.rt:146:1
returns-2 : tie.Need-returns
returns-2 c = search all

pub result_spec : {M : Type 1} → statement M
result_spec =
    tie.close
    (tie.spec found-in-requires same_length returns ended-requires same-length-2 returns-2)
