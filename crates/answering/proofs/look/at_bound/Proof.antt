use borrow.Author.Rules.{rules}
use Rattle.answering.proofs.look.at_bound.Statement.{statement}
use Rattle.answering.proofs.look.at_bound.Tie as tie
use Rattle.answering.proofs.Looking.{bound_laws}

ruleset all = (rules, bound_laws)

-- src/look.rt:30:46
sub-search : tie.Need-overflow_sub-budget
sub-search c = search rules

-- src/look.rt:30:9
search-requires : tie.Need-search-outcome-requires
search-requires c κs = search rules

-- src/look.rt:33:16
add-t9 : tie.Need-overflow_add-result
add-t9 c = search all

-- src/look.rt:18:1
same_length : tie.Need-shape_of-proof
same_length c = search rules

-- src/look.rt:18:1
same-length-2 : tie.Need-shape_of-answer
same-length-2 c = search rules

-- src/look.rt:18:1
same-length-3 : tie.Need-shape_of-work
same-length-3 c = search rules

-- src/look.rt:18:1
returns : tie.Need-returns
returns c = search all

pub at_bound_spec : {M : Type 1} → statement M
at_bound_spec =
    tie.close
    (tie.spec sub-search search-requires add-t9 same_length same-length-2 same-length-3 returns)
