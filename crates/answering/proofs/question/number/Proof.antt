use borrow.Author.Rules.{rules}
use Rattle.answering.proofs.question.number.Statement.{statement}
use Rattle.answering.proofs.question.number.Tie as tie
use Rattle.answering.proofs.Asked.{number_laws}

ruleset all = (rules, number_laws)

-- src/question.rt:13:15
sub_wide : tie.Need-overflow_sub-file
sub_wide c = search all

-- src/question.rt:13:10
mul_wide : tie.Need-offset_bounds-file-file
mul_wide c = search rules

-- src/question.rt:13:10
shared-slice-read-wide : tie.Need-bounds-file-file
shared-slice-read-wide c = search all

-- src/question.rt:13:5
wide-requires : tie.Need-wide-requires
wide-requires c κs = search rules

-- src/question.rt:13:5
sub-result : tie.Need-overflow_sub-result
sub-result c = search all

-- src/question.rt:9:1
returns : tie.Need-returns
returns c = search all

pub number_spec : {M : Type 1} → statement M
number_spec =
    tie.close (tie.spec sub_wide mul_wide shared-slice-read-wide wide-requires sub-result returns)
