use borrow.Author.Rules.{rules}
use Rattle.answering.proofs.question.literals.Statement.{statement}
use Rattle.answering.proofs.question.literals.Tie as tie
use Rattle.answering.proofs.Asked.{literal_laws}

ruleset all = (rules, literal_laws)

-- src/question.rt:21:24
sub_wide : tie.Need-overflow_sub-file
sub_wide c = search all

-- src/question.rt:21:19
mul_wide : tie.Need-offset_bounds-file-file
mul_wide c = search rules

-- src/question.rt:21:19
shared-slice-read-wide : tie.Need-bounds-file-file
shared-slice-read-wide c = search all

-- src/question.rt:21:9
wide-requires : tie.Need-wide-at-requires
wide-requires c κs = search rules

-- src/question.rt:22:27
mul-literals : tie.Need-offset_bounds-file-at
mul-literals c = search (all, c.shared_slice_known-1.given)

-- src/question.rt:22:27
shared-slice-read-literals : tie.Need-bounds-file-at
shared-slice-read-literals c = search (all, c.shared_slice_known-1.given)

-- src/question.rt:22:10
literals-requires : tie.Need-literals-requires
literals-requires c κs = search rules

-- src/question.rt:22:5
wide-requires-2 : tie.Need-wide-requires
wide-requires-2 c κs = search rules

-- src/question.rt:17:1
returns : tie.Need-returns
returns c = search (all, c.shared_slice_known-1.given)

pub literals_spec : {M : Type 1} → statement M
literals_spec =
    tie.close
    (tie.spec
    sub_wide
    mul_wide
    shared-slice-read-wide
    wide-requires
    mul-literals
    shared-slice-read-literals
    literals-requires
    wide-requires-2
    returns)
