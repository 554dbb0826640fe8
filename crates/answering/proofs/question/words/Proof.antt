use borrow.Author.Rules.{rules}
use Rattle.answering.proofs.question.words.Statement.{statement}
use Rattle.answering.proofs.question.words.Tie as tie
use Rattle.answering.proofs.Asked.{word_laws}

ruleset all = (rules, word_laws)

sub_wide : tie.Need-overflow_sub-file
sub_wide c = search all

mul_wide : tie.Need-offset_bounds-file-file
mul_wide c = search rules

shared-slice-read-wide : tie.Need-bounds-file-file
shared-slice-read-wide c = search all

wide-requires : tie.Need-wide-at-requires
wide-requires c κs = search rules

mul-following : tie.Need-offset_bounds-file-at
mul-following c = search (all, c.shared_slice_known-1.given)

shared-slice-read-following : tie.Need-bounds-file-at
shared-slice-read-following c = search (all, c.shared_slice_known-1.given)

following-requires : tie.Need-following-requires
following-requires c κs = search rules

wide-requires-2 : tie.Need-wide-size-requires
wide-requires-2 c κs = search rules

add-size : tie.Need-overflow_add-size
add-size c = search (all, c.shared_slice_known-1.given)

rest-requires : tie.Need-rest-requires
rest-requires c κs = search rules

front-requires : tie.Need-front-requires
front-requires c κs = search rules

returns : tie.Need-returns
returns c = search (all, c.shared_slice_known-1.given)

pub words_spec : {M : Type 1} → statement M
words_spec =
    tie.close
    (tie.spec
    sub_wide
    mul_wide
    shared-slice-read-wide
    wide-requires
    mul-following
    shared-slice-read-following
    following-requires
    wide-requires-2
    add-size
    rest-requires
    front-requires
    returns)
