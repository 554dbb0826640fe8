use mathlib.Core.Path.{refl}
use borrow.Author.Rules.{rules}
use Rattle.naming.proofs.Showing.{Closing, close_size, close_next, close_laws}
use Rattle.naming.proofs.show.leave.Statement.{statement}
use Rattle.naming.proofs.show.leave.Tie as tie

ruleset all = (rules, close_laws)

abbrev invariant-loop : tie.invariant-loop-lists
invariant-loop left₀ depth out₀ from lists₀ at₀ left out lists at = Closing left₀ depth out₀ from left out lists at

abbrev decreases-loop : tie.decreases-loop-lists
decreases-loop left₀ depth out₀ from lists₀ at₀ left out lists at = lists

-- src/show.rt:27:5
loop-holds : tie.Need-loop-lists-init invariant-loop decreases-loop
loop-holds c = search all

-- src/show.rt:28:25
sub_more : tie.Need-overflow_sub-more invariant-loop decreases-loop
sub_more c = search all

-- src/show.rt:28:20
mul-more : tie.Need-offset_bounds-left-lists invariant-loop decreases-loop
mul-more c = search all

-- src/show.rt:28:20
slice-read-more : tie.Need-bounds-left-lists invariant-loop decreases-loop
slice-read-more c = search all

-- src/show.rt:30:31
sub-left : tie.Need-overflow_sub-left invariant-loop decreases-loop
sub-left c = search all

-- src/show.rt:30:18
sub-left-2 : tie.Need-overflow_sub-left-then-more-gt0 invariant-loop decreases-loop
sub-left-2 c = search all

-- src/show.rt:30:13
mul_left : tie.Need-offset_bounds-left-lists-then-more-gt0 invariant-loop decreases-loop
mul_left c = search all

-- src/show.rt:30:13
slice-write-left : tie.Need-bounds-left-lists-then-more-gt0 invariant-loop decreases-loop
slice-write-left c = search all

-- src/show.rt:31:17
byte-requires : tie.Need-byte-byte-requires invariant-loop decreases-loop
byte-requires c κs = search all

-- src/show.rt:32:13
same_length : tie.Need-shape_of-left-then-more-gt0 invariant-loop decreases-loop
same_length c = close_size c.loop-lists.invariant _ _

-- src/show.rt:32:13
same-length-2 : tie.Need-shape_of-out-then-more-gt0 invariant-loop decreases-loop
same-length-2 c = search all

-- src/show.rt:32:13
returns : tie.Need-returns-then-more-gt0 invariant-loop decreases-loop
returns c = search all

-- src/show.rt:34:9
byte-requires-2 : tie.Need-byte-at-requires invariant-loop decreases-loop
byte-requires-2 c κs = search all

-- src/show.rt:35:9
sub-lists : tie.Need-overflow_sub-lists invariant-loop decreases-loop
sub-lists c = search all

-- src/show.rt:27:5
loop-less : tie.Need-loop-lists-smaller invariant-loop decreases-loop
loop-less c = search all

-- src/show.rt:27:5
loop-again : tie.Need-loop-lists-preserved invariant-loop decreases-loop
loop-again c = close_next c.loop-lists.invariant c.loop-lists-test.true refl c.if-more-gt0.false c.byte-at.ensures

-- src/show.rt:21:1
same-length-3 : tie.Need-shape_of-left invariant-loop decreases-loop
same-length-3 c = search all

-- src/show.rt:21:1
same-length-4 : tie.Need-shape_of-out invariant-loop decreases-loop
same-length-4 c = search all

-- src/show.rt:21:1
returns-2 : tie.Need-returns invariant-loop decreases-loop
returns-2 c = search all

pub leave_spec : {M : Type 1} → statement M
leave_spec =
    tie.close
    (tie.spec
    invariant-loop
    decreases-loop
    loop-holds
    sub_more
    mul-more
    slice-read-more
    sub-left
    sub-left-2
    mul_left
    slice-write-left
    byte-requires
    same_length
    same-length-2
    returns
    byte-requires-2
    sub-lists
    loop-less
    loop-again
    same-length-3
    same-length-4
    returns-2)
