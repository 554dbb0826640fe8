use borrow.Author.Rules.{rules}
use Rattle.tptp.proofs.Clauses.{Completing, over_variables, completing_falls, completing_on, complete_laws}
use Prim.Native.Nat.{◌-◌}
use lib.ListN.{length}
use Rattle.tptp.proofs.body.complete.Statement.{statement}
use Rattle.tptp.proofs.body.complete.Tie as tie

ruleset all = (rules, complete_laws)

abbrev invariant-loop : tie.invariant-loop-at
invariant-loop text places words₀ at₀ words at = Completing text places words at

abbrev decreases-loop : tie.decreases-loop-at
decreases-loop text places words₀ at₀ words at = length words - at

loop-holds : tie.Need-loop-at-init invariant-loop decreases-loop
loop-holds c = search all

mul-w : tie.Need-offset_bounds-words-at invariant-loop decreases-loop
mul-w c = search all

slice-read-w : tie.Need-bounds-words-at invariant-loop decreases-loop
slice-read-w c = search all

add-clause-end : tie.Need-overflow_add-at invariant-loop decreases-loop
add-clause-end c = search all

clause-end-requires : tie.Need-clause_end-end-requires invariant-loop decreases-loop
clause-end-requires c κs = search all

add-following : tie.Need-overflow_add-following invariant-loop decreases-loop
add-following c = search all

sub-following : tie.Need-overflow_sub-following invariant-loop decreases-loop
sub-following c = search all

same_length : tie.Need-shape_of-words-then-following-gt255 invariant-loop decreases-loop
same_length c = search all

returns : tie.Need-returns-then-following-gt255 invariant-loop decreases-loop
returns c = search all

add-number-variables : tie.Need-overflow_add-at-in-loop-at invariant-loop decreases-loop
add-number-variables c = search all

number-variables-requires : tie.Need-number_variables-many-requires invariant-loop decreases-loop
number-variables-requires c κs = search all

same-length-2 : tie.Need-shape_of-words-then-many-gt16 invariant-loop decreases-loop
same-length-2 c = search all

returns-2 : tie.Need-returns-then-many-gt16 invariant-loop decreases-loop
returns-2 c =
    over_variables c.loop-at.invariant (search rules) c.clause_end-end.ensures c.number_variables-many.ensures (search rules)

counted-requires : tie.Need-counted-requires invariant-loop decreases-loop
counted-requires c κs = search all

mul_words : tie.Need-offset_bounds-words-at-in-loop-at invariant-loop decreases-loop
mul_words c = search all

slice-write-words : tie.Need-bounds-words-at-in-loop-at invariant-loop decreases-loop
slice-write-words c = search all

loop-less : tie.Need-loop-at-smaller invariant-loop decreases-loop
loop-less c =
    completing_falls c.loop-at.invariant (search rules) c.clause_end-end.ensures c.number_variables-many.ensures c.counted.result

loop-again : tie.Need-loop-at-preserved invariant-loop decreases-loop
loop-again c =
    completing_on c.loop-at.invariant (search rules) c.clause_end-end.ensures c.number_variables-many.ensures (search rules) (search rules) c.counted.ensures

same-length-3 : tie.Need-shape_of-words invariant-loop decreases-loop
same-length-3 c = search all

returns-3 : tie.Need-returns invariant-loop decreases-loop
returns-3 c = search all

pub complete_spec : {M : Type 1} → statement M
complete_spec =
    tie.close
    (tie.spec
    invariant-loop
    decreases-loop
    loop-holds
    mul-w
    slice-read-w
    add-clause-end
    clause-end-requires
    add-following
    sub-following
    same_length
    returns
    add-number-variables
    number-variables-requires
    same-length-2
    returns-2
    counted-requires
    mul_words
    slice-write-words
    loop-less
    loop-again
    same-length-3
    returns-3)
