use borrow.Author.Rules.{rules}
use Rattle.naming.proofs.Lookups.{no_variables, variables_there}
use Rattle.naming.proofs.lookup.variables.Statement.{statement}
use Rattle.naming.proofs.lookup.variables.Tie as tie

-- src/lookup.rt:61:16
sub-result : tie.Need-slice_bounds-result-count
sub-result c = search rules

-- src/lookup.rt:61:16
part-result-start : tie.Need-slice_bounds-result-start
part-result-start c = search rules

-- src/lookup.rt:61:16
part-result-end : tie.Need-slice_bounds-result-end
part-result-end c = search rules

-- src/lookup.rt:61:9
returns : tie.Need-returns-then-clause-ge512
returns c = no_variables c.args.index.now {clause = c.args.clause} (search rules)

-- src/lookup.rt:63:21
mul_at : tie.Need-overflow_mul-at
mul_at c = search rules

-- src/lookup.rt:63:14
add_at : tie.Need-overflow_add-at
add_at c = search rules

-- src/lookup.rt:64:16
add-result : tie.Need-overflow_add-result
add-result c = search rules

-- src/lookup.rt:64:5
mul-result : tie.Need-offset_bounds-index-at
mul-result c = search rules

-- src/lookup.rt:64:5
sub-result-2 : tie.Need-slice_bounds-result-count-2
sub-result-2 c = search rules

-- src/lookup.rt:64:5
part-result-start-2 : tie.Need-slice_bounds-result-start-2
part-result-start-2 c = search rules

-- src/lookup.rt:64:5
part-result-end-2 : tie.Need-slice_bounds-result-end-2
part-result-end-2 c = search rules

-- src/lookup.rt:56:1
returns-2 : tie.Need-returns
returns-2 c = variables_there c.args.index.now {clause = c.args.clause} (search rules)

pub variables_spec : {M : Type 1} → statement M
variables_spec =
    tie.close
    (tie.spec
    sub-result
    part-result-start
    part-result-end
    returns
    mul_at
    add_at
    add-result
    mul-result
    sub-result-2
    part-result-start-2
    part-result-end-2
    returns-2)
