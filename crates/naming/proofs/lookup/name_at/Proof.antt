use borrow.Author.Rules.{rules}
use Rattle.naming.proofs.Lookups.{name_laws, name_end_fits}
use Rattle.naming.proofs.lookup.name_at.Statement.{statement}
use Rattle.naming.proofs.lookup.name_at.Tie as tie

ruleset all = (rules, name_laws)

-- src/lookup.rt:17:16
sub-result : tie.Need-slice_bounds-result-count
sub-result c = search rules

-- src/lookup.rt:17:16
part-result-start : tie.Need-slice_bounds-result-start
part-result-start c = search rules

-- src/lookup.rt:17:16
part-result-end : tie.Need-slice_bounds-result-end
part-result-end c = search rules

-- src/lookup.rt:17:9
returns : tie.Need-returns-then-text-at
returns c = search all

-- src/lookup.rt:19:20
bytes-requires : tie.Need-bytes-requires
bytes-requires c κs = search rules

-- src/lookup.rt:19:15
add-end : tie.Need-overflow_add-end
add-end c = name_end_fits c.args.text.now (search rules) c.bytes.ensures (search rules)

-- src/lookup.rt:20:5
sub-result-2 : tie.Need-slice_bounds-result-count-2
sub-result-2 c = search rules

-- src/lookup.rt:20:5
part-result-start-2 : tie.Need-slice_bounds-result-start-2
part-result-start-2 c = search rules

-- src/lookup.rt:20:5
part-result-end-2 : tie.Need-slice_bounds-result-end-2
part-result-end-2 c = search all

-- src/lookup.rt:13:1
returns-2 : tie.Need-returns
returns-2 c = search all

pub name_at_spec : {M : Type 1} → statement M
name_at_spec =
    tie.close
    (tie.spec
    sub-result
    part-result-start
    part-result-end
    returns
    bytes-requires
    add-end
    sub-result-2
    part-result-start-2
    part-result-end-2
    returns-2)
