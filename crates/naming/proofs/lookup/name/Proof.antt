use borrow.Author.Rules.{rules}
use Rattle.naming.proofs.Lookups.{name_laws}
use Rattle.naming.proofs.lookup.name.Statement.{statement}
use Rattle.naming.proofs.lookup.name.Tie as tie

ruleset all = (rules, name_laws)

-- src/lookup.rt:28:16
sub-result : tie.Need-slice_bounds-result-count
sub-result c = search rules

-- src/lookup.rt:28:16
part-result-start : tie.Need-slice_bounds-result-start
part-result-start c = search rules

-- src/lookup.rt:28:16
part-result-end : tie.Need-slice_bounds-result-end
part-result-end c = search rules

-- src/lookup.rt:28:9
returns : tie.Need-returns-then-places-number
returns c = search all

-- src/lookup.rt:30:24
mul_wide : tie.Need-offset_bounds-places-number
mul_wide c = search rules

-- src/lookup.rt:30:24
shared-slice-read-wide : tie.Need-bounds-places-number
shared-slice-read-wide c = search rules

-- src/lookup.rt:30:19
wide-requires : tie.Need-wide-requires
wide-requires c κs = search rules

-- src/lookup.rt:30:5
name-at-requires : tie.Need-name_at-requires
name-at-requires c κs = search rules

-- src/lookup.rt:24:1
returns-2 : tie.Need-returns
returns-2 c = search all

pub name_spec : {M : Type 1} → statement M
name_spec =
    tie.close
    (tie.spec
    sub-result
    part-result-start
    part-result-end
    returns
    mul_wide
    shared-slice-read-wide
    wide-requires
    name-at-requires
    returns-2)
