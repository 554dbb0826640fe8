use mathlib.Core.Path.{sym, ◌∙◌}
use native.Mathlib.Omega.{arith}
use borrow.Author.Rules.{rules}
use Rattle.season.proofs.Memory.{words_of, table_long, own_counts, own_fits, own_begins}
use Rattle.season.proofs.put_all.Statement.{statement}
use Rattle.season.proofs.put_all.Tie as tie

trailer-requires : tie.Need-trailer-requires
trailer-requires c κs = (table_long _ c.requires.0, omega arith)

slice-aggregate-own : tie.Need-slice_bounds-own-end
slice-aggregate-own c = own_counts c.args.table.now c.requires.0 (c.wide.ensures ∙ c.trailer.ensures)

append-requires : tie.Need-append-requires
append-requires c κs =
    own_fits c.args.table.now c.requires.0 (c.wide.ensures ∙ c.trailer.ensures) c.filled-file.result (sym c.filled-file.ensures.1)

ask-all-requires : tie.Need-ask_all-requires
ask-all-requires c κs =
    (own_begins c.args.table.now c.requires.0 (c.wide.ensures ∙ c.trailer.ensures) c.filled-file.result (sym c.filled-file.ensures.1) (words_of _ c.shared_slice_known-1.given) c.append.ensures c.of_words-begun.ensures, c.requires.1, c.requires.2)

pub put_all_spec : {M : Type 1} → statement M
put_all_spec =
    tie.close
    (tie.spec
    (λ c κs. search rules)
    trailer-requires
    (λ c κs. search rules)
    slice-aggregate-own
    (λ c. search rules)
    append-requires
    (λ c κs. search rules)
    (λ c. search rules)
    ask-all-requires
    (λ c. search rules)
    (λ c. search rules)
    (λ c. search rules)
    (λ c. c.ask_all.ensures))
