use mathlib.Core.Path.{◌∙◌}
use native.Mathlib.Omega.{arith}
use borrow.Author.Rules.{rules}
use Rattle.season.proofs.Memory.{words_of, table_long, question_room, trailer_room, question_put}
use Rattle.season.proofs.ask.put.Statement.{statement}
use Rattle.season.proofs.ask.put.Tie as tie

trailer-requires : tie.Need-trailer-own-requires
trailer-requires c κs = (table_long _ c.requires.0.judged, omega arith)

trailer-requires-2 : tie.Need-trailer-requires
trailer-requires-2 c κs = (table_long _ c.requires.0.judged, omega arith)

append-requires : tie.Need-append-requires
append-requires c κs =
    question_room c.args.table.now c.args.file.now (words_of _ c.shared_slice_known-1.given) c.requires.0 c.args.question.now c.requires.1
    (c.wide-at.ensures ∙ c.trailer-own.ensures)

append-requires-2 : tie.Need-append-requires-2
append-requires-2 c κs =
    trailer_room c.args.table.now c.args.file.now (words_of _ c.shared_slice_known-1.given) c.requires.0 c.args.question.now c.requires.1
    (c.wide-at.ensures ∙ c.trailer-own.ensures) c.trailer-own.ensures c.trailer.ensures c.mixed_on.ensures c.append.ensures

returns : tie.Need-returns
returns c =
    question_put c.args.table.now c.args.file.now (words_of _ c.shared_slice_known-1.given) c.requires.0 c.args.question.now c.requires.1
    (c.wide-at.ensures ∙ c.trailer-own.ensures) c.trailer-own.ensures c.trailer.ensures c.mixed_on.ensures c.append.ensures
    c.append-2.ensures

pub put_spec : {M : Type 1} → statement M
put_spec =
    tie.close
    (tie.spec
    trailer-requires
    (λ c κs. search rules)
    (λ c. search rules)
    trailer-requires-2
    (λ c κs. search rules)
    (λ c. search rules)
    append-requires
    (λ c. search rules)
    append-requires-2
    (λ c. search rules)
    (λ c. search rules)
    returns)
