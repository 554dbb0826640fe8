use mathlib.Core.Path.{sym, ap}
use lib.Dec.{eqb}
use borrow.Author.Rules.{rules}
use Rattle.table.specs.declared.Judgement.{Judgement}
use Rattle.season.proofs.Memory.{alone_room, alone_judged}
use Rattle.season.proofs.ask.stands_alone.Statement.{statement}
use Rattle.season.proofs.ask.stands_alone.Tie as tie

slice-aggregate-judge : tie.Need-slice_bounds-judge-end
slice-aggregate-judge c =
    alone_room c.args.question.now c.filled-file.result c.requires (sym c.filled-file.ensures.1) c.append.ensures c.seal.ensures

returns : tie.Need-returns
returns c =
    ap (λ (j : Judgement). eqb j.status 0)
    (alone_judged c.args.question.now c.filled-file.result c.requires (sym c.filled-file.ensures.1) c.append.ensures c.seal.ensures c.judge-judged.ensures)

pub stands_alone_spec : {M : Type 1} → statement M
stands_alone_spec =
    tie.close
    (tie.spec
    (λ c κs. search rules)
    (λ c. search rules)
    (λ c κs. search rules)
    (λ c. search rules)
    (λ c κs. search rules)
    (λ c. search rules)
    (λ c. search rules)
    slice-aggregate-judge
    (λ c κs. search rules)
    returns)
