use mathlib.Core.Bool.{not}
use mathlib.Core.Path.{ap, sym}
use native.Mathlib.Omega.{arith}
use lib.ListN.{length}
use lib.Seq.{length-take-le}
use borrow.Author.Rules.{rules}
use Rattle.season.proofs.Memory.{words_of, table_long}
use Rattle.season.proofs.Runs.{same_run, nothing_ran, not_asked, asked, file_short, file_passed, run_told}
use Rattle.season.proofs.ask.ask.Statement.{statement}
use Rattle.season.proofs.ask.ask.Tie as tie

admits-requires : tie.Need-admits-requires
admits-requires c κs = c.requires.0.judged

returns : tie.Need-returns-then-not-admits
returns c =
    let a = c.args in
    (same_run (not_asked a.table.now a.question.now a.bound c.admits.ensures (length a.answer.now) a.budget (ap not c.if-not-admits.true)) (nothing_ran a.proof.now a.answer.now), c.requires.0)

put-requires : tie.Need-put-words-requires
put-requires c κs =
    let a = c.args in
    (c.requires.0, file_short a.table.now a.question.now a.bound c.admits.ensures (ap not c.if-not-admits.false) (words_of _ c.shared_slice_known-1.given) c.requires.0.judged (words_of _ c.shared_slice_known-2-1.given))

trailer-requires : tie.Need-trailer-at-requires
trailer-requires c κs = (table_long _ c.requires.0.judged, omega arith)

slice-reshare-prefix-searched : tie.Need-slice_bounds-searched-end
slice-reshare-prefix-searched c = omega (arith, c.put-words.ensures.within, c.put-words.ensures.tabled.long)

slice-aggregate-searched : tie.Need-slice_bounds-searched-end-2
slice-aggregate-searched c = sym (length-take-le _ c.put-words.new.file (omega (arith, c.put-words.ensures.within, c.put-words.ensures.tabled.long)))

searched-requires : tie.Need-searched-outcome-requires
searched-requires c κs =
    let a = c.args in
    (file_passed a.table.now a.question.now a.bound c.admits.ensures (ap not c.if-not-admits.false) (words_of _ c.shared_slice_known-1.given) c.requires.0.judged (words_of _ c.shared_slice_known-2-1.given) c.put-words.ensures.front c.trailer-at.ensures c.requires.1.room, c.requires.1.enough)

returns-2 : tie.Need-returns
returns-2 c =
    let a = c.args in
    (same_run (asked a.table.now a.question.now a.bound c.admits.ensures (length a.answer.now) a.budget (ap not c.if-not-admits.false)) (run_told (length a.answer.now) a.bound a.budget c.put-words.ensures.front c.searched-outcome.ensures c.result_of.ensures), c.put-words.ensures.tabled)

pub ask_spec : {M : Type 1} → statement M
ask_spec =
    tie.close
    (tie.spec
    admits-requires
    returns
    put-requires
    trailer-requires
    slice-reshare-prefix-searched
    slice-aggregate-searched
    searched-requires
    (λ c κs. search rules)
    (λ c. search rules)
    (λ c. search rules)
    (λ c. search rules)
    (λ c. search rules)
    returns-2)
