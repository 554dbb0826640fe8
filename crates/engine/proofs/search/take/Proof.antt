-- A candidate is taken by its kind: the ancestor's literal, or the literal that is entered.
use borrow.Author.Rules.{rules}
use mathlib.Core.Path.{sym, subst}
use Rattle.engine.specs.Searching.{Allows, Takes}
use Rattle.engine.specs.declared.search.Move.{Move}
use Rattle.std.specs.Prelude.{Ok}
use Rattle.engine.proofs.Searching.Takes.{reduces, takes_reduction, enter_later, enter_begun, extends, takes_extension, restarts, takes_restart}
use Rattle.engine.proofs.search.take.Statement.{statement}
use Rattle.engine.proofs.search.take.Tie as tie

reduce-requires : tie.Need-reduce-requires
reduce-requires c κs =
    let s = c in
    reduces s.requires.0 s.requires.1 (subst (Allows s.args.file.now s.args.work.now s.args.task s.args.place) c.in-Reduce.is s.requires.2)

sub-offset : tie.Need-overflow_sub-offset
sub-offset c =
    let s = c in
    enter_later s.requires.0 s.requires.1 (subst (Allows s.args.file.now s.args.work.now s.args.task s.args.place) c.in-Enter.is s.requires.2)

sub-t16 : tie.Need-overflow_sub-scan
sub-t16 c =
    let s = c in
    enter_begun s.requires.0 s.requires.1 (subst (Allows s.args.file.now s.args.work.now s.args.task s.args.place) c.in-Enter.is s.requires.2)

extend-requires : tie.Need-extend-requires
extend-requires c κs =
    let s = c in
    extends s.requires.0 s.requires.1 (subst (Allows s.args.file.now s.args.work.now s.args.task s.args.place) c.in-Enter.is s.requires.2)

returns : tie.Need-returns-in-Reduce
returns c =
    let s = c in
    let e = c.in-Reduce.is in
    subst (λ (k : Move). Takes s.args.file.now s.args.work.now c.reduce.new.work s.args.task s.args.place k c.reduce.result) (sym e)
    (takes_reduction s.requires.0 s.requires.1 (subst (Allows s.args.file.now s.args.work.now s.args.task s.args.place) e s.requires.2) c.reduce.ensures)

returns-2 : tie.Need-returns-in-Enter
returns-2 c =
    let s = c in
    let e = c.in-Enter.is in
    subst (λ (k : Move). Takes s.args.file.now s.args.work.now c.extend.new.work s.args.task s.args.place k c.extend.result) (sym e)
    (takes_extension s.requires.0 s.requires.1 (subst (Allows s.args.file.now s.args.work.now s.args.task s.args.place) e s.requires.2) c.encode-step.ensures c.extend.ensures)

restart-requires : tie.Need-restart-requires
restart-requires c κs =
    let s = c in
    restarts s.requires.0 s.requires.1 (subst (Allows s.args.file.now s.args.work.now s.args.task s.args.place) c.in-Renew.is s.requires.2)

returns-3 : tie.Need-returns-in-Renew
returns-3 c =
    let s = c in
    let e = c.in-Renew.is in
    subst (λ (k : Move). Takes s.args.file.now s.args.work.now c.restart.new.work s.args.task s.args.place k (Ok c.restart.result)) (sym e)
    (takes_restart s.requires.0 s.requires.1 (subst (Allows s.args.file.now s.args.work.now s.args.task s.args.place) e s.requires.2) c.encode-step-in-Renew.ensures c.restart.ensures)

pub take_spec : {M : Type 1} → statement M
take_spec =
    tie.close
    (tie.spec
    (λ c. search rules)
    reduce-requires
    (λ c. search rules)
    sub-offset
    sub-t16
    (λ c κs. search rules)
    extend-requires
    (λ c. search rules)
    (λ c κs. search rules)
    restart-requires
    (λ c. search rules)
    returns
    (λ c. search rules)
    returns-2
    (λ c. search rules)
    returns-3)
