use borrow.Author.Rules.{rules}
use Rattle.results.proofs.Lines.{line_laws, season_is}
use Rattle.results.proofs.counts.season.Statement.{statement}
use Rattle.results.proofs.counts.season.Tie as tie

ruleset all = (rules, line_laws)

pub season_spec : {M : Type 1} → statement M
season_spec =
    tie.close
    (tie.spec
    (λ c κs. search all)
    (λ c κs. search all)
    (λ c κs. search all)
    (λ c κs. search all)
    (λ c κs. search all)
    (λ c κs. search all)
    (λ c κs. search all)
    (λ c κs. search all)
    (λ c κs. search all)
    (λ c. search all)
    (λ c.
    let a = c.args in
    season_is a.r a.proof.now a.answer.now a.work.now c.found_counts-a.ensures c.other_counts-b.ensures c.last_counts-c.ensures c.written-steps.ensures c.written-words.ensures c.front.ensures c.front-2.ensures c.work_kept-intact.ensures c.lists.ensures))
