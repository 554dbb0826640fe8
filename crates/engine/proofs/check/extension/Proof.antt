use borrow.Author.Rules.{rules}
use Rattle.engine.proofs.Performed.{Small}
use Rattle.engine.proofs.Checker.Steps.{small_clause, extend_closed, extend_over, extend_missing, extend_later, extend_reads, extend_unfit, extend_allowed, extend_judged}
use Rattle.engine.proofs.check.extension.Statement.{statement}
use Rattle.engine.proofs.check.extension.Tie as tie

ruleset all = (rules, extend_closed, extend_over)

pub extension_spec : {M : Type 1} → statement M
extension_spec =
    tie.close
    (tie.spec
    (λ c. search all)
    (λ c. search rules)
    (λ c. search all)
    (λ c κs. let s = c in (s.requires.1, s.requires.4, small_clause s.args.conditions s.args.word s.requires.3))
    (λ c. search rules)
    (λ c. search rules)
    (λ c. search rules)
    (λ c. let s = c in extend_missing s.requires.0 s.args.conditions s.args.word s.requires.3 c.if-place-eq0.false c.entered-found.result c.entered-found.ensures c.in_default.is)
    (λ c κs. search rules)
    (λ c. search rules)
    (λ c. let s = c in extend_reads s.requires.0 s.args.conditions s.args.word s.requires.3 c.if-place-eq0.false c.entered-found.result c.entered-found.ensures c.in-Some.is c.wide.ensures)
    (λ c κs. search rules)
    (λ c. search rules)
    (λ c. let k = c in let s = k in let small : Small s.args.file.now = λ i. (k.shared_slice_known-1.given i).fits in extend_unfit s.requires.0 s.args.conditions s.args.word s.requires.3 c.if-place-eq0.false c.entered-found.result c.entered-found.ensures c.in-Some.is small c.wide.ensures c.wanted.ensures c.if-file-wide.true)
    (λ c. let s = c in extend_later s.requires.0 s.args.conditions s.args.word s.requires.3 c.if-place-eq0.false c.entered-found.result c.entered-found.ensures c.in-Some.is)
    (λ c κs. let k = c in let s = k in let small : Small s.args.file.now = λ i. (k.shared_slice_known-1.given i).fits in extend_allowed s.requires.0 s.args.conditions s.args.word s.requires.3 c.if-place-eq0.false c.entered-found.result c.entered-found.ensures c.in-Some.is small c.wide.ensures c.wanted.ensures c.if-conditions-work.false c.if-file-wide.false s.requires.2)
    (λ c κs. search rules)
    (λ c. search rules)
    (λ c. let k = c in let s = k in let small : Small s.args.file.now = λ i. (k.shared_slice_known-1.given i).fits in extend_judged s.requires.0 s.args.conditions s.args.word s.requires.3 c.if-place-eq0.false c.entered-found.result c.entered-found.ensures c.in-Some.is small c.wide.ensures c.wanted.ensures c.if-conditions-work.false c.if-file-wide.false s.requires.5 c.extend.ensures c.by_meeting.ensures))
