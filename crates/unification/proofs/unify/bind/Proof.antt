-- The term is a single word, or the variable occurs in it, or not: then it is bound.
use borrow.Author.Rules.{rules}
use Rattle.unification.proofs.Walk.{inside}
use Rattle.unification.proofs.Push.{bind_small, bind_room, bind_reference}
use Rattle.unification.proofs.ThoroughBind.{bind_checking, bind_circle, bind_made, bind_lone}
use Rattle.unification.proofs.unify.bind.Statement.{statement}
use Rattle.unification.proofs.unify.bind.Tie as tie

pub bind_spec : {M : Type 1} → statement M
bind_spec =
    tie.close
    (tie.spec
    (λ c κs. let s = c in inside s.requires.0 s.requires.2.points)
    (λ c κs. search rules)
    (λ c κs. let s = c in (s.requires.0.size, bind_room s.requires.0 s.requires.2, bind_small s.requires.0 s.requires.2, bind_reference s.requires.0 s.requires.2))
    (λ c. search rules)
    (λ c. let s = c in bind_lone s.requires.0 s.requires.2 s.requires.3 c.word_at.ensures c.owed_after.ensures c.if-owed_after-eq0.true s.requires.1 c.push.ensures)
    (λ c κs. let s = c in (s.requires.0, bind_checking s.requires.0 s.requires.2 s.requires.1, s.requires.2.points))
    (λ c. search rules)
    (λ c. search rules)
    (λ c. let s = c in bind_circle s.requires.0 s.requires.2 c.occurs.ensures c.if-occurs.true)
    (λ c κs. let s = c in (s.requires.0.size, bind_room s.requires.0 s.requires.2, bind_small s.requires.0 s.requires.2, bind_reference s.requires.0 s.requires.2))
    (λ c. search rules)
    (λ c. search rules)
    (λ c. let s = c in bind_made s.requires.0 s.requires.2 c.occurs.ensures c.if-occurs.false c.push-2.ensures))
