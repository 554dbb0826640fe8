-- What was bound is taken back, and the arguments are made equal, pair by pair. Notes of full length never run out.
use borrow.Author.Rules.{rules}
use borrow.Fn.Kinds.{In}
use borrow.Fn.PlainCycle.{Measures, is, falls, and}
use mathlib.Core.Path.{◌∙◌}
use native.Mathlib.Omega.{arith}
use Prim.Native.Nat.{ℕ, ◌<◌}
use Rattle.unification.specs.Places.{thorough_words}
use Rattle.unification.proofs.ThoroughAtoms.{full_quiet, full_awake, full_met, again_arguments, again_lefts, again_rights, again_met}
use Rattle.unification.proofs.unify.meet_thoroughly.Reads as own
use Rattle.unification.proofs.unify.meet_thoroughly.Kinds as kinds
use Rattle.unification.proofs.unify.+meet_thoroughly.Lts-meet_thoroughly as lts
use Rattle.unification.proofs.memory.word_at.Reads as word_at
use Rattle.unification.proofs.unify.meet_all.Reads as meet_all
use Rattle.unification.proofs.unify.undo.Reads as undo
use Rattle.words.proofs.fields.arity.Reads as arity
use Rattle.unification.proofs.unify.+meet_thoroughly.{statement}
use Rattle.unification.proofs.unify.+meet_thoroughly.Tie.{close}

abbrev μ : Measures 2 kinds.ps ℕ
μ κs a = 0

abbrev at : ℕ → In 2 kinds.ps
at t = and 2 kinds.ps (is 2 kinds.ps μ t) own.Pre

abbrev below : ℕ → In 2 kinds.ps
below t = and 2 kinds.ps (falls 2 kinds.ps ◌<◌ μ t) own.Pre

abbrev told : ℕ → lts.Claims
told t = (undo.Asked, undo.Learnt, word_at.Asked, word_at.Learnt, arity.Asked, arity.Learnt, meet_all.Asked, meet_all.Learnt, below t, own.Post)

pub +meet_thoroughly_spec : {M : Type 1} → statement M
+meet_thoroughly_spec =
    close
    μ
    (λ t. lts.spec
    (told t)
    (at t)
    own.Post
    (λ c κs. let s = c in let b = s.requires.1.1 in ((s.args.file.now, b.grown.good), omega (arith, b.count, b.grown.more)))
    (λ c. search rules)
    (λ c κs. (let b = c.requires.1.1 in again_arguments b (c.undo.ensures _ b.grown.good)).inside)
    (λ c κs. search rules)
    (λ c. search rules)
    (λ c. let b = c.requires.1.1 in omega (arith, b.alike.left.made, b.good.copies))
    (λ c. let b = c.requires.1.1 in omega (arith, b.alike.right.made, b.good.copies))
    (λ c κs. let b = c.requires.1.1 in let u = c.undo.ensures _ b.grown.good in (u.good, full_quiet thorough_words (omega arith), again_lefts b u c.word_at.ensures c.arity-count.ensures, again_rights b u c.word_at.ensures c.arity-count.ensures))
    (λ c. search rules)
    (λ c κs. absurd (omega (arith, full_awake thorough_words (omega arith) c.meet_all-met.ensures, c.if-notes-eq0.true)))
    (λ c. absurd (omega (arith, full_awake thorough_words (omega arith) c.meet_all-met.ensures, c.if-notes-eq0.true)))
    (λ c. absurd (omega (arith, full_awake thorough_words (omega arith) c.meet_all-met.ensures, c.if-notes-eq0.true)))
    (λ c. c.meet_all-met.auto.work ∙ c.undo.auto.work)
    (λ c m b. again_met b (c.undo.ensures _ b.grown.good) c.word_at.ensures c.arity-count.ensures (full_met thorough_words (omega arith) c.meet_all-met.ensures)))
