-- A variable is looked for at each word of a term, and through the variable there into what it is bound to, which is lighter.
use borrow.Author.Rules.{rules}
use borrow.Fn.Kinds.{In}
use borrow.Fn.PlainCycle.{Measures, is, falls, and}
use mathlib.Core.Path.{◌≡◌, refl, sym, ◌∙◌}
use native.Mathlib.Omega.{arith}
use Prim.Native.Nat.{ℕ, ◌+◌, ◌*◌, ◌-◌, ◌<◌}
use Rattle.words.specs.Fields.{kind_of}
use Rattle.unification.specs.Places.{most_references}
use Rattle.unification.specs.State.{term_of, bindings_in}
use Rattle.unification.proofs.Ranks.{weight}
use Rattle.unification.proofs.Occurs.{weight_here, Seeking, seek_begin, seek_found, seek_on, seek_done, look_points, look_inside, look_few, look_small, look_falls, Here, at_function, at_variable, at_same, at_free, at_valued, at_falls, at_on, looked_still, looked_as, end_valued, end_as, end_falls, through_marked, through_tired, through_checking, through_found, through_absent}
use Rattle.unification.proofs.unify.occurs.Reads as occurs
use Rattle.unification.proofs.unify.occurs.Kinds as occurs-kinds
use Rattle.unification.proofs.unify.+occurs_occurs_at_occurs_through.Lts-occurs as occurs-lts
use Rattle.unification.proofs.unify.occurs_at.Reads as here
use Rattle.unification.proofs.unify.occurs_at.Kinds as here-kinds
use Rattle.unification.proofs.unify.+occurs_occurs_at_occurs_through.Lts-occurs_at as here-lts
use Rattle.unification.proofs.unify.occurs_through.Reads as through
use Rattle.unification.proofs.unify.occurs_through.Kinds as through-kinds
use Rattle.unification.proofs.unify.+occurs_occurs_at_occurs_through.Lts-occurs_through as through-lts
use Rattle.unification.proofs.memory.variable_at.Reads as variable-at
use Rattle.unification.proofs.memory.word_at.Reads as word_at
use Rattle.unification.proofs.terms.follow.Reads as follow
use Rattle.unification.proofs.terms.owed_after.Reads as owed-after
use Rattle.unification.proofs.unify.mark.Reads as mark
use Rattle.unification.proofs.unify.marked.Reads as marked
use Rattle.unification.proofs.unify.spend.Reads as spend
use Rattle.words.proofs.fields.kind.Reads as kind
use Rattle.words.proofs.fields.wide.Reads as wide
use Rattle.unification.proofs.unify.+occurs_occurs_at_occurs_through.{statement}
use Rattle.unification.proofs.unify.+occurs_occurs_at_occurs_through.Tie.{close}

abbrev μ_occurs : Measures 3 occurs-kinds.ps ℕ
μ_occurs κs a = 3 * weight (bindings_in a.0.now a.1.0.now) (term_of a.0.now a.1.0.now a.1.1.1.1.0) + 2

abbrev μ_here : Measures 3 here-kinds.ps ℕ
μ_here κs a = 3 * weight_here (bindings_in a.0.now a.1.0.now) (kind_of a.1.1.1.1.1.0) a.1.1.1.1.0 a.1.1.1.1.1.0 + 1

abbrev μ_through : Measures 3 through-kinds.ps ℕ
μ_through κs a = 3 * weight (bindings_in a.0.now a.1.0.now) (term_of a.0.now a.1.0.now a.1.1.1.1.1.0) + 3

abbrev occurs_at_lem : ℕ → In 3 occurs-kinds.ps
occurs_at_lem t = and 3 occurs-kinds.ps (is 3 occurs-kinds.ps μ_occurs t) occurs.Pre

abbrev occurs_below : ℕ → In 3 occurs-kinds.ps
occurs_below t = and 3 occurs-kinds.ps (falls 3 occurs-kinds.ps ◌<◌ μ_occurs t) occurs.Pre

abbrev here_at : ℕ → In 3 here-kinds.ps
here_at t = and 3 here-kinds.ps (is 3 here-kinds.ps μ_here t) here.Pre

abbrev here_below : ℕ → In 3 here-kinds.ps
here_below t = and 3 here-kinds.ps (falls 3 here-kinds.ps ◌<◌ μ_here t) here.Pre

abbrev through_at : ℕ → In 3 through-kinds.ps
through_at t = and 3 through-kinds.ps (is 3 through-kinds.ps μ_through t) through.Pre

abbrev through_below : ℕ → In 3 through-kinds.ps
through_below t = and 3 through-kinds.ps (falls 3 through-kinds.ps ◌<◌ μ_through t) through.Pre

abbrev Inv : occurs-lts.invariant-loop-owed
Inv file work notes₀ variable reference at₀ owed₀ notes at owed = Seeking file work notes₀ variable reference notes at owed

abbrev μ : occurs-lts.decreases-loop-owed
μ file work notes₀ variable reference at₀ owed₀ notes at owed = most_references - at

abbrev told : ℕ → occurs-lts.Claims
told t = (word_at.Asked, word_at.Learnt, here_below t, here.Post, owed-after.Asked, owed-after.Learnt)

abbrev told_here : ℕ → here-lts.Claims
told_here t = (kind.Asked, kind.Learnt, variable-at.Asked, variable-at.Learnt, wide.Asked, wide.Learnt, through_below t, through.Post)

abbrev told_through : ℕ → through-lts.Claims
told_through t = (marked.Asked, marked.Learnt, spend.Asked, spend.Learnt, follow.Asked, follow.Learnt, occurs_below t, occurs.Post, mark.Asked, mark.Learnt)

met : (t : ℕ) (c : here-lts.After-wide (told_here t) (here_at t) here.Post)
    → (let a = c.args in
    Here a.file.now a.work.now a.variable a.at a.word c.variable_at-met.result)
met t c =
    let s = c in
    at_variable
    s.requires.1.0
    s.args.variable
    s.args.at
    s.args.word
    c.kind.ensures
    s.requires.1.2
    s.requires.1.3
    c.if-kind-ne0.false
    c.variable_at-met.ensures

pub +occurs_occurs_at_occurs_through_spec : {M : Type 1} → statement M
+occurs_occurs_at_occurs_through_spec =
    close
    μ_occurs
    μ_here
    μ_through
    (λ t. occurs-lts.spec
    (told t)
    (occurs_at_lem t)
    occurs.Post
    Inv
    μ
    (λ c. let s = c in seek_begin s.requires.1.0 s.requires.1.1 s.requires.1.2)
    (λ c κs. look_inside c.requires.1.0 c.loop-owed.invariant.looking c.loop-owed-test.true)
    (λ c κs. let s = c in let i = c.loop-owed.invariant in
    (omega (arith, look_falls s.requires.1.0 i.looking c.loop-owed-test.true c.word_at-word.ensures, s.requires.0), (s.requires.1.0, i.checking, look_points s.requires.1.0 i.looking c.loop-owed-test.true, c.word_at-word.ensures)))
    (λ c. c.occurs_at.auto.notes ∙ c.loop-owed.invariant.noting.size)
    (λ c. seek_found c.requires.1.0 c.loop-owed.invariant c.loop-owed-test.true c.word_at-word.ensures c.occurs_at.ensures c.if-occurs_at.true)
    (λ c κs. (omega arith, look_few c.requires.1.0 c.loop-owed.invariant.looking c.loop-owed-test.true))
    (λ c. omega (arith, look_small c.requires.1.0 c.loop-owed.invariant.looking c.loop-owed-test.true))
    (λ c. omega (arith, look_small c.requires.1.0 c.loop-owed.invariant.looking c.loop-owed-test.true))
    (λ c. seek_on c.requires.1.0 c.loop-owed.invariant c.loop-owed-test.true c.word_at-word.ensures c.occurs_at.ensures c.if-occurs_at.false c.owed_after-owed.ensures)
    (λ c. c.loop-owed.invariant.noting.size)
    (λ c. seek_done c.requires.1.0 c.loop-owed.invariant c.loop-owed-test.false))
    (λ t. here-lts.spec
    (told_here t)
    (here_at t)
    here.Post
    (λ c κs. search rules)
    (λ c. let s = c in looked_still s.requires.1.1 (at_function s.requires.1.0 _ _ _ c.kind.ensures c.if-kind-ne0.true))
    (λ c κs. search rules)
    (λ c. let s = c in
    looked_still s.requires.1.1 (at_same s.requires.1.0 (at_variable s.requires.1.0 s.args.variable s.args.at s.args.word c.kind.ensures s.requires.1.2 s.requires.1.3 c.if-kind-ne0.false c.variable_at-met.ensures) s.requires.1.1.free c.if-met-variable.true))
    (λ c κs. search rules)
    (λ c. omega (arith, (met t c).small, c.wide.ensures))
    (λ c. omega (arith, (met t c).small, c.wide.ensures))
    (λ c. omega (arith, (met t c.before).small, c.wide.ensures, c.requires.1.0.size))
    (λ c. looked_still c.requires.1.1 (at_free c.requires.1.0 (met t c.before.before) c.wide.ensures c.if-met-variable.false c.if-bound-eq0.true))
    (λ c. omega arith)
    (λ c κs. let s = c in
    (omega (arith, at_falls s.requires.1.0 (met t c.before.before.before) c.wide.ensures c.if-bound-eq0.false, s.requires.0), (s.requires.1.0, s.requires.1.1, at_valued s.requires.1.0 (met t c.before.before.before) c.wide.ensures c.if-bound-eq0.false)))
    (λ c. search rules)
    (λ c. looked_as (at_on c.requires.1.0 (met t c.before.before.before.before.before.before) c.wide.ensures c.if-bound-eq0.false) c.occurs_through.ensures))
    (λ t. through-lts.spec
    (told_through t)
    (through_at t)
    through.Post
    (λ c κs. let s = c in (s.requires.1.2.small, s.requires.1.1.small))
    (λ c. search rules)
    (λ c. let s = c in through_marked s.requires.1.1 s.requires.1.2 c.marked.ensures c.if-marked.true)
    (λ c κs. c.requires.1.1.notes.awake)
    (λ c. search rules)
    (λ c. let s = c in through_tired s.requires.1.1 s.requires.1.2 c.spend.ensures c.if-spend.true)
    (λ c κs. let s = c in (s.requires.1.0, s.requires.1.2.points))
    (λ c κs. let s = c in
    (omega (arith, end_falls s.requires.1.0 c.follow-end.ensures, s.requires.0), (s.requires.1.0, through_checking s.requires.1.1 s.requires.1.2 c.spend.ensures c.if-spend.false, c.follow-end.ensures.points)))
    (λ c. c.occurs.auto.notes ∙ c.spend.auto.notes)
    (λ c. let s = c in looked_as (end_as s.requires.1.0 c.follow-end.ensures s.args.variable) (through_found s.requires.1.1 (end_valued s.requires.1.0 c.follow-end.ensures s.requires.1.2) c.spend.ensures c.occurs.ensures c.if-occurs.true))
    (λ c κs. search rules)
    (λ c. c.mark.auto.notes ∙ c.occurs.auto.notes ∙ c.spend.auto.notes)
    (λ c. let s = c in looked_as (end_as s.requires.1.0 c.follow-end.ensures s.args.variable) (through_absent s.requires.1.1 (end_valued s.requires.1.0 c.follow-end.ensures s.requires.1.2) c.spend.ensures c.occurs.ensures c.if-occurs.false c.mark.ensures)))
