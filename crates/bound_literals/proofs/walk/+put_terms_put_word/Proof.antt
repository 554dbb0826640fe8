-- The room falls with every call.
use borrow.Author.Rules.{rules}
use native.Mathlib.Omega.{arith}
use lib.ListN.{length}
use Prim.Native.Nat.{ℕ, ◌+◌, ◌-◌, ◌*◌, ◌<◌}
use borrow.Fn.Kinds.{In}
use borrow.Fn.PlainCycle.{Measures, is, falls, and}
use Rattle.bound_literals.proofs.walk.put_terms.Reads as put-terms
use Rattle.bound_literals.proofs.walk.put_terms.Kinds as put-terms-kinds
use Rattle.bound_literals.proofs.walk.+put_terms_put_word.Lts-put_terms as put-terms-lts
use Rattle.bound_literals.proofs.walk.put_word.Reads as put_word
use Rattle.bound_literals.proofs.walk.put_word.Kinds as put-word-kinds
use Rattle.bound_literals.proofs.walk.+put_terms_put_word.Lts-put_word as put-word-lts
use Rattle.bound_literals.proofs.walk.one.Reads as one-reads
use Rattle.unification.proofs.memory.variable_at.Reads as variable-at-reads
use Rattle.unification.proofs.memory.word_at.Reads as word-at-reads
use Rattle.unification.proofs.terms.follow.Reads as follow-reads
use Rattle.unification.proofs.terms.owed_after.Reads as owed-after-reads
use Rattle.words.proofs.fields.arity.Reads as arity-reads
use Rattle.words.proofs.fields.kind.Reads as kind-reads
use Rattle.bound_literals.proofs.walk.+put_terms_put_word.{statement}
use Rattle.bound_literals.proofs.walk.+put_terms_put_word.Tie.{close}
use Rattle.unification.proofs.Walk.{inside, small}
use Rattle.answers.proofs.Counting.{owed_inside, owed_few, owed_small}
use Rattle.bound_literals.proofs.Filling.{Walked, walk_laws, walk_low, walk_size, walk_points, walk_inside, walk_on, fill_full, fill_size, fill_inside, word_fixed, word_free, word_ahead, word_function}

ruleset all = (rules, walk_laws)

-- the room, twice; one more for the terms, which call for a word with their own room
abbrev μ_put_terms : Measures 3 put-terms-kinds.ps ℕ
μ_put_terms κs a = 2 * (length a.1.1.1.1.0.now - a.1.1.1.1.1.0) + 1

abbrev μ_put_word : Measures 3 put-word-kinds.ps ℕ
μ_put_word κs a = 2 * (length a.1.1.1.1.0.now - a.1.1.1.1.1.0)

abbrev put_terms_at : ℕ → In 3 put-terms-kinds.ps
put_terms_at t = and 3 put-terms-kinds.ps (is 3 put-terms-kinds.ps μ_put_terms t) put-terms.Pre

abbrev put_terms_below : ℕ → In 3 put-terms-kinds.ps
put_terms_below t = and 3 put-terms-kinds.ps (falls 3 put-terms-kinds.ps ◌<◌ μ_put_terms t) put-terms.Pre

abbrev put_word_at : ℕ → In 3 put-word-kinds.ps
put_word_at t = and 3 put-word-kinds.ps (is 3 put-word-kinds.ps μ_put_word t) put_word.Pre

abbrev put_word_below : ℕ → In 3 put-word-kinds.ps
put_word_below t = and 3 put-word-kinds.ps (falls 3 put-word-kinds.ps ◌<◌ μ_put_word t) put_word.Pre

abbrev Inv : put-terms-lts.invariant-loop-owed
Inv file work reference count out₀ from at₀ to₀ owed₀ out at to owed = Walked file work reference count out₀ from out at to owed

abbrev μ : put-terms-lts.decreases-loop-owed
μ file work reference count out₀ from at₀ to₀ owed₀ out at to owed = 8448 - at

abbrev told_terms : ℕ → put-terms-lts.Claims
told_terms t = (word-at-reads.Asked, word-at-reads.Learnt, put_word_below t, put_word.Post, owed-after-reads.Asked, owed-after-reads.Learnt)

abbrev told_word : ℕ → put-word-lts.Claims
told_word t = (
  kind-reads.Asked,
  kind-reads.Learnt,
  one-reads.Asked,
  one-reads.Learnt,
  follow-reads.Asked,
  follow-reads.Learnt,
  word-at-reads.Asked,
  word-at-reads.Learnt,
  variable-at-reads.Asked,
  variable-at-reads.Learnt,
  arity-reads.Asked,
  arity-reads.Learnt,
  put_terms_below t,
  put-terms.Post,
)

pub +put_terms_put_word_spec : {M : Type 1} → statement M
+put_terms_put_word_spec =
    close
    μ_put_terms
    μ_put_word
    (λ t. put-terms-lts.spec
    (told_terms t)
    (put_terms_at t)
    put-terms.Post
    Inv
    μ
    (λ c. search all)
    (λ c. search all)
    (λ c. search all)
    (λ c κs. search (all, owed_inside))
    (λ c κs. let g = c.loop-owed.invariant in (omega (arith, c.requires.0, walk_low g, walk_size g), (c.requires.1.0, walk_points g c.loop-owed-test.true, c.word_at-word.ensures, walk_inside g)))
    (λ c κs. let g = c.loop-owed.invariant in (omega (arith, c.loop-owed-test.true), owed_few c.requires.1.0 g.ahead c.loop-owed-test.true))
    (λ c. omega (arith, owed_small c.requires.1.0 c.loop-owed.invariant.ahead c.loop-owed-test.true))
    (λ c. omega (arith, owed_small c.requires.1.0 c.loop-owed.invariant.ahead c.loop-owed-test.true))
    (λ c. walk_on c.loop-owed.invariant c.loop-owed-test.true c.requires.1.0 c.word_at-word.ensures c.put_word-to.ensures c.owed_after-owed.ensures)
    (λ c. search all)
    (λ c. search all))
    λ t. put-word-lts.spec
    (told_word t)
    (put_word_at t)
    put_word.Post
    (λ c. fill_full _ _ _ c.if-out-from.true c.requires.1.3)
    (λ c κs. search all)
    (λ c κs. search all)
    (λ c. search all)
    (λ c. word_fixed c.requires.1.0 c.requires.1.1 c.requires.1.2 c.kind.ensures c.if-kind-ne0.true c.ranges.word.fits c.one.ensures)
    (λ c κs. search all)
    (λ c κs. inside c.requires.1.0 c.follow-r.ensures.points)
    (λ c κs. search all)
    (λ c κs. search all)
    (λ c κs. search all)
    (λ c. search all)
    (λ c. word_free c.requires.1.0 c.requires.1.1 c.requires.1.2 c.kind.ensures c.if-kind-ne0.false c.follow-r.ensures c.word_at-met.ensures c.kind-2.ensures c.if-kind-eq0.true c.variable_at.ensures c.one-then-kind-eq0.ensures)
    (λ c κs. search all)
    (λ c. omega (arith, small c.requires.1.0 c.follow-r.ensures.points))
    (λ c κs. search all)
    (λ c κs. let q = c.one-headed.ensures in (omega (arith, c.requires.0, c.if-out-from.false, q.ends, fill_size c.requires.1.3 q), (c.requires.1.0, word_ahead c.requires.1.0 c.requires.1.1 c.requires.1.2 c.kind.ensures c.if-kind-ne0.false c.follow-r.ensures c.word_at-met.ensures c.kind-2.ensures c.if-kind-eq0.false (omega (arith, c.word_at-met.type_inv)) c.arity.ensures, fill_inside c.requires.1.3 q)))
    (λ c. search all)
    (λ c. word_function c.requires.1.0 c.requires.1.1 c.requires.1.2 c.kind.ensures c.if-kind-ne0.false c.follow-r.ensures c.word_at-met.ensures c.kind-2.ensures c.if-kind-eq0.false (omega (arith, c.word_at-met.type_inv)) c.arity.ensures c.requires.1.3 c.one-headed.ensures c.put_terms.ensures)
