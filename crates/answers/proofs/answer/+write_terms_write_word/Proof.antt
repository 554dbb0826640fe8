-- What is left to be written falls with every call.
use borrow.Author.Rules.{rules}
use mathlib.Core.Path.{refl, sym, ◌∙◌, ap}
use native.Mathlib.Omega.{arith}
use lib.ListN.{length}
use Prim.Native.Nat.{ℕ, ◌+◌, ◌-◌, ◌*◌, ◌/◌, ◌<◌}
use borrow.Fn.Kinds.{In}
use borrow.Fn.PlainCycle.{Measures, is, falls, and}
use Rattle.unification.specs.Places.{most_references}
use Rattle.answers.proofs.answer.write_terms.Reads as write-terms
use Rattle.answers.proofs.answer.write_terms.Kinds as write-terms-kinds
use Rattle.answers.proofs.answer.+write_terms_write_word.Lts-write_terms as write-terms-lts
use Rattle.answers.proofs.answer.write_word.Reads as write_word
use Rattle.answers.proofs.answer.write_word.Kinds as write-word-kinds
use Rattle.answers.proofs.answer.+write_terms_write_word.Lts-write_word as write-word-lts
use Rattle.answers.proofs.answer.put.Reads as put_reads
use Rattle.answers.proofs.answer.write_variable.Reads as write-variable-reads
use Rattle.unification.proofs.memory.variable_at.Reads as variable-at-reads
use Rattle.unification.proofs.memory.word_at.Reads as word-at-reads
use Rattle.unification.proofs.terms.follow.Reads as follow-reads
use Rattle.unification.proofs.terms.owed_after.Reads as owed-after-reads
use Rattle.words.proofs.fields.arity.Reads as arity-reads
use Rattle.words.proofs.fields.kind.Reads as kind-reads
use Rattle.words.proofs.fields.sign.Reads as sign_reads
use Rattle.answers.proofs.answer.+write_terms_write_word.{statement}
use Rattle.answers.proofs.answer.+write_terms_write_word.Tie.{close}
use Rattle.answers.specs.Writing.{word_items, term_items, resolved}
use Rattle.unification.proofs.Walk.{inside, small}
use Rattle.answers.proofs.Counting.{owed_inside, owed_few, owed_small, owed_stands, word_points}
use Rattle.answers.proofs.WritingTerms.{Writing, writing_begin, writing_less, writing_room, writing_on, writing_done, room_left, room_right, write_item, write_free, write_small, write_function, write_ahead}
use Rattle.answers.proofs.Writing.{wrote_then}

-- the items to be written, twice; one more for the terms, which call for a word of their own
abbrev μ_write_terms : Measures 3 write-terms-kinds.ps ℕ
μ_write_terms κs a = 2 * length (term_items a.0.now a.1.0.now a.1.1.1.0 a.1.1.1.1.0) + 1

abbrev μ_write_word : Measures 3 write-word-kinds.ps ℕ
μ_write_word κs a = 2 * length (word_items (resolved a.0.now a.1.0.now) (a.1.1.1.0 / 256) a.1.1.1.1.0)

abbrev write_terms_at : ℕ → In 3 write-terms-kinds.ps
write_terms_at t =
    and 3 write-terms-kinds.ps (is 3 write-terms-kinds.ps μ_write_terms t) write-terms.Pre

abbrev write_terms_below : ℕ → In 3 write-terms-kinds.ps
write_terms_below t =
    and 3 write-terms-kinds.ps (falls 3 write-terms-kinds.ps ◌<◌ μ_write_terms t) write-terms.Pre

abbrev write_word_at : ℕ → In 3 write-word-kinds.ps
write_word_at t =
    and 3 write-word-kinds.ps (is 3 write-word-kinds.ps μ_write_word t) write_word.Pre

abbrev write_word_below : ℕ → In 3 write-word-kinds.ps
write_word_below t =
    and 3 write-word-kinds.ps (falls 3 write-word-kinds.ps ◌<◌ μ_write_word t) write_word.Pre

abbrev Inv : write-terms-lts.invariant-loop-owed
Inv file work₀ answer₀ reference count at₀ written₀ owed₀ work answer at written owed =
    Writing file work₀ answer₀ written₀ (term_items file work₀ reference count) work answer written at owed

abbrev μ : write-terms-lts.decreases-loop-owed
μ file work₀ answer₀ reference count at₀ written₀ owed₀ work answer at written owed = most_references - at

abbrev told_terms : ℕ → write-terms-lts.Claims
told_terms t = (word-at-reads.Asked, word-at-reads.Learnt, write_word_below t, write_word.Post, owed-after-reads.Asked, owed-after-reads.Learnt)

abbrev told_word : ℕ → write-word-lts.Claims
told_word t = (
  kind-reads.Asked,
  kind-reads.Learnt,
  sign_reads.Asked,
  sign_reads.Learnt,
  put_reads.Asked,
  put_reads.Learnt,
  follow-reads.Asked,
  follow-reads.Learnt,
  word-at-reads.Asked,
  word-at-reads.Learnt,
  variable-at-reads.Asked,
  variable-at-reads.Learnt,
  write-variable-reads.Asked,
  write-variable-reads.Learnt,
  arity-reads.Asked,
  arity-reads.Learnt,
  write_terms_below t,
  write-terms.Post,
)

pub +write_terms_write_word_spec : {M : Type 1} → statement M
+write_terms_write_word_spec =
    close
    μ_write_terms
    μ_write_word
    (λ t. write-terms-lts.spec
    (told_terms t)
    (write_terms_at t)
    write-terms.Post
    Inv
    μ
    (λ c. writing_begin c.requires.1.0 c.requires.1.1 refl)
    (λ c κs. owed_inside c.loop-owed.invariant.good c.loop-owed.invariant.ahead c.loop-owed-test.true)
    (λ c κs. let turn = c in let entry = turn in (omega (arith, writing_less turn.loop-owed.invariant turn.loop-owed-test.true c.word_at-word.ensures), (turn.loop-owed.invariant.good, owed_stands turn.loop-owed.invariant.good turn.loop-owed.invariant.ahead turn.loop-owed-test.true c.word_at-word.ensures, writing_room turn.loop-owed.invariant turn.loop-owed-test.true c.word_at-word.ensures entry.requires.1.2)))
    (λ c κs. let turn = c in (omega arith, owed_few turn.loop-owed.invariant.good turn.loop-owed.invariant.ahead turn.loop-owed-test.true))
    (λ c. let turn = c in omega (arith, owed_small turn.loop-owed.invariant.good turn.loop-owed.invariant.ahead turn.loop-owed-test.true))
    (λ c. let turn = c in omega (arith, owed_small turn.loop-owed.invariant.good turn.loop-owed.invariant.ahead turn.loop-owed-test.true))
    (λ c. let turn = c in writing_on turn.loop-owed.invariant turn.loop-owed-test.true c.word_at-word.ensures c.write_word-written.auto.work c.write_word-written.auto.answer c.write_word-written.ensures c.owed_after-owed.ensures)
    (λ c. c.loop-owed.invariant.good.size ∙ sym c.requires.1.0.size)
    (λ c. c.loop-owed.invariant.size)
    (λ c. writing_done c.loop-owed.invariant c.loop-owed-test.false))
    λ t. write-word-lts.spec
    (told_word t)
    (write_word_at t)
    write_word.Post
    (λ c κs. search rules)
    (λ c κs. search rules)
    (λ c. omega arith)
    (λ c. omega arith)
    (λ c κs. let entry = c in rw (write_item entry.requires.1.0 entry.requires.1.1 c.kind.ensures c.if-kind-ne0.true entry.ranges.word.fits c.sign.ensures) at entry.requires.1.2)
    (λ c. search rules)
    (λ c. let entry = c in rw (write_item entry.requires.1.0 entry.requires.1.1 c.kind.ensures c.if-kind-ne0.true entry.ranges.word.fits c.sign.ensures) (c.put.ensures entry.args.work.now))
    (λ c κs. (c.requires.1.0, word_points c.requires.1.0 c.requires.1.1 c.kind.ensures c.if-kind-ne0.false))
    (λ c κs. inside c.requires.1.0 c.follow-r.ensures.points)
    (λ c κs. search rules)
    (λ c κs. search rules)
    (λ c κs. let entry = c in (entry.requires.1.0.size, write_small entry.requires.1.0 entry.requires.1.1 c.kind.ensures c.if-kind-ne0.false c.follow-r.ensures c.word_at-met.ensures c.kind-2.ensures c.if-kind-eq0.true c.variable_at.ensures, rw (write_free entry.requires.1.0 entry.requires.1.1 c.kind.ensures c.if-kind-ne0.false c.follow-r.ensures c.word_at-met.ensures c.kind-2.ensures c.if-kind-eq0.true c.variable_at.ensures) at entry.requires.1.2))
    (λ c. search rules)
    (λ c. search rules)
    (λ c. let entry = c in rw (write_free entry.requires.1.0 entry.requires.1.1 c.kind.ensures c.if-kind-ne0.false c.follow-r.ensures c.word_at-met.ensures c.kind-2.ensures c.if-kind-eq0.true c.variable_at.ensures) c.write_variable.ensures)
    (λ c κs. let entry = c in room_left _ _ (sym (write_function entry.requires.1.0 entry.requires.1.1 c.kind.ensures c.if-kind-ne0.false c.follow-r.ensures c.word_at-met.ensures c.kind-2.ensures c.if-kind-eq0.false (omega (arith, c.word_at-met.type_inv)) refl)) entry.requires.1.2)
    (λ c. let entry = c in omega (arith, small entry.requires.1.0 c.follow-r.ensures.points))
    (λ c κs. search rules)
    (λ c κs. let entry = c in (omega (arith, ap length (write_function entry.requires.1.0 entry.requires.1.1 c.kind.ensures c.if-kind-ne0.false c.follow-r.ensures c.word_at-met.ensures c.kind-2.ensures c.if-kind-eq0.false (omega (arith, c.word_at-met.type_inv)) c.arity.ensures), entry.requires.0), (entry.requires.1.0, write_ahead entry.requires.1.0 entry.requires.1.1 c.kind.ensures c.if-kind-ne0.false c.follow-r.ensures c.word_at-met.ensures c.kind-2.ensures c.if-kind-eq0.false (omega (arith, c.word_at-met.type_inv)) c.arity.ensures, room_right _ _ (sym (write_function entry.requires.1.0 entry.requires.1.1 c.kind.ensures c.if-kind-ne0.false c.follow-r.ensures c.word_at-met.ensures c.kind-2.ensures c.if-kind-eq0.false (omega (arith, c.word_at-met.type_inv)) c.arity.ensures)) entry.requires.1.2 c.put-headed.auto.answer (c.put-headed.ensures entry.args.work.now))))
    (λ c. search rules)
    (λ c. search rules)
    (λ c. let entry = c in rw (write_function entry.requires.1.0 entry.requires.1.1 c.kind.ensures c.if-kind-ne0.false c.follow-r.ensures c.word_at-met.ensures c.kind-2.ensures c.if-kind-eq0.false (omega (arith, c.word_at-met.type_inv)) c.arity.ensures) (wrote_then (c.put-headed.ensures entry.args.work.now) c.write_terms.ensures))
