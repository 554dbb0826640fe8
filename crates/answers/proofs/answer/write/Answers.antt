-- The copies that are kept are written one after the other.
use Rattle.std.proofs.Common.{arith, refl}
use Rattle.answers.proofs.WritingAll.{all_written_begin, all_good, all_passed, all_made, all_room, all_few, all_small, all_written_on, all_answered}
use Rattle.answers.proofs.answer.write.Goals as goal

pub loop-copy-init : goal.loop-copy-init
loop-copy-init c = all_written_begin c.requires.good.0

pub loop-copy-preserved-then-work-wide-eq0 : goal.loop-copy-preserved-then-work-wide-eq0
loop-copy-preserved-then-work-wide-eq0 c = all_passed c.requires.good.0 c.loop-copy.invariant c.loop-copy-test.true c.wide.ensures c.if-work-wide-eq0.true

pub write_copy-written-requires : goal.write_copy-written-requires
write_copy-written-requires c = (
  all_good c.requires.good.0 c.loop-copy.invariant,
  all_made c.requires.good.0 c.loop-copy.invariant c.loop-copy-test.true c.wide.ensures,
  all_room c.requires.good.0 c.loop-copy.invariant c.loop-copy-test.true c.wide.ensures c.if-work-wide-eq0.false c.requires.work_in_bounds.0 c.requires.work_in_bounds.1,
)

pub loop-copy-preserved : goal.loop-copy-preserved
loop-copy-preserved c =
    all_written_on c.requires.good.0 c.loop-copy.invariant c.loop-copy-test.true c.wide.ensures c.if-work-wide-eq0.false c.write_copy-written.auto.work c.write_copy-written.auto.answer c.write_copy-written.ensures

pub overflow_cast-result : goal.overflow_cast-result
overflow_cast-result c = omega (arith, all_small c.requires.good.0 c.loop-copy.invariant c.requires.work_in_bounds.1)

pub returns : goal.returns
returns c = all_answered c.requires.good.0 c.loop-copy.invariant c.requires.good.1 c.requires.work_in_bounds.0 c.loop-copy-test.false refl refl
