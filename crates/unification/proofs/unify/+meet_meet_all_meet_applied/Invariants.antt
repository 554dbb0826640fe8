use Rattle.std.proofs.Common.{◌+◌, ◌*◌, ◌-◌}
use Rattle.words.specs.Fields.{arity_of}
use Rattle.unification.specs.Places.{most_references}
use Rattle.unification.specs.Good.{word_at}
use Rattle.unification.proofs.Heft.{heft, heft_of}
use Rattle.unification.proofs.MeetAll.{Going}
use Rattle.unification.proofs.unify.+meet_meet_all_meet_applied.Given as goal

abbrev pub decreases-meet : goal.decreases-meet
decreases-meet l = 3 * heft_of l.file.now l.work.now l.left + 2

abbrev pub decreases-meet_all : goal.decreases-meet_all
decreases-meet_all l = 3 * heft l.file.now l.work.now l.left l.count

abbrev pub decreases-meet_applied : goal.decreases-meet_applied
decreases-meet_applied l = 3 * heft l.file.now l.work.now (l.left + 1) (arity_of (word_at l.file.now l.work.now l.left)) + 1

abbrev pub invariant-meet_all-loop-more : goal.invariant-meet_all-loop-more
invariant-meet_all-loop-more l = Going l.file l.fn.work l.fn.notes l.left l.right l.count l.work l.notes l.l l.r l.more

abbrev pub decreases-meet_all-loop-more : goal.decreases-meet_all-loop-more
decreases-meet_all-loop-more l = most_references - l.l
