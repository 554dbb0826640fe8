-- The room, twice; one more for the terms, which call for a word with their own room.
use Rattle.std.proofs.Common.{◌+◌, ◌-◌, ◌*◌}
use Rattle.unification.specs.Places.{most_references}
use Rattle.answers.proofs.Counting.{Counting}
use Rattle.answers.proofs.answer.+room_after_terms_room_after_word.Given as goal

abbrev pub decreases-room_after_terms : goal.decreases-room_after_terms
decreases-room_after_terms l = 2 * l.room + 1

abbrev pub decreases-room_after_word : goal.decreases-room_after_word
decreases-room_after_word l = 2 * l.room

abbrev pub invariant-room_after_terms-loop-owed : goal.invariant-room_after_terms-loop-owed
invariant-room_after_terms-loop-owed l = Counting l.file l.work l.reference l.count l.room l.at l.left l.owed

abbrev pub decreases-room_after_terms-loop-owed : goal.decreases-room_after_terms-loop-owed
decreases-room_after_terms-loop-owed l = most_references - l.at
