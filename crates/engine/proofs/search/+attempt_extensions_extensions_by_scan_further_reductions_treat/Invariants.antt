-- At each step fewer can be taken: the room falls.
use Rattle.std.proofs.Common.{◌+◌, ◌*◌, ◌-◌, ◌%◌}
use Rattle.engine.specs.Searching.{room_at, reductions_at, extensions_at, extensions_ahead}
use Rattle.engine.proofs.Searching.Rows.{Rowing}
use Rattle.engine.proofs.Searching.Climbs.{Climbing, climbs}
use Rattle.index.proofs.Reached.{Leads}
use Rattle.engine.proofs.search.+attempt_extensions_extensions_by_scan_further_reductions_treat.Given as goal

abbrev pub decreases-attempt : goal.decreases-attempt
decreases-attempt l = 40000 * room_at l.file.now l.work.now l.task l.place + 1

abbrev pub decreases-extensions : goal.decreases-extensions
decreases-extensions l = 40000 * room_at l.file.now l.work.now l.task l.place + 2

abbrev pub decreases-extensions_by_scan : goal.decreases-extensions_by_scan
decreases-extensions_by_scan l = 40000 * room_at l.file.now l.work.now l.task l.place + 2 + (l.task.body - l.from.at)

abbrev pub decreases-further : goal.decreases-further
decreases-further l = 40000 * room_at l.file.now l.work.now l.task l.place + 20000

abbrev pub decreases-reductions : goal.decreases-reductions
decreases-reductions l = 40000 * room_at l.file.now l.work.now l.task l.place + 2

abbrev pub decreases-treat : goal.decreases-treat
decreases-treat l = 40000 * room_at l.file.now l.work.now l.task l.place + 20001

abbrev pub invariant-extensions-loop-link : goal.invariant-extensions-loop-link
invariant-extensions-loop-link l =
    Leads l.file l.task.body l.wanted l.link
    × Rowing l.file l.fn.work l.work l.task l.place l.tries l.left (extensions_at l.file l.fn.work l.task l.place) (extensions_ahead l.file l.task l.wanted l.link)

abbrev pub decreases-extensions-loop-link : goal.decreases-extensions-loop-link
decreases-extensions-loop-link l = (4096 - l.link) % 4096

abbrev pub invariant-reductions-loop-ancestor : goal.invariant-reductions-loop-ancestor
invariant-reductions-loop-ancestor l =
    Climbing l.file l.fn.work l.place l.ancestor l.height
    × Rowing l.file l.fn.work l.work l.task l.place l.tries l.left (reductions_at l.file l.fn.work l.place) (climbs l.file l.fn.work l.place l.ancestor l.height)

abbrev pub decreases-reductions-loop-ancestor : goal.decreases-reductions-loop-ancestor
decreases-reductions-loop-ancestor l = l.ancestor
