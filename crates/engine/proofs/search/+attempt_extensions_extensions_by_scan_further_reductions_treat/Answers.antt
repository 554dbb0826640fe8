-- The search: a leaf is treated by trying its reductions and its extensions in turn, and a try that leads on by treating the next leaf. Every try
-- that fails is taken back, so the loops go on from where they were.
use Rattle.std.proofs.Common.{refl, sym, ◌∙◌, ◌+◌, arith}
use Rattle.engine.specs.Searching.{extensions_from}
use Rattle.engine.specs.declared.search.Move.TheVariants.{Reduce, Enter}
use Rattle.engine.proofs.Searching.Rows.{room_again, treats_again, rowing_begin, rowing_by, rowing_out, rowing_then, rowing_given_up, rowing_ended, rowing_on}
use Rattle.engine.proofs.Searching.Again.{count_kept}
use Rattle.engine.proofs.Searching.Attempts.{attempt_restores, attempt_failed, attempt_treats, attempt_falls, attempt_ended, attempt_good_below, attempt_restores_below, attempt_none}
use Rattle.engine.proofs.Nowhere.Seen.{symbol_asked, seen_parted, opening_again, rowing_vain}
use Rattle.engine.proofs.Searching.Scanned.{given_up_some}
use Rattle.engine.proofs.Searching.Climbs.{climb_begin, climb_row, climb_end, climb_small, climb_few, climb_falls, climb_inside, climb_on, climb_past, climb_at, climb_against}
use Rattle.engine.proofs.Searching.Treating.{treat_closed, treat_small, treat_inside, treat_wanted, treat_ended, treat_again, treat_room, treat_word_again, treat_further, further_wanted, further_used, further_extends, further_extended, further_allows, further_out, further_restarted, scan_begin, scan_all, wanted_again, extends_again, scan_asks, scan_again, scan_end, scan_allows, scan_small, scan_stands, scan_less, scan_next, link_begin, link_row, link_end, link_low, link_unpacks, link_leads, link_less, link_next, link_allows}
use Rattle.engine.proofs.Searching.Ended.{led_on, led_nowhere}
use Rattle.engine.proofs.search.+attempt_extensions_extensions_by_scan_further_reductions_treat.Goals as goal

pub attempt-bounds-work-34 : goal.attempt-bounds-work-34
attempt-bounds-work-34 t c = omega (arith, c.requires.0.ready.good.size)

pub attempt-bounds-work-33 : goal.attempt-bounds-work-33
attempt-bounds-work-33 t c = omega (arith, c.requires.0.ready.good.size)

pub attempt-take-taken-requires : goal.attempt-take-taken-requires
attempt-take-taken-requires t c = c.requires

pub attempt-restore-requires : goal.attempt-restore-requires
attempt-restore-requires t c = attempt_restores c.requires.0 c.args.candidate c.take-taken.ensures refl

pub attempt-shape_of-work-in_default : goal.attempt-shape_of-work-in_default
attempt-shape_of-work-in_default t c = c.restore.auto.work ∙ c.take-taken.auto.work

pub attempt-returns-in_default : goal.attempt-returns-in_default
attempt-returns-in_default t c = attempt_failed c.requires.0 c.args.candidate c.take-taken.ensures c.in_default.is refl refl c.args.left (c.restore.ensures c.args.file.now c.take-taken.ensures.good) c.without.ensures

pub attempt-treat-tried-requires : goal.attempt-treat-tried-requires
attempt-treat-tried-requires t c = (omega (arith, attempt_falls c.requires.0 c.args.candidate c.take-taken.ensures c.in-Ok.is, c.decreases), attempt_treats c.requires.0 c.args.candidate c.take-taken.ensures c.in-Ok.is)

pub attempt-shape_of-work-then-ne : goal.attempt-shape_of-work-then-ne
attempt-shape_of-work-then-ne t c = c.treat-tried.auto.work ∙ c.take-taken.auto.work

pub attempt-returns-then-ne : goal.attempt-returns-then-ne
attempt-returns-then-ne t c = attempt_ended c.requires.0 c.args.candidate c.take-taken.ensures c.in-Ok.is c.treat-tried.ensures (led_on c.ne.ensures c.if-ne.true)

pub attempt-restore-requires-2 : goal.attempt-restore-requires-2
attempt-restore-requires-2 t c = attempt_restores_below c.requires.0 c.args.candidate c.take-taken.ensures c.in-Ok.is c.treat-tried.ensures (led_nowhere c.ne.ensures c.if-ne.false) refl

pub attempt-shape_of-work : goal.attempt-shape_of-work
attempt-shape_of-work t c = c.restore-2.auto.work ∙ c.treat-tried.auto.work ∙ c.take-taken.auto.work

pub attempt-returns : goal.attempt-returns
attempt-returns t c = attempt_none c.requires.0 c.args.candidate c.take-taken.ensures c.in-Ok.is c.treat-tried.ensures (led_nowhere c.ne.ensures c.if-ne.false) refl refl (c.restore-2.ensures c.args.file.now (attempt_good_below c.requires.0 c.args.candidate c.take-taken.ensures c.in-Ok.is c.treat-tried.ensures (led_nowhere c.ne.ensures c.if-ne.false)))

pub extensions-literal_of-requires : goal.extensions-literal_of-requires
extensions-literal_of-requires t c = treat_small c.requires.0 c.requires.1

pub extensions-first_symbol-symbol-requires : goal.extensions-first_symbol-symbol-requires
extensions-first_symbol-symbol-requires t c = symbol_asked c.requires.0 c.requires.1 c.literal_of.ensures

pub extensions-first-link-requires : goal.extensions-first-link-requires
extensions-first-link-requires t c = (_, c.requires.0.linked c.requires.5)

pub extensions-loop-link-init : goal.extensions-loop-link-init
extensions-loop-link-init t c = (link_begin c.requires.0 c.requires.1 c.requires.3 c.requires.4 c.requires.2 c.requires.5 (c.first-link.ensures _ (c.requires.0.linked c.requires.5)), link_row c.requires.0 c.requires.1 c.requires.3 c.requires.4 c.requires.2 c.requires.5 (c.first-link.ensures _ (c.requires.0.linked c.requires.5)) c.args.tries)

pub extensions-shape_of-work-then-left-eq0 : goal.extensions-shape_of-work-then-left-eq0
extensions-shape_of-work-then-left-eq0 t c = c.loop-link.invariant.1.again.good.size ∙ sym c.requires.0.ready.good.size

pub extensions-returns-then-left-eq0 : goal.extensions-returns-then-left-eq0
extensions-returns-then-left-eq0 t c = rowing_out c.requires.0 (link_next c.requires.0 c.requires.1 c.requires.3 c.requires.4 c.requires.2 c.requires.5 c.loop-link.link c.loop-link.invariant.0 c.loop-link.invariant.1 c.loop-link-test.true refl refl) c.if-left-eq0.true c.without.ensures

pub extensions-unpacked-entry-requires : goal.extensions-unpacked-entry-requires
extensions-unpacked-entry-requires t c = link_unpacks c.requires.0 c.requires.1 c.requires.3 c.requires.4 c.requires.2 c.requires.5 c.loop-link.link c.loop-link.invariant.0 c.loop-link.invariant.1 c.loop-link-test.true

pub extensions-next-link-requires : goal.extensions-next-link-requires
extensions-next-link-requires t c = link_low c.requires.0 c.requires.1 c.requires.3 c.requires.4 c.requires.2 c.requires.5 c.loop-link.link c.loop-link.invariant.0 c.loop-link.invariant.1 c.loop-link-test.true

pub extensions-in_vain-requires : goal.extensions-in_vain-requires
extensions-in_vain-requires t c = (treats_again c.requires.0 c.loop-link.invariant.1.again, c.requires.1, link_allows c.requires.0 c.requires.1 c.requires.3 c.requires.4 c.requires.2 c.requires.5 c.loop-link.link c.loop-link.invariant.0 c.loop-link.invariant.1 c.loop-link-test.true c.next-link.ensures c.unpacked-entry.ensures, opening_again c.requires.0 c.requires.1 c.literal_of.ensures c.first_symbol-symbol.ensures c.loop-link.invariant.1.again)

pub extensions-overflow_sub-left : goal.extensions-overflow_sub-left
extensions-overflow_sub-left t c = omega arith

pub extensions-loop-link-smaller-then-in_vain : goal.extensions-loop-link-smaller-then-in_vain
extensions-loop-link-smaller-then-in_vain t c = link_less c.requires.0 c.requires.1 c.requires.3 c.requires.4 c.requires.2 c.requires.5 c.loop-link.link c.loop-link.invariant.0 c.loop-link.invariant.1 c.loop-link-test.true c.next-link.ensures

pub extensions-loop-link-preserved-then-in_vain : goal.extensions-loop-link-preserved-then-in_vain
extensions-loop-link-preserved-then-in_vain t c = (link_leads c.requires.0 c.requires.1 c.requires.3 c.requires.4 c.requires.2 c.requires.5 c.loop-link.link c.loop-link.invariant.0 c.loop-link.invariant.1 c.loop-link-test.true c.next-link.ensures, rowing_vain c.requires.0 c.requires.1 (Enter c.unpacked-entry.result) (link_next c.requires.0 c.requires.1 c.requires.3 c.requires.4 c.requires.2 c.requires.5 c.loop-link.link c.loop-link.invariant.0 c.loop-link.invariant.1 c.loop-link-test.true c.next-link.ensures c.unpacked-entry.ensures) c.if-left-eq0.false (c.in_vain.ensures c.if-in_vain.true))

pub extensions-overflow_sub-left-in-loop-link : goal.extensions-overflow_sub-left-in-loop-link
extensions-overflow_sub-left-in-loop-link t c = omega arith

pub extensions-attempt-tried-requires : goal.extensions-attempt-tried-requires
extensions-attempt-tried-requires t c = (omega (arith, room_again c.args.task c.requires.0.ready c.loop-link.invariant.1.again, c.decreases), (treats_again c.requires.0 c.loop-link.invariant.1.again, c.requires.1, link_allows c.requires.0 c.requires.1 c.requires.3 c.requires.4 c.requires.2 c.requires.5 c.loop-link.link c.loop-link.invariant.0 c.loop-link.invariant.1 c.loop-link-test.true c.next-link.ensures c.unpacked-entry.ensures))

pub extensions-shape_of-work-then-ne : goal.extensions-shape_of-work-then-ne
extensions-shape_of-work-then-ne t c = c.attempt-tried.auto.work ∙ c.loop-link.invariant.1.again.good.size ∙ sym c.requires.0.ready.good.size

pub extensions-returns-then-ne : goal.extensions-returns-then-ne
extensions-returns-then-ne t c = rowing_ended c.requires.0 (Enter c.unpacked-entry.result) (link_next c.requires.0 c.requires.1 c.requires.3 c.requires.4 c.requires.2 c.requires.5 c.loop-link.link c.loop-link.invariant.0 c.loop-link.invariant.1 c.loop-link-test.true c.next-link.ensures c.unpacked-entry.ensures) c.if-left-eq0.false c.attempt-tried.ensures (led_on c.ne.ensures c.if-ne.true)

pub extensions-loop-link-smaller : goal.extensions-loop-link-smaller
extensions-loop-link-smaller t c = link_less c.requires.0 c.requires.1 c.requires.3 c.requires.4 c.requires.2 c.requires.5 c.loop-link.link c.loop-link.invariant.0 c.loop-link.invariant.1 c.loop-link-test.true c.next-link.ensures

pub extensions-loop-link-preserved : goal.extensions-loop-link-preserved
extensions-loop-link-preserved t c = (link_leads c.requires.0 c.requires.1 c.requires.3 c.requires.4 c.requires.2 c.requires.5 c.loop-link.link c.loop-link.invariant.0 c.loop-link.invariant.1 c.loop-link-test.true c.next-link.ensures, rowing_on c.requires.0 (Enter c.unpacked-entry.result) (link_next c.requires.0 c.requires.1 c.requires.3 c.requires.4 c.requires.2 c.requires.5 c.loop-link.link c.loop-link.invariant.0 c.loop-link.invariant.1 c.loop-link-test.true c.next-link.ensures c.unpacked-entry.ensures) c.if-left-eq0.false c.attempt-tried.ensures (led_nowhere c.ne.ensures c.if-ne.false))

pub extensions-shape_of-work : goal.extensions-shape_of-work
extensions-shape_of-work t c = c.loop-link.invariant.1.again.good.size ∙ sym c.requires.0.ready.good.size

pub extensions-returns : goal.extensions-returns
extensions-returns t c = link_end c.requires.0 c.requires.1 c.requires.3 c.requires.4 c.requires.2 c.requires.5 c.loop-link.link c.loop-link.invariant.0 c.loop-link.invariant.1 (omega (arith, c.loop-link-test.false)) c.without-2.ensures

pub extensions_by_scan-given_up-requires : goal.extensions_by_scan-given_up-requires
extensions_by_scan-given_up-requires t c = c.requires.0.ready.good.size

pub extensions_by_scan-returns-then-given_up : goal.extensions_by_scan-returns-then-given_up
extensions_by_scan-returns-then-given_up t c = rowing_given_up c.requires.0 (rowing_begin c.requires.0 c.args.tries (extensions_from c.args.file.now c.args.task c.args.wanted c.args.from)) c.requires.5 (given_up_some _ _ _ c.given_up.ensures c.if-given_up.true) c.without.ensures

pub extensions_by_scan-sought-candidate-requires : goal.extensions_by_scan-sought-candidate-requires
extensions_by_scan-sought-candidate-requires t c = scan_asks c.requires.0 c.requires.1 c.requires.3 c.requires.4 c.requires.2 c.args.from c.requires.6 (rowing_begin c.requires.0 c.args.tries (extensions_from c.args.file.now c.args.task c.args.wanted c.args.from))

pub extensions_by_scan-shape_of-work-in_default : goal.extensions_by_scan-shape_of-work-in_default
extensions_by_scan-shape_of-work-in_default t c = (scan_again c.requires.0 c.requires.1 c.requires.3 c.requires.4 c.requires.2 c.args.from c.requires.6 (rowing_begin c.requires.0 c.args.tries (extensions_from c.args.file.now c.args.task c.args.wanted c.args.from)) c.sought-candidate.result c.sought-candidate.ensures).good.size ∙ sym c.requires.0.ready.good.size

pub extensions_by_scan-returns-in_default : goal.extensions_by_scan-returns-in_default
extensions_by_scan-returns-in_default t c = scan_end c.requires.0 c.requires.1 c.requires.3 c.requires.4 c.requires.2 c.args.from c.requires.6 (rowing_begin c.requires.0 c.args.tries (extensions_from c.args.file.now c.args.task c.args.wanted c.args.from)) c.sought-candidate.result c.sought-candidate.ensures c.in_default.is c.without-in_default.ensures

pub extensions_by_scan-shape_of-work-then-tries-eq0 : goal.extensions_by_scan-shape_of-work-then-tries-eq0
extensions_by_scan-shape_of-work-then-tries-eq0 t c = (scan_again c.requires.0 c.requires.1 c.requires.3 c.requires.4 c.requires.2 c.args.from c.requires.6 (rowing_begin c.requires.0 c.args.tries (extensions_from c.args.file.now c.args.task c.args.wanted c.args.from)) c.sought-candidate.result c.sought-candidate.ensures).good.size ∙ sym c.requires.0.ready.good.size

pub extensions_by_scan-returns-then-tries-eq0 : goal.extensions_by_scan-returns-then-tries-eq0
extensions_by_scan-returns-then-tries-eq0 t c = rowing_out c.requires.0 (scan_next c.requires.0 c.requires.1 c.requires.3 c.requires.4 c.requires.2 c.args.from c.requires.6 (rowing_begin c.requires.0 c.args.tries (extensions_from c.args.file.now c.args.task c.args.wanted c.args.from)) c.sought-candidate.result c.sought-candidate.ensures c.in-Some.is refl) c.if-tries-eq0.true c.without-then-tries-eq0.ensures

pub extensions_by_scan-overflow_sub-tries : goal.extensions_by_scan-overflow_sub-tries
extensions_by_scan-overflow_sub-tries t c = omega (arith, c.if-tries-eq0.false)

pub extensions_by_scan-attempt-tried-requires : goal.extensions_by_scan-attempt-tried-requires
extensions_by_scan-attempt-tried-requires t c = (omega (arith, room_again c.args.task c.requires.0.ready (scan_again c.requires.0 c.requires.1 c.requires.3 c.requires.4 c.requires.2 c.args.from c.requires.6 (rowing_begin c.requires.0 c.args.tries (extensions_from c.args.file.now c.args.task c.args.wanted c.args.from)) c.sought-candidate.result c.sought-candidate.ensures), c.decreases), (treats_again c.requires.0 (scan_again c.requires.0 c.requires.1 c.requires.3 c.requires.4 c.requires.2 c.args.from c.requires.6 (rowing_begin c.requires.0 c.args.tries (extensions_from c.args.file.now c.args.task c.args.wanted c.args.from)) c.sought-candidate.result c.sought-candidate.ensures), c.requires.1, scan_allows c.requires.0 c.requires.1 c.requires.3 c.requires.4 c.requires.2 c.args.from c.requires.6 (rowing_begin c.requires.0 c.args.tries (extensions_from c.args.file.now c.args.task c.args.wanted c.args.from)) c.sought-candidate.result c.sought-candidate.ensures c.in-Some.is))

pub extensions_by_scan-shape_of-work-then-ne : goal.extensions_by_scan-shape_of-work-then-ne
extensions_by_scan-shape_of-work-then-ne t c = c.attempt-tried.auto.work ∙ (scan_again c.requires.0 c.requires.1 c.requires.3 c.requires.4 c.requires.2 c.args.from c.requires.6 (rowing_begin c.requires.0 c.args.tries (extensions_from c.args.file.now c.args.task c.args.wanted c.args.from)) c.sought-candidate.result c.sought-candidate.ensures).good.size ∙ sym c.requires.0.ready.good.size

pub extensions_by_scan-returns-then-ne : goal.extensions_by_scan-returns-then-ne
extensions_by_scan-returns-then-ne t c = rowing_ended c.requires.0 (Enter c.in-Some.entry) (scan_next c.requires.0 c.requires.1 c.requires.3 c.requires.4 c.requires.2 c.args.from c.requires.6 (rowing_begin c.requires.0 c.args.tries (extensions_from c.args.file.now c.args.task c.args.wanted c.args.from)) c.sought-candidate.result c.sought-candidate.ensures c.in-Some.is refl) c.if-tries-eq0.false c.attempt-tried.ensures (led_on c.ne.ensures c.if-ne.true)

pub extensions_by_scan-past-next-requires : goal.extensions_by_scan-past-next-requires
extensions_by_scan-past-next-requires t c = scan_small c.requires.0 c.requires.1 c.requires.3 c.requires.4 c.requires.2 c.args.from c.requires.6 (rowing_begin c.requires.0 c.args.tries (extensions_from c.args.file.now c.args.task c.args.wanted c.args.from)) c.sought-candidate.result c.sought-candidate.ensures c.in-Some.is

pub extensions_by_scan-extensions_by_scan-requires : goal.extensions_by_scan-extensions_by_scan-requires
extensions_by_scan-extensions_by_scan-requires t c = let on = rowing_on c.requires.0 (Enter c.in-Some.entry) (scan_next c.requires.0 c.requires.1 c.requires.3 c.requires.4 c.requires.2 c.args.from c.requires.6 (rowing_begin c.requires.0 c.args.tries (extensions_from c.args.file.now c.args.task c.args.wanted c.args.from)) c.sought-candidate.result c.sought-candidate.ensures c.in-Some.is c.past-next.ensures) c.if-tries-eq0.false c.attempt-tried.ensures (led_nowhere c.ne.ensures c.if-ne.false) in (omega (arith, room_again c.args.task c.requires.0.ready on.again, scan_less c.requires.0 c.requires.1 c.requires.3 c.requires.4 c.requires.2 c.args.from c.requires.6 (rowing_begin c.requires.0 c.args.tries (extensions_from c.args.file.now c.args.task c.args.wanted c.args.from)) c.sought-candidate.result c.sought-candidate.ensures c.in-Some.is c.past-next.ensures, c.decreases), (treats_again c.requires.0 on.again, c.requires.1, wanted_again c.requires.0 c.requires.1 c.requires.3 c.requires.4 c.requires.2 on.again, omega (arith, c.requires.3, on.again.copies), extends_again c.requires.0 c.requires.1 c.requires.3 c.requires.4 c.requires.2 on.again, omega (arith, c.requires.5, count_kept on.again.later), scan_stands c.requires.0 c.requires.1 c.requires.3 c.requires.4 c.requires.2 c.args.from c.requires.6 (rowing_begin c.requires.0 c.args.tries (extensions_from c.args.file.now c.args.task c.args.wanted c.args.from)) c.sought-candidate.result c.sought-candidate.ensures c.in-Some.is c.past-next.ensures))

pub extensions_by_scan-shape_of-work : goal.extensions_by_scan-shape_of-work
extensions_by_scan-shape_of-work t c = let on = rowing_on c.requires.0 (Enter c.in-Some.entry) (scan_next c.requires.0 c.requires.1 c.requires.3 c.requires.4 c.requires.2 c.args.from c.requires.6 (rowing_begin c.requires.0 c.args.tries (extensions_from c.args.file.now c.args.task c.args.wanted c.args.from)) c.sought-candidate.result c.sought-candidate.ensures c.in-Some.is c.past-next.ensures) c.if-tries-eq0.false c.attempt-tried.ensures (led_nowhere c.ne.ensures c.if-ne.false) in c.extensions_by_scan.auto.work ∙ on.again.good.size ∙ sym c.requires.0.ready.good.size

pub extensions_by_scan-returns : goal.extensions_by_scan-returns
extensions_by_scan-returns t c = let on = rowing_on c.requires.0 (Enter c.in-Some.entry) (scan_next c.requires.0 c.requires.1 c.requires.3 c.requires.4 c.requires.2 c.args.from c.requires.6 (rowing_begin c.requires.0 c.args.tries (extensions_from c.args.file.now c.args.task c.args.wanted c.args.from)) c.sought-candidate.result c.sought-candidate.ensures c.in-Some.is c.past-next.ensures) c.if-tries-eq0.false c.attempt-tried.ensures (led_nowhere c.ne.ensures c.if-ne.false) in rowing_then c.requires.0 on c.extensions_by_scan.ensures

pub further-bounds-work-33 : goal.further-bounds-work-33
further-bounds-work-33 t c = omega (arith, c.requires.0.ready.good.size)

pub further-returns-then-task-work : goal.further-returns-then-task-work
further-returns-then-task-work t c = further_used c.requires.0 c.requires.1 c.requires.2 c.if-task-work.true c.without.ensures

pub further-bounds-work-4095 : goal.further-bounds-work-4095
further-bounds-work-4095 t c = omega (arith, c.requires.0.ready.good.size)

pub further-extensions-requires : goal.further-extensions-requires
further-extensions-requires t c = (omega (arith, c.decreases), (c.requires.0, c.requires.1, (further_wanted c.requires.0 c.requires.1 c.requires.2 c.other_sign-wanted.ensures), c.if-task-work.false, (further_extends c.requires.0 c.requires.1 c.requires.2 c.if-task-work.false c.restarts.ensures c.if-not-restarts.true), c.if-work-le-MOST.true))

pub further-returns-then-work-le-MOST : goal.further-returns-then-work-le-MOST
further-returns-then-work-le-MOST t c = further_extended c.requires.0 c.requires.1 c.requires.2 c.if-task-work.false c.restarts.ensures c.if-not-restarts.true c.extensions.ensures

pub further-extensions_by_scan-requires : goal.further-extensions_by_scan-requires
further-extensions_by_scan-requires t c = (omega (arith, c.decreases, c.requires.0.asked.short), (c.requires.0, c.requires.1, (further_wanted c.requires.0 c.requires.1 c.requires.2 c.other_sign-wanted.ensures), c.if-task-work.false, (further_extends c.requires.0 c.requires.1 c.requires.2 c.if-task-work.false c.restarts.ensures c.if-not-restarts.true), c.if-work-le-MOST.false, scan_begin c.requires.0 c.requires.1 c.if-task-work.false (further_extends c.requires.0 c.requires.1 c.requires.2 c.if-task-work.false c.restarts.ensures c.if-not-restarts.true) (further_wanted c.requires.0 c.requires.1 c.requires.2 c.other_sign-wanted.ensures) c.beginning-from.ensures))

pub further-returns-then-not-restarts : goal.further-returns-then-not-restarts
further-returns-then-not-restarts t c = further_extended c.requires.0 c.requires.1 c.requires.2 c.if-task-work.false c.restarts.ensures c.if-not-restarts.true (scan_all c.requires.0 c.requires.1 c.if-task-work.false (further_extends c.requires.0 c.requires.1 c.requires.2 c.if-task-work.false c.restarts.ensures c.if-not-restarts.true) (further_wanted c.requires.0 c.requires.1 c.requires.2 c.other_sign-wanted.ensures) c.beginning-from.ensures c.extensions_by_scan.ensures)

pub further-returns-then-tries-eq0 : goal.further-returns-then-tries-eq0
further-returns-then-tries-eq0 t c = further_out c.requires.0 c.requires.1 c.requires.2 c.if-task-work.false c.restarts.ensures c.if-not-restarts.false c.if-tries-eq0.true c.without-then-tries-eq0.ensures

pub further-overflow_sub-tries : goal.further-overflow_sub-tries
further-overflow_sub-tries t c = omega (arith, c.if-tries-eq0.false)

pub further-attempt-requires : goal.further-attempt-requires
further-attempt-requires t c = (omega (arith, c.decreases), (c.requires.0, c.requires.1, further_allows c.requires.0 c.requires.1 c.requires.2 c.if-task-work.false c.restarts.ensures c.if-not-restarts.false))

pub further-returns : goal.further-returns
further-returns t c = further_restarted c.requires.0 c.requires.1 c.requires.2 c.if-task-work.false c.restarts.ensures c.if-not-restarts.false c.if-tries-eq0.false c.attempt.ensures

pub reductions-parent_of-ancestor-requires : goal.reductions-parent_of-ancestor-requires
reductions-parent_of-ancestor-requires t c = treat_small c.requires.0 c.requires.1

pub reductions-loop-ancestor-init : goal.reductions-loop-ancestor-init
reductions-loop-ancestor-init t c = (climb_begin c.requires.0 c.requires.1 c.parent_of-ancestor.ensures, climb_row c.requires.0 c.requires.1 c.parent_of-ancestor.ensures c.args.tries)

pub reductions-literal_of-literal-requires : goal.reductions-literal_of-literal-requires
reductions-literal_of-literal-requires t c = climb_small c.requires.0 c.requires.1 c.loop-ancestor.invariant.1.again c.loop-ancestor.invariant.0 c.loop-ancestor-test.true

pub reductions-parent_of-ancestor-requires-in-loop-ancestor : goal.reductions-parent_of-ancestor-requires-in-loop-ancestor
reductions-parent_of-ancestor-requires-in-loop-ancestor t c = climb_small c.requires.0 c.requires.1 c.loop-ancestor.invariant.1.again c.loop-ancestor.invariant.0 c.loop-ancestor-test.true

pub reductions-overflow_add-height : goal.reductions-overflow_add-height
reductions-overflow_add-height t c = omega (arith, climb_few c.requires.0 c.requires.1 c.loop-ancestor.invariant.1.again c.loop-ancestor.invariant.0 c.loop-ancestor-test.true)

pub reductions-word_at-requires : goal.reductions-word_at-requires
reductions-word_at-requires t c = climb_inside c.requires.0 c.requires.1 c.loop-ancestor.invariant.1.again c.loop-ancestor.invariant.0 c.loop-ancestor-test.true c.literal_of-literal.ensures

pub reductions-loop-ancestor-smaller-then-word_at-wanted : goal.reductions-loop-ancestor-smaller-then-word_at-wanted
reductions-loop-ancestor-smaller-then-word_at-wanted t c = climb_falls c.requires.0 c.requires.1 c.loop-ancestor.invariant.1.again c.loop-ancestor.invariant.0 c.loop-ancestor-test.true c.parent_of-ancestor-in-loop-ancestor.ensures

pub reductions-loop-ancestor-preserved-then-word_at-wanted : goal.reductions-loop-ancestor-preserved-then-word_at-wanted
reductions-loop-ancestor-preserved-then-word_at-wanted t c = (climb_on c.requires.0 c.requires.1 c.loop-ancestor.invariant.1.again c.loop-ancestor.invariant.0 c.loop-ancestor-test.true c.literal_of-literal.ensures c.parent_of-ancestor-in-loop-ancestor.ensures, rowing_by c.requires.0 (climb_past c.requires.0 c.requires.1 c.loop-ancestor.invariant.1.again c.loop-ancestor.invariant.0 c.loop-ancestor-test.true c.literal_of-literal.ensures c.parent_of-ancestor-in-loop-ancestor.ensures c.word_at.ensures c.requires.2 c.if-word_at-wanted.true) c.loop-ancestor.invariant.1)

pub reductions-shape_of-work-then-left-eq0 : goal.reductions-shape_of-work-then-left-eq0
reductions-shape_of-work-then-left-eq0 t c = c.loop-ancestor.invariant.1.again.good.size ∙ sym c.requires.0.ready.good.size

pub reductions-returns-then-left-eq0 : goal.reductions-returns-then-left-eq0
reductions-returns-then-left-eq0 t c = rowing_out c.requires.0 (rowing_by c.requires.0 (climb_at c.requires.0 c.requires.1 c.loop-ancestor.invariant.1.again c.loop-ancestor.invariant.0 c.loop-ancestor-test.true c.literal_of-literal.ensures c.parent_of-ancestor-in-loop-ancestor.ensures c.word_at.ensures c.requires.2 c.if-word_at-wanted.false) c.loop-ancestor.invariant.1) c.if-left-eq0.true c.without.ensures

pub reductions-literal_of-leaf-requires : goal.reductions-literal_of-leaf-requires
reductions-literal_of-leaf-requires t c = treat_small (treats_again c.requires.0 c.loop-ancestor.invariant.1.again) c.requires.1

pub reductions-heads_differ-requires : goal.reductions-heads_differ-requires
reductions-heads_differ-requires t c = let a = symbol_asked (treats_again c.requires.0 c.loop-ancestor.invariant.1.again) c.requires.1 c.literal_of-leaf.ensures in (a.0, a.1, (climb_against c.requires.0 c.requires.1 c.loop-ancestor.invariant.1.again c.loop-ancestor.invariant.0 c.loop-ancestor-test.true c.literal_of-literal.ensures c.parent_of-ancestor-in-loop-ancestor.ensures c.word_at.ensures c.requires.2 c.if-word_at-wanted.false).stands)

pub reductions-overflow_sub-left : goal.reductions-overflow_sub-left
reductions-overflow_sub-left t c = omega arith

pub reductions-loop-ancestor-smaller-then-heads_differ : goal.reductions-loop-ancestor-smaller-then-heads_differ
reductions-loop-ancestor-smaller-then-heads_differ t c = climb_falls c.requires.0 c.requires.1 c.loop-ancestor.invariant.1.again c.loop-ancestor.invariant.0 c.loop-ancestor-test.true c.parent_of-ancestor-in-loop-ancestor.ensures

pub reductions-loop-ancestor-preserved-then-heads_differ : goal.reductions-loop-ancestor-preserved-then-heads_differ
reductions-loop-ancestor-preserved-then-heads_differ t c = (climb_on c.requires.0 c.requires.1 c.loop-ancestor.invariant.1.again c.loop-ancestor.invariant.0 c.loop-ancestor-test.true c.literal_of-literal.ensures c.parent_of-ancestor-in-loop-ancestor.ensures, rowing_vain c.requires.0 c.requires.1 (Reduce c.literal_of-literal.result (c.loop-ancestor.height + 1)) (rowing_by c.requires.0 (climb_at c.requires.0 c.requires.1 c.loop-ancestor.invariant.1.again c.loop-ancestor.invariant.0 c.loop-ancestor-test.true c.literal_of-literal.ensures c.parent_of-ancestor-in-loop-ancestor.ensures c.word_at.ensures c.requires.2 c.if-word_at-wanted.false) c.loop-ancestor.invariant.1) c.if-left-eq0.false (seen_parted (treats_again c.requires.0 c.loop-ancestor.invariant.1.again) c.requires.1 c.literal_of-leaf.ensures (climb_against c.requires.0 c.requires.1 c.loop-ancestor.invariant.1.again c.loop-ancestor.invariant.0 c.loop-ancestor-test.true c.literal_of-literal.ensures c.parent_of-ancestor-in-loop-ancestor.ensures c.word_at.ensures c.requires.2 c.if-word_at-wanted.false) (c.heads_differ.ensures c.if-heads_differ.true)))

pub reductions-overflow_sub-left-in-loop-ancestor : goal.reductions-overflow_sub-left-in-loop-ancestor
reductions-overflow_sub-left-in-loop-ancestor t c = omega arith

pub reductions-attempt-tried-requires : goal.reductions-attempt-tried-requires
reductions-attempt-tried-requires t c = (omega (arith, room_again c.args.task c.requires.0.ready c.loop-ancestor.invariant.1.again, c.decreases), (treats_again c.requires.0 c.loop-ancestor.invariant.1.again, c.requires.1, climb_against c.requires.0 c.requires.1 c.loop-ancestor.invariant.1.again c.loop-ancestor.invariant.0 c.loop-ancestor-test.true c.literal_of-literal.ensures c.parent_of-ancestor-in-loop-ancestor.ensures c.word_at.ensures c.requires.2 c.if-word_at-wanted.false))

pub reductions-shape_of-work-then-ne : goal.reductions-shape_of-work-then-ne
reductions-shape_of-work-then-ne t c = c.attempt-tried.auto.work ∙ c.loop-ancestor.invariant.1.again.good.size ∙ sym c.requires.0.ready.good.size

pub reductions-returns-then-ne : goal.reductions-returns-then-ne
reductions-returns-then-ne t c = rowing_ended c.requires.0 (Reduce c.literal_of-literal.result (c.loop-ancestor.height + 1)) (rowing_by c.requires.0 (climb_at c.requires.0 c.requires.1 c.loop-ancestor.invariant.1.again c.loop-ancestor.invariant.0 c.loop-ancestor-test.true c.literal_of-literal.ensures c.parent_of-ancestor-in-loop-ancestor.ensures c.word_at.ensures c.requires.2 c.if-word_at-wanted.false) c.loop-ancestor.invariant.1) c.if-left-eq0.false c.attempt-tried.ensures (led_on c.ne.ensures c.if-ne.true)

pub reductions-loop-ancestor-smaller : goal.reductions-loop-ancestor-smaller
reductions-loop-ancestor-smaller t c = climb_falls c.requires.0 c.requires.1 c.loop-ancestor.invariant.1.again c.loop-ancestor.invariant.0 c.loop-ancestor-test.true c.parent_of-ancestor-in-loop-ancestor.ensures

pub reductions-loop-ancestor-preserved : goal.reductions-loop-ancestor-preserved
reductions-loop-ancestor-preserved t c = (climb_on c.requires.0 c.requires.1 c.loop-ancestor.invariant.1.again c.loop-ancestor.invariant.0 c.loop-ancestor-test.true c.literal_of-literal.ensures c.parent_of-ancestor-in-loop-ancestor.ensures, rowing_on c.requires.0 (Reduce c.literal_of-literal.result (c.loop-ancestor.height + 1)) (rowing_by c.requires.0 (climb_at c.requires.0 c.requires.1 c.loop-ancestor.invariant.1.again c.loop-ancestor.invariant.0 c.loop-ancestor-test.true c.literal_of-literal.ensures c.parent_of-ancestor-in-loop-ancestor.ensures c.word_at.ensures c.requires.2 c.if-word_at-wanted.false) c.loop-ancestor.invariant.1) c.if-left-eq0.false c.attempt-tried.ensures (led_nowhere c.ne.ensures c.if-ne.false))

pub reductions-shape_of-work : goal.reductions-shape_of-work
reductions-shape_of-work t c = c.loop-ancestor.invariant.1.again.good.size ∙ sym c.requires.0.ready.good.size

pub reductions-returns : goal.reductions-returns
reductions-returns t c = climb_end c.requires.0 c.requires.1 c.loop-ancestor.invariant.0 c.loop-ancestor.invariant.1 c.loop-ancestor-test.false c.without-2.ensures

pub treat-returns-then-head-eq0 : goal.treat-returns-then-head-eq0
treat-returns-then-head-eq0 t c = treat_closed c.requires c.if-head-eq0.true c.args.left

pub treat-literal_of-requires : goal.treat-literal_of-requires
treat-literal_of-requires t c = treat_small c.requires (omega (arith, c.if-head-eq0.false))

pub treat-word_at-word-requires : goal.treat-word_at-word-requires
treat-word_at-word-requires t c = treat_inside c.requires (omega (arith, c.if-head-eq0.false)) c.literal_of.ensures

pub treat-reductions-reduced-requires : goal.treat-reductions-reduced-requires
treat-reductions-reduced-requires t c = (omega (arith, c.decreases), (c.requires, omega (arith, c.if-head-eq0.false), treat_wanted c.requires (omega (arith, c.if-head-eq0.false)) c.literal_of.ensures c.word_at-word.ensures c.other_sign.ensures))

pub treat-shape_of-work-then-ne : goal.treat-shape_of-work-then-ne
treat-shape_of-work-then-ne t c = c.reductions-reduced.auto.work

pub treat-returns-then-ne : goal.treat-returns-then-ne
treat-returns-then-ne t c = treat_ended c.requires (omega (arith, c.if-head-eq0.false)) c.reductions-reduced.ensures (led_on c.ne.ensures c.if-ne.true)

pub treat-further-requires : goal.treat-further-requires
treat-further-requires t c = (omega (arith, treat_room c.requires (omega (arith, c.if-head-eq0.false)) c.reductions-reduced.ensures (led_nowhere c.ne.ensures c.if-ne.false), c.decreases), (treat_again c.requires (omega (arith, c.if-head-eq0.false)) c.reductions-reduced.ensures (led_nowhere c.ne.ensures c.if-ne.false), omega (arith, c.if-head-eq0.false), treat_word_again c.requires (omega (arith, c.if-head-eq0.false)) c.reductions-reduced.ensures (led_nowhere c.ne.ensures c.if-ne.false) c.literal_of.ensures c.word_at-word.ensures))

pub treat-shape_of-work : goal.treat-shape_of-work
treat-shape_of-work t c = c.further.auto.work ∙ c.reductions-reduced.auto.work

pub treat-returns : goal.treat-returns
treat-returns t c = treat_further c.requires (omega (arith, c.if-head-eq0.false)) c.reductions-reduced.ensures (led_nowhere c.ne.ensures c.if-ne.false) c.further.ensures
