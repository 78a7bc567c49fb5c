use Rattle.ref_world.proofs.Common.{first_state}
use Rattle.ref_world.proofs.HeadlineLemmas.{queues_tell, taken_then_standing, in_clearing_order, at_most_once}
use Rattle.ref_world.proofs.HeadlineLemmas.{nothing_after_close, positions, own_queue, own_enqueue_call}
use Rattle.ref_world.proofs.HeadlineLemmas.{after_a_mark_ended, scanned_once, heap_tells}
use Rattle.ref_world.proofs.trace.run.Goals as goal

pub returns-in-Ok-clause-legal : goal.returns-in-Ok-clause-legal
returns-in-Ok-clause-legal g c config stands =
    let run = c.in-Ok.ensures.run (first_state config) stands in (run.0, run.1)

pub returns-in-Ok-clause-taken_then_standing : goal.returns-in-Ok-clause-taken_then_standing
returns-in-Ok-clause-taken_then_standing g c config stands =
    let run = c.in-Ok.ensures.run (first_state config) stands in
    taken_then_standing config c.in-Ok.trace.rows.items c.in-Ok.trace.world run.0 run.1 run.2

pub returns-in-Ok-clause-queues : goal.returns-in-Ok-clause-queues
returns-in-Ok-clause-queues g c config stands =
    let run = c.in-Ok.ensures.run (first_state config) stands in
    queues_tell config c.in-Ok.trace.rows.items c.in-Ok.trace.world run.0 run.1 run.2

pub returns-in-Ok-clause-positions : goal.returns-in-Ok-clause-positions
returns-in-Ok-clause-positions g c config stands =
    positions config c.in-Ok.trace.rows.items (returns-in-Ok-clause-legal g c config stands)

pub returns-in-Ok-clause-clearing_order : goal.returns-in-Ok-clause-clearing_order
returns-in-Ok-clause-clearing_order g c config stands =
    in_clearing_order config c.in-Ok.trace.rows.items (returns-in-Ok-clause-legal g c config stands)

pub returns-in-Ok-clause-at_most_once : goal.returns-in-Ok-clause-at_most_once
returns-in-Ok-clause-at_most_once g c config stands =
    at_most_once config c.in-Ok.trace.rows.items (returns-in-Ok-clause-legal g c config stands)

pub returns-in-Ok-clause-own_queue : goal.returns-in-Ok-clause-own_queue
returns-in-Ok-clause-own_queue g c config stands =
    own_queue config c.in-Ok.trace.rows.items (returns-in-Ok-clause-legal g c config stands)

pub returns-in-Ok-clause-own_enqueue_call : goal.returns-in-Ok-clause-own_enqueue_call
returns-in-Ok-clause-own_enqueue_call g c config stands =
    own_enqueue_call config c.in-Ok.trace.rows.items (returns-in-Ok-clause-legal g c config stands)

pub returns-in-Ok-clause-after_a_mark_ended : goal.returns-in-Ok-clause-after_a_mark_ended
returns-in-Ok-clause-after_a_mark_ended g c config stands =
    after_a_mark_ended config c.in-Ok.trace.rows.items (returns-in-Ok-clause-legal g c config stands)

pub returns-in-Ok-clause-nothing_after_close : goal.returns-in-Ok-clause-nothing_after_close
returns-in-Ok-clause-nothing_after_close g c config stands =
    nothing_after_close config c.in-Ok.trace.rows.items (returns-in-Ok-clause-legal g c config stands)

pub returns-in-Ok-clause-scanned_once : goal.returns-in-Ok-clause-scanned_once
returns-in-Ok-clause-scanned_once g c config stands =
    scanned_once config c.in-Ok.trace.rows.items (returns-in-Ok-clause-legal g c config stands)

pub returns-in-Ok-clause-heap : goal.returns-in-Ok-clause-heap
returns-in-Ok-clause-heap g c config stands =
    let run = c.in-Ok.ensures.run (first_state config) stands in
    heap_tells config c.in-Ok.trace.rows.items c.in-Ok.trace.world run.0 run.1 run.2
