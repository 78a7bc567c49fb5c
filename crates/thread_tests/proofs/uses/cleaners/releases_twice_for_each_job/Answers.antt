use Rattle.ref_share.specs.HeapSeats.{heap_view}
use Rattle.thread_tests.proofs.LoopUses.{half}
use Rattle.thread_tests.proofs.uses.cleaners.releases_twice_for_each_job.Goals as goal

pub returns-in-Ok-clause-enough : goal.returns-in-Ok-clause-enough
returns-in-Ok-clause-enough g c =
    let goes = c.in-Ok.ensures.goes in
    let before = c.served-before.ensures in
    let after = c.served.ensures in
    half (heap_view c.served-before.new.seat) goes.0 (heap_view c.clean_loop.new.heap_seat)
    (heap_view c.served.new.seat)
    c.served-before.result c.served.result c.in-Ok.count goes.2.1 before.seat.history.own
    c.clean_loop.ensures.heap_seat.history.own after.longer goes.5 before.count after.count
