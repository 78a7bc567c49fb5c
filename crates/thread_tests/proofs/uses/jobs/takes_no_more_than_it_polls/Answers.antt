use Rattle.ref_share.specs.CleanSeats.{clean_view}
use Rattle.ref_share.specs.HeapSeats.{heap_view}
use Rattle.ref_share.specs.QueueSeats.{queue_view}
use Rattle.thread_tests.proofs.LoopUses.{polls_for_each}
use Rattle.thread_tests.proofs.uses.jobs.takes_no_more_than_it_polls.Goals as goal

pub returns-clause-fewer : goal.returns-clause-fewer
returns-clause-fewer g c =
    polls_for_each (queue_view c.args.seats.now.queue) (queue_view c.clean_loop.new.queue_seat)
    (heap_view c.args.seats.now.heap) (heap_view c.clean_loop.new.heap_seat) (clean_view c.args.seat.now)
    (clean_view c.clean_loop.new.seat) c.clean_loop.result c.clean_loop.ensures.goes
