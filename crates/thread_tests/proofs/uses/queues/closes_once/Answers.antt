use Rattle.ref_share.specs.QueueSeats.{queue_view}
use Rattle.thread_tests.proofs.QueueUses.{closes_again}
use Rattle.thread_tests.proofs.uses.queues.closes_once.Goals as goal

pub returns-clause-once : goal.returns-clause-once
returns-clause-once g c =
    closes_again (queue_view c.args.seat.now) (queue_view c.close.new.seat) (queue_view c.close-2.new.seat) _
    c.in_ok-close.field-0 c.close-2.result _ c.in_ok-close.ensures.closes c.close-2.ensures.closes
    c.close-2.ensures.seat.history.run
