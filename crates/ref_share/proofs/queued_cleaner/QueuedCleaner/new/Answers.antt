use Rattle.ref_share.proofs.SeatLists.{new_seat}
use Rattle.ref_share.proofs.queued_cleaner.QueuedCleaner.new.Goals as goal

pub returns-in-Ok-clause-made : goal.returns-in-Ok-clause-made
returns-in-Ok-clause-made g c = record {
  queue = c.in_ok-queue.ensures.made;
  told_by = c.in-Ok.ensures.made.0;
  cleaner = c.in-Ok.ensures.made.1;
}

pub returns-in-Ok-clause-seat : goal.returns-in-Ok-clause-seat
returns-in-Ok-clause-seat g c =
    let queue = new_seat c.in_ok-queue.queue 0 0 c.in_ok-queue.queue_seat c.in_ok-queue.ensures.made in
    (c.in-Ok.ensures.made.1.seat, queue)
