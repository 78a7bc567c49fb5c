use Rattle.std.proofs.Common.{length}
use Rattle.ref_share.specs.Users.{AreSeated}
use Rattle.thread_tests.proofs.shares.many_queues.Lists.end.Given as goal

abbrev pub invariant-loop-queue : goal.invariant-loop-queue
invariant-loop-queue g l = AreSeated l.queues.items l.seats.items

abbrev pub decreases-loop-queue : goal.decreases-loop-queue
decreases-loop-queue g l = length l.queues.items
