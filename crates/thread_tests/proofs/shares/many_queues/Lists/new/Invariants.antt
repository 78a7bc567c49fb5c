use Rattle.ref_share.specs.Users.{AreSeated}
use Rattle.thread_tests.proofs.shares.many_queues.Lists.new.Given as goal

abbrev pub invariant-loop-number : goal.invariant-loop-number
invariant-loop-number g l = AreSeated l.lists.queues.items l.lists.seats.items
