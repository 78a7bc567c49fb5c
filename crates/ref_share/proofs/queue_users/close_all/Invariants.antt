use Rattle.ref_share.specs.Users.{AreSeated}
use Rattle.ref_share.proofs.SeatLists.{AreClosedTo}
use Rattle.ref_share.proofs.queue_users.close_all.Given as goal

abbrev pub invariant-loop-place : goal.invariant-loop-place
invariant-loop-place g l = AreSeated l.queues l.seats × AreClosedTo l.place l.initial.seats l.seats
