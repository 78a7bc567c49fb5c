use Rattle.ref_share.specs.Users.{AreNew}
use Rattle.ref_share.proofs.Common.{◌≡◌, length}
use Rattle.ref_share.proofs.queues.Queues.add_all.Given as goal

abbrev pub invariant-loop-number : goal.invariant-loop-number
invariant-loop-number g l = (length l.self.queues ≡ l.number) × AreNew l.self.queues l.self.seats
