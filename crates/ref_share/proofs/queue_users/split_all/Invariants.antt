use Rattle.ref_share.specs.Users.{AreSeated, AtEachPlace, BeginsWith, KnowsAsMuch}
use Rattle.ref_share.specs.Deliveries.{AreSeats}
use Rattle.ref_share.proofs.Common.{◌≡◌, ◌≤◌, length}
use Rattle.ref_share.proofs.SeatLists.{Pairwise}
use Rattle.std.specs.Vec.{vec_capacity}
use Rattle.ref_share.proofs.queue_users.split_all.Given as goal

abbrev pub invariant-loop-place : goal.invariant-loop-place
invariant-loop-place g l =
    AreSeated l.queues l.seats × AtEachPlace KnowsAsMuch l.initial.seats l.seats
    × ((length l.more.items ≡ l.place) × (length l.queues ≤ vec_capacity l.more))
    × (AreSeats l.queues l.more.items × Pairwise BeginsWith l.initial.seats l.more.items)
