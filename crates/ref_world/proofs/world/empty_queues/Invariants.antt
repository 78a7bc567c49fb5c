use Rattle.ref_world.proofs.Common.{◌≡◌, vec_len, vec_capacity, new_queues}
use Rattle.ref_world.proofs.world.empty_queues.Given as goal

-- the queues so far are new, and there is room for the others
abbrev pub invariant-loop-queue : goal.invariant-loop-queue
invariant-loop-queue g l = record {
  are : l.queues.items ≡ new_queues 0 l.queue;
  length : vec_len l.queues ≡ l.queue;
  capacity : vec_capacity l.queues ≡ l.count;
}
