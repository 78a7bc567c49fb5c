use Rattle.std.proofs.Common.{◌≡◌, ◌+◌, ◌-◌, ◌≤◌}
use Rattle.std.specs.VecDeque.{deque_len, deque_capacity}
use Rattle.ref_process.specs.HandBatches.{handing, hand_each}
use Rattle.ref_process.proofs.processor.Processor.hand_batch.Given as goal

abbrev pub invariant-loop-place : goal.invariant-loop-place
invariant-loop-place g l = record {
  so_far : handing l.self l.finder l.batch.items
      ≡ hand_each l.fn.queue l._place (handing l.fn.self l.fn.finder l.fn.batch.items);
  room : deque_len l.batch + (l.count - l._place) ≤ deque_capacity l.batch;
}
