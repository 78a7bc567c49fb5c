use Rattle.std.proofs.Common.{◌≡◌, ◌++◌, map, take}
use Rattle.ref_queue.specs.QueueBatches.{with_some_taken}
use Rattle.ref_queue.proofs.queue.Queue.poll_batch.Given as goal

abbrev pub invariant-loop-item : goal.invariant-loop-item
invariant-loop-item g l = record {
  left : l.self ≡ with_some_taken g.T.Parcel.object_of l.fn.self l._item;
  batch : l.batch ≡ l.fn.batch ++ take l._item l.fn.self.stands;
  numbers : l.numbers ≡ map g.T.Parcel.object_of (take l._item l.fn.self.stands);
}
