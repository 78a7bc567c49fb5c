use Rattle.std.proofs.Common.{◌≡◌, length}
use Rattle.ref_base.specs.QueueLists.{enqueued}
use Rattle.ref_queue.proofs.BatchLemmas.{IsAt}
use Rattle.ref_queue.proofs.queue.Queue.put_each.Given as goal

abbrev pub invariant-loop-item : goal.invariant-loop-item
invariant-loop-item g l = record {
  so_far : IsAt g.T.Parcel.object_of g.T.Parcel.queue_of l.fn.self l.fn.batch l._item l.self l.batch l.outs.done
      l.is_refused;
  before : l.outs.before ≡ length (enqueued g.T.Parcel.object_of l.fn.self);
}
