use Rattle.ref_share.proofs.Common.{◌≡◌, heap_view}
use Rattle.ref_share.specs.Cycles.{CountedRepeats, CyclesAt}
use Rattle.ref_share.proofs.collector.Collector.run_cycles.Given as goal

abbrev pub invariant-loop-now : goal.invariant-loop-now
invariant-loop-now g l =
    let first = l.initial.self in
    (l.self.queues.queues ≡ first.queues.queues) × (l.self.worker ≡ first.worker)
    × CountedRepeats (CyclesAt first.queues.queues first.worker) l.now
    (heap_view first.user.seat, first.queues.seats) (heap_view l.self.user.seat, l.self.queues.seats)
    × (l.self.user ≡ record first.user { seat = l.self.user.seat })
