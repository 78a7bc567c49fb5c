use Rattle.ref_share.proofs.Common.{◌∙◌, ◌+◌, Ok, Err, arith, heap_view}
use Rattle.ref_share.specs.Cycles.{CyclesAt}
use Rattle.ref_share.proofs.CountedCycles.{by_the_same, only_the_seat, repeats_once_more}
use Rattle.ref_share.proofs.collector.Collector.run_cycles.Goals as goal

pub loop-now-preserved : goal.loop-now-preserved
loop-now-preserved g c =
    let first = c.args.self.now in
    let before = c.loop-now.self in
    let after = c.cycle.new.self in
    let so_far = c.loop-now.invariant in
    let step = by_the_same before.queues.queues first.queues.queues before.worker first.worker c.loop-now.now
    (heap_view before.user.seat) before.queues.seats (Ok tt) (heap_view after.user.seat) after.queues.seats so_far.0
    so_far.1 c.in_default.ensures.cycles in (
      c.in_default.ensures.same ∙ so_far.0,
      c.in_default.ensures.worker ∙ so_far.1,
      repeats_once_more (CyclesAt first.queues.queues first.worker) c.loop-now.now
          (heap_view first.user.seat, first.queues.seats) (heap_view before.user.seat, before.queues.seats)
          (heap_view after.user.seat, after.queues.seats) so_far.2 step,
      only_the_seat first.user before.user after.user so_far.3 c.in_default.ensures.user,
    )

pub returns-then-is_last-clause-user : goal.returns-then-is_last-clause-user
returns-then-is_last-clause-user g c =
    only_the_seat c.args.self.now.user c.loop-now.self.user c.cycle.new.self.user c.loop-now.invariant.3
    c.in_default.ensures.user

pub returns-in-Err-clause-user : goal.returns-in-Err-clause-user
returns-in-Err-clause-user g c =
    only_the_seat c.args.self.now.user c.loop-now.self.user c.cycle.new.self.user c.loop-now.invariant.3
    c.in-Err.ensures.user

pub returns-then-is_last-clause-runs : goal.returns-then-is_last-clause-runs
returns-then-is_last-clause-runs g c =
    let first = c.args.self.now in
    let before = c.loop-now.self in
    let after = c.cycle.new.self in
    let so_far = c.loop-now.invariant in
    let step = by_the_same before.queues.queues first.queues.queues before.worker first.worker c.loop-now.now
    (heap_view before.user.seat) before.queues.seats (Ok tt) (heap_view after.user.seat) after.queues.seats so_far.0
    so_far.1 c.in_default.ensures.cycles in (
      c.loop-now.now + 1,
      omega arith,
      repeats_once_more (CyclesAt first.queues.queues first.worker) c.loop-now.now
          (heap_view first.user.seat, first.queues.seats) (heap_view before.user.seat, before.queues.seats)
          (heap_view after.user.seat, after.queues.seats) so_far.2 step,
    )

pub returns-in-Err-clause-runs : goal.returns-in-Err-clause-runs
returns-in-Err-clause-runs g c =
    let first = c.args.self.now in
    let before = c.loop-now.self in
    let after = c.cycle.new.self in
    let so_far = c.loop-now.invariant in (
      c.loop-now.now,
      (heap_view before.user.seat, before.queues.seats),
      so_far.2,
      (
        c.in-Err.fault,
        c.into_fault.ensures,
        by_the_same before.queues.queues first.queues.queues before.worker first.worker c.loop-now.now
            (heap_view before.user.seat) before.queues.seats (Err c.in-Err.fault) (heap_view after.user.seat)
            after.queues.seats so_far.0 so_far.1 c.in-Err.ensures.cycles,
      ),
    )
