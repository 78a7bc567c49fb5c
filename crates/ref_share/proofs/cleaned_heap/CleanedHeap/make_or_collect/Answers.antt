use Rattle.ref_share.proofs.Common.{arith, heap_view, [], ◌∷◌}
use Rattle.ref_base.specs.declared.plain_step.PlainStep.TheVariants.{New}
use Rattle.ref_base.specs.declared.urgency.Urgency.TheVariants.{Normal, Urgent}
use Rattle.ref_share.specs.WantsOfRoom.{DoesAfter}
use Rattle.ref_share.proofs.SeatLists.{of_one_queue, only_seat}
use Rattle.ref_share.proofs.cleaned_heap.CleanedHeap.make_or_collect.Goals as goal

pub returns-clause-seats : goal.returns-clause-seats
returns-clause-seats g c = (
  c.make_or_collect.ensures.seats.0,
  only_seat _ _ _ c.make_or_collect.ensures.seats.1 c.from_ref-queues.ensures.value (omega (arith, c.from_mut-seats.ensures.len)),
  c.requires.seats.2,
)

pub returns-clause-does : goal.returns-clause-does
returns-clause-does g c =
    of_one_queue
    (λ queues seats after. DoesAfter queues 0 c.args.now (New 0 c.args.slot c.args.fields) (Normal ∷ Urgent ∷ [])
    (heap_view c.args.self.now.heap_seat) seats c.make_or_collect.result.0 c.make_or_collect.result.1 (heap_view c.make_or_collect.new.heap_seat) after)
    _ c.args.self.now.queue c.args.self.now.queue_seat c.from_ref-queues.ensures.value c.from_mut-seats.ensures.value
    (omega (arith, c.from_mut-seats.ensures.len)) c.make_or_collect.ensures.does
