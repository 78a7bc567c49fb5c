use Rattle.std.proofs.Common.{Err, Result, Option, length, ◌≡◌, ◌∙◌, ap, arith, get_or, not, subst}
use Rattle.ref_base.specs.declared.fault.Fault.{Fault}
use Rattle.ref_base.specs.Outs.{Outs}
use Rattle.ref_share.proofs.SeatLists.{of_one_queue, only_seat}
use Rattle.ref_share.specs.Deliveries.{DeliversBatch}
use Rattle.ref_share.specs.HeapSeats.{heap_view}
use Rattle.ref_share.specs.declared.answers.ShareFault.{ShareFault}
use Rattle.ref_share.specs.declared.answers.ShareFault.TheVariants.{Refused}
use Rattle.thread_tests.proofs.DeliveryUses.{something_left}
use Rattle.thread_tests.proofs.uses.deliveries.keeps_what_found_no_memory.Goals as goal

pub returns-in-Err-Refused-NoMemory-clause-seats : goal.returns-in-Err-Refused-NoMemory-clause-seats
returns-in-Err-Refused-NoMemory-clause-seats g c = (
  c.deliver_batch-answer.ensures.seats.0,
  only_seat _ _ _ c.deliver_batch-answer.ensures.seats.1 c.from_ref-queues.ensures.value
      (omega (arith, c.from_mut-own.ensures.len)),
)

pub returns-in-Err-Refused-NoMemory-clause-left : goal.returns-in-Err-Refused-NoMemory-clause-left
returns-in-Err-Refused-NoMemory-clause-left g c =
    let arm = c.in-Err-Refused-NoMemory in
    let v = heap_view c.args.seats.now.heap in
    let w = heap_view c.deliver_batch-answer.new.heap_seat in
    let seat = c.args.seats.now.queue in
    let after = c.deliver_batch-answer.new.queue_seats in
    let one : length after ≡ 1 = omega (arith, c.from_mut-own.ensures.len) in
    let seats = c.deliver_batch-answer.ensures.seats in
    let own = only_seat after c.args.queue.now seat seats.1 c.from_ref-queues.ensures.value one in
    let left = c.deliver_batch-answer.result.1 in
    let answer = arm.is ∙ ap Err arm.field-0-is ∙ ap (λ (f : Fault). Err (Refused f)) arm.field-0-0-is in
    ap not
    (c.is_empty-is_left.ensures
    ∙ something_left c.args.queue.now seat (get_or after 0 seat) 0 32 v w left _ _ _ _ _ seats.0.history.run
    own.history.run
    (of_one_queue (λ queues seats after. DeliversBatch 0 32 v queues seats (Err (Refused _)) left w after) after
    c.args.queue.now seat c.from_ref-queues.ensures.value c.from_mut-own.ensures.value one
    (subst (λ (r : Result (Option Outs) ShareFault).
    DeliversBatch 0 32 v c.from_ref-queues.result.now c.from_mut-own.result.now r left w after)
    answer c.deliver_batch-answer.ensures.calls)))

pub returns-in-Err-clause-seats : goal.returns-in-Err-clause-seats
returns-in-Err-clause-seats g c = (
  c.deliver_batch-answer.ensures.seats.0,
  only_seat _ _ _ c.deliver_batch-answer.ensures.seats.1 c.from_ref-queues.ensures.value
      (omega (arith, c.from_mut-own.ensures.len)),
)

pub returns-in-Ok-clause-seats : goal.returns-in-Ok-clause-seats
returns-in-Ok-clause-seats g c = (
  c.deliver_batch-answer.ensures.seats.0,
  only_seat _ _ _ c.deliver_batch-answer.ensures.seats.1 c.from_ref-queues.ensures.value
      (omega (arith, c.from_mut-own.ensures.len)),
)
