use Rattle.std.proofs.Common.{rules, ◌≡◌, ◌+◌, ◌*◌, ◌/◌, ◌%◌, None, ◌∙◌, ap, arith}
use Rattle.std.specs.Prelude.{slice_index_or}
use Rattle.core_tests.proofs.ClosedLemmas.{more_in}
use Rattle.core_tests.proofs.closed.are_slots_closed.Goals as goal

pub loop-place-preserved : goal.loop-place-preserved
loop-place-preserved g c =
    let slots = c.args.heap.now.heap.slots in
    let place : 16 * c.in-Ok.mutator + c.loop-place.place % 16 ≡ c.loop-place.place =
    (let read : c.in-Ok.mutator ≡ c.loop-place.place / 16 = search rules in omega (arith, read)) in
    more_in slots c.args.heap.now.marked c.loop-place.place c.in-Ok-slot_of.value
    (omega (arith, c.loop-place-test.true, c.slot_count-place-end.ensures))
    (c.in-Ok-slot_of.ensures.answer ∙ ap (λ i. slice_index_or slots i None) place) c.if-not-is_marked_if_any.ensures
    c.loop-place.invariant
