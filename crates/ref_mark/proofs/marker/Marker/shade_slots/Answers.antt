use Rattle.ref_mark.proofs.Common.{◌≡◌, ◌<◌, length, take, None, sym, ap, subst, ◌∙◌, slice_index_or, present, Heap}
use Rattle.ref_mark.proofs.Common.{CycleHeap, shaded_if_any}
use Rattle.ref_mark.proofs.LoopLemmas.{shaded_more, shaded_heap}
use Rattle.ref_mark.proofs.marker.Marker.shade_slots.Goals as goal

pub shade_slot_at-requires : goal.shade_slot_at-requires
shade_slot_at-requires g c =
    let start : CycleHeap = c.args.self.now in
    let heap : c.loop-place.self.heap ≡ start.heap =
    shaded_heap start c.loop-place.self (present (take c.loop-place.place start.heap.slots)) c.loop-place.invariant in
    let within : c.loop-place.place < length start.heap.slots =
    subst (λ (j : CycleHeap). c.loop-place.place < length j.heap.slots) c.self.view_is
    (rw c.slot_count-place-end.ensures at c.loop-place-test.true) in
    subst (λ (h : Heap). c.loop-place.place < length h.slots) (sym heap) within

pub loop-place-preserved : goal.loop-place-preserved
loop-place-preserved g c =
    let start : CycleHeap = c.args.self.now in
    let k : CycleHeap = c.loop-place.self in
    let heap : k.heap ≡ start.heap =
    shaded_heap start k (present (take c.loop-place.place start.heap.slots)) c.loop-place.invariant in
    let within : c.loop-place.place < length start.heap.slots =
    subst (λ (j : CycleHeap). c.loop-place.place < length j.heap.slots) c.self.view_is
    (rw c.slot_count-place-end.ensures at c.loop-place-test.true) in
    c.shade_slot_at.ensures
    ∙ ap (λ (h : Heap). shaded_if_any k (slice_index_or h.slots c.loop-place.place None)) heap
    ∙ shaded_more start k start.heap.slots c.loop-place.place within c.loop-place.invariant
