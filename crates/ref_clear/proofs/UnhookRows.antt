-- The row of an unhook: the reference in the slot is cleared, and where it is registered there is one hold more of it.
use Rattle.ref_clear.proofs.Common.{arith, ◌≡◌, ℕ, ◌+◌, false, refl, sym, ap, subst, ◌∙◌, [], ◌++◌, Option, Some, None}
use Rattle.ref_clear.proofs.Common.{inl, inr, cases_Bool, Object, present, refers_into, Heap, slot_at, reference_in}
use Rattle.ref_clear.proofs.Common.{registered_in, one_more, with_hold, changed_in, with_reference, cleared, cut, World}
use Rattle.ref_clear.proofs.Common.{pending_numbers, unless, has_slot, State, ticked, shown, reference_of, HeapAccepts}
use Rattle.ref_clear.proofs.Common.{forgotten, heap_but, CycleHeap, is_doomed, doomed, with_cleared, MarkStands}
use Rattle.ref_clear.proofs.Common.{ReadsAs, unsaid, shown_heap, ClearHeap, with_mark, holding, unhooked_from}
use Rattle.ref_clear.proofs.Common.{refusal_in}
use Rattle.ref_clear.proofs.Common.{queue_in, answer_of_unhook, HeapStands, ArePending, clear_refusal}
use Rattle.std.proofs.Common.{◌*◌}
use Rattle.ref_base.specs.CollectorRows.{on_heap, Unhooks}
use Rattle.ref_base.specs.declared.fault.Fault.TheVariants.{NoSuchActor}
use Rattle.ref_base.specs.Refusals.{unhook_refusal}
use Rattle.ref_base.proofs.Forgetting.{forgotten-shape}
use Rattle.ref_base.proofs.Lookups.{has-present_at}
use Rattle.ref_base.proofs.Reshaping.{KeepsShape, reshaped, at-reshaped}
use Rattle.ref_base.proofs.RowForms.{ticked_world}
use Rattle.ref_base.proofs.ShownObjects.{shown-shape, shown-cleared}
use Rattle.ref_mark.proofs.Agreeing.{agrees_changed, changed_in-agrees, said_slot}
use Rattle.ref_mark.proofs.DoomedLists.{past_is_in_cycle}
use Rattle.ref_mark.proofs.ShownHeaps.{cut-shown}
use Rattle.ref_mark.proofs.Mutations.{Change, mutated, IsMutation}
use Rattle.ref_mark.proofs.MutatedStates.{mutated_stands}
use Rattle.ref_mark.proofs.MutationKinds.{rooted, rooted_mutation, altered, altered_mutation}
use Rattle.ref_mark.proofs.RootFacts.{slot_root, slot_off, root_is_there, root_is_not_white}
use Rattle.ref_mark.proofs.ReferenceChanges.{refers_into_doomed-past, cleared_becomes}
use Rattle.ref_mark.proofs.ReferenceRows.{clear_row}
use Rattle.ref_clear.proofs.PendingFacts.{root_before, waiting_still}
use Rattle.ref_clear.proofs.KeptReferences.{config-cleared, cleared_stays}
use Rattle.ref_base.specs.declared.heap_step.HeapStep.TheVariants as heap

-- ---- refusals

may_clear : (h : Heap) (m s : ℕ) → unless (has_slot h m s) NoSuchActor (unhook_refusal h (slot_at h m s)) ≡ None
    → clear_refusal h m s ≡ None
may_clear h m s none = grind arith

-- ---- the queue

-- a change of all objects that keeps their shape keeps the queue of each reference
queue_of-reshaped : (g : Object → Object) → KeepsShape g → (h : Heap) (held : Option ℕ)
    → registered_in (reference_of (reshaped g h) held) ≡ registered_in (reference_of h held)
queue_of-reshaped g keeps h None = refl
queue_of-reshaped g keeps h (Some n) =
    at-reshaped g keeps (λ (o : Option Object). registered_in (reference_in o)) h.objects n keeps.queue

-- what agrees with the heap has its queues
queue_of-agrees : (k : CycleHeap) (h : Heap) (held : Option ℕ) → ReadsAs k h
    → registered_in (reference_of h held) ≡ registered_in (reference_of k.heap held)
queue_of-agrees k h held agrees =
    sym (queue_of-reshaped (λ o. forgotten (unsaid k) o) (forgotten-shape (unsaid k)) h held)
    ∙ ap (λ (g : Heap). registered_in (reference_of g held)) agrees
    ∙ queue_of-reshaped (λ o. forgotten (unsaid k) o) (forgotten-shape (unsaid k)) (shown_heap k) held
    ∙ queue_of-reshaped (λ o. shown (doomed k) o) (shown-shape (doomed k)) k.heap held

-- ---- what waits

pending-cleared : (c : ClearHeap) (a : State) (m s : ℕ) → HeapStands c a
    → ArePending (with_cleared c.mark m s) c.pending
pending-cleared c a m s stands =
    waiting_still c a stands (with_cleared c.mark m s) (config-cleared c.mark m s) (cleared_stays c.mark m s)

-- ---- the cut and the hold

-- at one moment the reference in the slot is cleared, and there is one hold more of it
cut_and_held : (k : CycleHeap) (a : State) (m s n : ℕ) → MarkStands k a → slot_at k.heap m s ≡ Some n
    → MarkStands (holding (with_cleared k m s) n) (ticked (on_heap a (with_hold (cut a.world.heap m s) n)))
cut_and_held k a m s n stands is =
    let pending = pending_numbers a.world.pending in
    let h = a.world.heap in
    let held = slot_at k.heap m s in
    let f : Object → Object = with_reference cleared in
    let holds = one_more k.heap.holds n in
    let b : State = ticked (on_heap a (with_hold (cut h m s) n)) in
    let said = said_slot k a m s stands in
    let same : changed_in h held f ≡ cut h m s =
    sym (ap (λ (g : Heap). changed_in h (slot_at g m s) f) stands.heap) in
    let was = root_before (present k.heap.slots) k.heap.holds pending pending n
    (slot_root (present k.heap.slots) k.heap.holds pending n (has-present_at k.heap.slots (16 * m + s) n is))
    (λ i last. last) in
    elim (cases_Bool (refers_into (is_doomed k) (reference_of k.heap held))) [
      | inl met ↦
          let past = refers_into_doomed-past k (reference_of k.heap held) met in
          let off = slot_off k a m s stands (past_is_in_cycle k.phase past) in
          let stays : with_cleared k m s ≡ k = simp met refl in
          let heap : ReadsAs k (cut h m s) =
          ap (heap_but (unsaid k)) (sym same) ∙ changed_in-agrees k h stands.heap held f said (λ o. refl)
          ∙ ap (heap_but (unsaid k)) (cut-shown k held off met) in
          let c : Change = rooted k k.heap.slots holds in
          let mutation : IsMutation k c pending [] =
          rooted_mutation k a k.heap.slots holds pending [] stands refl
          (λ begun i root. inl (root_is_not_white k a stands begun i (was i root)))
          (λ i root. root_is_there k a stands i (was i root)) in
          subst (λ (j : CycleHeap). MarkStands (holding j n) b) (sym stays)
          (mutated_stands k c a stands mutation (with_hold (cut h m s) n) a.next
          (ap (λ (g : Heap). with_hold g n) heap) stands.next)
      | inr keeps ↦
          let c : Change = altered k k.heap.slots holds n f in
          let is_mutated : holding (record k { heap = cut k.heap m s }) n ≡ mutated k c =
          ap (λ (held : Option ℕ). holding (record k { heap = changed_in k.heap held f }) n) is in
          let cuts : with_cleared k m s ≡ record k { heap = cut k.heap m s } = simp keeps refl in
          let mutation : IsMutation k c pending [] =
          altered_mutation k a k.heap.slots holds n f pending [] stands (λ o. refl) refl
          (λ begun i root. inl (root_is_not_white k a stands begun i (was i root)))
          (λ i root. root_is_there k a stands i (was i root))
          (λ o found.
          let own : refers_into (is_doomed k) o.reference ≡ false =
          ap (λ (p : Option Object). refers_into (is_doomed k) (reference_in p)) (sym found)
          ∙ ap (λ (held : Option ℕ). refers_into (is_doomed k) (reference_of k.heap held)) (sym is) ∙ keeps in
          cleared_becomes k (present k.heap.slots ++ holds ++ pending) o own) in
          let cut_agrees : ReadsAs (record k { heap = cut k.heap m s }) (cut h m s) =
          subst (λ (g : Heap). ReadsAs (record k { heap = cut k.heap m s }) g) same
          (agrees_changed k h stands.heap held f said (λ o. refl) shown-cleared) in
          let heap : ReadsAs (mutated k c) (with_hold (cut h m s) n) =
          subst (λ (j : CycleHeap). ReadsAs j (with_hold (cut h m s) n)) is_mutated
          (ap (λ (g : Heap). with_hold g n) cut_agrees) in
          subst (λ (j : CycleHeap). MarkStands j b)
          (sym (ap (λ (j : CycleHeap). holding j n) cuts ∙ is_mutated))
          (mutated_stands k c a stands mutation (with_hold (cut h m s) n) a.next heap stands.next)
    ]

-- ---- the row

-- the pending references are as before
pending_stays : (c : ClearHeap) (a : State) (h : Heap) → HeapStands c a
    → (ticked (on_heap a h)).world.pending ≡ c.pending
pending_stays c a h stands = ap (λ (w : World). w.pending) (ticked_world (on_heap a h)) ∙ stands.pending

-- the reference in the slot is cleared
cut_stands : (c : ClearHeap) (a : State) (m s : ℕ) → HeapStands c a → clear_refusal c.mark.heap m s ≡ None
    → HeapStands (with_mark c (with_cleared c.mark m s)) (ticked (on_heap a (cut a.world.heap m s)))
cut_stands c a m s stands accepted = grind (arith, clear_row, pending-cleared)

-- by what the slot holds, and the queue that this is registered with
unhook_by : (c : ClearHeap) (a : State) (m s : ℕ) (held queue : Option ℕ) → HeapStands c a
    → slot_at c.mark.heap m s ≡ held → clear_refusal c.mark.heap m s ≡ None
    → (b : State) × Unhooks a m s held queue (answer_of_unhook held queue) b
    × HeapStands (with_mark c (unhooked_from c.mark m s held queue)) b
unhook_by c a m s None queue stands is accepted =
    (ticked (on_heap a (cut a.world.heap m s)), (refl, refl), cut_stands c a m s stands accepted)
unhook_by c a m s (Some n) None stands is accepted =
    (ticked (on_heap a (cut a.world.heap m s)), (refl, refl), cut_stands c a m s stands accepted)
unhook_by c a m s (Some n) (Some q) stands is accepted =
    let h = with_hold (cut a.world.heap m s) n in
    let k = with_cleared c.mark m s in (
      ticked (on_heap a h),
      (refl, refl),
      record {
        mark = cut_and_held c.mark a m s n stands.mark is;
        pending = pending_stays c a h stands;
        waiting = waiting_still c a stands (holding k n) (config-cleared c.mark m s) (cleared_stays c.mark m s);
      },
    )

pub unhook_row : (c : ClearHeap) (a : State) (m s : ℕ) → HeapStands c a → refusal_in c (heap.Unhook m s) ≡ None
    → (b : State)
    × HeapAccepts a (heap.Unhook m s) (answer_of_unhook (slot_at c.mark.heap m s) (queue_in c.mark m s)) b
    × HeapStands (with_mark c (unhooked_from c.mark m s (slot_at c.mark.heap m s) (queue_in c.mark m s))) b
unhook_row c a m s stands accepted =
    let held = slot_at c.mark.heap m s in
    let queue = queue_in c.mark m s in
    let slot : slot_at a.world.heap m s ≡ held = ap (λ (h : Heap). slot_at h m s) stands.mark.heap in
    let own : registered_in (reference_of a.world.heap held) ≡ queue =
    queue_of-agrees c.mark a.world.heap held stands.mark.heap in
    let row = unhook_by c a m s held queue stands refl (may_clear c.mark.heap m s accepted) in
    let answer = answer_of_unhook held queue in (
      row.0,
      subst (λ (v : Option ℕ). Unhooks a m s v (registered_in (reference_of a.world.heap v)) answer row.0) (sym slot)
          (subst (λ (q : Option ℕ). Unhooks a m s held q answer row.0) (sym own) row.1),
      row.2,
    )
