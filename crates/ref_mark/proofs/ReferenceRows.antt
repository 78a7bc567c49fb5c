-- The rows that get, clear and compare what a reference refers to.
use Rattle.ref_mark.proofs.Common.{arith, ◌≡◌, ℕ, ◌+◌, ◌*◌, true, false, ◌==◌, nat_lt, refl, sym, ap, subst, ◌∙◌, List}
use Rattle.ref_mark.proofs.Common.{[], ◌∷◌, ◌++◌, Option, Some, None, ◌⊎◌, inl, inr, slice_set, cases_Bool, and_parts}
use Rattle.ref_mark.proofs.Common.{or_left, eq-eqb, length-set, has, Object, Reference, is_there, present, refers_into}
use Rattle.ref_mark.proofs.Common.{Heap, slot_at, with_slot, reference_in, changed_in, with_reference, cleared, got_at}
use Rattle.ref_mark.proofs.Common.{got, pending_numbers, has_slot, has_slots, reference_refusal, State, ticked, on_heap}
use Rattle.ref_mark.proofs.Common.{value_reply, HeapAccepts, reference_of, referent_got, heap_but, NoSuchActor}
use Rattle.ref_mark.proofs.Common.{CycleHeap, is_white, is_past_mark, is_in_cycle, is_doomed, doomed, undoomed}
use Rattle.ref_mark.proofs.Common.{value_got, barred, with_got, with_cleared, MarkStands, ReadsAs, unsaid, get_refusal}
use Rattle.ref_mark.proofs.Common.{referent_of}
use Rattle.ref_base.specs.Heaps.{cut}
use Rattle.ref_base.specs.Refusals.{clear_refusal}
use Rattle.ref_base.specs.CollectorRows.{Gets, is_same}
use Rattle.ref_mark.specs.CycleHeaps.{reads_same}
use Rattle.ref_base.proofs.Lookups.{has-present_here}
use Rattle.ref_base.proofs.RowForms.{unless_passes}
use Rattle.ref_base.proofs.ShownObjects.{shown_reference, unless_among, referent_of-shown, referent_got-shown}
use Rattle.ref_base.proofs.ShownObjects.{shown-cleared, shown-got}
use Rattle.ref_mark.proofs.Agreeing.{reference_of-agrees, changed_in-agrees, agrees_changed, said_slot}
use Rattle.ref_mark.proofs.DoomedLists.{past_is_in_cycle, shown_heap-before}
use Rattle.ref_mark.proofs.ShownHeaps.{cut-shown}
use Rattle.ref_mark.proofs.ShownReads.{reference_of-shown, undoomed-among, undoomed-before}
use Rattle.ref_mark.proofs.Mutations.{Change, mutated, IsMutation}
use Rattle.ref_mark.proofs.MutatedStates.{mutated_stands, alongside_itself}
use Rattle.ref_mark.proofs.ShadedRows.{barred_row}
use Rattle.ref_mark.proofs.RootFacts.{slot_off, slot_root, root_is_not_white, root_is_there, roots_of_set, named_of_set}
use Rattle.ref_mark.proofs.RootFacts.{slot_is_not_due, slot_within, past_from}
use Rattle.ref_mark.proofs.MutationKinds.{rooted, altered, altered_mutation}
use Rattle.ref_mark.proofs.SlotRows.{set_stands}
use Rattle.ref_mark.proofs.ReferenceChanges.{reference_refusal-there, refers_into_doomed-past, cleared_becomes}
use Rattle.ref_mark.proofs.ReferenceChanges.{got_becomes, gives_target, undoomed-some, with_got-barred}
use Rattle.ref_mark.proofs.ReferenceChanges.{reference_of-held, got_there}
use Rattle.ref_mark.proofs.MovedSpaces.{brought_stands, undoomed-brought}
use Rattle.ref_mark.proofs.Common.{cycle_brought}
use Rattle.ref_base.specs.declared.heap_step.HeapStep.TheVariants as heap
use Rattle.ref_base.specs.declared.plain_step.PlainStep.TheVariants as plain
use Rattle.ref_base.specs.declared.reply.Reply.TheVariants as replies

module _ (k : CycleHeap) (a : State) (stands : MarkStands k a) where
  -- what is told of a reference in a slot, told so of what is shown, is told of it as it reads
  read_same : (tell : Option Reference → Option ℕ)
      → ((d : List ℕ) (r : Option Reference) → tell (shown_reference d r) ≡ unless_among d (tell r)) → (m s : ℕ)
      → tell (reference_of a.world.heap (slot_at a.world.heap m s))
      ≡ undoomed k (tell (reference_of k.heap (slot_at k.heap m s)))
  read_same tell shows m s =
      let held = slot_at k.heap m s in
      let r = reference_of k.heap held in
      ap tell (reference_of-agrees k a.world.heap stands.heap m s (said_slot k a m s stands))
      ∙ elim (cases_Bool (is_past_mark k.phase)) [
        | inl past ↦
            ap tell (reference_of-shown k held (slot_off k a m s stands (past_is_in_cycle k.phase past)))
            ∙ shows (doomed k) r ∙ undoomed-among k (tell r)
        | inr before ↦
            ap (λ (h : Heap). tell (reference_of h held)) (shown_heap-before k before)
            ∙ sym (undoomed-before k (tell r) before)
      ]

  -- ---- where the heap stays as it is

  unmutated : IsMutation k (rooted k k.heap.slots k.heap.holds) (pending_numbers a.world.pending) []
  unmutated = grind arith

  -- what mutators read stays as it is
  pub unmutated_stands : (h : Heap) → ReadsAs k h → MarkStands k (ticked (on_heap a h))
  unmutated_stands h heap =
      mutated_stands k (rooted k k.heap.slots k.heap.holds) a stands unmutated h a.next heap stands.next

  pub refers_to_row : (m s v : ℕ)
      → (b : State) × HeapAccepts a (heap.Plain (plain.RefersTo m s v)) (replies.Refers (reads_same k m s v)) b
      × MarkStands k b
  refers_to_row m s v =
      let same : is_same (referent_of (reference_of a.world.heap (slot_at a.world.heap m s))) (slot_at a.world.heap m v)
      ≡ reads_same k m s v =
      ap (λ (value : Option ℕ). is_same value (slot_at a.world.heap m v)) (read_same referent_of referent_of-shown m s)
      ∙ ap (λ (h : Heap).
      is_same (undoomed k (referent_of (reference_of k.heap (slot_at k.heap m s)))) (slot_at h m v)) stands.heap in
      (ticked a, (ap (λ b. replies.Refers b) (sym same), refl), unmutated_stands a.world.heap stands.heap)

-- ---- clears

pub clear_row : (k : CycleHeap) (a : State) (m s : ℕ) → MarkStands k a → clear_refusal k.heap m s ≡ None
    → (b : State) × HeapAccepts a (heap.Plain (plain.Clear m s)) replies.Done b × MarkStands (with_cleared k m s) b
clear_row k a m s stands accepted =
    let pending = pending_numbers a.world.pending in
    let h = a.world.heap in
    let held = slot_at k.heap m s in
    let f : Object → Object = with_reference cleared in
    let holder = reference_refusal-there k.heap held
    (unless_passes (has_slot k.heap m s) NoSuchActor (reference_refusal k.heap held) accepted).1 in
    let b : State = ticked (on_heap a (cut h m s)) in
    let said = said_slot k a m s stands in
    let same : changed_in h held f ≡ cut h m s =
    sym (ap (λ (g : Heap). changed_in h (slot_at g m s) f) stands.heap) in
    let goal : MarkStands (with_cleared k m s) b =
    elim (cases_Bool (refers_into (is_doomed k) (reference_of k.heap held))) [
      | inl met ↦
          let past = refers_into_doomed-past k (reference_of k.heap held) met in
          let off = slot_off k a m s stands (past_is_in_cycle k.phase past) in
          let stays : with_cleared k m s ≡ k = simp met refl in
          let heap : ReadsAs k (cut h m s) =
          ap (heap_but (unsaid k)) (sym same) ∙ changed_in-agrees k h stands.heap held f said (λ o. refl)
          ∙ ap (heap_but (unsaid k)) (cut-shown k held off met) in
          subst (λ (j : CycleHeap). MarkStands j b) (sym stays) (unmutated_stands k a stands (cut h m s) heap)
      | inr keeps ↦
          let c : Change = altered k k.heap.slots k.heap.holds holder.0 f in
          let is : record k { heap = cut k.heap m s } ≡ mutated k c =
          ap (λ (held : Option ℕ). record k { heap = changed_in k.heap held f }) holder.1 in
          let cuts : with_cleared k m s ≡ record k { heap = cut k.heap m s } = simp keeps refl in
          let mutation : IsMutation k c pending [] =
          altered_mutation k a k.heap.slots k.heap.holds holder.0 f pending [] stands (λ o. refl) refl
          (λ begun n root. inl (root_is_not_white k a stands begun n root)) (root_is_there k a stands)
          (λ o found.
          let own : refers_into (is_doomed k) o.reference ≡ false =
          ap (λ (p : Option Object). refers_into (is_doomed k) (reference_in p)) (sym found)
          ∙ ap (λ (held : Option ℕ). refers_into (is_doomed k) (reference_of k.heap held)) (sym holder.1) ∙ keeps in
          cleared_becomes k (present k.heap.slots ++ k.heap.holds ++ pending) o own) in
          let heap : ReadsAs (mutated k c) (cut h m s) =
          subst (λ (j : CycleHeap). ReadsAs j (cut h m s)) is
          (subst (λ (g : Heap). ReadsAs (record k { heap = cut k.heap m s }) g) same
          (agrees_changed k h stands.heap held f said (λ o. refl) shown-cleared)) in
          subst (λ (j : CycleHeap). MarkStands j b) (sym (cuts ∙ is))
          (mutated_stands k c a stands mutation (cut h m s) a.next heap stands.next)
    ] in
    (b, (refl, refl), goal)

-- ---- gets

get_values : (k : CycleHeap) (a : State) (m d s : ℕ) (value : Option ℕ) → MarkStands k a → value_got k m s ≡ value
    → has_slot k.heap m d ≡ true
    → (b : State) × Gets a m d s value (value_reply value) b × MarkStands (got_there k m d s value) b
get_values k a m d s None stands is there = grind (arith, set_stands k a m d None stands)
get_values k a m d s (Some n) stands is there =
    let pending = pending_numbers a.world.pending in
    let set : List (Option ℕ) = slice_set k.heap.slots (16 * m + d) (Some n) in
    let holder = reference_of-held k (slot_at k.heap m s) n is in
    let f : Object → Object = with_reference (got_at k.heap.clock) in
    let c : Change = altered k set k.heap.holds holder.0 f in
    let same : record k { heap = got k.heap m d s (Some n) } ≡ mutated k c =
    ap (λ (held : Option ℕ). record k { heap = with_slot (changed_in k.heap held f) m d (Some n) }) holder.1 in
    let root : has (present set ++ k.heap.holds ++ pending) n ≡ true =
    slot_root (present set) k.heap.holds pending n
    (has-present_here k.heap.slots (16 * m + d) n (slot_within k a m d stands there)) in
    let gives : referent_got (reference_of k.heap (slot_at k.heap m s)) ≡ Some n =
    (undoomed-some k (referent_got (reference_of k.heap (slot_at k.heap m s))) n is).0 in
    let given : is_there k.heap.objects n ≡ true =
    stands.there.led holder.0 n (slot_is_not_due k a m s holder.0 stands holder.1)
    (gives_target k.heap holder.0 n
    (ap (λ (held : Option ℕ). referent_got (reference_of k.heap held)) (sym holder.1) ∙ gives)) in
    let mutation : (todo : List ℕ)
    → (is_in_cycle k.phase ≡ true → (i : ℕ) → Some n ≡ Some i → (is_white k i ≡ false) ⊎ (has todo i ≡ true))
    → IsMutation k c pending todo = λ todo allowed.
    altered_mutation k a set k.heap.holds holder.0 f pending todo stands (λ o. refl)
    (length-set k.heap.slots (16 * m + d) (Some n))
    (λ begun. roots_of_set k a stands begun (16 * m + d) (Some n) todo (allowed begun))
    (named_of_set k a stands (16 * m + d) (Some n)
    (λ i own. subst (λ j. is_there k.heap.objects j ≡ true) (let e : Some n ≡ Some i = own in cc) given))
    (λ o found.
    let gave : undoomed k (referent_got o.reference) ≡ Some n =
    ap (λ (p : Option Object). undoomed k (referent_got (reference_in p))) (sym found)
    ∙ ap (λ (held : Option ℕ). undoomed k (referent_got (reference_of k.heap held))) (sym holder.1) ∙ is in
    got_becomes k k.heap.clock (present set ++ k.heap.holds ++ pending) o n gave root) in
    let h = a.world.heap in
    let at_slot : changed_in h (slot_at k.heap m s) f ≡ changed_in h (slot_at h m s) (with_reference (got_at h.clock)) =
    sym (ap (λ (g : Heap). changed_in h (slot_at g m s) (with_reference (got_at g.clock))) stands.heap) in
    let changes :
    ReadsAs (record k { heap = changed_in k.heap (slot_at k.heap m s) f }) (changed_in h (slot_at k.heap m s) f) =
    agrees_changed k h stands.heap (slot_at k.heap m s) f (said_slot k a m s stands) (λ o. refl)
    (λ e o. shown-got e k.heap.clock o) in
    let heap : ReadsAs (mutated k c) (got h m d s (Some n)) =
    subst (λ (j : CycleHeap). ReadsAs j (got h m d s (Some n))) same
    (subst (λ (g : Heap). ReadsAs (record k { heap = got k.heap m d s (Some n) }) (with_slot g m d (Some n))) at_slot
    (ap (λ (g : Heap). with_slot g m d (Some n)) changes)) in
    let row = barred_row k c a a.world (alongside_itself a.world) n stands root (got h m d s (Some n))
    (replies.Object n)
    (λ marking. mutation (n ∷ [])
    (λ begun j own. inr (or_left (n == j) false (eq-eqb n j (let e : Some n ≡ Some j = own in cc)))))
    (λ quiet. mutation []
    (λ begun j own.
    let past : is_past_mark k.phase ≡ true = past_from k.phase begun quiet in
    let stays : is_doomed k n ≡ false =
    (undoomed-some k (referent_got (reference_of k.heap (slot_at k.heap m s))) n is).1 in
    let other : is_white k n ≡ false = simp past at stays in
    inl (subst (λ i. is_white k i ≡ false) (let e : Some n ≡ Some j = own in cc) other)))
    refl heap in (
      row.0,
      row.1,
      subst (λ (j : CycleHeap). MarkStands j row.0)
          (sym (with_got-barred k m d s n ∙ ap (λ (j : CycleHeap). barred j (Some n)) same)) row.2,
    )

pub get_row : (k : CycleHeap) (a : State) (m d s : ℕ) → MarkStands k a → get_refusal k.heap m d s ≡ None
    → let value = value_got k m s in
    (b : State) × HeapAccepts a (heap.Plain (plain.Get m d s)) (value_reply value) b
    × MarkStands (with_got k m d s value) b
get_row k a m d s stands accepted =
    let value = value_got k m s in
    let same : referent_got (reference_of a.world.heap (slot_at a.world.heap m s)) ≡ value =
    read_same k a stands referent_got referent_got-shown m s in
    let slots : has_slots k.heap m d s ≡ true =
    (unless_passes (has_slots k.heap m d s) NoSuchActor (reference_refusal k.heap (slot_at k.heap m s)) accepted).0 in
    let there : has_slot k.heap m d ≡ true = (and_parts (has_slot k.heap m d) (nat_lt s 16) slots).0 in
    let row = get_values (cycle_brought k value) a m d s value (brought_stands k a value stands)
    (undoomed-brought k value (referent_got (reference_of k.heap (slot_at k.heap m s)))) there in
    (row.0, subst (λ (v : Option ℕ). Gets a m d s v (value_reply value) row.0) (sym same) row.1, row.2)
