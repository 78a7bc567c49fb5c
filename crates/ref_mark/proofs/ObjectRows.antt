-- The rows that make objects and references, and the rows that store into a field.
use Rattle.ref_mark.proofs.Common.{arith, ◌≡◌, ℕ, ◌+◌, ◌*◌, true, false, zero, suc, refl, sym, ap, subst, ◌∙◌, List, []}
use Rattle.ref_mark.proofs.Common.{◌++◌, Option, Some, None, inl, inr, nat_lt, cases_Bool, and_parts, false≢true}
use Rattle.ref_mark.proofs.Common.{true≢false, refers_into, has, Object, plain_object, Allowed, present}
use Rattle.ref_mark.proofs.Common.{targets_of, allowed_referent, soft_and_weak_referents, is_kept, is_new_clear, Heap}
use Rattle.ref_mark.proofs.Common.{slot_at, nulls, new_reference, made, changed_in, with_heap, pending_numbers}
use Rattle.ref_mark.proofs.Common.{has_slot, has_slots, unless, field_refusal, new_refusal, refer_refusal, State}
use Rattle.ref_mark.proofs.Common.{ticked, on_heap, HeapAccepts, Strength, NoSuchActor, is_in_cycle, CycleHeap}
use Rattle.ref_mark.proofs.Common.{is_white, is_past_mark, doomed, with_made, is_there, heap_but, MarkStands, ReadsAs}
use Rattle.ref_mark.proofs.Common.{unsaid, shown_heap}
use Rattle.ref_base.specs.Heaps.{stored, with_field}
use Rattle.ref_base.specs.Refusals.{is_queue_or_none, unless_empty, object_refusal, store_refusal}
use Rattle.ref_base.specs.declared.fault.Fault.TheVariants.{BadQueue}
use Rattle.ref_base.proofs.HasLaws.{has-left, has-right, has-cases}
use Rattle.ref_mark.proofs.DoomedLists.{doomed-made, young-phase, past_is_in_cycle, is_there-above}
use Rattle.ref_mark.proofs.Agreeing.{agrees_changed, made-agrees, said_slot, said_new, agrees_next, unsaid_same}
use Rattle.ref_base.proofs.ShownObjects.{shown-field, is_new_clear-none}
use Rattle.ref_mark.proofs.ShownHeaps.{shown_heap-made, shown_heap-made_plain, is_new_clear-reference}
use Rattle.ref_mark.proofs.Mutations.{Change, mutated}
use Rattle.ref_mark.proofs.MutatedStates.{mutated_stands}
use Rattle.ref_base.proofs.Lookups.{allowed_referent-cases, has-present_set, has-present_at}
use Rattle.ref_mark.proofs.RootFacts.{slot_off, slot_root, root_is_not_white, slot_is_not_white, root_is_there}
use Rattle.ref_mark.proofs.RootFacts.{slot_is_there}
use Rattle.ref_mark.proofs.MutationKinds.{altered, MayBecome, altered_mutation}
use Rattle.ref_mark.proofs.MadeObjects.{grown, making, mutated-making, made_mutation}
use Rattle.ref_base.proofs.RowForms.{unless_passes}
use Rattle.ref_base.specs.declared.heap_step.HeapStep.TheVariants as heap
use Rattle.ref_base.specs.declared.plain_step.PlainStep.TheVariants as plain
use Rattle.ref_base.specs.declared.reply.Reply.TheVariants as replies

-- ---- what is made

-- one more object, of the next number, that leads and refers to nothing white, is read as it is
pub made_stands : (k : CycleHeap) (a : State) (m d : ℕ) (o p : Object) → MarkStands k a → has_slot k.heap m d ≡ true
    → o.no ≡ k.next
    → (is_in_cycle k.phase ≡ true → (n : ℕ)
    → has (targets_of (is_kept k.policy) (Some o)) n ≡ true → is_white k n ≡ false)
    → (is_in_cycle k.phase ≡ true → refers_into (is_white k) o.reference ≡ false)
    → ((n : ℕ) → has (targets_of soft_and_weak_referents (Some o)) n ≡ true → is_there k.heap.objects n ≡ true)
    → shown_heap (with_made k m d o) ≡ made (shown_heap k) m d o → p ≡ o
    → MarkStands (with_made k m d o)
    (ticked (record a { world = with_heap a.world (made a.world.heap m d p); next = a.next + 1 }))
made_stands k a m d o p stands slot number leads_off refers_off led shows same =
    let c : Change = making k m d o in
    let is = mutated-making k m d o in
    let new : is_there k.heap.objects o.no ≡ false =
    ap (is_there k.heap.objects) number ∙ is_there-above k.heap.objects k.next stands.orderly.below in
    let heap : ReadsAs (mutated k c) (made a.world.heap m d p) =
    subst (λ (j : CycleHeap). ReadsAs j (made a.world.heap m d p)) is
    (agrees_next k (with_made k m d o) (made a.world.heap m d p) (made (shown_heap k) m d o)
    (unsaid_same k (with_made k m d o)
    (young-phase (grown k m d o) o.no)
    (doomed-made k m d o new))
    shows
    (ap (λ (q : Object). heap_but (unsaid k) (made a.world.heap m d q)) same
    ∙ made-agrees k a.world.heap stands.heap m d o (said_new k o.no new))) in
    subst
    (λ (j : CycleHeap). MarkStands j
    (ticked (record a { world = with_heap a.world (made a.world.heap m d p); next = a.next + 1 }))) (sym is)
    (mutated_stands k c a stands (made_mutation k a m d o stands slot number leads_off refers_off led)
    (made a.world.heap m d p) (a.next + 1) heap (ap (λ n. n + 1) stands.next))

-- a plain object leads nowhere
pub has-present_nulls : (count n : ℕ) → has (present (nulls count)) n ≡ false
has-present_nulls zero n = refl
has-present_nulls (suc count) n = has-present_nulls count n

pub new_row : (k : CycleHeap) (a : State) (m d f : ℕ) → MarkStands k a → new_refusal k.heap k.next m d f ≡ None
    → (b : State) × HeapAccepts a (heap.Plain (plain.New m d f)) (replies.Object k.next) b
    × MarkStands (with_made k m d (plain_object k.next (nulls f))) b
new_row k a m d f stands accepted =
    let o : Object = plain_object k.next (nulls f) in
    let p : Object = plain_object a.next (nulls f) in
    let slot : has_slot k.heap m d ≡ true =
    (unless_passes (has_slot k.heap m d) NoSuchActor (object_refusal k.heap k.next f) accepted).0 in (
      ticked (record a { world = with_heap a.world (made a.world.heap m d p); next = a.next + 1 }),
      (ap (λ n. replies.Object n) (sym stands.next), refl),
      made_stands k a m d o p stands slot refl
          (λ begun n target.
          elim (has-cases (present (nulls f)) [] n target) [
            | inl field ↦ absurd (true≢false (sym field ∙ has-present_nulls f n))
            | inr referent ↦ absurd (false≢true referent)
          ])
          (λ begun. refl)
          (λ n target.
          elim (has-cases (present (nulls f)) [] n target) [
            | inl field ↦ absurd (true≢false (sym field ∙ has-present_nulls f n))
            | inr referent ↦ absurd (false≢true referent)
          ])
          (shown_heap-made_plain k m d (nulls f) stands.orderly.below)
          (ap (λ n. plain_object n (nulls f)) stands.next),
    )

-- ---- what refers

reference_goes_to : (k : CycleHeap) (allow : Allowed) (strength : Strength) (held q : Option ℕ) (n : ℕ)
    → has (allowed_referent allow (new_reference k.heap k.next strength held q 0).reference) n ≡ true
    → held ≡ Some n
reference_goes_to k allow strength held q n within = search allowed_referent-cases

-- a reference to what a slot holds is read as it is
reference_shows : (k : CycleHeap) (a : State) (m d s f : ℕ) (strength : Strength) (q : Option ℕ) → MarkStands k a
    → let o = new_reference k.heap k.next strength (slot_at k.heap m s) q f in
    shown_heap (with_made k m d o) ≡ made (shown_heap k) m d o
reference_shows k a m d s f strength q stands =
    let o : Object = new_reference k.heap k.next strength (slot_at k.heap m s) q f in
    shown_heap-made k m d o (is_there-above k.heap.objects k.next stands.orderly.below)
    (elim (cases_Bool (is_past_mark k.phase)) [
      | inl past ↦
          is_new_clear-reference k k.heap k.next strength (slot_at k.heap m s) q f
          (slot_off k a m s stands (past_is_in_cycle k.phase past))
      | inr before ↦
          let nothing : doomed k ≡ [] = simp before refl in
          ap (λ ns. is_new_clear ns o) nothing ∙ is_new_clear-none o
    ])

pub refer_row : (k : CycleHeap) (a : State) (m : ℕ) (strength : Strength) (d s : ℕ) (q : Option ℕ) (f : ℕ)
    → MarkStands k a
    → refer_refusal k.heap k.next m d s q f ≡ None
    → (b : State) × HeapAccepts a (heap.Plain (plain.Refer m strength d s q f)) (replies.Object k.next) b
    × MarkStands (with_made k m d (new_reference k.heap k.next strength (slot_at k.heap m s) q f)) b
refer_row k a m strength d s q f stands accepted =
    let o : Object = new_reference k.heap k.next strength (slot_at k.heap m s) q f in
    let p : Object = new_reference a.world.heap a.next strength (slot_at a.world.heap m s) q f in
    let same : p ≡ o =
    ap (λ (h : Heap). new_reference h a.next strength (slot_at h m s) q f) stands.heap
    ∙ ap (λ n. new_reference k.heap n strength (slot_at k.heap m s) q f) stands.next in
    let slots : has_slots k.heap m d s ≡ true =
    (unless_passes (has_slots k.heap m d s) NoSuchActor
    (unless (is_queue_or_none k.heap q) BadQueue
    (unless_empty (slot_at k.heap m s) (object_refusal k.heap k.next f))) accepted).0 in
    let slot : has_slot k.heap m d ≡ true = (and_parts (has_slot k.heap m d) (nat_lt s 16) slots).0 in (
      ticked (record a { world = with_heap a.world (made a.world.heap m d p); next = a.next + 1 }),
      (ap (λ n. replies.Object n) (sym stands.next), refl),
      made_stands k a m d o p stands slot refl
          (λ begun n target.
          elim (has-cases (present (nulls f)) (allowed_referent (is_kept k.policy) o.reference) n target) [
            | inl field ↦ absurd (true≢false (sym field ∙ has-present_nulls f n))
            | inr referent ↦
                slot_is_not_white k a stands begun m s n
                (reference_goes_to k (is_kept k.policy) strength (slot_at k.heap m s) q n referent)
          ])
          (λ begun. slot_off k a m s stands begun)
          (λ n target.
          elim (has-cases (present (nulls f)) (allowed_referent soft_and_weak_referents o.reference) n target) [
            | inl field ↦ absurd (true≢false (sym field ∙ has-present_nulls f n))
            | inr referent ↦
                slot_is_there k a stands m s n
                (reference_goes_to k soft_and_weak_referents strength (slot_at k.heap m s) q n referent)
          ])
          (reference_shows k a m d s f strength q stands) same,
    )

-- ---- stores

field_refusal-there : (h : Heap) (held : Option ℕ) (i : ℕ) → field_refusal h held i ≡ None
    → (n : ℕ) × (held ≡ Some n)
field_refusal-there h None i none = absurd (cc)
field_refusal-there h (Some n) i none = (n, refl)

-- an object leads to what is stored, which is a root, or where it did
stored_becomes : (k : CycleHeap) (i : ℕ) (value : Option ℕ) (roots : List ℕ) (o : Object)
    → ((n : ℕ) → value ≡ Some n → has roots n ≡ true) → MayBecome k roots o (with_field i value o)
stored_becomes k i value roots o rooted = grind (arith, has-cases, has-present_set, has-left, has-right)

pub store_row : (k : CycleHeap) (a : State) (m s i v : ℕ) → MarkStands k a → store_refusal k.heap m s i v ≡ None
    → (b : State) × HeapAccepts a (heap.Plain (plain.Store m s i v)) replies.Done b
    × MarkStands (record k { heap = stored k.heap m s i v }) b
store_row k a m s i v stands accepted =
    let pending = pending_numbers a.world.pending in
    let value = slot_at k.heap m v in
    let h = a.world.heap in
    let holder = field_refusal-there k.heap (slot_at k.heap m s) i
    (unless_passes (has_slots k.heap m s v) NoSuchActor (field_refusal k.heap (slot_at k.heap m s) i) accepted).1 in
    let c : Change = altered k k.heap.slots k.heap.holds holder.0 (with_field i value) in
    let is : record k { heap = stored k.heap m s i v } ≡ mutated k c =
    ap (λ (held : Option ℕ). record k { heap = changed_in k.heap held (with_field i value) }) holder.1 in
    let mutation =
    altered_mutation k a k.heap.slots k.heap.holds holder.0 (with_field i value) pending [] stands (λ o. refl) refl
    (λ begun n root. inl (root_is_not_white k a stands begun n root)) (root_is_there k a stands)
    (λ o found.
    stored_becomes k i value (present k.heap.slots ++ k.heap.holds ++ pending) o
    (λ n own.
    slot_root (present k.heap.slots) k.heap.holds pending n (has-present_at k.heap.slots (16 * m + v) n own))) in
    let same : changed_in h (slot_at k.heap m s) (with_field i value) ≡ stored h m s i v =
    sym (ap (λ (g : Heap). changed_in h (slot_at g m s) (with_field i (slot_at g m v))) stands.heap) in
    let heap : ReadsAs (mutated k c) (stored h m s i v) =
    subst (λ (j : CycleHeap). ReadsAs j (stored h m s i v)) is
    (subst (λ (g : Heap). ReadsAs (record k { heap = stored k.heap m s i v }) g) same
    (agrees_changed k h stands.heap (slot_at k.heap m s) (with_field i value) (said_slot k a m s stands) (λ o. refl)
    (λ d o. shown-field d i value o))) in
    let b : State = ticked (on_heap a (stored h m s i v)) in (
      b,
      (refl, refl),
      subst (λ (j : CycleHeap). MarkStands j b) (sym is)
          (mutated_stands k c a stands mutation (stored h m s i v) a.next heap stands.next),
    )
