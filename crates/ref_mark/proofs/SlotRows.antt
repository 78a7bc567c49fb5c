-- The rows of copies, drops and loads, and what holds change.
use Rattle.ref_mark.proofs.Common.{arith, ◌≡◌, ℕ, ◌+◌, ◌*◌, true, false, ◌==◌, refl, sym, ap, subst, nat_lt, List, []}
use Rattle.ref_mark.proofs.Common.{◌∷◌, ◌++◌, Option, Some, None, ◌⊎◌, inl, inr, slice_set, cases_Bool, and_parts}
use Rattle.ref_mark.proofs.Common.{or_left, eq-eqb, length-set, has, Object, object_at, is_there, Allowed, present}
use Rattle.ref_mark.proofs.Common.{targets_of, targets_at, allowed_referent, soft_and_weak_referents, is_kept, Heap}
use Rattle.ref_mark.proofs.Common.{slot_at, with_slot, pending_numbers, is_in, has_slot, has_slots, field_refusal}
use Rattle.ref_mark.proofs.Common.{State, ticked, on_heap, field_in, value_reply, HeapAccepts, Marking, NoSuchActor}
use Rattle.ref_mark.proofs.Common.{is_in_cycle, CycleHeap, is_white, barred, cycle_brought, MarkStands}
use Rattle.ref_base.specs.Refusals.{load_refusal}
use Rattle.ref_base.specs.CollectorRows.{field_of, Loads}
use Rattle.ref_mark.specs.CycleHeaps.{loaded}
use Rattle.ref_base.proofs.HasLaws.{has-left}
use Rattle.ref_mark.proofs.MovedSpaces.{brought_stands}
use Rattle.ref_mark.proofs.Agreeing.{field_in-agrees, said_slot}
use Rattle.ref_mark.proofs.Mutations.{Change, mutated, IsMutation}
use Rattle.ref_mark.proofs.MutatedStates.{mutated_stands, alongside_itself}
use Rattle.ref_mark.proofs.ShadedRows.{barred_row}
use Rattle.ref_base.proofs.Lookups.{has-present_here, has-present_at}
use Rattle.ref_mark.proofs.RootFacts.{slot_root, slot_is_not_white, roots_of_set, lead_is_not_white, slot_within}
use Rattle.ref_mark.proofs.RootFacts.{named_of_set, slot_is_there, slot_is_not_due}
use Rattle.ref_mark.proofs.MutationKinds.{rooted, rooted_mutation}
use Rattle.ref_base.proofs.RowForms.{unless_passes}
use Rattle.ref_base.specs.declared.heap_step.HeapStep.TheVariants as heap
use Rattle.ref_base.specs.declared.plain_step.PlainStep.TheVariants as plain
use Rattle.ref_base.specs.declared.reply.Reply.TheVariants as replies

-- ---- slots

-- a slot is set to a value that isn't white, but for what is still to be shaded
pub slot_mutation : (k : CycleHeap) (a : State) (i : ℕ) (value : Option ℕ) (todo : List ℕ) → MarkStands k a
    → (is_in_cycle k.phase ≡ true → (n : ℕ) → value ≡ Some n → (is_white k n ≡ false) ⊎ (has todo n ≡ true))
    → ((n : ℕ) → value ≡ Some n → is_there k.heap.objects n ≡ true)
    → IsMutation k (rooted k (slice_set k.heap.slots i value) k.heap.holds) (pending_numbers a.world.pending) todo
slot_mutation k a i value todo stands allowed there = search (rooted_mutation, length-set, roots_of_set, named_of_set)

pub set_stands : (k : CycleHeap) (a : State) (m d : ℕ) (value : Option ℕ) → MarkStands k a
    → (is_in_cycle k.phase ≡ true → (n : ℕ) → value ≡ Some n → is_white k n ≡ false)
    → ((n : ℕ) → value ≡ Some n → is_there k.heap.objects n ≡ true)
    → MarkStands (record k { heap = with_slot k.heap m d value })
    (ticked (on_heap a (with_slot a.world.heap m d value)))
set_stands k a m d value stands allowed there =
    let c : Change = rooted k (slice_set k.heap.slots (16 * m + d) value) k.heap.holds in
    mutated_stands k c a stands
    (slot_mutation k a (16 * m + d) value [] stands (λ begun n is. inl (allowed begun n is)) there)
    (with_slot a.world.heap m d value) a.next (ap (λ (h : Heap). with_slot h m d value) stands.heap) stands.next

-- ---- copies and drops

pub copy_row : (k : CycleHeap) (a : State) (m d s : ℕ) → MarkStands k a
    → (b : State) × HeapAccepts a (heap.Plain (plain.Copy m d s)) (value_reply (slot_at k.heap m s)) b
    × MarkStands (record k { heap = with_slot k.heap m d (slot_at k.heap m s) }) b
copy_row k a m d s stands =
    let value = slot_at k.heap m s in
    let same : slot_at a.world.heap m s ≡ value = ap (λ (h : Heap). slot_at h m s) stands.heap in (
      ticked (on_heap a (with_slot a.world.heap m d value)),
      (
        ap value_reply (sym same),
        ap (λ (v : Option ℕ). ticked (on_heap a (with_slot a.world.heap m d v))) (sym same),
      ),
      set_stands k a m d value stands (λ begun n is. slot_is_not_white k a stands begun m s n is)
          (λ n is. slot_is_there k a stands m s n is),
    )

pub drop_row : (k : CycleHeap) (a : State) (m s : ℕ) → MarkStands k a
    → (b : State) × HeapAccepts a (heap.Plain (plain.Drop m s)) replies.Done b
    × MarkStands (record k { heap = with_slot k.heap m s None }) b
drop_row k a m s stands = grind (arith, set_stands k a m s None stands)

-- ---- loads

field_of-target : (allow : Allowed) (o : Option Object) (i n : ℕ) → field_of o i ≡ Some n
    → has (targets_of allow o) n ≡ true
field_of-target allow None i n is = absurd (cc)
field_of-target allow (Some o) i n is =
    has-left (present o.fields) (allowed_referent allow o.reference) n (has-present_at o.fields i n is)

-- an object leads to what a field of it holds
field_of-leads : (allow : Allowed) (h : Heap) (held : Option ℕ) (i n : ℕ) → field_in h held i ≡ Some n
    → (m : ℕ) × (held ≡ Some m) × (has (targets_at allow h.objects m) n ≡ true)
field_of-leads allow h None i n is = absurd (cc)
field_of-leads allow h (Some m) i n is = (m, refl, field_of-target allow (object_at h.objects m) i n is)

-- before it is known whether the object has to move
abbrev loaded_there : CycleHeap → ℕ → ℕ → Option ℕ → CycleHeap
loaded_there k m d value = let after = barred k value in record after { heap = with_slot after.heap m d value }

load_values : (k : CycleHeap) (a : State) (m d s i : ℕ) (value : Option ℕ) → MarkStands k a
    → field_in k.heap (slot_at k.heap m s) i ≡ value → has_slot k.heap m d ≡ true
    → (b : State) × Loads a m d value (value_reply value) b × MarkStands (loaded_there k m d value) b
load_values k a m d s i None stands is there = grind (arith, set_stands k a m d None stands)
load_values k a m d s i (Some n) stands is there =
    let pending = pending_numbers a.world.pending in
    let set : List (Option ℕ) = slice_set k.heap.slots (16 * m + d) (Some n) in
    let c : Change = rooted k set k.heap.holds in
    let root : has (present set ++ k.heap.holds ++ pending) n ≡ true =
    slot_root (present set) k.heap.holds pending n
    (has-present_here k.heap.slots (16 * m + d) n (slot_within k a m d stands there)) in
    let same : loaded_there k m d (Some n) ≡ barred (mutated k c) (Some n) =
    elim (cases_Bool (is_in k.phase Marking)) [
      | inl marking ↦ elim (cases_Bool (is_white k n)) [
        | inl white ↦ simp (marking, white) refl
        | inr other ↦ simp (marking, other) refl
      ]
      | inr quiet ↦ simp quiet refl
    ] in
    let source = field_of-leads (is_kept k.policy) k.heap (slot_at k.heap m s) i n is in
    let by_any = field_of-leads soft_and_weak_referents k.heap (slot_at k.heap m s) i n is in
    let given : is_there k.heap.objects n ≡ true =
    stands.there.led by_any.0 n (slot_is_not_due k a m s by_any.0 stands by_any.1) by_any.2 in
    let own_there : (j : ℕ) → Some n ≡ Some j → is_there k.heap.objects j ≡ true =
    λ j own. subst (λ o. is_there k.heap.objects o ≡ true) (let e : Some n ≡ Some j = own in cc) given in
    let row = barred_row k c a a.world (alongside_itself a.world) n stands root
    (with_slot a.world.heap m d (Some n)) (replies.Object n)
    (λ marking. slot_mutation k a (16 * m + d) (Some n) (n ∷ []) stands
    (λ begun j own. inr (or_left (n == j) false (eq-eqb n j (let e : Some n ≡ Some j = own in cc)))) own_there)
    (λ quiet. slot_mutation k a (16 * m + d) (Some n) [] stands
    (λ begun j own.
    inl
    (subst (λ o. is_white k o ≡ false) (let e : Some n ≡ Some j = own in cc)
    (lead_is_not_white k a stands begun quiet source.0 n
    (slot_is_not_white k a stands begun m s source.0 source.1) source.2))) own_there)
    refl (ap (λ (h : Heap). with_slot h m d (Some n)) stands.heap) in
    (row.0, row.1, subst (λ (j : CycleHeap). MarkStands j row.0) (sym same) row.2)

pub load_row : (k : CycleHeap) (a : State) (m d s i : ℕ) → MarkStands k a → load_refusal k.heap m d s i ≡ None
    → let value = field_in k.heap (slot_at k.heap m s) i in
    (b : State) × HeapAccepts a (heap.Plain (plain.Load m d s i)) (value_reply value) b
    × MarkStands (loaded k m d value) b
load_row k a m d s i stands accepted =
    let value = field_in k.heap (slot_at k.heap m s) i in
    let same : field_in a.world.heap (slot_at a.world.heap m s) i ≡ value =
    field_in-agrees k a.world.heap stands.heap m s i (said_slot k a m s stands) in
    let slots : has_slots k.heap m d s ≡ true =
    (unless_passes (has_slots k.heap m d s) NoSuchActor (field_refusal k.heap (slot_at k.heap m s) i) accepted).0 in
    let there : has_slot k.heap m d ≡ true = (and_parts (has_slot k.heap m d) (nat_lt s 16) slots).0 in
    let row = load_values (cycle_brought k value) a m d s i value (brought_stands k a value stands) refl there in
    (row.0, subst (λ (v : Option ℕ). Loads a m d v (value_reply value) row.0) (sym same) row.1, row.2)
