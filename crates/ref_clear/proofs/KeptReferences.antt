-- No step of marking gives a cleared reference a referent, or changes the queue of one.
use Rattle.ref_clear.proofs.Common.{arith, ◌≡◌, ℕ, true, Option, Some, None, refl, ap, ◌∙◌, inl, inr, List, ◌∷◌, []}
use Rattle.ref_clear.proofs.Common.{cases_Bool, Object, Reference, is_there, Heap, slot_at, reference_in, reference_at}
use Rattle.ref_clear.proofs.Common.{changed_in, cut, with_reference, changed_reference, cleared, registered_in}
use Rattle.ref_clear.proofs.Common.{with_hold, targets_at, is_kept, NamedStep, is_in, referent_of, Fault, Marking}
use Rattle.ref_clear.proofs.Common.{CycleHeap, shaded_all, with_cleared, cycle_begun, unless_refused, barred, with_made}
use Rattle.ref_clear.proofs.Common.{grey_scanned, done_in, after_in_cycle, refusal_in_cycle}
use Rattle.ref_base.specs.Heaps.{made, stored, got, with_field, got_at}
use Rattle.ref_mark.specs.CycleHeaps.{cycle_healed, whitened, roots_of}
use Rattle.std.proofs.Common.{Result, Ok, Err}
use Rattle.ref_objects.specs.Grounds.{choice_in}
use Rattle.ref_mark.specs.CycleHeaps.{chosen_by, moves_begun, moves_ended}
use Rattle.ref_mark.specs.MarkCalls.{with_hold_of}
use Rattle.ref_base.proofs.Lookups.{lookup-changed, object_at-push}
use Rattle.ref_base.proofs.Reshaping.{queue-cleared}
use Rattle.ref_mark.proofs.LoopLemmas.{shaded_heap}
use Rattle.ref_mark.proofs.Scanning.{with_found-only}
use Rattle.ref_base.specs.declared.heap_step.HeapStep.TheVariants as heap
use Rattle.ref_base.specs.declared.plain_step.PlainStep.TheVariants as plain

-- a reference gets no referent where it had none, and its queue is the same
abbrev pub IsKeptAs : Option Reference → Option Reference → Type 0
IsKeptAs r q = (referent_of r ≡ None → referent_of q ≡ None) × (registered_in q ≡ registered_in r)

same_reference : (r : Option Reference) → IsKeptAs r r
same_reference r = (λ none. none, refl)

-- each object that is there has its reference kept so
abbrev pub KeepsReferences : Heap → Heap → Type 0
KeepsReferences h g = (n : ℕ) → is_there h.objects n ≡ true → IsKeptAs (reference_at h n) (reference_at g n)

pub same_objects : (h g : Heap) → g.objects ≡ h.objects → KeepsReferences h g
same_objects h g same n there = grind arith

same_heap : (h g : Heap) → g ≡ h → KeepsReferences h g
same_heap h g same = same_objects h g (ap (λ (i : Heap). i.objects) same)

-- ---- changes of one object

-- that keep its reference
pub stays-changed : (h : Heap) (held : Option ℕ) (f : Object → Object) → ((o : Object) → (f o).no ≡ o.no)
    → ((o : Object) → IsKeptAs o.reference (f o).reference) → KeepsReferences h (changed_in h held f)
stays-changed h None f number keeps n there = same_reference (reference_at h n)
stays-changed h (Some i) f number keeps n there =
    lookup-changed (λ o p. IsKeptAs (reference_in o) (reference_in p)) h.objects i f number
    (λ o. same_reference (reference_in o)) (λ o found. keeps o) n

pub cleared-none : (r : Option Reference) → referent_of (changed_reference cleared r) ≡ None
cleared-none None = refl
cleared-none (Some r) = refl

pub cleared-kept : (r : Option Reference) → IsKeptAs r (changed_reference cleared r)
cleared-kept r = (λ none. cleared-none r, queue-cleared r)

got-kept : (clock : ℕ) (r : Option Reference) → IsKeptAs r (changed_reference (got_at clock) r)
got-kept clock None = same_reference None
got-kept clock (Some r) = grind arith

stays-cut : (h : Heap) (m s : ℕ) → KeepsReferences h (cut h m s)
stays-cut h m s =
    stays-changed h (slot_at h m s) (with_reference cleared) (λ o. refl) (λ o. cleared-kept o.reference)

stays-stored : (h : Heap) (m d i s : ℕ) → KeepsReferences h (stored h m d i s)
stays-stored h m d i s =
    stays-changed h (slot_at h m d) (with_field i (slot_at h m s)) (λ o. refl) (λ o. same_reference o.reference)

stays-got : (h : Heap) (m d s : ℕ) (value : Option ℕ) → KeepsReferences h (got h m d s value)
stays-got h m d s None = same_objects h (got h m d s None) refl
stays-got h m d s (Some n) =
    stays-changed h (slot_at h m s) (with_reference (got_at h.clock)) (λ o. refl) (λ o. got-kept h.clock o.reference)

stays-made : (h : Heap) (m d : ℕ) (o : Object) → KeepsReferences h (made h m d o)
stays-made h m d o n there = search object_at-push

-- ---- what leaves the heap as it is

barred-heap : (k : CycleHeap) (value : Option ℕ) → (barred k value).heap ≡ k.heap
barred-heap k None =
    elim (cases_Bool (is_in k.phase Marking)) [ inl marking ↦ simp marking refl | inr other ↦ simp other refl ]
barred-heap k (Some n) = grind arith

scanned-heap : (k : CycleHeap) (w : ℕ) (grey : List ℕ) → (grey_scanned k w grey).heap ≡ k.heap
scanned-heap k w [] = refl
scanned-heap k w (n ∷ rest) =
    let targets = targets_at (is_kept k.policy) k.heap.objects n in
    let grown : CycleHeap = shaded_all (cycle_healed (record k { grey = rest }) n) targets in
    ap (λ (j : CycleHeap). j.heap) (with_found-only grown w n)
    ∙ shaded_heap (cycle_healed (record k { grey = rest }) n) grown targets refl

pub begun-heap : (k : CycleHeap) (now : ℕ) (how : _) (late : List ℕ)
    → (shaded_all (cycle_begun k now how) late).heap ≡ (whitened k now how).heap
begun-heap k now how late =
    shaded_heap (cycle_begun k now how) (shaded_all (cycle_begun k now how) late) late refl
    ∙ shaded_heap (whitened k now how) (cycle_begun k now how) (roots_of k.heap) refl

-- ---- the steps of marking

held_stays : (h : Heap) (held : Option ℕ) → KeepsReferences h (with_hold_of h held)
held_stays h None = same_heap h h refl
held_stays h (Some n) = same_objects h (with_hold h n) refl

made_stays : (k : CycleHeap) (m d : ℕ) (o : Object) → KeepsReferences k.heap (with_made k m d o).heap
made_stays k m d o = grind (arith, stays-made k.heap m d o)

pub cleared_stays : (k : CycleHeap) (m s : ℕ) → KeepsReferences k.heap (with_cleared k m s).heap
cleared_stays k m s = grind (arith, stays-cut k.heap m s)

-- a clear keeps the configuration
pub config-cleared : (k : CycleHeap) (m s : ℕ) → (with_cleared k m s).heap.config ≡ k.heap.config
config-cleared k m s = grind arith

chosen_stays : (k : CycleHeap) (answer : Result ℕ Fault) → (chosen_by k answer).heap ≡ k.heap
chosen_stays k (Ok count) = refl
chosen_stays k (Err fault) = refl

ended_stays : (k : CycleHeap) → (moves_ended k).heap ≡ k.heap
ended_stays k = grind arith

done_stays : (k : CycleHeap) (step : NamedStep) → KeepsReferences k.heap (done_in k step).heap
done_stays k (heap.Plain (plain.Get m d s)) = grind (arith, stays-got k.heap m d s)
done_stays k (heap.Plain (plain.Begin now how)) =
    same_objects k.heap (cycle_begun k now how).heap
    (ap (λ (h : Heap). h.objects) (shaded_heap (whitened k now how) (cycle_begun k now how) (roots_of k.heap) refl))
done_stays k (heap.Plain plain.Select) = same_heap k.heap (moves_begun k).heap (chosen_stays k (choice_in k.space))
done_stays k (heap.Plain plain.EndMove) = same_heap k.heap (moves_ended k).heap (ended_stays k)
done_stays k step =
    search (
      made_stays,
      stays-stored,
      barred-heap,
      same_objects,
      stays-got,
      cleared_stays,
      held_stays,
      shaded_heap,
      same_heap,
      scanned-heap,
      refl,
    )

stays_by : (k : CycleHeap) (step : NamedStep) (refused : Option Fault)
    → KeepsReferences k.heap (unless_refused refused (λ fault. k) (done_in k step)).heap
stays_by k step None = done_stays k step
stays_by k step (Some fault) = same_heap k.heap k.heap refl

pub after_stays : (k : CycleHeap) (step : NamedStep) → KeepsReferences k.heap (after_in_cycle k step).heap
after_stays k step = stays_by k step (refusal_in_cycle k step)
