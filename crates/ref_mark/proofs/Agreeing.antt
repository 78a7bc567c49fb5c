-- What agrees with the heap as mutators read it reads and changes as it does.
use Rattle.ref_mark.proofs.Common.{arith, ◌≡◌, ℕ, true, false, refl, sym, ap, ◌∙◌, List, [], Option, Some, None, has}
use Rattle.ref_mark.proofs.Common.{Object, is_there, any_is, Heap, slot_at, changed_in, made, shown, field_in}
use Rattle.ref_mark.proofs.Common.{reference_of, heap_but, is_in, State, Phase, Idle, Marking, Clearing, Sweeping}
use Rattle.ref_mark.proofs.Common.{Moving}
use Rattle.ref_mark.proofs.Common.{CycleHeap, is_white, is_past_mark, is_in_cycle, doomed, MarkStands, ReadsAs, unsaid}
use Rattle.ref_mark.proofs.Common.{shown_heap}
use Rattle.ref_base.proofs.Forgetting.{IsSaid, heap_but-none, field_in-but, reference_of-but, changed_in-but, made-but}
use Rattle.ref_base.proofs.ShownObjects.{field_in-shown}
use Rattle.ref_mark.proofs.DoomedLists.{has-doomed, doomed-changed_in}
use Rattle.ref_mark.proofs.ShownHeaps.{shown_heap-changed_in}
use Rattle.ref_mark.proofs.RootFacts.{slot_off}

-- ---- before the sweep nothing is forgotten

unsaid-before : (k : CycleHeap) → is_past_mark k.phase ≡ false → unsaid k ≡ []
unsaid-before k before = grind arith

pub same_before : (k : CycleHeap) (h : Heap) → is_past_mark k.phase ≡ false → ReadsAs k h → h ≡ shown_heap k
same_before k h before agrees =
    let none = unsaid-before k before in
    sym (ap (λ d. heap_but d h) none ∙ heap_but-none h) ∙ agrees ∙ ap (λ d. heap_but d (shown_heap k)) none
    ∙ heap_but-none (shown_heap k)

pub agrees_same : (k : CycleHeap) (h : Heap) → h ≡ shown_heap k → ReadsAs k h
agrees_same k h same = ap (heap_but (unsaid k)) same

-- ---- from one heap to the next

pub agrees_next : (k j : CycleHeap) (h g : Heap) → unsaid j ≡ unsaid k → shown_heap j ≡ g
    → heap_but (unsaid k) h ≡ heap_but (unsaid k) g
    → ReadsAs j h
agrees_next k j h g same shows agrees =
    ap (λ d. heap_but d h) same ∙ agrees ∙ sym (ap (λ d. heap_but d g) same) ∙ ap (heap_but (unsaid j)) (sym shows)

pub unsaid_same : (k j : CycleHeap) → j.phase ≡ k.phase → doomed j ≡ doomed k → unsaid j ≡ unsaid k
unsaid_same k j phase dooms = cc

-- ---- what is read and changed of what isn't forgotten

module _ (k : CycleHeap) (h : Heap) (agrees : ReadsAs k h) where
  pub field_in-agrees : (m s i : ℕ) → IsSaid (unsaid k) (slot_at k.heap m s)
      → field_in h (slot_at h m s) i ≡ field_in k.heap (slot_at k.heap m s) i
  field_in-agrees m s i said =
      let held = slot_at k.heap m s in
      ap (λ (g : Heap). field_in h (slot_at g m s) i) agrees ∙ sym (field_in-but (unsaid k) h held i said)
      ∙ ap (λ (g : Heap). field_in g held i) agrees ∙ field_in-but (unsaid k) (shown_heap k) held i said
      ∙ field_in-shown (doomed k) k.heap held i

  pub reference_of-agrees : (m s : ℕ) → IsSaid (unsaid k) (slot_at k.heap m s)
      → reference_of h (slot_at h m s) ≡ reference_of (shown_heap k) (slot_at k.heap m s)
  reference_of-agrees m s said =
      let held = slot_at k.heap m s in
      ap (λ (g : Heap). reference_of h (slot_at g m s)) agrees ∙ sym (reference_of-but (unsaid k) h held said)
      ∙ ap (λ (g : Heap). reference_of g held) agrees ∙ reference_of-but (unsaid k) (shown_heap k) held said

  -- of an object
  pub changed_in-agrees : (held : Option ℕ) (f : Object → Object) → IsSaid (unsaid k) held
      → ((o : Object) → (f o).no ≡ o.no)
      → heap_but (unsaid k) (changed_in h held f) ≡ heap_but (unsaid k) (changed_in (shown_heap k) held f)
  changed_in-agrees held f said number = grind (arith, changed_in-but)

  -- the heap that is changed so reads as the one in which an object is
  pub agrees_changed : (held : Option ℕ) (f : Object → Object) → IsSaid (unsaid k) held
      → ((o : Object) → (f o).no ≡ o.no) → ((d : List ℕ) (o : Object) → shown d (f o) ≡ f (shown d o))
      → ReadsAs (record k { heap = changed_in k.heap held f }) (changed_in h held f)
  agrees_changed held f said number through =
      search (agrees_next, doomed-changed_in, shown_heap-changed_in, changed_in-agrees held f said number)

  pub made-agrees : (m t : ℕ) (o : Object) → has (unsaid k) o.no ≡ false
      → heap_but (unsaid k) (made h m t o) ≡ heap_but (unsaid k) (made (shown_heap k) m t o)
  made-agrees m t o kept =
      made-but (unsaid k) h m t o kept ∙ ap (λ (g : Heap). made g m t o) agrees
      ∙ sym (made-but (unsaid k) (shown_heap k) m t o kept)

-- ---- what slots hold is said

said_held : (k : CycleHeap) (held : Option ℕ) → (is_in k.phase Sweeping ≡ true → any_is (is_white k) held ≡ false)
    → IsSaid (unsaid k) held
said_held k None other = tt
said_held k (Some n) other = grind (arith, has-doomed)

sweeping_begun : (phase : Phase) → is_in phase Sweeping ≡ true → is_in_cycle phase ≡ true
sweeping_begun Idle sweeping = sweeping
sweeping_begun Marking sweeping = refl
sweeping_begun Clearing sweeping = refl
sweeping_begun Sweeping sweeping = refl
sweeping_begun Moving sweeping = sweeping

pub said_slot : (k : CycleHeap) (a : State) (m s : ℕ) → MarkStands k a → IsSaid (unsaid k) (slot_at k.heap m s)
said_slot k a m s stands =
    said_held k (slot_at k.heap m s) (λ sweeping. slot_off k a m s stands (sweeping_begun k.phase sweeping))

-- what isn't there isn't doomed
pub said_new : (k : CycleHeap) (n : ℕ) → is_there k.heap.objects n ≡ false → has (unsaid k) n ≡ false
said_new k n new = grind (arith, has-doomed)
