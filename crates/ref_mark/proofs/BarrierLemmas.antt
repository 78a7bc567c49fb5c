-- What a get leaves, step by step of its code: the objects' part first, and then the barrier.
use Rattle.ref_mark.proofs.Common.{arith, ◌≡◌, ℕ, ◌*◌, true, refl, sym, ap, ◌∙◌, Option, Some, None, length, Heap}
use Rattle.ref_mark.proofs.Common.{Ground, slot_at, with_slot, has_slot, is_past_mark, CycleHeap, barred, undoomed}
use Rattle.ref_mark.proofs.Common.{with_got, got, with_reference, changed_in, got_at, ground_with_heap, ground_of, Bool}
use Rattle.ref_mark.proofs.Common.{List, Worklist, Chain, Phase, Policy, seen_marker, reference_of, referent_got}
use Rattle.ref_mark.proofs.Common.{value_got, value_reply, get_refusal, IsWellFormed, IsSoundMarker}
use Rattle.std.proofs.lemmas.List.{get_or-set_same}
use Rattle.ref_objects.specs.Grounds.{read_as}
use Rattle.ref_mark.specs.MarkCalls.{MarkerDoes}
use Rattle.ref_mark.proofs.ReferenceChanges.{with_got-barred}
use Rattle.ref_mark.proofs.MarkerLemmas.{seen_heaped, sound_brought}
use Rattle.ref_mark.proofs.ReferenceChanges.{got_there}
use Rattle.ref_mark.proofs.Common.{cycle_brought, ground_brought}
use Rattle.ref_base.specs.declared.heap_step.HeapStep.TheVariants as heap
use Rattle.ref_base.specs.declared.plain_step.PlainStep.TheVariants as plain

-- ---- a slot that was just written

slot_at-written : (h : Heap) (m d : ℕ) (value : Option ℕ) → has_slot h m d ≡ true
    → length h.slots ≡ 16 * h.config.mutators → slot_at (with_slot h m d value) m d ≡ value
slot_at-written h m d value there sized = grind (arith, get_or-set_same)

-- a soft reference was stamped before
slots-got : (h : Heap) (m s : ℕ) → (changed_in h (slot_at h m s) (with_reference (got_at h.clock))).slots ≡ h.slots
slots-got h m s = grind arith

slot_at-got : (h : Heap) (m d s : ℕ) (value : Option ℕ) → has_slot h m d ≡ true
    → length h.slots ≡ 16 * h.config.mutators → slot_at (got h m d s value) m d ≡ value
slot_at-got h m d s None there sized = slot_at-written h m d None there sized
slot_at-got h m d s (Some n) there sized = grind (arith, slots-got, get_or-set_same)

got-barred : (k : CycleHeap) (m d s : ℕ) (value : Option ℕ)
    → barred (record k { heap = got k.heap m d s value }) value ≡ got_there k m d s value
got-barred k m d s None = grind arith
got-barred k m d s (Some n) = sym (with_got-barred k m d s n)

got_by : (k : CycleHeap) (m d s : ℕ) (value : Option ℕ) → has_slot k.heap m d ≡ true
    → length k.heap.slots ≡ 16 * k.heap.config.mutators
    → barred (record k { heap = got k.heap m d s value }) (slot_at (got k.heap m d s value) m d)
    ≡ got_there k m d s value
got_by k m d s value there sized = search (slot_at-got, got-barred)

config-got : (h : Heap) (m d s : ℕ) (value : Option ℕ) → (got h m d s value).config ≡ h.config
config-got h m d s None = refl
config-got h m d s (Some n) = grind arith

-- ---- the doomed are what isn't marked, once a mark has ended

read_as-undoomed : (k : CycleHeap) (value : Option ℕ)
    → read_as (ground_of k) (is_past_mark k.phase) value ≡ undoomed k value
read_as-undoomed k None = refl
read_as-undoomed k (Some n) = refl

-- ---- a get

-- the objects' get, by what is hidden, and then the barrier
pub get_does : {g after : Ground} {grey : Worklist} {found : List Chain} {phase : Phase} {how : Policy} {cycle : ℕ}
    (m d s : ℕ) {hide : Bool} {value : Option ℕ} {j : CycleHeap} → IsSoundMarker g grey found phase → IsWellFormed g
    → hide ≡ is_past_mark phase
    → get_refusal g.heap m d s ≡ None
    → value ≡ read_as g hide (referent_got (reference_of g.heap (slot_at g.heap m s)))
    → after ≡ ground_with_heap
    (ground_brought g (read_as g hide (referent_got (reference_of g.heap (slot_at g.heap m s)))))
    (got g.heap m d s (read_as g hide (referent_got (reference_of g.heap (slot_at g.heap m s)))))
    → j ≡ barred (seen_marker after grey found phase how cycle) (slot_at after.heap m d)
    → MarkerDoes (seen_marker g grey found phase how cycle) (heap.Plain (plain.Get m d s)) (value_reply value) j
get_does {g} {after} {grey} {found} {phase} {how} {cycle} m d s {hide} sound formed hides accepted answer objects bars =
    let k : CycleHeap = seen_marker g grey found phase how cycle in
    let read : Option ℕ = read_as g hide (referent_got (reference_of g.heap (slot_at g.heap m s))) in
    let there : has_slot g.heap m d ≡ true = slot_there g.heap m d s accepted in
    let told : read ≡ value_got k m s =
    ap (λ i. read_as g i (referent_got (reference_of g.heap (slot_at g.heap m s)))) hides
    ∙ read_as-undoomed k (referent_got (reference_of g.heap (slot_at g.heap m s))) in
    let left =
    bars
    ∙ ap (λ (i : CycleHeap). barred i (slot_at i.heap m d))
    (seen_heaped (got g.heap m d s read) (config-got g.heap m d s read) objects (sound_brought read sound) how cycle)
    ∙ got_by (cycle_brought k read) m d s read there formed.orderly.slots in
    record {
      answer = simp accepted (ap value_reply (answer ∙ told));
      after = simp accepted (left ∙ ap (with_got k m d s) told);
    }
  where
    slot_there : (h : Heap) (m d s : ℕ) → get_refusal h m d s ≡ None → has_slot h m d ≡ true
    slot_there h m d s accepted = grind arith
