-- What mutators do to a heap, they do to the heap as they read it.
use Rattle.ref_mark.proofs.Common.{occupied, arith, ◌≡◌, ℕ, ◌+◌, ◌<◌, true, false, not, refl, ◌∙◌, ap, List, map}
use Rattle.ref_mark.proofs.Common.{Option, Some}
use Rattle.ref_mark.proofs.Common.{None, and_right, with_new_tag, has, Object, is_there, plain_object, any_is}
use Rattle.ref_mark.proofs.Common.{refers_into, is_new_clear, Heap, reference_at, changed_in, with_reference, cleared}
use Rattle.ref_mark.proofs.Common.{new_reference, made, shown, reference_of, Strength, CycleHeap, is_white}
use Rattle.ref_mark.proofs.Common.{is_past_mark, is_doomed, doomed, young, with_made, shown_heap}
use Rattle.ref_base.proofs.NewClears.{refers_into-same}
use Rattle.ref_base.proofs.Reshaping.{map-changed_at}
use Rattle.ref_base.proofs.ShownObjects.{shown-no, map-shown_push, changed_at-cleared}
use Rattle.ref_mark.proofs.DoomedLists.{has-doomed, doomed-changed_in, doomed-made, is_there-above}

-- a change of an object that keeps its number and goes through what is shown
pub shown_heap-changed_in : (k : CycleHeap) (held : Option ℕ) (f : Object → Object) → ((o : Object) → (f o).no ≡ o.no)
    → ((d : List ℕ) (o : Object) → shown d (f o) ≡ f (shown d o))
    → shown_heap (record k { heap = changed_in k.heap held f }) ≡ changed_in (shown_heap k) held f
shown_heap-changed_in k None f keeps through = refl
shown_heap-changed_in k (Some n) f keeps through = search (doomed-changed_in, map-changed_at, shown-no)

-- ---- what is made

-- a plain object is no new clear
pub is_new_clear-plain : (d : List ℕ) (n : ℕ) (fields : List (Option ℕ))
    → is_new_clear d (plain_object n fields) ≡ false
is_new_clear-plain d n fields = and_right (not (has d n)) false refl

any_doomed : (k : CycleHeap) (value : Option ℕ) → any_is (is_white k) value ≡ false
    → any_is (has (doomed k)) value ≡ false
any_doomed k None unmet = refl
any_doomed k (Some n) unmet =
    has-doomed k n ∙ and_right (is_past_mark k.phase) (is_white k n) unmet

-- nor is a reference whose referent isn't white
pub is_new_clear-reference : (k : CycleHeap) (h : Heap) (n : ℕ) (strength : Strength) (referent queue : Option ℕ)
    (count : ℕ) → any_is (is_white k) referent ≡ false
    → is_new_clear (doomed k) (new_reference h n strength referent queue count) ≡ false
is_new_clear-reference k h n strength referent queue count unmet =
    and_right (not (has (doomed k) n)) (any_is (has (doomed k)) referent) (any_doomed k referent unmet)

pub young-heap : (k : CycleHeap) (n : ℕ) → (young k n).heap ≡ k.heap
young-heap k n = grind arith

-- one more object that is no new clear is read as it is
pub shown_heap-made : (k : CycleHeap) (m d : ℕ) (o : Object) → is_there k.heap.objects o.no ≡ false
    → is_new_clear (doomed k) o ≡ false → shown_heap (with_made k m d o) ≡ made (shown_heap k) m d o
shown_heap-made k m d o new keeps =
    let more : CycleHeap = record k {
      heap = made k.heap m d o;
      next = k.next + 1;
      tags = with_new_tag k.tags o.no;
      space = occupied k.space o.no;
    } in
    let same : (with_made k m d o).heap ≡ made k.heap m d o = young-heap more o.no in
    ap (λ (e : List ℕ). record (with_made k m d o).heap {
      objects = map (λ p. shown e p) (with_made k m d o).heap.objects;
    }) (doomed-made k m d o new)
    ∙ ap (λ (h : Heap). record h { objects = map (λ p. shown (doomed k) p) h.objects }) same
    ∙ ap (λ (os : List Object). record (made k.heap m d o) { objects = os })
    (map-shown_push (doomed k) k.heap.objects o keeps)

pub shown_heap-made_plain : (k : CycleHeap) (m d : ℕ) (fields : List (Option ℕ))
    → ((n : ℕ) → is_there k.heap.objects n ≡ true → n < k.next)
    → shown_heap (with_made k m d (plain_object k.next fields)) ≡ made (shown_heap k) m d (plain_object k.next fields)
shown_heap-made_plain k m d fields below = search (shown_heap-made, is_there-above, is_new_clear-plain)

-- ---- clears

-- a reference to the doomed that isn't white reads as cleared, and a cut then changes nothing that is read
pub cut-shown : (k : CycleHeap) (held : Option ℕ) → any_is (is_white k) held ≡ false
    → refers_into (is_doomed k) (reference_of k.heap held) ≡ true
    → changed_in (shown_heap k) held (with_reference cleared) ≡ shown_heap k
cut-shown k None unmet met = refl
cut-shown k (Some n) unmet met =
    let out : has (doomed k) n ≡ false = has-doomed k n ∙ and_right (is_past_mark k.phase) (is_white k n) unmet in
    ap (λ (os : List Object). record k.heap { objects = os })
    (changed_at-cleared (doomed k) k.heap.objects n out
    (refers_into-same (has (doomed k)) (is_doomed k) (has-doomed k) (reference_at k.heap n) ∙ met))
