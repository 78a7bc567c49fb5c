-- What a heap reads as, of what isn't white.
use Rattle.ref_mark.proofs.Common.{◌≡◌, ℕ, false, refl, ap, if◌then◌else◌, Option, Some, None, and_right, any_is}
use Rattle.ref_mark.proofs.Common.{reference_of, CycleHeap, is_white, is_past_mark, doomed, undoomed, shown_heap}
use Rattle.ref_base.proofs.ShownObjects.{shown_reference, reference_in-shown, unless_among}
use Rattle.ref_mark.proofs.DoomedLists.{has-doomed}

-- a reference that isn't white is shown cleared where its referent is doomed
pub reference_of-shown : (k : CycleHeap) (held : Option ℕ) → any_is (is_white k) held ≡ false
    → reference_of (shown_heap k) held ≡ shown_reference (doomed k) (reference_of k.heap held)
reference_of-shown k None unmet = refl
reference_of-shown k (Some n) unmet = search (reference_in-shown, has-doomed, and_right)

pub undoomed-among : (k : CycleHeap) (value : Option ℕ) → unless_among (doomed k) value ≡ undoomed k value
undoomed-among k None = refl
undoomed-among k (Some n) = ap (λ b. if b then None else Some n) (has-doomed k n)

-- before a mark has ended nothing reads as null that isn't
pub undoomed-before : (k : CycleHeap) (value : Option ℕ) → is_past_mark k.phase ≡ false → undoomed k value ≡ value
undoomed-before k None before = refl
undoomed-before k (Some n) before = simp before refl
