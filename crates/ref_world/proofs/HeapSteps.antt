-- What a step of the heap's machine leaves.
use Rattle.ref_world.proofs.Common.{◌≡◌, ℕ, Option, Some, None, refl, Fault, unless_refused, WorldHeap, after_in}
use Rattle.ref_base.specs.declared.heap_step.HeapStep.TheVariants as heap
use Rattle.ref_base.specs.declared.plain_step.PlainStep.TheVariants as plain

same_either_way : {T : Type 0} (refused : Option Fault) (k : T) → unless_refused refused (λ fault. k) k ≡ k
same_either_way None k = refl
same_either_way (Some fault) k = refl

-- a comparison changes nothing
pub comparison_changes_nothing : (c : WorldHeap) (m s v : ℕ) → c ≡ after_in c (heap.Plain (plain.RefersTo m s v))
comparison_changes_nothing c m s v = search same_either_way
