-- What has no referent refers to nothing, so that no reference to the doomed is pending.
use Rattle.ref_clear.proofs.Common.{◌≡◌, ℕ, Bool, true, false, refl, ap, arith, Option, Some, None, has, Reference}
use Rattle.ref_clear.proofs.Common.{refers_into, pending_numbers, State, referent_of, ClearHeap, is_to_clear}
use Rattle.ref_clear.proofs.Common.{HeapStands}
use Rattle.ref_base.specs.DoomedSets.{any_is}

-- what has no referent refers to nothing
pub cleared_refers_to_none : (test : ℕ → Bool) (r : Option Reference) → referent_of r ≡ None
    → refers_into test r ≡ false
cleared_refers_to_none test None none = refl
cleared_refers_to_none test (Some r) none = ap (any_is test) none

-- a reference to the doomed isn't pending
pub to_clear_is_not_pending : (c : ClearHeap) (a : State) (n : ℕ) → HeapStands c a → is_to_clear c.mark n ≡ true
    → has (pending_numbers c.pending) n ≡ false
to_clear_is_not_pending c a n stands refers = grind arith
