-- How a queue's lists change, whatever stands in it.
use Rattle.ref_base.proofs.Common.{◌≡◌, ℕ, zero, suc, ◌+◌, Bool, true, false, ◌||◌, List, [], ◌∷◌, ◌++◌, length, map}
use Rattle.ref_base.proofs.Common.{refl}
use Rattle.ref_base.proofs.Common.{ap, append_assoc, arith, nat_eq, slice_index_or, append-nil, map-append}
use Rattle.ref_base.proofs.Common.{IsDistinct-push, Lists, new_queue, new_queues, enqueued, was_put, with_parcel}
use Rattle.ref_base.proofs.Common.{with_taken}
use Rattle.std.specs.List.{IsDistinct}
use Rattle.ref_base.proofs.HasLaws.{has-list_any}

module _ {T : Type 0} (object_of : T → ℕ) where
  -- how a queue's lists change where this is put in and that taken, and where it is closed or not
  pub record QueueChanges (old new : Lists T) (ins outs : List ℕ) (closes : Bool) : Type 0 where
    pub put : enqueued object_of new ≡ enqueued object_of old ++ ins
    pub taken : new.taken ≡ old.taken ++ outs
    pub closed : new.closed ≡ (old.closed || closes)
    pub distinct : IsDistinct nat_eq (enqueued object_of old) → IsDistinct nat_eq (enqueued object_of new)
    pub shut : old.closed ≡ true → ins ≡ []

  or_false : (b : Bool) → b ≡ (b || false)
  or_false true = refl
  or_false false = refl

  pub changes_nothing : (lists : Lists T) → QueueChanges lists lists [] [] false
  changes_nothing lists = search (append-nil, or_false)

  -- one change after another
  pub changes_more : (old mid new : Lists T) (ins more_ins outs more_outs : List ℕ) (closes closes_later : Bool)
      → QueueChanges old mid ins outs closes → QueueChanges mid new more_ins more_outs closes_later
      → QueueChanges old new (ins ++ more_ins) (outs ++ more_outs) (closes || closes_later)
  changes_more old mid new ins more_ins outs more_outs closes closes_later first later = grind (arith, append_assoc)

  pub changes_added : (lists : Lists T) (notice : T) → was_put object_of lists notice ≡ false → lists.closed ≡ false
      → QueueChanges lists (with_parcel lists notice) (object_of notice ∷ []) [] false
  changes_added lists notice fresh open_yet =
      grind (arith, map-append, append_assoc, append-nil, IsDistinct-push, has-list_any)

  pub changes_took : (lists : Lists T) (notice : T) (rest : List T) → lists.stands ≡ notice ∷ rest
      → QueueChanges lists (with_taken object_of lists notice rest) [] (object_of notice ∷ []) false
  changes_took lists notice rest first = grind (arith, append_assoc, append-nil)

  pub changes_took_some : (lists : Lists T) (front rest : List T) → lists.stands ≡ front ++ rest
      → QueueChanges lists (record lists { taken = lists.taken ++ map object_of front; stands = rest }) []
      (map object_of front) false
  changes_took_some lists front rest first = grind (arith, map-append, append_assoc, append-nil)

  -- a queue may be closed again, and then nothing changes
  pub changes_closed : (lists : Lists T) (closes : Bool) → true ≡ (lists.closed || closes)
      → QueueChanges lists (record lists { closed = true }) [] [] closes
  changes_closed lists closes is = search append-nil

-- ---- queues into which nothing was ever put

pub length-new_queues : (T : Type 0) (first count : ℕ) → length (new_queues {T = T} first count) ≡ count
length-new_queues T first zero = refl
length-new_queues T first (suc count) = ap suc (length-new_queues T (first + 1) count)

pub new_queues_at : (T : Type 0) (first count k q : ℕ) → first + k ≡ q
    → slice_index_or (new_queues {T = T} first count) k (new_queue q) ≡ new_queue q
new_queues_at T first zero k q is = refl
new_queues_at T first (suc count) zero q is = ap new_queue (omega arith)
new_queues_at T first (suc count) (suc k) q is = new_queues_at T (first + 1) count k q (omega arith)
