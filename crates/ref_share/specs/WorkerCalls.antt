-- What a worker's thread hands on and puts into queues, read off the calls of its own seats (this project's profile;
-- Java SE 17 `java.lang.ref` says of no order).
use Rattle.std.specs.Prelude.{◌≡◌, ℕ, zero, suc, ◌<◌, ◌⊎◌, ◌==◌, ◌&&◌, Bool, true, false, if◌then◌else◌, List, [], ◌∷◌}
use Rattle.std.specs.Prelude.{◌++◌, length, slice_get, Option, Some, Result, Err}
use Rattle.ref_base.specs.ClearingOrder.{is_by}
use Rattle.ref_base.specs.HeapSteps.{HeldNotice, NamedStep}
use Rattle.ref_base.specs.Outs.{Outs}
use Rattle.ref_base.specs.declared.fault.Fault.TheVariants.{TurnsSpent}
use Rattle.ref_base.specs.declared.heap_step.HeapStep.TheVariants as heap
use Rattle.ref_world.specs.HeapReplies.{HeapAnswer}
use Rattle.ref_share.specs.Deliveries.{Delivers, DeliversBatch}
use Rattle.ref_share.specs.HeapTraces.{notices_of_hand}
use Rattle.ref_share.specs.HeapSeats.{HeapView, HeapEntry}
use Rattle.ref_share.specs.QueueSeats.{SharedQueue, QueueSeat, QueueEntry, queue_view}
use Rattle.ref_share.specs.declared.answers.Delivery.{Delivery}
use Rattle.ref_share.specs.declared.answers.ShareFault.{ShareFault}
use Rattle.ref_share.specs.declared.answers.ShareFault.TheVariants.{Notice, Refused}
use Rattle.ref_share.specs.QueueStates.{QueueCall}
use Rattle.ref_share.specs.declared.queue_machine.QueueStep.TheVariants as queue

-- ---- notices of what worker k cleared, for queue q

-- the notice, if it is one
abbrev pub worked_notice : ℕ → ℕ → HeldNotice → List HeldNotice
worked_notice k q notice = if (notice.queue == q) && is_by k notice.cause then notice ∷ [] else []

-- those among several, in order
abbrev pub worked_notices : ℕ → ℕ → List HeldNotice → List HeldNotice
worked_notices k q [] = []
worked_notices k q (notice ∷ notices) = worked_notice k q notice ++ worked_notices k q notices

-- the ones that a call of a hand gives
abbrev pub notice_handed : ℕ → ℕ → NamedStep → HeapAnswer → List HeldNotice
notice_handed k q step reply = worked_notices k q (notices_of_hand step reply)

-- the notices that a put puts in, or is asked to
abbrev pub asked_to_put : QueueCall → List HeldNotice
asked_to_put (queue.Put notice) = notice ∷ []
asked_to_put (queue.PutBatch batch) = batch
asked_to_put step = []

abbrev pub notice_put : ℕ → ℕ → QueueCall → List HeldNotice
notice_put k q step = worked_notices k q (asked_to_put step)

-- those of some calls, in order
abbrev pub notices_handed : ℕ → ℕ → List HeapEntry → List HeldNotice
notices_handed k q [] = []
notices_handed k q (call ∷ calls) = notice_handed k q call.step call.reply ++ notices_handed k q calls

abbrev pub notices_put : ℕ → ℕ → List QueueEntry → List HeldNotice
notices_put k q [] = []
notices_put k q (call ∷ calls) = notice_put k q call.step ++ notices_put k q calls

-- ---- a worker's thread, with one seat of the heap and one of each queue

-- no delivery ended at a queue without a turn
abbrev pub had_turn : {T : Type 0} → Result T ShareFault → Bool
had_turn (Err (Notice back TurnsSpent)) = false
had_turn result = true

-- nor did the delivery of a batch: there the notices would be left
abbrev pub batch_had_turn : {T : Type 0} → Result T ShareFault → List HeldNotice → Bool
batch_had_turn (Err (Refused TurnsSpent)) (notice ∷ left) = false
batch_had_turn result left = true

module _ {A : Type 0} (k : ℕ) (queues : List (SharedQueue A)) where
  -- of what worker k cleared each queue's seat has put in just what the heap's has handed on for that queue, in this
  -- order
  abbrev pub KeepsPace : HeapView → List QueueSeat → Type 0
  KeepsPace v seats =
      (q : ℕ) (s : QueueSeat) → q < length queues → slice_get seats q ≡ Some s
      → notices_put k q (queue_view s).mine ≡ notices_handed k q v.mine

  -- a worker's hand is delivered, while turns are left
  abbrev pub IsDelivered : HeapView → List QueueSeat → HeapView → List QueueSeat → Type 0
  IsDelivered v seats w after =
      (j : ℕ) × (result : Result Delivery ShareFault) × (had_turn result ≡ true)
      × Delivers (heap.Hand j) v queues seats result w after

  -- or a worker's hand of a batch is
  abbrev pub IsBatchDelivered : HeapView → List QueueSeat → HeapView → List QueueSeat → Type 0
  IsBatchDelivered v seats w after =
      (j max : ℕ) × (result : Result (Option Outs) ShareFault) × (left : List HeldNotice)
      × (batch_had_turn result left ≡ true) × DeliversBatch j max v queues seats result left w after

  -- other calls were made, which neither hand on nor put in what worker k cleared
  abbrev pub IsAside : HeapView → List QueueSeat → HeapView → List QueueSeat → Type 0
  IsAside v seats w after =
      ((q : ℕ) → notices_handed k q w.mine ≡ notices_handed k q v.mine)
      × ((q : ℕ) (s : QueueSeat) → slice_get after q ≡ Some s
      → (r : QueueSeat) × (slice_get seats q ≡ Some r)
      × (notices_put k q (queue_view s).mine ≡ notices_put k q (queue_view r).mine))

  -- a notice or a batch was delivered, or other calls were made, as often as the number says
  abbrev pub Works : ℕ → HeapView → List QueueSeat → HeapView → List QueueSeat → Type 0
  Works zero v seats w after = (w ≡ v) × (after ≡ seats)
  Works (suc count) v seats w after =
      (u : HeapView) × (between : List QueueSeat) × Works count v seats u between
      × (IsDelivered u between w after ⊎ (IsBatchDelivered u between w after ⊎ IsAside u between w after))

-- the references that the notices report
abbrev pub references_of : List HeldNotice → List ℕ
references_of [] = []
references_of (notice ∷ notices) = notice.hold.object ∷ references_of notices
