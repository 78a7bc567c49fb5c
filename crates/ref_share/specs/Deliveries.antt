-- From the heap to a queue: which calls `enqueue`, `deliver_one`, `deliver_batch` and `deliver_all` have made, and what
-- they answer (this project's profile; Java SE 17 has `Reference.enqueue`).
use Rattle.std.specs.Prelude.{◌≡◌, ℕ, ◌<◌, ◌≤◌, ◌⊎◌, Bool, true, false, List, [], ◌∷◌, length, Option, Some, None}
use Rattle.std.specs.Prelude.{Result, Ok, Err, slice_get, slice_set}
use Rattle.ref_base.specs.HeapSteps.{HeldNotice, NamedStep}
use Rattle.ref_base.specs.declared.fault.Fault.{Fault}
use Rattle.ref_base.specs.declared.fault.Fault.TheVariants.{BadQueue}
use Rattle.ref_base.specs.declared.heap_step.HoldName.{HoldName}
use Rattle.ref_queue.specs.declared.queue.Put.{Put}
use Rattle.ref_queue.specs.declared.queue.Put.TheVariants as puts
use Rattle.ref_base.specs.Outs.{Outs}
use Rattle.ref_base.specs.declared.out.Done.{Done}
use Rattle.ref_base.specs.declared.out.Done.TheVariants as done
use Rattle.ref_clear.specs.declared.handed.Handed.{Handed}
use Rattle.ref_share.specs.HeapCalls.{GivesNotice, GivesBatch, Releases}
use Rattle.ref_share.specs.HeapSeats.{HeapView}
use Rattle.ref_share.specs.QueueCalls.{PutsNotice, PutsBatch}
use Rattle.ref_share.specs.QueueSeats.{SharedQueue, QueueSeat, queue_view, IsQueueSeat}
use Rattle.ref_share.specs.Repeats.{Repeats}
use Rattle.ref_share.specs.declared.answers.Delivery.{Delivery}
use Rattle.ref_share.specs.declared.answers.Delivery.TheVariants.{Nothing, Added, Dropped}
use Rattle.ref_share.specs.declared.answers.ShareFault.{ShareFault}
use Rattle.ref_share.specs.declared.answers.ShareFault.TheVariants.{Refused, Notice, Held}

-- the seats are those of the queues, place by place
abbrev pub AreSeats : {A : Type 0} → List (SharedQueue A) → List QueueSeat → Type 0
AreSeats {A = A} queues seats =
    (k : ℕ) (queue : SharedQueue A) (seat : QueueSeat)
    → slice_get queues k ≡ Some queue → slice_get seats k ≡ Some seat → IsQueueSeat queue seat

-- what an enqueue answers
abbrev pub was_added : Result Delivery ShareFault → Result Bool ShareFault
was_added (Ok (Added n q position)) = Ok true
was_added (Ok delivery) = Ok false
was_added (Err fault) = Err fault

-- the hold of this object goes back to the heap by a release; or that was refused, or no turn is left for it, and the
-- hold comes back
abbrev pub GoesBack : ℕ → HoldName → HeapView → Result Delivery ShareFault → HeapView → Type 0
GoesBack n hold v (Ok (Dropped m)) w = (m ≡ n) × Releases v hold (Ok tt) w
GoesBack n hold v (Err (Held back fault)) w = Releases v hold (Err (fault, back)) w
GoesBack n hold v result w = ⊥

-- one of the lists ends before this place
abbrev pub IsBeyond : {A : Type 0} → ℕ → List (SharedQueue A) → List QueueSeat → Type 0
IsBeyond place queues seats = (length queues ≤ place) ⊎ (length seats ≤ place)

module _ {A : Type 0} (notice : HeldNotice) (queues : List (SharedQueue A)) (seats : List QueueSeat) where
  -- there is a queue at the place of the notice's own, and its seat puts it in, with this answer; the others do nothing
  pub record IsPut (answer : Result (Put HeldNotice) (Fault × HeldNotice)) (after : List QueueSeat) : Type 0 where
    pub old : QueueSeat
    pub new : QueueSeat
    pub within : notice.queue < length queues
    pub there : slice_get seats notice.queue ≡ Some old
    pub after_is : after ≡ slice_set seats notice.queue new
    pub puts : PutsNotice (queue_view old) notice answer (queue_view new)

  -- the notice is put in at its place; or there is none for it, and no queue does anything
  abbrev pub PutsAt : Result (Put HeldNotice) (Fault × HeldNotice) → List QueueSeat → Type 0
  PutsAt (Err (BadQueue, back)) after = IsBeyond notice.queue queues seats × (after ≡ seats)
  PutsAt answer after = IsPut answer after

  -- no queue takes it: it was put in before, or its queue is closed
  abbrev pub IsNotTaken : List QueueSeat → Type 0
  IsNotTaken after = IsPut (Ok (puts.Already notice)) after ⊎ IsPut (Ok (puts.Closed notice)) after

  -- the notice goes into its queue, and the heap does nothing; or no queue takes it, and its hold goes back to the
  -- heap; or it could not be put in, and comes back
  abbrev pub Sends : HeapView → Result Delivery ShareFault → HeapView → List QueueSeat → Type 0
  Sends v (Ok (Added n q position)) w after =
      (n ≡ notice.hold.object) × (q ≡ notice.queue) × (w ≡ v) × IsPut (Ok (puts.Added position)) after
  Sends v (Err (Notice back fault)) w after = (back ≡ notice) × (w ≡ v) × PutsAt (Err (fault, notice)) after
  Sends v result w after = IsNotTaken after × GoesBack notice.hold.object notice.hold v result w

module _ {A : Type 0} (step : NamedStep) (v : HeapView) (queues : List (SharedQueue A)) (seats : List QueueSeat)
  where
    -- the heap's step is called; the notice that it gives, if it gives one, is sent; or no turn is left for the step
    abbrev pub Delivers : Result Delivery ShareFault → HeapView → List QueueSeat → Type 0
    Delivers (Ok Nothing) w after = GivesNotice v step (Ok None) w × (after ≡ seats)
    Delivers (Err (Refused fault)) w after = GivesNotice v step (Err fault) w × (after ≡ seats)
    Delivers result w after =
        (notice : HeldNotice) × (u : HeapView) × GivesNotice v step (Ok (Some notice)) u
        × Sends notice queues seats u result w after

-- ---- a batch

-- the fault with which one of these was refused, if one was
abbrev pub refused_in : List Done → Option Fault
refused_in [] = None
refused_in (done.Refused fault ∷ ds) = Some fault
refused_in (d ∷ ds) = refused_in ds

-- The holds of these notices go back to the heap, first first, by a release each. Where one doesn't, it comes back,
-- with the fault, and those behind it are left.
abbrev pub GoBack : List HeldNotice → HeapView → Result (Unit {0}) (Fault × HoldName) → List HeldNotice → HeapView
    → Type 0
GoBack [] v (Ok _) left w = (left ≡ []) × (w ≡ v)
GoBack [] v (Err back) left w = ⊥
GoBack (notice ∷ rest) v result left w =
    ((u : HeapView) × Releases v notice.hold (Ok tt) u × GoBack rest u result left w)
    ⊎ ((back : Fault × HoldName) × (result ≡ Err back) × Releases v notice.hold (Err back) w × (left ≡ rest))

-- that, told with what became of each
abbrev pub TellsReleased : Outs → Result (Unit {0}) (Fault × HoldName) → Result (Option Outs) ShareFault → Type 0
TellsReleased outs (Ok _) result = result ≡ Ok (Some outs)
TellsReleased outs (Err back) result = result ≡ Err (Held back.1 back.0)

module _ {A : Type 0} (place : ℕ) (batch : List HeldNotice) (queues : List (SharedQueue A)) (seats : List QueueSeat)
  where
    -- there is a queue at the place, and its seat puts the batch in, with this answer; the others do nothing
    pub record IsBatchPut (answer : Result Outs Fault) (left : List HeldNotice) (after : List QueueSeat) : Type 0
      where
        pub old : QueueSeat
        pub new : QueueSeat
        pub within : place < length queues
        pub there : slice_get seats place ≡ Some old
        pub after_is : after ≡ slice_set seats place new
        pub puts : PutsBatch (queue_view old) batch answer left (queue_view new)

    -- the batch is put in at the place; or there is no queue, and none does anything
    abbrev pub PutsBatchAt : Result Outs Fault → List HeldNotice → List QueueSeat → Type 0
    PutsBatchAt (Err BadQueue) left after = IsBeyond place queues seats × (left ≡ batch) × (after ≡ seats)
    PutsBatchAt answer left after = IsBatchPut answer left after

    -- of the batch, which was put in, this is left, and none was refused for want of memory: they go back to the heap
    abbrev pub ReleasesRest : Outs → HeapView → Result (Unit {0}) (Fault × HoldName) → List HeldNotice → HeapView
        → List QueueSeat → Type 0
    ReleasesRest outs v released left w after =
        (rest : List HeldNotice) × IsBatchPut (Ok outs) rest after × (refused_in outs.done ≡ None)
        × GoBack rest v released left w

    -- The batch goes into its queue, and what that doesn't take goes back to the heap; or it could not be put in, or
    -- one of its notices was refused, and what wasn't added is left, and the heap does nothing; or a hold could not go
    -- back.
    abbrev pub SendsBatch : HeapView → Result (Option Outs) ShareFault → List HeldNotice → HeapView → List QueueSeat
        → Type 0
    SendsBatch v (Ok (Some outs)) left w after = ReleasesRest outs v (Ok tt) left w after
    SendsBatch v (Err (Refused fault)) left w after =
        (w ≡ v)
        × (PutsBatchAt (Err fault) left after
        ⊎ ((outs : Outs) × IsBatchPut (Ok outs) left after × (refused_in outs.done ≡ Some fault)))
    SendsBatch v (Err (Held hold fault)) left w after =
        (outs : Outs) × ReleasesRest outs v (Err (fault, hold)) left w after
    SendsBatch v result left w after = ⊥

module _ {A : Type 0} (k max : ℕ) (v : HeapView) (queues : List (SharedQueue A)) (seats : List QueueSeat) where
  -- the notices that the hand gave are sent
  abbrev pub GivesAndSends : Result (Option Outs) ShareFault → List HeldNotice → HeapView → List QueueSeat → Type 0
  GivesAndSends result left w after =
      (handed : Handed) × (batch : List HeldNotice) × (u : HeapView) × GivesBatch v k max [] (Ok (Some handed)) batch u
      × SendsBatch handed.queue batch queues seats u result left w after

  -- the heap's hand of a batch, which was empty, is called; the notices that it gives, if it gives some, are sent
  abbrev pub DeliversBatch : Result (Option Outs) ShareFault → List HeldNotice → HeapView → List QueueSeat → Type 0
  DeliversBatch (Ok None) left w after = GivesBatch v k max [] (Ok None) left w × (after ≡ seats)
  DeliversBatch (Err (Refused fault)) left w after =
      (GivesBatch v k max [] (Err fault) left w × (after ≡ seats)) ⊎ GivesAndSends (Err (Refused fault)) left w after
  DeliversBatch result left w after = GivesAndSends result left w after

-- ---- all that is pending

module _ {A : Type 0} (worker : ℕ) (queues : List (SharedQueue A)) where
  -- as many of the worker's notices as go at once are delivered, and none is left
  abbrev pub DeliversSome : HeapView × List QueueSeat → HeapView × List QueueSeat → Type 0
  DeliversSome a b = (outs : Outs) × DeliversBatch worker 32 a.0 queues a.1 (Ok (Some outs)) [] b.0 b.1

  -- none is pending any more; or the delivery stops with this fault, and these notices are left
  abbrev pub DeliversLast : HeapView → List QueueSeat → Result (Unit {0}) ShareFault → List HeldNotice → HeapView
      → List QueueSeat → Type 0
  DeliversLast v seats (Ok _) left w after = DeliversBatch worker 32 v queues seats (Ok None) left w after
  DeliversLast v seats (Err fault) left w after = DeliversBatch worker 32 v queues seats (Err fault) left w after

  -- notices are delivered, batch after batch, until the last
  abbrev pub DeliversAll : HeapView → List QueueSeat → Result (Unit {0}) ShareFault → List HeldNotice → HeapView
      → List QueueSeat → Type 0
  DeliversAll v seats result left w after =
      (count : ℕ) × (a : HeapView × List QueueSeat) × Repeats DeliversSome count (v, seats) a
      × DeliversLast a.0 a.1 result left w after
