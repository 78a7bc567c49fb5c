-- The seats of queues, place by place.
use Rattle.ref_share.proofs.Common.{◌≡◌, ℕ, zero, suc, ◌<◌, List, [], ◌∷◌, length, Option, Some, ◌⊎◌, inl, inr, refl}
use Rattle.ref_share.proofs.Common.{ap, sym, subst, ◌∙◌, ◌≢◌, arith, Result, Ok, Err, IfErr, true, slice_get, slice_set}
use Rattle.ref_share.proofs.Common.{false≢true, Fault, BadQueue, HeldNotice, Put, AreSeats, PutsAt, PutsNotice}
use Rattle.ref_share.proofs.Common.{IsQueueSeat, queue_view, SharedQueue, QueueSeat}
use Rattle.std.specs.Prelude.{unwrap_or, is_some, false}
use Rattle.ref_base.specs.Outs.{Outs}
use Rattle.ref_share.proofs.Common.{None, HoldName, HeapView, ShareFault, Busy, Notice}
use Rattle.ref_clear.specs.declared.handed.Handed.{Handed}
use Rattle.ref_share.specs.Deliveries.{PutsBatchAt, GoBack, TellsReleased, SendsBatch, DeliversBatch, refused_in}
use Rattle.ref_share.specs.Deliveries.{DeliversSome}
use Rattle.ref_share.proofs.ReleasedRest.{all_back_leaves_none}
use Rattle.ref_share.specs.HeapCalls.{GivesBatch}
use Rattle.ref_share.specs.declared.answers.ShareFault.TheVariants.{Refused, Held}
use Rattle.ref_share.specs.QueueCalls.{PutsBatch, refuses_put}

-- what stands in a list after a change at k is what it was changed to, or stood there before, elsewhere
pub changed_there : {T : Type 0} (xs : List T) (k j : ℕ) (t y : T) → slice_get (slice_set xs k t) j ≡ Some y
    → ((j ≡ k) × (y ≡ t)) ⊎ ((j ≢ k) × (slice_get xs j ≡ Some y))
changed_there [] k j t y there = absurd cc
changed_there {T = T} (x ∷ xs) zero zero t y there = inl (refl, sym (ap (λ (o : Option T). unwrap_or o y) there))
changed_there (x ∷ xs) zero (suc j) t y there = inr ((λ is. omega (arith, is)), there)
changed_there (x ∷ xs) (suc k) zero t y there = inr ((λ is. omega (arith, is)), there)
changed_there (x ∷ xs) (suc k) (suc j) t y there =
    elim (changed_there xs k j t y there) [
      | inl here ↦ inl (ap suc here.0, here.1)
      | inr else ↦ inr ((λ is. else.0 (omega (arith, is))), else.1)
    ]

-- a seat that is one of its queue still stands for the one that did
pub still_seats : {A : Type 0} (queues : List (SharedQueue A)) (seats : List QueueSeat) (k : ℕ)
    (queue : SharedQueue A) (seat : QueueSeat) → AreSeats queues seats → slice_get queues k ≡ Some queue
    → IsQueueSeat queue seat → AreSeats queues (slice_set seats k seat)
still_seats {A = A} queues seats k queue seat are there own j other new found placed =
    elim (changed_there seats k j seat new placed) [
      | inl here ↦
          let found_here = subst (λ (i : ℕ). slice_get queues i ≡ Some other) here.0 found in
          let same : queue ≡ other = ap (λ (o : Option (SharedQueue A)). unwrap_or o other) (sym there ∙ found_here) in
          let own_here = subst (λ (q : SharedQueue A). IsQueueSeat q seat) same own in
          subst (λ (s : QueueSeat). IsQueueSeat other s) (sym here.1) own_here
      | inr before ↦ are j other new found before.1
    ]

-- a put of the seat at a place
pub put_at_place : {A : Type 0} (notice : HeldNotice) (queues : List (SharedQueue A)) (seats : List QueueSeat)
    (old new : QueueSeat) (result : Result (Put HeldNotice) (Fault × HeldNotice)) → notice.queue < length queues
    → slice_get seats notice.queue ≡ Some old → PutsNotice (queue_view old) notice result (queue_view new)
    → IfErr result (λ refused. refuses_put refused.0 ≡ true)
    → PutsAt notice queues seats result (slice_set seats notice.queue new)
put_at_place notice queues seats old new (Ok answer) within there puts faults =
    record { old = old; new = new; within = within; there = there; after_is = refl; puts = puts }
put_at_place notice queues seats old new (Err (BadQueue, back)) within there puts faults = absurd (false≢true faults)
put_at_place notice queues seats old new (Err (fault, back)) within there puts faults =
    record { old = old; new = new; within = within; there = there; after_is = refl; puts = puts }

-- a put of a batch by the seat at a place
pub batch_put_at_place : {A : Type 0} (place : ℕ) (batch : List HeldNotice) (queues : List (SharedQueue A))
    (seats : List QueueSeat) (old new : QueueSeat) (result : Result Outs Fault) (left : List HeldNotice)
    → place < length queues → slice_get seats place ≡ Some old
    → PutsBatch (queue_view old) batch result left (queue_view new)
    → IfErr result (λ fault. refuses_put fault ≡ true)
    → PutsBatchAt place batch queues seats result left (slice_set seats place new)
batch_put_at_place place batch queues seats old new (Ok outs) left within there puts faults =
    record { old = old; new = new; within = within; there = there; after_is = refl; puts = puts }
batch_put_at_place place batch queues seats old new (Err BadQueue) left within there puts faults =
    absurd (false≢true faults)
batch_put_at_place place batch queues seats old new (Err fault) left within there puts faults =
    record { old = old; new = new; within = within; there = there; after_is = refl; puts = puts }

-- ---- the delivery of a batch

module _ {A : Type 0} (queues : List (SharedQueue A)) (seats after : List QueueSeat) where
  -- what a queue didn't take goes back to the heap
  pub rest_sent : (place : ℕ) (batch rest : List HeldNotice) (outs : Outs) (v : HeapView)
      (released : Result (Unit {0}) (Fault × HoldName)) (left : List HeldNotice) (w : HeapView)
      (result : Result (Option Outs) ShareFault) → PutsBatchAt place batch queues seats (Ok outs) rest after
      → refused_in outs.done ≡ None → GoBack rest v released left w → TellsReleased outs released result
      → SendsBatch place batch queues seats v result left w after
  rest_sent place batch rest outs v (Ok done) left w result put none goes tells =
      subst (λ (r : Result (Option Outs) ShareFault). SendsBatch place batch queues seats v r left w after) (sym tells)
      (rest, put, none, goes)
  rest_sent place batch rest outs v (Err (fault, hold)) left w result put none goes tells =
      subst (λ (r : Result (Option Outs) ShareFault). SendsBatch place batch queues seats v r left w after) (sym tells)
      (outs, (rest, put, none, goes))

  -- what a hand of a batch, which was empty, gives is sent
  pub sent_delivered : (k max : ℕ) (v : HeapView) (start : List HeldNotice) (handed : Handed)
      (batch : List HeldNotice) (u : HeapView) (result : Result (Option Outs) ShareFault) (left : List HeldNotice)
      (w : HeapView) → start ≡ [] → GivesBatch v k max start (Ok (Some handed)) batch u
      → SendsBatch handed.queue batch queues seats u result left w after
      → DeliversBatch k max v queues seats result left w after
  sent_delivered k max v start handed batch u result left w none gives sends =
      delivered result sends
      (subst (λ (ns : List HeldNotice). GivesBatch v k max ns (Ok (Some handed)) batch u) none gives)
    where
      delivered : (result : Result (Option Outs) ShareFault)
          → SendsBatch handed.queue batch queues seats u result left w after
          → GivesBatch v k max [] (Ok (Some handed)) batch u → DeliversBatch k max v queues seats result left w after
      delivered (Ok None) sends gives = absurd sends
      delivered (Ok (Some outs)) sends gives = (handed, batch, u, gives, sends)
      delivered (Err (Refused fault)) sends gives = inr (handed, batch, u, gives, sends)
      delivered (Err Busy) sends gives = absurd sends
      delivered (Err (Notice back fault)) sends gives = absurd sends
      delivered (Err (Held hold fault)) sends gives = (handed, batch, u, gives, sends)

  -- a delivery that a fault doesn't stop leaves none
  pub delivered_leaves_none : (k max : ℕ) (v : HeapView) (answer : Option Outs) (left : List HeldNotice)
      (w : HeapView) → DeliversBatch k max v queues seats (Ok answer) left w after → left ≡ []
  delivered_leaves_none k max v None left w delivers = delivers.0.0.1
  delivered_leaves_none k max v (Some outs) left w delivers =
      let sends = delivers.4 in all_back_leaves_none sends.0 delivers.2 w left sends.3

  -- one that gave some was one of those before the last
  pub some_delivered : (k : ℕ) (v : HeapView) (answer : Option Outs) (left : List HeldNotice) (w : HeapView)
      → is_some answer ≡ true → DeliversBatch k 32 v queues seats (Ok answer) left w after
      → (left ≡ []) × DeliversSome k queues (v, seats) (w, after)
  some_delivered k v None left w some delivers = absurd (false≢true some)
  some_delivered k v (Some outs) left w some delivers =
      let none = delivered_leaves_none k 32 v (Some outs) left w delivers in (
        none,
        (
          outs,
          subst (λ (ns : List HeldNotice). DeliversBatch k 32 v queues seats (Ok (Some outs)) ns w after) none delivers,
        ),
      )

  -- and one that gave none is the last
  pub none_delivered : (k : ℕ) (v : HeapView) (answer : Option Outs) (left : List HeldNotice) (w : HeapView)
      → is_some answer ≡ false → DeliversBatch k 32 v queues seats (Ok answer) left w after
      → DeliversBatch k 32 v queues seats (Ok None) left w after
  none_delivered k v None left w none delivers = delivers
  none_delivered k v (Some outs) left w none delivers = absurd (false≢true (sym none))
