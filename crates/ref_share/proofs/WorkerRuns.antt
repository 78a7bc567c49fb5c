-- A worker's thread that hands on by deliveries alone puts into each queue what it hands on for it, in order.
use Rattle.ref_share.proofs.Common.{◌≡◌, ◌≢◌, ℕ, zero, suc, ◌<◌, Bool, true, false, arith, List, [], ◌∷◌, ◌++◌, length}
use Rattle.ref_share.proofs.Common.{Option, Some, None, Result, Ok, Err, ◌⊎◌, inl, inr, refl, sym, ap, subst, ◌∙◌, map}
use Rattle.ref_share.proofs.Common.{false≢true, AllByRecursion, append-nil, append_assoc, slice_get_within, slice_get}
use Rattle.ref_share.proofs.Common.{slice_set, is_subsequence, NamedStep, told_notices, clearing_order, Fault, BadQueue}
use Rattle.ref_share.proofs.Common.{TurnsSpent, HoldName, HeldNotice, Put, calls_by, as_notice, HeapAnswer, PutsAt}
use Rattle.ref_share.proofs.Common.{GoesBack, Delivers, Releases, HeapView, HeapEntry, heap_view, IsHeapSeat, rows_of}
use Rattle.ref_share.proofs.Common.{handed_of, handed_in, notices_of_hand, PutsNotice, QueueView, QueueEntry}
use Rattle.ref_share.proofs.Common.{queue_view}
use Rattle.ref_share.proofs.Common.{Called, notices_put, KeepsPace, Works, references_of, Nothing, Added, Dropped}
use Rattle.ref_share.proofs.Common.{ShareFault, Busy, Notice, QueueAnswer, QueueCall, SharedQueue, QueueSeat}
use Rattle.ref_share.proofs.Common.{◌==◌, cases_Bool, entry}
use Rattle.ref_base.specs.ClearingOrder.{all_worked}
use Rattle.ref_base.specs.Outs.{Outs}
use Rattle.ref_clear.specs.ClearCalls.{held_notices, handed_reply}
use Rattle.ref_clear.specs.declared.handed.Handed.{Handed}
use Rattle.ref_share.specs.HeapCalls.{GivesBatch, RefusesBatch}
use Rattle.ref_share.specs.declared.answers.Delivery.{Delivery}
use Rattle.ref_share.specs.declared.answers.ShareFault.TheVariants.{Refused, Held}
use Rattle.ref_share.specs.Deliveries.{IsPut, IsBeyond, IsBatchPut, PutsBatchAt, GoBack, ReleasesRest, GivesAndSends}
use Rattle.ref_share.specs.Deliveries.{DeliversBatch}
use Rattle.ref_share.specs.WorkerCalls.{worked_notices, notice_handed, notice_put, notices_handed, had_turn}
use Rattle.ref_share.specs.WorkerCalls.{batch_had_turn}
use Rattle.ref_share.specs.HeapSeats.{SharedHeap, HeapSeat}
use Rattle.ref_base.proofs.Subsequences.{Sub, sub_is, sub_through, sub_behind, sub_after}
use Rattle.ref_share.proofs.OrderRuns.{handed_in_order}
use Rattle.ref_share.proofs.Places.{changed_there}
use Rattle.ref_base.specs.declared.heap_step.HeapStep.TheVariants as heap
use Rattle.ref_base.specs.declared.reply.Reply.TheVariants as told
use Rattle.ref_queue.specs.declared.queue.Put.TheVariants as puts
use Rattle.ref_world.specs.declared.heap_machine.HeapReply.TheVariants as replies
use Rattle.ref_share.specs.declared.queue_machine.QueueReply.TheVariants as answers
use Rattle.ref_share.specs.declared.queue_machine.QueueStep.TheVariants as queue

-- ---- call by call

module _ (k q : ℕ) where
  handed-append : (es fs : List HeapEntry)
      → notices_handed k q (es ++ fs) ≡ notices_handed k q es ++ notices_handed k q fs
  handed-append [] fs = refl
  handed-append (e ∷ es) fs = search (append_assoc, handed-append es fs)

  put-append : (es fs : List QueueEntry) → notices_put k q (es ++ fs) ≡ notices_put k q es ++ notices_put k q fs
  put-append [] fs = refl
  put-append (e ∷ es) fs = search (append_assoc, put-append es fs)

  -- a call of the heap's seat adds what it hands on
  handed_then : (v w : HeapView) (step : NamedStep) (reply : HeapAnswer) → Called v step reply w
      → notices_handed k q w.mine ≡ notices_handed k q v.mine ++ notice_handed k q step reply
  handed_then v w step reply called =
      ap (notices_handed k q) called.2 ∙ handed-append v.mine (entry v.number step reply ∷ [])
      ∙ ap (λ ns. notices_handed k q v.mine ++ ns) (append-nil (notice_handed k q step reply))

  -- or nothing
  pub handed_same : (v w : HeapView) (step : NamedStep) (reply : HeapAnswer) → notice_handed k q step reply ≡ []
      → Called v step reply w → notices_handed k q w.mine ≡ notices_handed k q v.mine
  handed_same v w step reply none called =
      handed_then v w step reply called ∙ ap (λ ns. notices_handed k q v.mine ++ ns) none
      ∙ append-nil (notices_handed k q v.mine)

  -- a call of a queue's seat adds what it puts in
  put_then : (v w : QueueView) (step : QueueCall) (reply : QueueAnswer) → Called v step reply w
      → notices_put k q w.mine ≡ notices_put k q v.mine ++ notice_put k q step
  put_then v w step reply called =
      ap (notices_put k q) called.2 ∙ put-append v.mine (entry v.number step reply ∷ [])
      ∙ ap (λ ns. notices_put k q v.mine ++ ns) (append-nil (notice_put k q step))

-- ---- notices for one queue

-- each of them is for this queue
abbrev AreFor : ℕ → List HeldNotice → Type 0
AreFor place ns = AllByRecursion (λ notice. notice.queue ≡ place) ns

-- and for no other
none_worked : (k q place : ℕ) (ns : List HeldNotice) → AreFor place ns → place ≢ q → worked_notices k q ns ≡ []
none_worked k q place [] are other = refl
none_worked k q place (notice ∷ ns) are other = grind (arith, none_worked k q place ns are.1 other)

held_for : (heap_no q cycle j : ℕ) (ns : List ℕ)
    → AreFor q (held_notices heap_no (told_notices (told.Notices ns q cycle j)))
held_for heap_no q cycle j [] = tt
held_for heap_no q cycle j (n ∷ ns) = (refl, held_for heap_no q cycle j ns)

-- what a hand of a batch gives is for the queue that it tells
given_for : (v u : HeapView) (j max : ℕ) (handed : Handed) (batch : List HeldNotice)
    → GivesBatch v j max [] (Ok (Some handed)) batch u → AreFor handed.queue batch
given_for v u j max handed batch gives =
    subst (AreFor handed.queue) (sym gives.0.1) (held_for gives.0.0 handed.queue handed.cycle j handed.numbers)

-- ---- which puts are called

-- whether a put was called: it wasn't where no turn was left
abbrev was_called : Result (Put HeldNotice) (Fault × HeldNotice) → Bool
was_called (Err (TurnsSpent, back)) = false
was_called answer = true

puts_called : (v w : QueueView) (notice : HeldNotice) (answer : Result (Put HeldNotice) (Fault × HeldNotice))
    → was_called answer ≡ true → PutsNotice v notice answer w → Called v (queue.Put notice) (answers.Put answer) w
puts_called v w notice (Ok answer) turn puts = puts
puts_called v w notice (Err (TurnsSpent, back)) turn puts = absurd (false≢true turn)
puts_called v w notice (Err (fault, back)) turn puts = puts

-- ---- a delivery

module _ {A : Type 0} (k q : ℕ) (queues : List (SharedQueue A)) (seats after : List QueueSeat) (v : HeapView)
    (pace : KeepsPace k queues v seats) (within : q < length queues) (s : QueueSeat)
    (at : slice_get after q ≡ Some s) where
  -- where no seat of a queue made a call, and nothing was handed on
  no_seat_put : (w : HeapView) → after ≡ seats → notices_handed k q w.mine ≡ notices_handed k q v.mine
      → notices_put k q (queue_view s).mine ≡ notices_handed k q w.mine
  no_seat_put w same none = pace q s within (ap (λ l. slice_get l q) (sym same) ∙ at) ∙ sym none

  -- notices were handed on that aren't for queue q
  beside_it : (place : ℕ) (ns : List HeldNotice) (w : HeapView) → AreFor place ns → place ≢ q
      → slice_get seats q ≡ Some s → notices_handed k q w.mine ≡ notices_handed k q v.mine ++ worked_notices k q ns
      → notices_put k q (queue_view s).mine ≡ notices_handed k q w.mine
  beside_it place ns w are other there gives = grind (arith, append-nil, none_worked)

  -- the seat at a place did so much, and the others nothing
  placed : (place : ℕ) (ns : List HeldNotice) (old new : QueueSeat) (w : HeapView) → AreFor place ns
      → slice_get seats place ≡ Some old → after ≡ slice_set seats place new
      → notices_put k q (queue_view new).mine ≡ notices_put k q (queue_view old).mine ++ worked_notices k q ns
      → notices_handed k q w.mine ≡ notices_handed k q v.mine ++ worked_notices k q ns
      → notices_put k q (queue_view s).mine ≡ notices_handed k q w.mine
  placed place ns old new w are found after_is puts gives =
      elim (changed_there seats place q new s (ap (λ l. slice_get l q) (sym after_is) ∙ at)) [
        | inl here ↦
            let there : slice_get seats q ≡ Some old =
            subst (λ (i : ℕ). slice_get seats i ≡ Some old) (sym here.0) found in
            ap (λ (r : QueueSeat). notices_put k q (queue_view r).mine) here.1 ∙ puts
            ∙ ap (λ ms. ms ++ worked_notices k q ns) (pace q old within there) ∙ sym gives
        | inr other ↦ beside_it place ns w are (λ is. other.0 (sym is)) other.1 gives
      ]

  -- the notice that was handed on is put in
  one_put : (notice : HeldNotice) (answer : Result (Put HeldNotice) (Fault × HeldNotice)) (w : HeapView)
      → was_called answer ≡ true → IsPut notice queues seats answer after
      → notices_handed k q w.mine ≡ notices_handed k q v.mine ++ worked_notices k q (notice ∷ [])
      → notices_put k q (queue_view s).mine ≡ notices_handed k q w.mine
  one_put notice answer w turn puts gives =
      placed notice.queue (notice ∷ []) puts.old puts.new w (refl, tt) puts.there puts.after_is
      (put_then k q (queue_view puts.old) (queue_view puts.new) (queue.Put notice) (answers.Put answer)
      (puts_called (queue_view puts.old) (queue_view puts.new) notice answer turn puts.puts)) gives

  -- there was no queue at its place
  none_put : (place : ℕ) (ns : List HeldNotice) (w : HeapView) → AreFor place ns → IsBeyond place queues seats
      → after ≡ seats → notices_handed k q w.mine ≡ notices_handed k q v.mine ++ worked_notices k q ns
      → notices_put k q (queue_view s).mine ≡ notices_handed k q w.mine
  none_put place ns w are beyond same gives = grind (arith, slice_get_within, beside_it)

  -- a put that could not add the notice
  refused_put : (notice : HeldNotice) (fault : Fault) (back : HeldNotice) (w : HeapView)
      → had_turn {T = Delivery} (Err (Notice back fault)) ≡ true → PutsAt notice queues seats (Err (fault, notice)) after
      → notices_handed k q w.mine ≡ notices_handed k q v.mine ++ worked_notices k q (notice ∷ [])
      → notices_put k q (queue_view s).mine ≡ notices_handed k q w.mine
  refused_put notice BadQueue back w turn puts gives =
      none_put notice.queue (notice ∷ []) w (refl, tt) puts.0 puts.1 gives
  refused_put notice TurnsSpent back w turn puts gives = absurd (false≢true turn)
  refused_put notice fault back w turn puts gives = one_put notice (Err (fault, notice)) w refl puts gives

  -- a release hands nothing on
  release_same : (u w : HeapView) (hold : HoldName) (result : Result (Unit {0}) (Fault × HoldName))
      → Releases u hold result w → notices_handed k q w.mine ≡ notices_handed k q u.mine
  release_same u w hold (Ok done) releases =
      handed_same k q u w (heap.Release hold) (replies.Told told.Done) refl releases
  release_same u w hold (Err (TurnsSpent, back)) releases = ap (notices_handed k q) releases.1.0.2
  release_same u w hold (Err (fault, back)) releases =
      handed_same k q u w (heap.Release hold) (replies.Back fault hold) refl releases.1

  -- what goes back to the heap is handed on by no call
  given_back : (n : ℕ) (hold : HoldName) (u : HeapView) (result : Result Delivery ShareFault) (w : HeapView)
      → GoesBack n hold u result w → notices_handed k q w.mine ≡ notices_handed k q u.mine
  given_back n hold u (Ok Nothing) w gives = absurd gives
  given_back n hold u (Ok (Added m p position)) w gives = absurd gives
  given_back n hold u (Ok (Dropped m)) w gives = release_same u w hold (Ok tt) gives.1
  given_back n hold u (Err (Refused fault)) w gives = absurd gives
  given_back n hold u (Err Busy) w gives = absurd gives
  given_back n hold u (Err (Notice back fault)) w gives = absurd gives
  given_back n hold u (Err (Held back fault)) w gives = release_same u w hold (Err (fault, back)) gives

  all_given_back : (ns : List HeldNotice) (u : HeapView) (released : Result (Unit {0}) (Fault × HoldName))
      (left : List HeldNotice) (w : HeapView) → GoBack ns u released left w
      → notices_handed k q w.mine ≡ notices_handed k q u.mine
  all_given_back [] u (Ok done) left w gives = ap (λ (x : HeapView). notices_handed k q x.mine) gives.1
  all_given_back [] u (Err back) left w gives = absurd gives
  all_given_back (notice ∷ ns) u released left w gives =
      elim gives [
        | inl more ↦
            all_given_back ns more.0 released left w more.2
            ∙ release_same u more.0 notice.hold (Ok tt) more.1
        | inr last ↦ release_same u w notice.hold (Err last.0) last.2
      ]

  -- no queue took the notice, and its hold went back
  dropped_put : (notice : HeldNotice) (u : HeapView) (result : Result Delivery ShareFault) (w : HeapView)
      → (IsPut notice queues seats (Ok (puts.Already notice)) after
      ⊎ IsPut notice queues seats (Ok (puts.Closed notice)) after)
      → GoesBack notice.hold.object notice.hold u result w
      → notices_handed k q u.mine ≡ notices_handed k q v.mine ++ worked_notices k q (notice ∷ [])
      → notices_put k q (queue_view s).mine ≡ notices_handed k q w.mine
  dropped_put notice u result w refused gives adds =
      let all = given_back notice.hold.object notice.hold u result w gives ∙ adds in
      elim refused [
        | inl already ↦ one_put notice (Ok (puts.Already notice)) w refl already all
        | inr closed ↦ one_put notice (Ok (puts.Closed notice)) w refl closed all
      ]

  -- so after a delivery the queue's seat has put in what the heap's has handed on
  delivery_keeps : (j : ℕ) (result : Result Delivery ShareFault) (w : HeapView) → had_turn result ≡ true
      → Delivers (heap.Hand j) v queues seats result w after
      → notices_put k q (queue_view s).mine ≡ notices_handed k q w.mine
  delivery_keeps j (Ok Nothing) w turn d =
      no_seat_put w d.1 (handed_same k q v w (heap.Hand j) (replies.Told told.Nothing) refl d.0)
  delivery_keeps j (Ok (Added n p position)) w turn d =
      let adds = handed_then k q v d.1 (heap.Hand j) (replies.Notice d.0) d.2 in
      one_put d.0 (Ok (puts.Added position)) w refl d.3.3
      (ap (λ (u : HeapView). notices_handed k q u.mine) d.3.2 ∙ adds)
  delivery_keeps j (Ok (Dropped n)) w turn d =
      dropped_put d.0 d.1 (Ok (Dropped n)) w d.3.0 d.3.1
      (handed_then k q v d.1 (heap.Hand j) (replies.Notice d.0) d.2)
  delivery_keeps j (Err (Refused TurnsSpent)) w turn d = no_seat_put w d.1 (ap (notices_handed k q) d.0.0.2)
  delivery_keeps j (Err (Refused fault)) w turn d =
      no_seat_put w d.1 (handed_same k q v w (heap.Hand j) (replies.Told (told.Refused fault)) refl d.0)
  delivery_keeps j (Err Busy) w turn d = absurd d.3.1
  delivery_keeps j (Err (Notice back fault)) w turn d =
      let adds = handed_then k q v d.1 (heap.Hand j) (replies.Notice d.0) d.2 in
      refused_put d.0 fault back w turn d.3.2 (ap (λ (u : HeapView). notices_handed k q u.mine) d.3.1 ∙ adds)
  delivery_keeps j (Err (Held back fault)) w turn d =
      dropped_put d.0 d.1 (Err (Held back fault)) w d.3.0 d.3.1
      (handed_then k q v d.1 (heap.Hand j) (replies.Notice d.0) d.2)

  -- ---- the delivery of a batch

  -- a put of a batch that was called
  batch_put : (place : ℕ) (batch : List HeldNotice) (answer : Result Outs Fault) (left : List HeldNotice)
      (w : HeapView) → AreFor place batch
      → (put : IsBatchPut place batch queues seats answer left after)
      → Called (queue_view put.old) (queue.PutBatch batch) (answers.PutBatch answer left) (queue_view put.new)
      → notices_handed k q w.mine ≡ notices_handed k q v.mine ++ worked_notices k q batch
      → notices_put k q (queue_view s).mine ≡ notices_handed k q w.mine
  batch_put place batch answer left w are put called gives =
      placed place batch put.old put.new w are put.there put.after_is
      (put_then k q (queue_view put.old) (queue_view put.new) (queue.PutBatch batch) (answers.PutBatch answer left)
      called) gives

  -- one for which no turn was left, where nothing would be left
  batch_unput : (place : ℕ) (batch left : List HeldNotice) (w : HeapView) → AreFor place batch
      → batch_had_turn {T = Option Outs} (Err (Refused TurnsSpent)) left ≡ true
      → IsBatchPut place batch queues seats (Err TurnsSpent) left after
      → notices_handed k q w.mine ≡ notices_handed k q v.mine ++ worked_notices k q batch
      → notices_put k q (queue_view s).mine ≡ notices_handed k q w.mine
  batch_unput place batch [] w are turn put gives =
      placed place batch put.old put.new w are put.there put.after_is
      (ap (notices_put k q) put.puts.1.0.2 ∙ sym (append-nil (notices_put k q (queue_view put.old).mine))
      ∙ ap (λ ns. notices_put k q (queue_view put.old).mine ++ worked_notices k q ns) put.puts.0) gives
  batch_unput place batch (notice ∷ left) w are turn put gives = absurd (false≢true turn)

  -- one that could not be made, or put nothing in
  batch_refused : (place : ℕ) (batch : List HeldNotice) (fault : Fault) (left : List HeldNotice) (w : HeapView)
      → AreFor place batch → batch_had_turn {T = Option Outs} (Err (Refused fault)) left ≡ true
      → PutsBatchAt place batch queues seats (Err fault) left after
      → notices_handed k q w.mine ≡ notices_handed k q v.mine ++ worked_notices k q batch
      → notices_put k q (queue_view s).mine ≡ notices_handed k q w.mine
  batch_refused place batch BadQueue left w are turn puts gives = none_put place batch w are puts.0 puts.2 gives
  batch_refused place batch TurnsSpent left w are turn puts gives = batch_unput place batch left w are turn puts gives
  batch_refused place batch fault left w are turn puts gives =
      batch_put place batch (Err fault) left w are puts puts.puts gives

  -- a refused hand of a batch hands nothing on
  hands_refused : (j max : ℕ) (fault : Fault) (w : HeapView) → RefusesBatch v j max [] fault w
      → notices_handed k q w.mine ≡ notices_handed k q v.mine
  hands_refused j max TurnsSpent w refuses = ap (notices_handed k q) refuses.0.2
  hands_refused j max fault w refuses =
      handed_same k q v w (heap.Hands j max []) (replies.Handed (told.Refused fault) []) refl refuses

  -- and what another hands on stands in the batch
  hands_then : (j max : ℕ) (handed : Handed) (batch : List HeldNotice) (u : HeapView)
      → GivesBatch v j max [] (Ok (Some handed)) batch u
      → notices_handed k q u.mine ≡ notices_handed k q v.mine ++ worked_notices k q batch
  hands_then j max handed batch u gives =
      handed_then k q v u (heap.Hands j max []) (replies.Handed (handed_reply j (Some handed)) batch) gives.1

  hands_none : (j max : ℕ) (left : List HeldNotice) (w : HeapView) → GivesBatch v j max [] (Ok None) left w
      → notices_handed k q w.mine ≡ notices_handed k q v.mine
  hands_none j max left w gives =
      handed_same k q v w (heap.Hands j max []) (replies.Handed told.Nothing left)
      (ap (worked_notices k q) gives.0.1) gives.1

  rest_released : (place : ℕ) (batch : List HeldNotice) (outs : Outs) (u : HeapView)
      (released : Result (Unit {0}) (Fault × HoldName)) (left : List HeldNotice) (w : HeapView) → AreFor place batch
      → ReleasesRest place batch queues seats outs u released left w after
      → notices_handed k q u.mine ≡ notices_handed k q v.mine ++ worked_notices k q batch
      → notices_put k q (queue_view s).mine ≡ notices_handed k q w.mine
  rest_released place batch outs u released left w are releases adds =
      batch_put place batch (Ok outs) releases.0 w are releases.1 releases.1.puts
      (all_given_back releases.0 u released left w releases.3 ∙ adds)

  refused_sent : (j max : ℕ) (fault : Fault) (left : List HeldNotice) (w : HeapView)
      → batch_had_turn {T = Option Outs} (Err (Refused fault)) left ≡ true
      → GivesAndSends j max v queues seats (Err (Refused fault)) left w after
      → notices_put k q (queue_view s).mine ≡ notices_handed k q w.mine
  refused_sent j max fault left w turn d =
      let adds = hands_then j max d.0 d.1 d.2 d.3 in
      let are = given_for v d.2 j max d.0 d.1 d.3 in
      let all = ap (λ (u : HeapView). notices_handed k q u.mine) d.4.0 ∙ adds in
      elim d.4.1 [
        | inl none ↦ batch_refused d.0.queue d.1 fault left w are turn none all
        | inr some ↦ batch_put d.0.queue d.1 (Ok some.0) left w are some.1 some.1.puts all
      ]

  -- so after the delivery of a batch too
  batch_keeps : (j max : ℕ) (result : Result (Option Outs) ShareFault) (left : List HeldNotice) (w : HeapView)
      → batch_had_turn result left ≡ true → DeliversBatch j max v queues seats result left w after
      → notices_put k q (queue_view s).mine ≡ notices_handed k q w.mine
  batch_keeps j max (Ok None) left w turn d = no_seat_put w d.1 (hands_none j max left w d.0)
  batch_keeps j max (Ok (Some outs)) left w turn d =
      rest_released d.0.queue d.1 outs d.2 (Ok tt) left w (given_for v d.2 j max d.0 d.1 d.3) d.4
      (hands_then j max d.0 d.1 d.2 d.3)
  batch_keeps j max (Err (Refused fault)) left w turn d =
      elim d [
        | inl refused ↦ no_seat_put w refused.1 (hands_refused j max fault w refused.0.1)
        | inr sent ↦ refused_sent j max fault left w turn sent
      ]
  batch_keeps j max (Err Busy) left w turn d = absurd d.4
  batch_keeps j max (Err (Notice back fault)) left w turn d = absurd d.4
  batch_keeps j max (Err (Held hold fault)) left w turn d =
      rest_released d.0.queue d.1 d.4.0 d.2 (Err (fault, hold)) left w (given_for v d.2 j max d.0 d.1 d.3) d.4.1
      (hands_then j max d.0 d.1 d.2 d.3)

-- ---- a worker's thread

module _ {A : Type 0} (k : ℕ) (queues : List (SharedQueue A)) where
  pub keeps_pace : (count : ℕ) (v w : HeapView) (seats after : List QueueSeat)
      → Works k queues count v seats w after
      → KeepsPace k queues v seats → KeepsPace k queues w after
  keeps_pace zero v w seats after works pace q s within at = grind arith
  keeps_pace (suc count) v w seats after works pace q s within at =
      grind (arith, delivery_keeps, batch_keeps, keeps_pace count v works.0 seats works.1 works.2 pace)

-- ---- in clearing order

-- the references of the notices are those that hands are said to hand on
reported_among : (k q : ℕ) (ns ms : List HeldNotice)
    → references_of (worked_notices k q ns ++ ms) ≡ all_worked k q (map as_notice ns) ++ references_of ms
reported_among k q [] ms = refl
reported_among k q (notice ∷ ns) ms = grind (arith, append_assoc, reported_among k q ns ms)

reported_in : (k q : ℕ) (calls : List HeapEntry) → references_of (notices_handed k q calls) ≡ handed_in k q calls
reported_in k q [] = refl
reported_in k q (call ∷ calls) =
    reported_among k q (notices_of_hand call.step call.reply) (notices_handed k q calls)
    ∙ ap (λ ns. handed_of k q call.step call.reply ++ ns) (reported_in k q calls)

-- a seat's own hands are among all
own_among : (k q n : ℕ) (calls : List HeapEntry) → Sub (handed_in k q (calls_by n calls)) (handed_in k q calls)
own_among k q n [] = refl
own_among k q n (call ∷ calls) =
    let more = own_among k q n calls in
    let gives : List ℕ = handed_of k q call.step call.reply in
    elim (cases_Bool (call.by == n)) [
      | inl own ↦ rw own (sub_behind gives (handed_in k q (calls_by n calls)) (handed_in k q calls) more)
      | inr other ↦
          rw other
          (sub_through (handed_in k q (calls_by n calls)) (handed_in k q calls) (gives ++ handed_in k q calls) more
          (sub_after gives (handed_in k q calls)))
    ]

-- so what the seat of a queue has put in of what a worker cleared comes in the order in which the worker cleared it
pub put_in_clearing_order : {A : Type 0} (heap : SharedHeap A) (heap_seat : HeapSeat) (k q : ℕ)
    (queues : List (SharedQueue A)) (seats : List QueueSeat) (s : QueueSeat) → IsHeapSeat heap heap_seat
    → KeepsPace k queues (heap_view heap_seat) seats → q < length queues → slice_get seats q ≡ Some s
    → is_subsequence (references_of (notices_put k q (queue_view s).mine))
    (clearing_order (rows_of (heap_view heap_seat).seen) k q) ≡ true
put_in_clearing_order heap heap_seat k q queues seats s is pace within at =
    grind (arith, reported_in, sub_is, sub_through, handed_in_order, own_among k q)
