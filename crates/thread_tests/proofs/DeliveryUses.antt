-- What follows of a delivery from its answer: why a notice was given up, and what is left of a batch.
use Rattle.std.proofs.Common.{◌≡◌, ◌≢◌, ℕ, ◌<◌, ◌==◌, ◌⊎◌, Bool, true, false, List, [], ◌∷◌, ◌++◌, length}
use Rattle.std.proofs.Common.{Some, Result, Ok, Err, inl, inr, get_or, refl, sym, ap, ◌∙◌, subst, arith, not}
use Rattle.std.proofs.lemmas.Bool.{eqb-true}
use Rattle.std.proofs.lemmas.Option.{same_Some}
use Rattle.std.specs.Prelude.{IsTrue, slice_get, slice_set}
use Rattle.ref_base.specs.Collectors.{State, first_state_of}
use Rattle.ref_base.specs.CollectorRows.{IsHeapRow, all_handed}
use Rattle.ref_base.specs.HeapSteps.{HeldNotice, NamedStep}
use Rattle.ref_base.specs.Outs.{Outs}
use Rattle.ref_base.specs.QueueBatches.{EndsBatch, not_added}
use Rattle.ref_base.specs.QueueLists.{new_queue}
use Rattle.ref_base.specs.Refusals.{hands_refusal}
use Rattle.ref_base.specs.Worlds.{Pending}
use Rattle.ref_base.specs.declared.config.Config.{Config}
use Rattle.ref_base.specs.declared.fault.Fault.{Fault}
use Rattle.ref_base.specs.declared.fault.Fault.TheVariants.{NoMemory}
use Rattle.ref_base.specs.declared.heap_step.HeapStep.TheVariants as heap
use Rattle.ref_base.specs.declared.out.Done.{Done}
use Rattle.ref_base.specs.declared.out.Done.TheVariants as done
use Rattle.ref_base.specs.declared.reply.Reply.TheVariants as told
use Rattle.ref_queue.specs.declared.queue.Put.{Put}
use Rattle.ref_queue.specs.declared.queue.Put.TheVariants as puts
use Rattle.ref_turn.proofs.Logs.{leads_cut}
use Rattle.ref_turn.specs.Seats.{entry}
use Rattle.ref_world.specs.declared.heap_machine.HeapReply.TheVariants as replies
use Rattle.ref_share.specs.Deliveries.{Delivers, DeliversBatch, IsBatchPut, IsPut, refused_in, was_added}
use Rattle.ref_share.specs.HeapMachines.{IsHeapTurn}
use Rattle.ref_share.specs.HeapSeats.{HeapEntry, HeapView, IsHeapRun}
use Rattle.ref_share.specs.QueueCalls.{PutsBatch, PutsNotice}
use Rattle.ref_share.specs.QueueMachines.{IsQueueTurn}
use Rattle.ref_share.specs.QueueSeats.{IsQueueRun, QueueEntry, QueueSeat, QueueView, SharedQueue, queue_view}
use Rattle.ref_share.specs.QueueStates.{NoticeLists}
use Rattle.ref_share.specs.declared.answers.Delivery.{Delivery}
use Rattle.ref_share.specs.declared.answers.Delivery.TheVariants.{Added, Dropped, Nothing}
use Rattle.ref_share.specs.declared.answers.ShareFault.{ShareFault}
use Rattle.ref_share.specs.declared.answers.ShareFault.TheVariants.{Notice, Refused}
use Rattle.ref_share.specs.declared.queue_machine.QueueReply.TheVariants as answers
use Rattle.ref_share.specs.declared.queue_machine.QueueStep.TheVariants as steps

-- ---- lists of one queue

module _ (place : ℕ) (seat old new after : QueueSeat) (within : place < 1)
    (there : slice_get (seat ∷ []) place ≡ Some old) (after_is : after ∷ [] ≡ slice_set (seat ∷ []) place new) where
  first : place ≡ 0
  first = omega (arith, within)

  old_is : old ≡ seat
  old_is = sym (same_Some seat old (ap (slice_get (seat ∷ [])) (sym first) ∙ there))

  new_is : new ≡ after
  new_is =
      sym (ap (λ (s : List QueueSeat). get_or s 0 seat)
      (after_is ∙ ap (λ k. slice_set (seat ∷ []) k new) first))

  of_the_seat : (P : QueueView → QueueView → Type 0) → P (queue_view old) (queue_view new)
      → P (queue_view seat) (queue_view after)
  of_the_seat P holds =
      subst (λ (s : QueueSeat). P (queue_view seat) (queue_view s)) new_is
      (subst (λ (s : QueueSeat). P (queue_view s) (queue_view new)) old_is holds)

module _ {A : Type 0} (queue : SharedQueue A) (seat after : QueueSeat) where
  put_by_it : (notice : HeldNotice) (answer : Result (Put HeldNotice) (Fault × HeldNotice))
      → IsPut notice (queue ∷ []) (seat ∷ []) answer (after ∷ [])
      → PutsNotice (queue_view seat) notice answer (queue_view after)
  put_by_it notice answer put =
      of_the_seat notice.queue seat put.old put.new after put.within put.there put.after_is
      (λ v w. PutsNotice v notice answer w) put.puts

  batch_put_by_it : (place : ℕ) (batch : List HeldNotice) (answer : Result Outs Fault) (left : List HeldNotice)
      → IsBatchPut place batch (queue ∷ []) (seat ∷ []) answer left (after ∷ [])
      → PutsBatch (queue_view seat) batch answer left (queue_view after)
  batch_put_by_it place batch answer left put =
      of_the_seat place seat put.old put.new after put.within put.there put.after_is
      (λ v w. PutsBatch v batch answer left w) put.puts

  -- ---- given up

  -- the seat has made no call, or a put of a notice that was there before, or that found its queue closed
  abbrev pub IsInVain : Type 0
  IsInVain =
      ((queue_view after).mine ≡ (queue_view seat).mine)
      ⊎ ((notice : HeldNotice) × (told : Put HeldNotice)
      × ((told ≡ puts.Already notice) ⊎ (told ≡ puts.Closed notice))
      × ((queue_view after).mine ≡ (queue_view seat).mine
      ++ entry (queue_view seat).number (steps.Put notice) (answers.Put (Ok told)) ∷ []))

  in_vain : (step : NamedStep) (v w : HeapView) (delivery : Result Delivery ShareFault)
      → Ok false ≡ was_added delivery → Delivers step v (queue ∷ []) (seat ∷ []) delivery w (after ∷ []) → IsInVain
  in_vain step v w (Ok Nothing) is delivers =
      inl (ap (λ (s : List QueueSeat). (queue_view (get_or s 0 seat)).mine) delivers.1)
  in_vain step v w (Ok (Added n q position)) is delivers = absurd cc
  in_vain step v w (Ok (Dropped n)) is delivers =
      let notice : HeldNotice = delivers.0 in
      elim delivers.3.0 [
        | inl already ↦ inr (
          notice,
          puts.Already notice,
          inl refl,
          (put_by_it notice (Ok (puts.Already notice)) already).2,
        )
        | inr closed ↦ inr (
          notice,
          puts.Closed notice,
          inr refl,
          (put_by_it notice (Ok (puts.Closed notice)) closed).2,
        )
      ]
  in_vain step v w (Err fault) is delivers = absurd cc

  pub was_in_vain : (is_added : Bool) (step : NamedStep) (v w : HeapView) (delivery : Result Delivery ShareFault)
      → IsTrue (not is_added) → Ok is_added ≡ was_added delivery
      → Delivers step v (queue ∷ []) (seat ∷ []) delivery w (after ∷ []) → IsInVain
  was_in_vain true step v w delivery vain is delivers = absurd cc
  was_in_vain false step v w delivery vain is delivers = in_vain step v w delivery is delivers

-- ---- left of a batch

not_true : (b : Bool) → (b ≡ true → ⊥) → b ≡ false
not_true true never = absurd (never refl)
not_true false never = refl

not_zero : (n : ℕ) → 0 < n → (n == 0) ≡ false
not_zero n some = not_true (n == 0) (λ is. omega (arith, some, eqb-true n 0 is))

-- where one was refused, it is left
some_left : {T : Type 0} (xs : List T) (ds : List Done) (fault : Fault) → EndsBatch xs ds
    → refused_in ds ≡ Some fault → 0 < length (not_added xs ds)
some_left [] [] fault ends is = absurd cc
some_left [] (d ∷ ds) fault ends is = absurd ends
some_left (x ∷ xs) [] fault ends is = absurd ends
some_left (x ∷ xs) (done.Added ∷ ds) fault ends is = some_left xs ds fault ends is
some_left (x ∷ xs) (done.Already ∷ ds) fault ends is = omega arith
some_left (x ∷ xs) (done.Closed ∷ ds) fault ends is = omega arith
some_left (x ∷ xs) (done.Refused other ∷ ds) fault ends is = omega arith

-- a hand takes no memory
not_handed : (k : ℕ) (ps : List Pending) → told.Refused NoMemory ≡ all_handed k ps → ⊥
not_handed k [] is = absurd cc
not_handed k (p ∷ ps) is = absurd cc

not_pending : (a : State) (ps : List Pending) → hands_refusal ps a.world.heap ≢ Some NoMemory
not_pending a [] is = absurd cc
not_pending a (p ∷ ps) is = grind arith

never_for_memory : (a b : State) (k max : ℕ) (batch : List HeldNotice)
    → IsHeapRow a (heap.Hands k max batch) (told.Refused NoMemory) b → ⊥
never_for_memory a b k max batch row = grind (arith, not_handed, not_pending)

module _ {A : Type 0} (queue : SharedQueue A) (seat after : QueueSeat) where
  pub something_left : (k max : ℕ) (v w : HeapView) (left : List HeldNotice) (config : Config) (heap_no number : ℕ)
      (state : State) (last : NoticeLists)
      → IsHeapRun config heap_no w.seen state → IsQueueRun number (queue_view after).seen last
      → DeliversBatch k max v (queue ∷ []) (seat ∷ []) (Err (Refused NoMemory)) left w (after ∷ [])
      → (length left == 0) ≡ false
  something_left k max v w left config heap_no number state last heap_run queue_run delivers =
      elim delivers [
        | inl refused ↦
            let called = refused.0.1 in
            let front : List HeapEntry = v.seen ++ called.1.0 in
            let parts = leads_cut IsHeapTurn front
            (entry v.number (heap.Hands k max []) (replies.Handed (told.Refused NoMemory) []) ∷ [])
            (first_state_of config heap_no) state
            (subst (λ (l : List HeapEntry). IsHeapRun config heap_no l state) called.1.1 heap_run) in
            absurd (never_for_memory parts.0 parts.2.0 k max [] parts.2.1.row)
        | inr sent ↦ elim sent.4.1 [
          | inl put ↦
              let called = batch_put_by_it queue seat after _ sent.1 (Err NoMemory) left put in
              let front : List QueueEntry = (queue_view seat).seen ++ called.1.0 in
              let parts = leads_cut IsQueueTurn front
              (entry (queue_view seat).number (steps.PutBatch sent.1) (answers.PutBatch (Err NoMemory) left) ∷ [])
              (new_queue number) last
              (subst (λ (l : List QueueEntry). IsQueueRun number l last) called.1.1 queue_run) in
              let wrong = parts.2.1.0.0 in
              absurd cc
          | inr some ↦
              let called = batch_put_by_it queue seat after _ sent.1 (Ok some.0) left some.1 in
              let front : List QueueEntry = (queue_view seat).seen ++ called.1.0 in
              let parts = leads_cut IsQueueTurn front
              (entry (queue_view seat).number (steps.PutBatch sent.1) (answers.PutBatch (Ok some.0) left) ∷ [])
              (new_queue number) last
              (subst (λ (l : List QueueEntry). IsQueueRun number l last) called.1.1 queue_run) in
              let turn = parts.2.1 in
              let kept = some_left sent.1 some.0.done NoMemory turn.0.3 some.2 in
              not_zero (length left) (omega (arith, kept, ap length turn.2))
        ]
      ]
