-- A delivery of all that is pending, and a whole cycle, are a worker's work: nothing but deliveries hands on or puts
-- in.
use Rattle.ref_share.proofs.Common.{◌≡◌, ℕ, zero, suc, true, List, [], Some, None, Result, Ok, Err, inl, inr, refl, sym}
use Rattle.ref_share.proofs.Common.{ap, subst, ◌∙◌, slice_get, Fault, Reply, HeapView, QueueSeat, SharedQueue, Works}
use Rattle.ref_share.proofs.Common.{ShareFault, Busy, HeldNotice, Notice}
use Rattle.ref_base.specs.declared.heap_step.HeapStep.TheVariants as heap
use Rattle.ref_base.specs.declared.plain_step.PlainStep.{PlainStep}
use Rattle.ref_base.specs.declared.plain_step.PlainStep.TheVariants as plain
use Rattle.ref_base.specs.declared.reply.Reply.TheVariants as told
use Rattle.ref_base.specs.declared.urgency.Urgency.{Urgency}
use Rattle.ref_world.specs.declared.heap_machine.HeapReply.TheVariants as replies
use Rattle.ref_share.proofs.WorkerRuns.{handed_same}
use Rattle.ref_share.specs.Cycles.{HasMore, IsLast, GoesThrough, IsBegun, Then, MarksAndClears, Cycles}
use Rattle.ref_share.specs.Deliveries.{DeliversSome, DeliversAll}
use Rattle.ref_share.specs.HeapCalls.{Declined, Performs}
use Rattle.ref_share.specs.Repeats.{Repeats}
use Rattle.ref_share.specs.WorkerCalls.{batch_had_turn, notices_handed}
use Rattle.ref_share.specs.declared.answers.ShareFault.TheVariants.{Refused, Held}

-- ---- steps that hand nothing on

module _ (k q : ℕ) where
  abbrev HandsNothing : HeapView → HeapView → Type 0
  HandsNothing v w = notices_handed k q w.mine ≡ notices_handed k q v.mine

  declined_hands_nothing : (v w : HeapView) (step : PlainStep) (fault : Fault) → Declined v step fault w
      → HandsNothing v w
  declined_hands_nothing v w step fault declined =
      elim declined [
        | inl called ↦ handed_same k q v w (heap.Plain step) (replies.Told (told.Refused fault)) refl called
        | inr spent ↦ ap (notices_handed k q) spent.1.0.2
      ]

  step_hands_nothing : (v w : HeapView) (step : PlainStep) (result : Result Reply Fault) → Performs v step result w
      → HandsNothing v w
  step_hands_nothing v w step (Ok reply) performs =
      handed_same k q v w (heap.Plain step) (replies.Told reply) refl performs.1
  step_hands_nothing v w step (Err fault) declined = declined_hands_nothing v w step fault declined

  module _ (work end : PlainStep) where
    round_hands_nothing : (v w : HeapView) → HasMore work end v w → HandsNothing v w
    round_hands_nothing v w more =
        elim more [
          | inl worked ↦ step_hands_nothing v w work (Ok worked.0) worked.2
          | inr refused ↦
              step_hands_nothing refused.0 w end (Err refused.1) refused.4
              ∙ step_hands_nothing v refused.0 work (Ok told.Nothing) refused.3
        ]

    rounds_hand_nothing : (count : ℕ) (v w : HeapView) → Repeats (HasMore work end) count v w → HandsNothing v w
    rounds_hand_nothing zero v w same = ap (λ (u : HeapView). notices_handed k q u.mine) same
    rounds_hand_nothing (suc count) v w more =
        round_hands_nothing more.0 w more.2 ∙ rounds_hand_nothing count v more.0 more.1

    last_hands_nothing : (v : HeapView) (result : Result (Unit {0}) ShareFault) (w : HeapView)
        → IsLast work end v result w → HandsNothing v w
    last_hands_nothing v (Ok done) w last =
        handed_same k q last.0 w (heap.Plain end) (replies.Told last.2.0) refl last.2.2
        ∙ step_hands_nothing v last.0 work (Ok told.Nothing) last.1
    last_hands_nothing v (Err (Refused fault)) w last =
        elim last [
          | inl declined ↦ declined_hands_nothing v w work fault declined
          | inr ended ↦
              declined_hands_nothing ended.0 w end fault ended.3
              ∙ step_hands_nothing v ended.0 work (Ok told.Nothing) ended.2
        ]
    last_hands_nothing v (Err Busy) w last = absurd last
    last_hands_nothing v (Err (Notice back fault)) w last = absurd last
    last_hands_nothing v (Err (Held back fault)) w last = absurd last

    phase_hands_nothing : (v : HeapView) (result : Result (Unit {0}) ShareFault) (w : HeapView)
        → GoesThrough work end v result w → HandsNothing v w
    phase_hands_nothing v result w goes =
        last_hands_nothing goes.1 result w goes.3 ∙ rounds_hand_nothing goes.0 v goes.1 goes.2

  begin_hands_nothing : (now : ℕ) (how : Urgency) (v : HeapView) (result : Result (Unit {0}) ShareFault)
      (w : HeapView) → IsBegun now how v result w → HandsNothing v w
  begin_hands_nothing now how v (Ok done) w begun =
      handed_same k q v w (heap.Plain (plain.Begin now how)) (replies.Told begun.0) refl begun.2
  begin_hands_nothing now how v (Err (Refused fault)) w declined =
      declined_hands_nothing v w (plain.Begin now how) fault declined
  begin_hands_nothing now how v (Err Busy) w begun = absurd begun
  begin_hands_nothing now how v (Err (Notice back fault)) w begun = absurd begun
  begin_hands_nothing now how v (Err (Held back fault)) w begun = absurd begun

  -- two things of which neither hands on anything
  both_hand_nothing : (first second : HeapView → Result (Unit {0}) ShareFault → HeapView → Type 0)
      → ((v : HeapView) (result : Result (Unit {0}) ShareFault) (w : HeapView) → first v result w → HandsNothing v w)
      → ((v : HeapView) (result : Result (Unit {0}) ShareFault) (w : HeapView) → second v result w → HandsNothing v w)
      → (v : HeapView) (result : Result (Unit {0}) ShareFault) (w : HeapView) → Then first second v result w
      → HandsNothing v w
  both_hand_nothing first second one other v result w both =
      elim both [
        | inl done ↦ other done.0 result w done.2 ∙ one v (Ok tt) done.0 done.1
        | inr stopped ↦ one v (Err stopped.0) w stopped.2
      ]

  mark_hands_nothing : (worker now : ℕ) (how : Urgency) (v : HeapView) (result : Result (Unit {0}) ShareFault)
      (w : HeapView) → MarksAndClears worker now how v result w → HandsNothing v w
  mark_hands_nothing worker now how =
      let mark = GoesThrough (plain.Scan worker) plain.EndMark in
      let clear = GoesThrough (plain.ClearNext worker) plain.EndClear in
      both_hand_nothing (IsBegun now how) (Then mark clear) (begin_hands_nothing now how)
      (both_hand_nothing mark clear (phase_hands_nothing (plain.Scan worker) plain.EndMark)
      (phase_hands_nothing (plain.ClearNext worker) plain.EndClear))

-- ---- a worker's work

module _ {A : Type 0} (k : ℕ) (queues : List (SharedQueue A)) where
  -- one call after the other
  works_on : (n : ℕ) (v u : HeapView) (seats between : List QueueSeat) → Works k queues n v seats u between
      → (m : ℕ) (w : HeapView) (after : List QueueSeat) → Works k queues m u between w after
      → (count : ℕ) × Works k queues count v seats w after
  works_on n v u seats between works zero w after same = (
    n,
    subst (λ (x : HeapView). Works k queues n v seats x after) (sym same.0)
        (subst (λ (x : List QueueSeat). Works k queues n v seats u x) (sym same.1) works),
  )
  works_on n v u seats between works (suc m) w after more =
      let before = works_on n v u seats between works m more.0 more.1 more.2 in
      (suc before.0, (more.0, more.1, before.1, more.3))

  -- what hands nothing on, and calls no queue
  aside_works : (v w : HeapView) (seats after : List QueueSeat)
      → ((q : ℕ) → notices_handed k q w.mine ≡ notices_handed k q v.mine) → after ≡ seats
      → Works k queues 1 v seats w after
  aside_works v w seats after none same = (
    v,
    seats,
    (refl, refl),
    inr (inr (
      none,
      λ q s at. (s, subst (λ (l : List QueueSeat). slice_get l q ≡ Some s) same at, refl),
    )),
  )

  deliveries_work : (worker count : ℕ) (a b : HeapView × List QueueSeat)
      → Repeats (DeliversSome worker queues) count a b → Works k queues count a.0 a.1 b.0 b.1
  deliveries_work worker zero a b same = (ap (λ p. p.0) same, ap (λ p. p.1) same)
  deliveries_work worker (suc count) a b more =
      let y = more.0 in
      let some = more.2 in
      (y.0, y.1, deliveries_work worker count a y more.1, inr (inl (worker, 32, Ok (Some some.0), [], refl, some.1)))

  pub delivery_of_all_works : (worker : ℕ) (v w : HeapView) (seats after : List QueueSeat)
      (result : Result (Unit {0}) ShareFault) (left : List HeldNotice)
      → DeliversAll worker queues v seats result left w after
      → batch_had_turn result left ≡ true → (count : ℕ) × Works k queues count v seats w after
  delivery_of_all_works worker v w seats after (Ok done) left all turn =
      let a = all.1 in
      let last = inr (inl (worker, 32, Ok None, left, refl, all.3)) in
      (suc all.0, (a.0, a.1, deliveries_work worker all.0 (v, seats) a all.2, last))
  delivery_of_all_works worker v w seats after (Err fault) left all turn =
      let a = all.1 in
      let last = inr (inl (worker, 32, Err fault, left, turn, all.3)) in
      (suc all.0, (a.0, a.1, deliveries_work worker all.0 (v, seats) a all.2, last))

  pub cycle_works : (worker now : ℕ) (how : Urgency) (v w : HeapView) (seats after : List QueueSeat)
      (result : Result (Unit {0}) ShareFault) (left : List HeldNotice)
      → Cycles queues worker now how v seats result left w after
      → batch_had_turn result left ≡ true → (count : ℕ) × Works k queues count v seats w after
  cycle_works worker now how v w seats after result left cycles turn =
      elim cycles [
        | inl marked ↦
            let y = marked.0 in
            let front = aside_works v y.0 seats y.1.0
            (λ q. mark_hands_nothing k q worker now how v (Ok tt) y.0 marked.1.0) (ap (λ p. p.0) marked.1.1) in
            elim marked.2 [
              | inl delivered ↦
                  let z = delivered.0 in
                  let all = delivery_of_all_works worker y.0 z.0 y.1.0 z.1.0 (Ok tt) z.1.1 delivered.1 refl in
                  let back = aside_works z.0 w z.1.0 after
                  (λ q. phase_hands_nothing k q (plain.Sweep worker) plain.EndSweep z.0 result w delivered.2.0)
                  (ap (λ p. p.0) delivered.2.1) in
                  let middle = works_on 1 v y.0 seats y.1.0 front all.0 z.0 z.1.0 all.1 in
                  works_on middle.0 v z.0 seats z.1.0 middle.1 1 w after back
              | inr stopped ↦
                  let had = subst (λ (r : Result (Unit {0}) ShareFault). batch_had_turn r left ≡ true) stopped.1 turn
                  in
                  let all = delivery_of_all_works worker y.0 w y.1.0 after (Err stopped.0) left stopped.2 had in
                  works_on 1 v y.0 seats y.1.0 front all.0 w after all.1
            ]
        | inr stopped ↦ (
          1,
          aside_works v w seats after
              (λ q. mark_hands_nothing k q worker now how v (Err stopped.0) w stopped.2.0)
              (ap (λ p. p.0) stopped.2.1),
        )
      ]
