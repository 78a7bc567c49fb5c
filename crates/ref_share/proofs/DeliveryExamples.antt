-- What deliveries may have called, and what not, with two queues: worker 0 hands on the notice of reference 2, which is
-- for queue 1, and then that of reference 6.
use Rattle.ref_share.proofs.Common.{◌≡◌, ℕ, List, [], ◌∷◌, length, Option, Some, None, Ok, Err, inl, inr, refl, sym, ap}
use Rattle.ref_share.proofs.Common.{◌∙◌}
use Rattle.ref_share.proofs.Common.{arith, get_or, length-append, map, zero, suc, Cycle, BadQueue, HoldName, ClearHeap}
use Rattle.ref_share.proofs.Common.{HeldNotice, entry, Idle, GoesBack, Delivers, HeapView, HeapEntry, PutsNotice}
use Rattle.ref_share.proofs.Common.{QueueEntry, queue_view, KeepsPace, Works, notices_put, references_of, Nothing}
use Rattle.ref_share.proofs.Common.{Added, Dropped, Notice, QueueSeat, SharedQueue, ◌++◌}
use Rattle.ref_share.specs.Deliveries.{DeliversAll, DeliversBatch, GoBack, Sends, SendsBatch}
use Rattle.ref_share.specs.QueueCalls.{PutsBatch}
use Rattle.ref_base.specs.Outs.{Outs}
use Rattle.ref_base.specs.declared.fault.Fault.TheVariants.{ForeignHold, NoMemory}
use Rattle.ref_base.specs.declared.out.Done.TheVariants as done
use Rattle.ref_clear.specs.declared.handed.Handed.{Handed}
use Rattle.ref_base.specs.declared.reply.Reply.TheVariants as told
use Rattle.ref_share.specs.declared.answers.ShareFault.TheVariants.{Refused}
use Rattle.ref_base.specs.declared.heap_step.HeapStep.TheVariants as heap
use Rattle.ref_queue.specs.declared.queue.Put.TheVariants as puts
use Rattle.ref_world.specs.declared.heap_machine.HeapReply.TheVariants as replies
use Rattle.ref_share.specs.declared.queue_machine.QueueReply.TheVariants as answers
use Rattle.ref_share.specs.declared.queue_machine.QueueStep.TheVariants as queue

abbrev hold : ℕ → HoldName
hold n = record { heap_no = 7; object = n }

-- the notice of a reference that worker 0 cleared, for queue 1
abbrev notice : ℕ → HeldNotice
notice n = record { hold = hold n; queue = 1; cause = Cycle 1 0 }

abbrev hands : ℕ → HeapEntry
hands n = entry 0 (heap.Hand 0) (replies.Notice (notice n))

abbrev both : List HeldNotice
both = notice 2 ∷ notice 6 ∷ []

abbrev handed : Handed
handed = record { numbers = 2 ∷ 6 ∷ []; queue = 1; cycle = 1 }

abbrev hands_both : HeapEntry
hands_both = entry 0 (heap.Hands 0 32 []) (replies.Handed (told.Notices (2 ∷ 6 ∷ []) 1 1 0) both)

abbrev releases : ℕ → HeapEntry
releases n = entry 0 (heap.Release (hold n)) (replies.Told told.Done)

abbrev keeps_back : ℕ → HeapEntry
keeps_back n = entry 0 (heap.Release (hold n)) (replies.Back ForeignHold (hold n))

-- what may become of both in an empty queue, where the first was put in before, and where memory is short
abbrev both_added : Outs
both_added = record { before = 0; done = done.Added ∷ done.Added ∷ [] }

abbrev second_added : Outs
second_added = record { before = 1; done = done.Already ∷ done.Added ∷ [] }

abbrev second_refused : Outs
second_refused = record { before = 0; done = done.Added ∷ done.Refused NoMemory ∷ [] }

abbrev puts_in : ℕ → (position : ℕ) → QueueEntry
puts_in n position = entry 0 (queue.Put (notice n)) (answers.Put (Ok (puts.Added position)))

-- a hand of a batch that gives nothing, by the seat of this number, and these are left
abbrev hand_of : (number : ℕ) → List HeldNotice → HeapEntry
hand_of number left = entry number (heap.Hands 0 32 []) (replies.Handed told.Nothing left)

abbrev hands_none : HeapEntry
hands_none = hand_of 0 []

module _ {A : Type 0} (start : Option ClearHeap) (first second : SharedQueue A) (s t u : QueueSeat) where
  -- the heap's one seat, which has made these calls
  abbrev seat : List HeapEntry → HeapView
  seat calls = record {
    first = 0;
    start = start;
    stage = Idle;
    number = 0;
    seen = calls;
    mine = calls;
    drawn = 0;
    looks = 0;
  }

  abbrev queues : List (SharedQueue A)
  queues = first ∷ second ∷ []

  -- ---- a delivery

  it_is_delivered : PutsNotice (queue_view t) (notice 2) (Ok (puts.Added 0)) (queue_view u)
      → Delivers (heap.Hand 0) (seat []) queues (s ∷ t ∷ []) (Ok (Added 2 1 0)) (seat (hands 2 ∷ [])) (s ∷ u ∷ [])
  it_is_delivered called = (
    notice 2,
    seat (hands 2 ∷ []),
    ((refl, refl, refl), ([], refl), refl),
    (
      refl,
      refl,
      refl,
      record { old = t; new = u; within = omega arith; there = refl; after_is = refl; puts = called },
    ),
  )

  -- queue 1 is there, so that the notice is not refused for want of it
  its_queue_is_there : (w : HeapView) (after : List QueueSeat)
      → ¬ (Delivers (heap.Hand 0) (seat []) queues (s ∷ t ∷ []) (Err (Notice (notice 2) BadQueue)) w after)
  its_queue_is_there w after d =
      let is : 1 ≡ d.0.queue = ap (λ (n : HeldNotice). n.queue) d.3.0 in
      elim d.3.2.0 [
        | inl short ↦ absurd (omega (arith, is, short))
        | inr short ↦ absurd (omega (arith, is, short))
      ]

  -- with a list of one queue it may be
  its_queue_is_beyond_a_list_of_one : Delivers (heap.Hand 0) (seat []) (first ∷ []) (s ∷ [])
      (Err (Notice (notice 2) BadQueue)) (seat (hands 2 ∷ [])) (s ∷ [])
  its_queue_is_beyond_a_list_of_one = (
    notice 2,
    seat (hands 2 ∷ []),
    ((refl, refl, refl), ([], refl), refl),
    (refl, refl, (inl (omega arith), refl)),
  )

  -- no seat of a queue made a call
  added_and_never_put : ¬ (Sends (notice 2) queues (s ∷ t ∷ []) (seat []) (Ok (Added 2 1 0)) (seat []) (s ∷ t ∷ []))
  added_and_never_put sends =
      let put = sends.3 in
      let old : put.old ≡ t = let there : Some t ≡ Some put.old = put.there in cc in
      let new : put.new ≡ t = let after : s ∷ t ∷ [] ≡ s ∷ put.new ∷ [] = put.after_is in cc in
      let mine = ap (λ (q : QueueSeat). length (queue_view q).mine) (new ∙ sym old) in
      absurd
      (omega (
        arith,
        mine,
        ap length put.puts.2,
        length-append (queue_view put.old).mine
            (entry (queue_view put.old).number (queue.Put (notice 2)) (answers.Put (Ok (puts.Added 0))) ∷ []),
      ))

  told_that_none_is_pending : ¬ (Delivers (heap.Hand 0) (seat []) queues (s ∷ t ∷ []) (Ok Nothing)
      (seat (hands 2 ∷ [])) (s ∷ t ∷ []))
  told_that_none_is_pending d =
      let answer = ap (λ (calls : List HeapEntry). map (λ call. call.reply) calls) d.0.2 in absurd cc

  -- what no queue took goes back to the heap by a release
  dropped_and_never_released : ¬ (GoesBack 2 (hold 2) (seat []) (Ok (Dropped 2)) (seat []))
  dropped_and_never_released gives = let none = gives.1.2 in absurd cc

  -- ---- the delivery of a batch

  both_are_delivered : PutsBatch (queue_view t) both (Ok both_added) [] (queue_view u)
      → DeliversBatch 0 32 (seat []) queues (s ∷ t ∷ []) (Ok (Some both_added)) [] (seat (hands_both ∷ []))
      (s ∷ u ∷ [])
  both_are_delivered called = (
    handed,
    both,
    seat (hands_both ∷ []),
    ((7, refl), ((refl, refl, refl), ([], refl), refl)),
    (
      [],
      record { old = t; new = u; within = omega arith; there = refl; after_is = refl; puts = called },
      refl,
      (refl, refl),
    ),
  )

  -- reference 2 was put in before, so its hold goes back to the heap
  one_goes_back : PutsBatch (queue_view t) both (Ok second_added) (notice 2 ∷ []) (queue_view u)
      → DeliversBatch 0 32 (seat []) queues (s ∷ t ∷ []) (Ok (Some second_added)) []
      (seat (hands_both ∷ releases 2 ∷ [])) (s ∷ u ∷ [])
  one_goes_back called = (
    handed,
    both,
    seat (hands_both ∷ []),
    ((7, refl), ((refl, refl, refl), ([], refl), refl)),
    (
      notice 2 ∷ [],
      record { old = t; new = u; within = omega arith; there = refl; after_is = refl; puts = called },
      refl,
      inl (
        seat (hands_both ∷ releases 2 ∷ []),
        ((refl, refl, refl), ([], refl), refl),
        (refl, refl),
      ),
    ),
  )

  -- no memory was there for reference 6, which is left
  one_is_left : PutsBatch (queue_view t) both (Ok second_refused) (notice 6 ∷ []) (queue_view u)
      → DeliversBatch 0 32 (seat []) queues (s ∷ t ∷ []) (Err (Refused NoMemory)) (notice 6 ∷ [])
      (seat (hands_both ∷ [])) (s ∷ u ∷ [])
  one_is_left called = inr (
    handed,
    both,
    seat (hands_both ∷ []),
    ((7, refl), ((refl, refl, refl), ([], refl), refl)),
    (
      refl,
      inr (
        second_refused,
        record { old = t; new = u; within = omega arith; there = refl; after_is = refl; puts = called },
        refl,
      ),
    ),
  )

  -- then nothing is released
  released_what_found_no_memory : (left : List HeldNotice) (after : List QueueSeat)
      → ¬ (SendsBatch 1 both queues (s ∷ t ∷ []) (seat (hands_both ∷ [])) (Err (Refused NoMemory)) left
      (seat (hands_both ∷ releases 6 ∷ [])) after)
  released_what_found_no_memory left after sends =
      let one = ap (λ (v : HeapView). length v.mine) sends.0 in absurd cc

  told_ok_where_one_was_refused : (left : List HeldNotice) (v w : HeapView) (after : List QueueSeat)
      → ¬ (SendsBatch 1 both queues (s ∷ t ∷ []) v (Ok (Some second_refused)) left w after)
  told_ok_where_one_was_refused left v w after sends = let none : Some NoMemory ≡ None = sends.2 in absurd cc

  -- the heap doesn't count the hold of the first, and the second is left
  the_first_comes_back : GoBack both (seat []) (Err (ForeignHold, hold 2)) (notice 6 ∷ []) (seat (keeps_back 2 ∷ []))
  the_first_comes_back =
      inr ((ForeignHold, hold 2), refl, (refl, ((refl, refl, refl), ([], refl), refl)), refl)

  the_rest_is_dropped : (w : HeapView) → ¬ (GoBack both (seat []) (Err (ForeignHold, hold 2)) [] w)
  the_rest_is_dropped w gives =
      elim gives [
        | inl more ↦ elim more.2 [
          | inl last ↦ last.2
          | inr kept ↦
              let back : (ForeignHold, hold 2) ≡ kept.0 =
              let is : Err (ForeignHold, hold 2) ≡ Err kept.0 = kept.1 in
              cc in
              let same : 2 ≡ 6 = ap (λ (h : HoldName). h.object) (ap (λ p. p.1) back ∙ kept.2.0) in
              absurd (omega (arith, same))
        ]
        | inr first ↦ let none : [] ≡ notice 6 ∷ [] = first.3 in absurd cc
      ]

  left_none_and_released_none : ¬ (GoBack (notice 2 ∷ []) (seat []) (Ok tt) [] (seat []))
  left_none_and_released_none gives =
      elim gives [
        | inl more ↦
            let one : (more.0).mine ≡ releases 2 ∷ [] = more.1.2 in
            let same : seat [] ≡ more.0 = more.2.1 in
            let none : [] ≡ releases 2 ∷ [] = ap (λ (v : HeapView). v.mine) same ∙ one in
            absurd cc
        | inr first ↦ let other : Ok tt ≡ Err first.0 = first.1 in absurd cc
      ]

  -- ---- all that is pending

  all_is_delivered : PutsBatch (queue_view t) both (Ok both_added) [] (queue_view u)
      → DeliversAll 0 queues (seat []) (s ∷ t ∷ []) (Ok tt) [] (seat (hands_both ∷ hands_none ∷ [])) (s ∷ u ∷ [])
  all_is_delivered called = (
    1,
    (seat (hands_both ∷ []), s ∷ u ∷ []),
    ((seat [], s ∷ t ∷ []), refl, (both_added, both_are_delivered called)),
    (((7, refl), ((refl, refl, refl), ([], refl), refl)), refl),
  )

  -- no hand gave nothing
  nothing_was_tried : (left : List HeldNotice) (after : List QueueSeat)
      → ¬ (DeliversAll 0 queues (seat []) (s ∷ t ∷ []) (Ok tt) left (seat []) after)
  nothing_was_tried left after all =
      let last : HeapEntry = hand_of (all.1.0).number left in
      let none : [] ≡ (all.1.0).mine ++ last ∷ [] = all.3.0.1.2 in
      absurd (omega (arith, ap length none, length-append (all.1.0).mine (last ∷ [])))

  -- notices are left though all were delivered
  some_are_left_behind_all : (w : HeapView) (after : List QueueSeat)
      → ¬ (DeliversAll 0 queues (seat []) (s ∷ t ∷ []) (Ok tt) both w after)
  some_are_left_behind_all w after all = let none : both ≡ [] = all.3.0.0.1 in absurd cc

  -- ---- a worker's thread

  fresh_seats_keep_pace : (queue_view s).mine ≡ [] → (queue_view t).mine ≡ []
      → KeepsPace 0 queues (seat []) (s ∷ t ∷ [])
  fresh_seats_keep_pace none other zero r within at =
      let is : s ≡ r = let there : Some s ≡ Some r = at in cc in
      ap (λ (x : QueueSeat). notices_put 0 0 (queue_view x).mine) (sym is) ∙ ap (notices_put 0 0) none
  fresh_seats_keep_pace none other (suc zero) r within at =
      let is : t ≡ r = let there : Some t ≡ Some r = at in cc in
      ap (λ (x : QueueSeat). notices_put 0 1 (queue_view x).mine) (sym is) ∙ ap (notices_put 0 1) other
  fresh_seats_keep_pace none other (suc (suc i)) r within at = absurd (omega (arith, within))

  it_works_by_one_delivery : PutsNotice (queue_view t) (notice 2) (Ok (puts.Added 0)) (queue_view u)
      → Works 0 queues 1 (seat []) (s ∷ t ∷ []) (seat (hands 2 ∷ [])) (s ∷ u ∷ [])
  it_works_by_one_delivery called =
      (seat [], s ∷ t ∷ [], (refl, refl), inl (0, Ok (Added 2 1 0), refl, it_is_delivered called))

  -- all that a delivery hands on is put in, as a law says
  -- promise: deliver_all: nothing is handed on and lost
  what_is_lost_keeps_no_pace : (queue_view t).mine ≡ []
      → ¬ (KeepsPace 0 queues (seat (hands 2 ∷ [])) (s ∷ t ∷ []))
  what_is_lost_keeps_no_pace none pace =
      let are : [] ≡ notice 2 ∷ [] = ap (notices_put 0 1) (sym none) ∙ pace 1 t (omega arith) refl in
      absurd (omega (arith, ap length are))

  -- what was handed on second was put in first
  another_order_keeps_no_pace : (queue_view u).mine ≡ puts_in 6 0 ∷ puts_in 2 1 ∷ []
      → ¬ (KeepsPace 0 queues (seat (hands 2 ∷ hands 6 ∷ [])) (s ∷ u ∷ []))
  another_order_keeps_no_pace mine pace =
      let are : notice 6 ∷ notice 2 ∷ [] ≡ notice 2 ∷ notice 6 ∷ [] =
      ap (notices_put 0 1) (sym mine) ∙ pace 1 u (omega arith) refl in
      let first : 6 ≡ 2 = ap (λ (notices : List HeldNotice). get_or (references_of notices) 0 0) are in
      absurd (omega (arith, first))
