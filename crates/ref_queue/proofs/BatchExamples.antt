-- What a queue may make of a batch at worked states, and what a poll of several may take; and what they may not.
use Rattle.std.proofs.Common.{◌≡◌, ℕ, List, [], ◌∷◌, Ok, Err, refl, sym, ap, arith, get_or, length}
use Rattle.std.proofs.lemmas.Bool.{true≢false}
use Rattle.ref_base.specs.QueueLists.{Lists}
use Rattle.ref_base.specs.declared.fault.Fault.TheVariants.{WrongQueue, NoMemory}
use Rattle.ref_base.specs.declared.out.Done.TheVariants.{Added, Already, Refused}
use Rattle.ref_base.specs.Outs.{Outs, out_at}
use Rattle.ref_base.specs.declared.out.Out.TheVariants as out
use Rattle.std.proofs.Common.{Some}
use Rattle.ref_queue.specs.QueueBatches.{AnswersBatch, AnswersPolls, after_batch, left_by}
use Rattle.ref_queue.specs.declared.queue.PolledBatch.TheVariants.{Took, Empty}
use Rattle.ref_queue.proofs.Examples.{Slip, object_of, queue_of, one_stands, closed_queue}

-- ---- a put of a batch: 7 was put in before

abbrev batch : List Slip
batch = (7, 1) ∷ (9, 1) ∷ (10, 1) ∷ []

abbrev all_tried : Outs
all_tried = record { before = 2; done = Already ∷ Added ∷ Added ∷ [] }

abbrev one_refused : Outs
one_refused = record { before = 2; done = Already ∷ Refused NoMemory ∷ [] }

what_is_new_is_added : AnswersBatch object_of queue_of one_stands batch (Ok all_tried)
what_is_new_is_added = (refl, refl, (refl, ((refl, refl, refl), ((refl, refl, refl), tt))), tt)

it_stands_in_order : after_batch one_stands batch (Ok all_tried)
    ≡ record one_stands { stands = (8, 1) ∷ (9, 1) ∷ (10, 1) ∷ [] }
it_stands_in_order = refl

-- promise: Outs::get, Queue::put_batch: positions follow one another
positions_follow_one_another : out_at all_tried 2 ≡ Some (out.Added 3)
positions_follow_one_another = refl

it_ends_at_what_finds_no_memory : AnswersBatch object_of queue_of one_stands batch (Ok one_refused)
it_ends_at_what_finds_no_memory = (refl, refl, (refl, ((refl, (refl, refl, refl)), tt)), refl)

-- promise: Queue::put_batch: what was not added stands in front of what was not tried
what_came_back_stands_in_front_of_what_was_not_tried : left_by batch (Ok one_refused) ≡ batch
what_came_back_stands_in_front_of_what_was_not_tried = refl

-- promise: Queue::put_batch: no item behind one that found no memory is tried
it_does_not_go_on_after_a_refused_item : ¬ (AnswersBatch object_of queue_of one_stands batch
    (Ok (record { before = 2; done = Already ∷ Refused NoMemory ∷ Added ∷ [] })))
it_does_not_go_on_after_a_refused_item is = let over = is.3 in absurd cc

it_does_not_stop_where_nothing_is_refused : ¬ (AnswersBatch object_of queue_of one_stands batch
    (Ok (record { before = 2; done = Already ∷ Added ∷ [] })))
it_does_not_stop_where_nothing_is_refused is = absurd is.3

-- promise: Queue::put_batch: what was put in is not added again
what_was_put_in_is_not_added_again : ¬ (AnswersBatch object_of queue_of one_stands batch
    (Ok (record { before = 2; done = Added ∷ Added ∷ Added ∷ [] })))
what_was_put_in_is_not_added_again is = true≢false is.2.0.1

-- promise: Queue::put_batch: twice in a batch is added once
twice_in_one_batch_is_once : ¬ (AnswersBatch object_of queue_of one_stands ((9, 1) ∷ (9, 1) ∷ [])
    (Ok (record { before = 2; done = Added ∷ Added ∷ [] })))
twice_in_one_batch_is_once is = true≢false is.2.1.0.1

-- promise: Queue::put_batch: a closed queue adds none
a_closed_queue_adds_none : ¬ (AnswersBatch object_of queue_of closed_queue batch (Ok all_tried))
a_closed_queue_adds_none is = true≢false is.2.1.0.2

a_batch_for_two_queues_comes_back : AnswersBatch object_of queue_of one_stands ((9, 1) ∷ (10, 0) ∷ []) (Err WrongQueue)
a_batch_for_two_queues_comes_back = (refl, refl)

-- promise: Queue::put_batch: with another queue's item no item is put
and_no_item_of_it_is_put : ¬ (AnswersBatch object_of queue_of one_stands ((9, 1) ∷ (10, 0) ∷ [])
    (Ok (record { before = 2; done = Added ∷ Added ∷ [] })))
and_no_item_of_it_is_put is = true≢false (sym is.0)

-- ---- a poll of several

abbrev two_stand : Lists Slip
two_stand = record one_stands { stands = (8, 1) ∷ (9, 1) ∷ [] }

abbrev none_stands : Lists Slip
none_stands = record one_stands { taken = 7 ∷ 8 ∷ 9 ∷ []; stands = [] }

all_that_stand_are_taken : AnswersPolls object_of two_stand 5 [] (Took (8 ∷ 9 ∷ [])) none_stands
    ((8, 1) ∷ (9, 1) ∷ [])
all_that_stand_are_taken = (omega arith, refl, refl, refl)

-- promise: Queue::poll_batch: no more than were asked for
no_more_than_were_asked_for_are_taken : ¬ (AnswersPolls object_of two_stand 1 [] (Took (8 ∷ 9 ∷ [])) none_stands
    ((8, 1) ∷ (9, 1) ∷ []))
no_more_than_were_asked_for_are_taken is = absurd (omega (arith, ap length is.1))

the_last_is_not_told_first : (left : Lists Slip) (items : List Slip)
    → ¬ (AnswersPolls object_of two_stand 5 [] (Took (9 ∷ 8 ∷ [])) left items)
the_last_is_not_told_first left items is =
    let first : 9 ≡ 8 = ap (λ (ns : List ℕ). get_or ns 0 0) is.1 in absurd (omega (arith, first))

-- promise: Queue::poll_batch: what is taken first stands first in the batch
nor_does_it_stand_first_in_the_batch : (left : Lists Slip)
    → ¬ (AnswersPolls object_of two_stand 5 [] (Took (8 ∷ 9 ∷ [])) left ((9, 1) ∷ (8, 1) ∷ []))
nor_does_it_stand_first_in_the_batch left is =
    let first : 9 ≡ 8 = ap (λ (slips : List Slip). (get_or slips 0 (0, 0)).0) is.3 in absurd (omega (arith, first))

-- promise: Queue::poll_batch: not Empty while two stand
it_is_not_empty_while_two_stand : ¬ (AnswersPolls object_of two_stand 5 [] Empty two_stand [])
it_is_not_empty_while_two_stand is = let none = is.0 in absurd cc
