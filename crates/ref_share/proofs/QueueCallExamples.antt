-- What a seat of a shared queue may have called, by what its call answers, and what not: queue 0, in which the notice
-- of reference 2 is put.
use Rattle.ref_share.proofs.Common.{ℕ, List, [], ◌∷◌, Some, Ok, Err, true, false, refl, ap, arith, map, new_queue}
use Rattle.ref_share.proofs.Common.{TurnsSpent, HeldNotice, entry, Idle, PutsNotice, PollsUntil, QueueView, QueueEntry}
use Rattle.ref_share.proofs.Common.{Took, Busy, ◌≡◌, ◌∙◌, sym, false≢true}
use Rattle.ref_base.specs.Outs.{Outs}
use Rattle.ref_base.specs.declared.fault.Fault.TheVariants.{BadConfig}
use Rattle.ref_base.specs.declared.out.Done.TheVariants as done
use Rattle.ref_queue.specs.declared.queue.PolledBatch.TheVariants as some
use Rattle.ref_share.specs.QueueHistories.{added_by_call}
use Rattle.ref_share.specs.QueueMachines.{reported_object}
use Rattle.ref_share.specs.QueueCalls.{PutsBatch, PollsBatchNow, HoldsTaken}
use Rattle.ref_share.specs.declared.answers.ShareFault.TheVariants.{Refused}
use Rattle.std.proofs.Common.{◌-◌, ◌^◌}
use Rattle.ref_base.specs.declared.cause.Cause.TheVariants.{Own}
use Rattle.ref_share.specs.declared.answers.Polled.TheVariants.{Closed, Empty, TimedOut}
use Rattle.ref_share.specs.QueueCalls.{PollsNow, PollsWithin, PollsAWhile, ClosesQueue}
use Rattle.ref_queue.specs.declared.queue.Polled.TheVariants as answers
use Rattle.ref_queue.specs.declared.queue.Put.TheVariants as puts
use Rattle.ref_share.specs.declared.queue_machine.QueueStep.TheVariants as steps
use Rattle.ref_share.specs.declared.queue_machine.QueueReply.TheVariants as replies

abbrev notice : HeldNotice
notice = record { hold = record { heap_no = 7; object = 2 }; queue = 0; cause = Own }

-- the one seat, which has made these calls, where so many tickets were drawn and it has looked so often
abbrev seat : List QueueEntry → (drawn looks : ℕ) → QueueView
seat calls drawn looks = record {
  first = 0;
  start = Some (new_queue 0);
  stage = Idle;
  number = 0;
  seen = calls;
  mine = calls;
  drawn = drawn;
  looks = looks;
}

abbrev v : QueueView
v = seat [] 0 0

abbrev added : QueueEntry
added = entry 0 (steps.Put notice) (replies.Put (Ok (puts.Added 0)))

abbrev found_nothing : QueueEntry
found_nothing = entry 0 steps.Poll (replies.Polled answers.Empty)

abbrev took_it : QueueEntry
took_it = entry 0 steps.Poll (replies.Polled (answers.Took notice))

abbrev told_closed : QueueEntry
told_closed = entry 0 steps.Poll (replies.Polled answers.Closed)

-- ---- put

it_was_added : PutsNotice v notice (Ok (puts.Added 0)) (seat (added ∷ []) 1 1)
it_was_added = ((refl, refl, refl), ([], refl), refl)

added_without_a_call : ¬ (PutsNotice v notice (Ok (puts.Added 0)) v)
added_without_a_call is = let none = is.2 in absurd cc

told_another_answer : ¬ (PutsNotice v notice (Ok (puts.Already notice)) (seat (added ∷ []) 1 1))
told_another_answer is = let answer = ap (map (λ (call : QueueEntry). call.reply)) is.2 in absurd cc

no_turn_was_left : PutsNotice v notice (Err (TurnsSpent, notice)) (seat [] (2 ^ 64 - 1) 1)
no_turn_was_left = (refl, (((refl, refl, refl), ([], refl), refl), refl))

spent_while_turns_are_left : ¬ (PutsNotice v notice (Err (TurnsSpent, notice)) (seat [] 1 1))
spent_while_turns_are_left is = absurd (omega (arith, is.1.1))

-- ---- polls

it_was_taken : PollsNow v (Ok (Took notice)) (seat (took_it ∷ []) 1 1)
it_was_taken = ((refl, refl, refl), ([], refl), refl)

told_empty_and_kept_it : ¬ (PollsNow v (Ok Empty) (seat (took_it ∷ []) 1 1))
told_empty_and_kept_it is = let answer = ap (map (λ (call : QueueEntry). call.reply)) is.2 in absurd cc

another_turn_was_open : PollsNow v (Err Busy) (seat [] 1 1)
another_turn_was_open = (((refl, refl, refl), ([], refl), refl), (omega arith, omega arith, omega arith))

busy_where_none_was_open : ¬ (PollsNow v (Err Busy) (seat [] 0 1))
busy_where_none_was_open is = absurd (omega (arith, is.1.1))

busy_at_the_last_ticket : ¬ (PollsNow v (Err Busy) (seat [] (2 ^ 64 - 1) 1))
busy_at_the_last_ticket is = absurd (omega (arith, is.1.2))

two_polls_found_nothing : PollsWithin v 2 (Ok TimedOut) (seat (found_nothing ∷ found_nothing ∷ []) 2 2)
two_polls_found_nothing = ((refl, refl, refl), (found_nothing ∷ found_nothing ∷ [], refl), refl)

timed_out_after_one_of_two : ¬ (PollsWithin v 2 (Ok TimedOut) (seat (found_nothing ∷ []) 1 1))
timed_out_after_one_of_two is = let one = is.2 in absurd cc

the_second_told_that_it_is_closed : PollsUntil v (Ok Closed) (seat (found_nothing ∷ told_closed ∷ []) 2 2)
the_second_told_that_it_is_closed =
    (1, tt, ((refl, refl, refl), (found_nothing ∷ told_closed ∷ [], refl), refl))

waiting_has_no_end_by_time : (w : QueueView) → ¬ (PollsUntil v (Ok TimedOut) w)
waiting_has_no_end_by_time w is = is

one_poll_found_nothing : PollsAWhile v (Ok TimedOut) (seat (found_nothing ∷ []) 1 1)
one_poll_found_nothing = (0, ((refl, refl, refl), (found_nothing ∷ [], refl), refl))

timed_out_without_a_poll : ¬ (PollsAWhile v (Ok TimedOut) v)
timed_out_without_a_poll is = let none = is.1.2 in absurd cc

-- ---- close

it_was_open : ClosesQueue v (Ok true) (seat (entry 0 steps.Close (replies.Closed true) ∷ []) 1 1)
it_was_open = ((refl, refl, refl), ([], refl), refl)

told_open_where_it_was_closed : ¬ (ClosesQueue v (Ok true) (seat (entry 0 steps.Close (replies.Closed false) ∷ []) 1 1))
told_open_where_it_was_closed is = let answer = ap (map (λ (call : QueueEntry). call.reply)) is.2 in absurd cc

-- ---- batches

-- of two notices of one reference the first is added
abbrev outs : Outs
outs = record { before = 0; done = done.Added ∷ done.Already ∷ [] }

abbrev added_one : QueueEntry
added_one = entry 0 (steps.PutBatch (notice ∷ notice ∷ [])) (replies.PutBatch (Ok outs) (notice ∷ []))

one_came_back : PutsBatch v (notice ∷ notice ∷ []) (Ok outs) (notice ∷ []) (seat (added_one ∷ []) 1 1)
one_came_back = ((refl, refl, refl), ([], refl), refl)

told_and_dropped_it : ¬ (PutsBatch v (notice ∷ notice ∷ []) (Ok outs) [] (seat (added_one ∷ []) 1 1))
told_and_dropped_it is = let answer = ap (map (λ (call : QueueEntry). call.reply)) is.2 in absurd cc

spent_and_dropped_it : (w : QueueView) → ¬ (PutsBatch v (notice ∷ []) (Err TurnsSpent) [] w)
spent_and_dropped_it w is = let none : [] ≡ notice ∷ [] = is.0 in absurd cc

the_one_that_was_added_has_its_position : added_by_call added_one.step added_one.reply ≡ (notice, 0) ∷ []
the_one_that_was_added_has_its_position = refl

abbrev took_some : QueueEntry
took_some = entry 0 (steps.PollBatch 2 []) (replies.PolledBatch (Ok (some.Took (2 ∷ []))) (notice ∷ []))

it_was_taken_into_the_batch : PollsBatchNow v 2 [] (Ok (some.Took (2 ∷ []))) (notice ∷ []) (seat (took_some ∷ []) 1 1)
it_was_taken_into_the_batch = (refl, ((refl, refl, refl), ([], refl), refl))

it_stands_in_the_batch : HoldsTaken [] (Ok (some.Took (2 ∷ []))) (notice ∷ [])
it_stands_in_the_batch = (notice ∷ [], refl, refl)

took_it_and_lost_it : ¬ (HoldsTaken [] (Ok (some.Took (2 ∷ []))) [])
took_it_and_lost_it is = let numbers : 2 ∷ [] ≡ map reported_object is.0 = is.1 in
    let none : [] ≡ is.0 = is.2 in
    let absent : 2 ∷ [] ≡ [] = numbers ∙ ap (map reported_object) (sym none) in absurd cc

busy_and_lost_the_batch : ¬ (HoldsTaken (notice ∷ []) (Err Busy) [])
busy_and_lost_the_batch is = let none : [] ≡ notice ∷ [] = is in absurd cc

-- a batch has room for 32
too_many_are_refused : PollsBatchNow v 32 (notice ∷ []) (Err (Refused BadConfig)) (notice ∷ [])
    (seat (entry 0 (steps.PollBatch 32 (notice ∷ [])) (replies.PolledBatch (Err BadConfig) (notice ∷ [])) ∷ []) 1 1)
too_many_are_refused = (refl, ((refl, refl, refl), ([], refl), refl))

refused_with_room_for_all : (w : QueueView) → ¬ (PollsBatchNow v 32 [] (Err (Refused BadConfig)) [] w)
refused_with_room_for_all w is = absurd (false≢true (sym is.0))
