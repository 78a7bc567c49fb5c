-- What follows of a queue's history from a close or a put of its own.
use Rattle.std.proofs.Common.{◌≡◌, ℕ, Bool, true, false, not, ◌||◌, List, [], ◌∷◌, ◌++◌, Result, Ok, Err, IfOk}
use Rattle.std.proofs.Common.{refl, sym, ap, ◌∙◌, subst}
use Rattle.ref_base.specs.QueueLists.{new_queue}
use Rattle.ref_base.specs.HeapSteps.{HeldNotice}
use Rattle.ref_queue.specs.declared.queue.Put.TheVariants as puts
use Rattle.ref_turn.proofs.Logs.{leads_cut}
use Rattle.ref_turn.specs.Seats.{entry}
use Rattle.ref_share.specs.QueueCalls.{PutsNotice, ClosesQueue}
use Rattle.ref_share.specs.QueueHistories.{closed_by_call, is_closed_after}
use Rattle.ref_share.specs.QueueMachines.{IsQueueTurn}
use Rattle.ref_share.specs.QueueSeats.{QueueEntry, QueueView, IsQueueRun}
use Rattle.ref_share.specs.Selves.{IsItself}
use Rattle.ref_share.specs.QueueStates.{NoticeLists}
use Rattle.ref_share.specs.StartedSeats.{IsLeftFrom}
use Rattle.ref_share.specs.declared.answers.ShareFault.{ShareFault}
use Rattle.ref_share.specs.declared.queue_machine.QueueStep.TheVariants as steps
use Rattle.ref_share.specs.declared.queue_machine.QueueReply.TheVariants as replies
use Rattle.ref_share.proofs.QueueRuns.{keeps_lists, own_at_the_end}

or_right : (b c : Bool) → c ≡ true → (b || c) ≡ true
or_right true c is = refl
or_right false c is = is

or_later : (b c d : Bool) → (c ≡ true → d ≡ true) → (b || c) ≡ true → (b || d) ≡ true
or_later true c d later is = refl
or_later false c d later is = later is

closed_later : (front back : List QueueEntry) → is_closed_after front ≡ true → is_closed_after (front ++ back) ≡ true
closed_later [] back shut = absurd cc
closed_later (call ∷ calls) back shut =
    or_later (closed_by_call call.step call.reply) (is_closed_after calls) (is_closed_after (calls ++ back))
    (closed_later calls back) shut

closed_at : (front : List QueueEntry) (by : ℕ) (was : Bool)
    → is_closed_after (front ++ entry by steps.Close (replies.Closed was) ∷ []) ≡ true
closed_at [] by was = refl
closed_at (call ∷ calls) by was = or_right (closed_by_call call.step call.reply) _ (closed_at calls by was)

-- what a seat has seen that closed the queue
has_closed : (u v : QueueView) (was : Bool) → ClosesQueue u (Ok was) v → is_closed_after v.seen ≡ true
has_closed u v was closes =
    subst (λ (l : List QueueEntry). is_closed_after l ≡ true) (sym closes.1.1)
    (closed_at (u.seen ++ closes.1.0) u.number was)

-- the second of two closes finds the queue closed
pub closes_again : (u v w : QueueView) (number : ℕ) (was : Bool) (result : Result Bool ShareFault) (last : NoticeLists)
    → ClosesQueue u (Ok was) v → ClosesQueue v result w → IsQueueRun number w.seen last → IfOk result (λ is. is ≡ false)
closes_again u v w number was (Ok is) last first then run =
    let front : List QueueEntry = v.seen ++ then.1.0 in
    let parts = leads_cut IsQueueTurn front (entry v.number steps.Close (replies.Closed is) ∷ []) (new_queue number)
    last
    (subst (λ (l : List QueueEntry). IsQueueRun number l last) then.1.1 run) in
    let shut = closed_later v.seen then.1.0 (has_closed u v was first) in
    parts.2.1.0 ∙ ap not ((keeps_lists number front parts.0 parts.1).closed_is ∙ shut)
closes_again u v w number was (Err fault) last first then run = tt

-- a queue that is left after a close is closed
pub left_closed : (u v : QueueView) (number : ℕ) (was : Bool) (q : NoticeLists) → ClosesQueue u (Ok was) v
    → IsLeftFrom IsItself IsQueueTurn (new_queue number) v q → q.closed ≡ true
left_closed u v number was q first left =
    let shut = closed_later v.seen left.begins.0 (has_closed u v was first) in
    ap (λ (r : NoticeLists). r.closed) (sym left.stands)
    ∙ (keeps_lists number left.log left.last left.run).closed_is
    ∙ subst (λ (l : List QueueEntry). is_closed_after l ≡ true) (sym left.begins.1) shut

-- what was added is for this queue
pub added_is_own : (v w : QueueView) (number : ℕ) (notice : HeldNotice) (position : ℕ) (last : NoticeLists)
    → PutsNotice v notice (Ok (puts.Added position)) w → IsQueueRun number w.seen last → notice.queue ≡ number
added_is_own v w number notice position last added run =
    (own_at_the_end number (v.seen ++ added.1.0) []
    (entry v.number (steps.Put notice) (replies.Put (Ok (puts.Added position)))) last 0 notice position
    (subst (λ (l : List QueueEntry). IsQueueRun number l last) added.1.1 run) refl).0
