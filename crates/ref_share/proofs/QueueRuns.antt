-- The history of a queue: its lists are those of its entries.
use Rattle.ref_share.proofs.Common.{arith, ◌≡◌, ℕ, Bool, true, false, List, [], ◌∷◌, ◌++◌, length, Ok, Err, refl, sym}
use Rattle.ref_share.proofs.Common.{ap, ◌∙◌, subst, HeldNotice, Leads, IsQueueTurn, QueueEntry, QueueCall, QueueAnswer}
use Rattle.ref_share.proofs.Common.{zero, suc, ◌+◌, ◌==◌, Option, Some, map, slice_get, new_queue}
use Rattle.std.specs.Option.{unwrap_or}
use Rattle.std.proofs.Common.{◌||◌, take, drop}
use Rattle.std.proofs.lemmas.Bool.{and_parts, eqb-true}
use Rattle.std.proofs.lemmas.List.{take-append-drop}
use Rattle.std.specs.List.{list_all}
use Rattle.ref_base.specs.Outs.{outs_of}
use Rattle.ref_base.specs.QueueBatches.{Become, after_each}
use Rattle.ref_base.specs.QueueLists.{enqueued, with_parcel}
use Rattle.ref_base.specs.declared.out.Done.{Done}
use Rattle.ref_queue.specs.QueueBatches.{with_some_taken}
use Rattle.ref_share.specs.QueueHistories.{put_by_call, taken_by_call, closed_by_call, all_put_in, all_taken_out}
use Rattle.ref_share.specs.QueueHistories.{added_by_call, at_positions, is_closed_after, KeepsLists}
use Rattle.ref_share.specs.QueueMachines.{queue_of, reported_object}
use Rattle.ref_share.specs.QueueSeats.{IsQueueRun}
use Rattle.ref_share.specs.QueueStates.{NoticeLists}
use Rattle.ref_base.proofs.LegalQueues.{distinct_nil}
use Rattle.ref_base.proofs.RunLaws.{holds_over}
use Rattle.ref_base.proofs.QueueChanges.{QueueChanges, changes_nothing, changes_more, changes_added, changes_took}
use Rattle.ref_base.proofs.QueueChanges.{changes_closed, changes_took_some}
use Rattle.ref_turn.proofs.Logs.{leads_cut}
use Rattle.ref_queue.specs.declared.queue.Put.TheVariants as puts
use Rattle.ref_base.specs.declared.out.Done.TheVariants as done
use Rattle.ref_queue.specs.declared.queue.Polled.TheVariants as polls
use Rattle.ref_queue.specs.declared.queue.PolledBatch.TheVariants as some
use Rattle.ref_share.specs.declared.queue_machine.QueueStep.TheVariants as steps
use Rattle.ref_share.specs.declared.queue_machine.QueueReply.TheVariants as replies

abbrev IsCall : NoticeLists → QueueEntry → NoticeLists → Type 0
IsCall q call r = IsQueueTurn q call.step call.reply r

-- how one call changes the lists: as its entry tells
abbrev ChangesBy : NoticeLists → NoticeLists → QueueCall → QueueAnswer → Type 0
ChangesBy q r step reply =
    QueueChanges reported_object q r (put_by_call step reply) (taken_by_call step reply) (closed_by_call step reply)

stays : (q r : NoticeLists) → r ≡ q → QueueChanges reported_object q r [] [] false
stays q r same =
    subst (λ (s : NoticeLists). QueueChanges reported_object q s [] [] false) (sym same)
    (changes_nothing reported_object q)

either_true : (b : Bool) → true ≡ (b || true)
either_true true = refl
either_true false = refl

-- what a batch does, item by item
batch_changes : (q : NoticeLists) (xs : List HeldNotice) (ds : List Done) (before : ℕ)
    → Become reported_object queue_of q xs ds
    → QueueChanges reported_object q (after_each q xs ds)
    (map (λ added. reported_object added.0) (at_positions xs (outs_of before ds))) [] false
batch_changes q [] ds before become = changes_nothing reported_object q
batch_changes q (x ∷ xs) [] before become = changes_nothing reported_object q
batch_changes q (x ∷ xs) (done.Added ∷ ds) before become =
    changes_more reported_object q (with_parcel q x) (after_each (with_parcel q x) xs ds) _ _ _ _ _ _
    (changes_added reported_object q x become.0.1 become.0.2)
    (batch_changes (with_parcel q x) xs ds (before + 1) become.1)
batch_changes q (x ∷ xs) (done.Already ∷ ds) before become = batch_changes q xs ds before become.1
batch_changes q (x ∷ xs) (done.Closed ∷ ds) before become = batch_changes q xs ds before become.1
batch_changes q (x ∷ xs) (done.Refused fault ∷ ds) before become = batch_changes q xs ds before become.1

-- and what a poll of several does
poll_changes : (q r : NoticeLists) (max : ℕ) (numbers : List ℕ) → numbers ≡ map reported_object (take max q.stands)
    → r ≡ with_some_taken reported_object q max → QueueChanges reported_object q r [] numbers false
poll_changes q r max numbers are after =
    subst (λ (s : NoticeLists). QueueChanges reported_object q s [] numbers false) (sym after)
    (subst (λ ns. QueueChanges reported_object q (with_some_taken reported_object q max) [] ns false) (sym are)
    (changes_took_some reported_object q (take max q.stands) (drop max q.stands) (sym (take-append-drop max q.stands))))

turn_changes : (q r : NoticeLists) (step : QueueCall) (reply : QueueAnswer) → IsQueueTurn q step reply r
    → ChangesBy q r step reply
turn_changes q r (steps.Put notice) (replies.Put (Ok (puts.Added position))) turn =
    subst (λ (s : NoticeLists). QueueChanges reported_object q s (reported_object notice ∷ []) [] false) (sym turn.1)
    (changes_added reported_object q notice turn.0.0.1 turn.0.0.2)
turn_changes q r (steps.Put notice) (replies.Put (Ok (puts.Already back))) turn = stays q r turn.1
turn_changes q r (steps.Put notice) (replies.Put (Ok (puts.Closed back))) turn = stays q r turn.1
turn_changes q r (steps.Put notice) (replies.Put (Err refused)) turn = stays q r turn.1
turn_changes q r (steps.PutBatch batch) (replies.PutBatch (Ok outs) left) turn =
    subst (λ (s : NoticeLists). QueueChanges reported_object q s
    (put_by_call (steps.PutBatch batch) (replies.PutBatch (Ok outs) left)) [] false) (sym turn.1)
    (batch_changes q batch outs.done outs.before turn.0.2)
turn_changes q r (steps.PutBatch batch) (replies.PutBatch (Err fault) left) turn = stays q r turn.1
turn_changes q r (steps.PollBatch max batch) (replies.PolledBatch (Ok (some.Took numbers)) left) turn =
    poll_changes q r max numbers turn.1.1 turn.1.2
turn_changes q r (steps.PollBatch max batch) (replies.PolledBatch (Ok some.Empty) left) turn = stays q r turn.1.2
turn_changes q r (steps.PollBatch max batch) (replies.PolledBatch (Ok some.Closed) left) turn = stays q r turn.1.2
turn_changes q r (steps.PollBatch max batch) (replies.PolledBatch (Err fault) left) turn = stays q r turn.3
turn_changes q r steps.Poll (replies.Polled (polls.Took notice)) turn =
    subst (λ (s : NoticeLists). QueueChanges reported_object q s [] (reported_object notice ∷ []) false) (sym turn.1)
    (changes_took reported_object q notice r.stands turn.0)
turn_changes q r steps.Poll (replies.Polled polls.Empty) turn = stays q r turn.2
turn_changes q r steps.Poll (replies.Polled polls.Closed) turn = stays q r turn.2
turn_changes q r steps.Close (replies.Closed was_open) turn =
    subst (λ (s : NoticeLists). QueueChanges reported_object q s [] [] true) (sym turn.1)
    (changes_closed reported_object q true (either_true q.closed))
turn_changes q r step reply turn = absurd turn

pub run_changes : (q : NoticeLists) (calls : List QueueEntry) (r : NoticeLists) → Leads IsQueueTurn q calls r
    → QueueChanges reported_object q r (all_put_in calls) (all_taken_out calls) (is_closed_after calls)
run_changes =
    holds_over IsCall
    (λ q calls r. QueueChanges reported_object q r (all_put_in calls) (all_taken_out calls) (is_closed_after calls))
    (λ q. changes_nothing reported_object q)
    (λ q call r calls s turn later.
    changes_more reported_object q r s _ _ _ _ _ _ (turn_changes q r call.step call.reply turn) later)

pub keeps_lists : (number : ℕ) (calls : List QueueEntry) (last : NoticeLists) → IsQueueRun number calls last
    → KeepsLists calls last
keeps_lists number calls last run = grind (arith, run_changes, distinct_nil)

-- ---- a run in two parts

-- nothing is put in behind a close
pub nothing_after_close : (number : ℕ) (front back : List QueueEntry) (last : NoticeLists)
    → IsQueueRun number (front ++ back) last → is_closed_after front ≡ true → all_put_in back ≡ []
nothing_after_close number front back last run shut = grind (arith, leads_cut, run_changes)

abbrev number_in : NoticeLists → ℕ
number_in q = q.queue

number_after : (q : NoticeLists) (xs : List HeldNotice) (ds : List Done) → (after_each q xs ds).queue ≡ q.queue
number_after q [] ds = refl
number_after q (x ∷ xs) [] = refl
number_after q (x ∷ xs) (done.Added ∷ ds) = number_after (with_parcel q x) xs ds
number_after q (x ∷ xs) (done.Already ∷ ds) = number_after q xs ds
number_after q (x ∷ xs) (done.Closed ∷ ds) = number_after q xs ds
number_after q (x ∷ xs) (done.Refused fault ∷ ds) = number_after q xs ds

number_stays : (q r : NoticeLists) (step : QueueCall) (reply : QueueAnswer) → IsQueueTurn q step reply r
    → r.queue ≡ q.queue
number_stays q r (steps.Put notice) (replies.Put (Ok (puts.Added position))) turn = ap number_in turn.1
number_stays q r (steps.Put notice) (replies.Put (Ok (puts.Already back))) turn = ap number_in turn.1
number_stays q r (steps.Put notice) (replies.Put (Ok (puts.Closed back))) turn = ap number_in turn.1
number_stays q r (steps.Put notice) (replies.Put (Err refused)) turn = ap number_in turn.1
number_stays q r (steps.PutBatch batch) (replies.PutBatch (Ok outs) left) turn =
    ap number_in turn.1 ∙ number_after q batch outs.done
number_stays q r (steps.PutBatch batch) (replies.PutBatch (Err fault) left) turn = ap number_in turn.1
number_stays q r (steps.PollBatch max batch) (replies.PolledBatch (Ok (some.Took numbers)) left) turn =
    ap number_in turn.1.2
number_stays q r (steps.PollBatch max batch) (replies.PolledBatch (Ok some.Empty) left) turn = ap number_in turn.1.2
number_stays q r (steps.PollBatch max batch) (replies.PolledBatch (Ok some.Closed) left) turn = ap number_in turn.1.2
number_stays q r (steps.PollBatch max batch) (replies.PolledBatch (Err fault) left) turn = ap number_in turn.3
number_stays q r steps.Poll (replies.Polled (polls.Took notice)) turn = ap number_in turn.1
number_stays q r steps.Poll (replies.Polled polls.Empty) turn = ap number_in turn.2
number_stays q r steps.Poll (replies.Polled polls.Closed) turn = ap number_in turn.2
number_stays q r steps.Close (replies.Closed was_open) turn = ap number_in turn.1
number_stays q r step reply turn = absurd turn

number_of : (q : NoticeLists) (calls : List QueueEntry) (r : NoticeLists) → Leads IsQueueTurn q calls r
    → r.queue ≡ q.queue
number_of =
    holds_over IsCall (λ q calls r. r.queue ≡ q.queue) (λ q. refl)
    (λ q call r calls s turn later. later ∙ number_stays q r call.step call.reply turn)

-- what is at a place of those that are added, is for queue k, and stands at this position
abbrev StandsAt : List (HeldNotice × ℕ) → (i k position : ℕ) → Type 0
StandsAt added i k position =
    (notice : HeldNotice) (told_position : ℕ) → slice_get added i ≡ Some (notice, told_position)
    → (notice.queue ≡ k) × (told_position ≡ position)

none_stands : (i k position : ℕ) → StandsAt [] i k position
none_stands i k position notice told_position there = absurd cc

first_stands : (notice : HeldNotice) (i k position : ℕ) → notice.queue ≡ k
    → StandsAt ((notice, position) ∷ []) i k (position + i)
first_stands notice zero k position own other told_position there = grind arith
first_stands notice (suc i) k position own other told_position there = absurd cc

-- of a batch, where so many were put in before
batch_stands : (k : ℕ) (xs : List HeldNotice) (ds : List Done) (before i : ℕ)
    → list_all (λ x. queue_of x == k) xs ≡ true
    → StandsAt (at_positions xs (outs_of before ds)) i k (before + i)
batch_stands k [] ds before i own = none_stands i k (before + i)
batch_stands k (x ∷ xs) [] before i own = none_stands i k (before + i)
batch_stands k (x ∷ xs) (done.Added ∷ ds) before zero own =
    λ notice told_position there.
    let first : HeldNotice × ℕ = (x, before) in
    let queue : x.queue ≡ notice.queue =
    ap (λ (o : Option (HeldNotice × ℕ)). (unwrap_or o first).0.queue) there in
    let position : before ≡ told_position = ap (λ (o : Option (HeldNotice × ℕ)). (unwrap_or o first).1) there in
    (sym queue ∙ eqb-true x.queue k (and_parts (x.queue == k) _ own).0, sym position ∙ omega arith)
batch_stands k (x ∷ xs) (done.Added ∷ ds) before (suc i) own =
    λ notice told_position there.
    let parts = and_parts (queue_of x == k) _ own in
    let later = batch_stands k xs ds (before + 1) i parts.1 notice told_position there in
    (later.0, later.1 ∙ omega arith)
batch_stands k (x ∷ xs) (done.Already ∷ ds) before i own =
    batch_stands k xs ds before i (and_parts (queue_of x == k) _ own).1
batch_stands k (x ∷ xs) (done.Closed ∷ ds) before i own =
    batch_stands k xs ds before i (and_parts (queue_of x == k) _ own).1
batch_stands k (x ∷ xs) (done.Refused fault ∷ ds) before i own =
    batch_stands k xs ds before i (and_parts (queue_of x == k) _ own).1

-- what a call adds is for its queue, at the next positions
turn_stands : (q r : NoticeLists) (step : QueueCall) (reply : QueueAnswer) (i : ℕ) → IsQueueTurn q step reply r
    → StandsAt (added_by_call step reply) i q.queue (length (enqueued reported_object q) + i)
turn_stands q r (steps.Put notice) (replies.Put (Ok (puts.Added position))) i turn =
    subst (λ n. StandsAt ((notice, position) ∷ []) i q.queue (n + i)) turn.0.1
    (first_stands notice i q.queue position turn.0.0.0)
turn_stands q r (steps.PutBatch batch) (replies.PutBatch (Ok outs) left) i turn =
    subst (λ n. StandsAt (at_positions batch (outs_of outs.before outs.done)) i q.queue (n + i)) turn.0.1
    (batch_stands q.queue batch outs.done outs.before i turn.0.0)
turn_stands q r step reply i turn = none_stands i q.queue (length (enqueued reported_object q) + i)

pub own_at_the_end : (number : ℕ) (front back : List QueueEntry) (call : QueueEntry) (last : NoticeLists) (i : ℕ)
    (notice : HeldNotice) (position : ℕ) → IsQueueRun number (front ++ call ∷ back) last
    → slice_get (added_by_call call.step call.reply) i ≡ Some (notice, position)
    → (notice.queue ≡ number) × (position ≡ length (all_put_in front) + i)
own_at_the_end number front back call last i notice position run there =
    let parts = leads_cut IsQueueTurn front (call ∷ back) (new_queue number) last run in
    let own = turn_stands parts.0 parts.2.0 call.step call.reply i parts.2.1 notice position there in
    let put = (keeps_lists number front parts.0 parts.1).put_is in
    (own.0 ∙ number_of (new_queue number) front parts.0 parts.1, own.1 ∙ ap (λ ns. length ns + i) put)
