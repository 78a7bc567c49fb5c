-- Rows of the steps of queues.
use Rattle.ref_world.proofs.Common.{arith, ◌≡◌, ℕ, zero, suc, ◌<◌, Bool, true, false, List, [], ◌∷◌, ◌++◌, not, length}
use Rattle.ref_world.proofs.Common.{take, Option, Some, None, Result, Ok, Err, refl, sym, ap, subst, ◌∙◌}
use Rattle.ref_world.proofs.Common.{slice_index_or}
use Rattle.ref_world.proofs.Common.{slice_set, Lists, enqueued, new_queue, Notice, object_of, State, with_world, IsRow}
use Rattle.ref_world.proofs.Common.{Actor, Mutator, Worker, Fault, Reply, Step, WorldHeap, HeapStands, Core, Hands}
use Rattle.ref_world.proofs.Common.{hand_in, with_hand_in, emptying_refusal, calling_refusal, taken_back, Stands}
use Rattle.ref_world.proofs.Common.{IsReached, IsRowOf, PutsOne, PutsEach, PollsOne, PollsSome, Does, received}
use Rattle.std.proofs.Common.{inl, inr, ◌≤◌, ◌==◌, map, drop, eq-eqb}
use Rattle.std.specs.List.{AllByRecursion, list_all}
use Rattle.std.proofs.lemmas.List.{set-set, set-get_or, get_or_read, get_or-set_same, take-append-drop}
use Rattle.ref_base.specs.Outs.{Outs}
use Rattle.ref_base.specs.QueueBatches.{TellsBatch, not_added, after_each}
use Rattle.ref_base.specs.QueueLists.{with_parcel, was_put}
use Rattle.ref_base.specs.Refusals.{fits}
use Rattle.ref_base.specs.Worlds.{queue_at}
use Rattle.ref_base.specs.Replay.{put_in, took, closed_queue}
use Rattle.ref_base.specs.CollectorRows.{ticked, PutsInto, PutsAll, Polls, one_taken, Closes}
use Rattle.ref_base.specs.declared.fault.Fault.TheVariants.{NoMemory, WrongQueue}
use Rattle.ref_base.specs.declared.out.Done.{Done}
use Rattle.ref_base.specs.declared.out.Done.TheVariants.{Added}
use Rattle.ref_queue.specs.QueueAnswers.{RefusesPut, AnswersPut, after_put, AnswersPoll}
use Rattle.ref_queue.specs.QueueBatches.{AnswersPolls}
use Rattle.ref_queue.specs.declared.queue.Put.{Put}
use Rattle.ref_queue.specs.declared.queue.Put.TheVariants as one
use Rattle.ref_queue.specs.declared.queue.Polled.{Polled}
use Rattle.ref_queue.specs.declared.queue.Polled.TheVariants.{Took, Empty, Closed as Ended}
use Rattle.ref_queue.specs.declared.queue.PolledBatch.{PolledBatch}
use Rattle.ref_queue.specs.declared.queue.PolledBatch.TheVariants as several
use Rattle.ref_world.specs.QueueReplies.{put_reply, left_by_put, poll_reply, taken_by_poll, polls_reply}
use Rattle.ref_world.specs.Cores.{core_queue_at as queue_in, one_or_none}
use Rattle.ref_base.proofs.Places.{place_there}
use Rattle.ref_base.proofs.RowForms.{ticked_world}
use Rattle.ref_base.proofs.SoundWorlds.{IsOwn}
use Rattle.ref_mark.proofs.OtherHands.{with_others}
use Rattle.ref_mark.proofs.ReferenceRows.{unmutated_stands}
use Rattle.ref_world.proofs.AskedRows.{hands_of, hands_are, row_to}
use Rattle.ref_world.proofs.BatchWorlds.{put_in_is, rest_is_left, one_stands, took_is, with_front_taken, after_each_is}
use Rattle.ref_world.proofs.HandedNotices.{all_received}
use Rattle.ref_world.proofs.OneQueueHands.{OfOne}
use Rattle.ref_world.proofs.ReachedCores.{same_actors, same_hand, hand_has_queue, hand_of_one}
use Rattle.ref_base.specs.declared.reply.Reply.TheVariants as replies
use Rattle.ref_base.specs.declared.step.Step.TheVariants as steps

-- ---- hands and queues

-- what was taken out of a hand and put back
pub put_back : (hands : Hands) (who : Actor) (notice : Notice) (rest : List Notice) → hand_in hands who ≡ notice ∷ rest
    → taken_back (with_hand_in hands who rest) who (Some notice) ≡ hands
put_back hands (Mutator m) notice rest full = grind (arith, set-set, set-get_or, place_there, get_or-set_same)
put_back hands (Worker k) notice rest full = grind (arith, set-set, set-get_or, place_there, get_or-set_same)

-- a queue as it is read, and as the core has it
pub read_here : (qs : List (Lists Notice)) (q : ℕ) (lists : Lists Notice) → q < length qs
    → lists ≡ slice_index_or qs q lists → lists ≡ slice_index_or qs q (new_queue q)
read_here qs q lists within read = get_or_read qs q lists within read (new_queue q)

-- a queue put back as it was
pub queue_back : (qs : List (Lists Notice)) (q : ℕ) (old new : Lists Notice) → old ≡ slice_index_or qs q (new_queue q)
    → new ≡ old → slice_set qs q new ≡ qs
queue_back qs q old new here same =
    ap (λ (l : Lists Notice). slice_set qs q l) (same ∙ here) ∙ set-get_or qs q (new_queue q)

pub open_from : (closed : Bool) → true ≡ not closed → closed ≡ false
open_from true is = absurd cc
open_from false is = refl

pub closed_from : (closed : Bool) → false ≡ not closed → closed ≡ true
closed_from true is = refl
closed_from false is = absurd cc

-- ---- nothing that the heap is asked

-- the heap stands for the state as it was, with other hands and queues, one moment later
pub heap_stands_on : (k : WorldHeap) (a : State) (mutators workers : List (List Notice))
    (queues : List (Lists Notice))
    → HeapStands k a → HeapStands k (ticked (with_others a mutators workers queues))
heap_stands_on k a mutators workers queues stands =
    search (unmutated_stands, ticked_world, with_others a mutators workers queues)

abbrev pub core_with : Core → Hands → List (Lists Notice) → Core
core_with c hands queues = record c { hands = hands; queues = queues }

-- the core with other hands and queues stands for the state with them
stands_on : (c : Core) (a : State) (hands : Hands) (queues : List (Lists Notice)) → Stands c a
    → Stands (core_with c hands queues) (ticked (with_others a hands.mutators hands.workers queues))
stands_on c a hands queues stands =
    search (ticked_world, heap_stands_on, with_others a hands.mutators hands.workers queues)

-- a row that changes hands and queues so, and nothing else
others_row : (c : Core) (a : State) (step : Step) (reply : Reply) (hold : Hands → Hands)
    (line : List (Lists Notice) → List (Lists Notice)) (b : State) → Stands c a
    → b ≡ with_others a (hold (hands_of a.world)).mutators (hold (hands_of a.world)).workers (line a.world.queues)
    → IsRow a (record { step = step; reply = reply }) (ticked b)
    → row_to a step reply (core_with c (hold c.hands) (line c.queues))
others_row c a step reply hold line b stands is row = (
  ticked b,
  row,
  subst (λ (s : State). Stands (core_with c (hold c.hands) (line c.queues)) (ticked s)) (sym is)
      (subst
      (λ (hs : Hands). Stands (core_with c (hold hs) (line c.queues))
      (ticked (with_others a (hold (hands_of a.world)).mutators (hold (hands_of a.world)).workers
      (line a.world.queues))))
      (hands_are c a stands)
      (subst
      (λ (qs : List (Lists Notice)). Stands (core_with c (hold (hands_of a.world)) (line qs))
      (ticked (with_others a (hold (hands_of a.world)).mutators (hold (hands_of a.world)).workers
      (line a.world.queues))))
      stands.queues
      (stands_on c a (hold (hands_of a.world)) (line a.world.queues) stands))),
)

-- a row that changes nothing
still_row : (c : Core) (a : State) (step : Step) (reply : Reply) → Stands c a
    → IsRow a (record { step = step; reply = reply }) (ticked a) → row_to a step reply c
still_row c a step reply stands row =
    others_row c a step reply (λ hands. hands) (λ queues. queues) a stands refl row

pub queue_is : (c : Core) (a : State) (q : ℕ) → Stands c a → queue_at a.world q ≡ queue_in c q
queue_is c a q stands = ap (λ (qs : List (Lists Notice)). slice_index_or qs q (new_queue q)) stands.queues

-- ---- puts

-- what is for one queue is for the queue of the first
own_of_one : (notice : Notice) (rest : List Notice) → OfOne (notice ∷ rest)
    → AllByRecursion (IsOwn notice.queue) (notice ∷ rest)
own_of_one notice rest is = subst (λ q. AllByRecursion (IsOwn q) (notice ∷ rest)) (sym is.1.0) is.1

pub all_for : (q : ℕ) (notices : List Notice) → AllByRecursion (IsOwn q) notices
    → list_all (λ (n : Notice). n.queue == q) notices ≡ true
all_for q [] all = refl
all_for q (notice ∷ rest) all = grind (arith, eq-eqb, all_for q rest all.1)

module _ (c : Core) (reached : IsReached c) (who : Actor) (notice : Notice) (rest : List Notice)
    (lists : Lists Notice) (accepted : emptying_refusal c.hands who ≡ None)
    (full : hand_in c.hands who ≡ notice ∷ rest) (here : lists ≡ queue_in c notice.queue) where
  pub all_own : AllByRecursion (IsOwn notice.queue) (notice ∷ rest)
  all_own = own_of_one notice rest (subst OfOne full (hand_of_one c reached who))

  -- a row where these became of the hand's notices
  put_row : (step : Step) (reply : Reply) (d : Done) (ds : List Done) (a : State) → Stands c a
      → IsRow a (record { step = step; reply = reply }) (ticked (with_world a (put_in a.world who (d ∷ ds))))
      → row_to a step reply
      (core_with c (with_hand_in c.hands who (not_added (notice ∷ rest) (d ∷ ds)))
      (slice_set c.queues notice.queue (after_each lists (notice ∷ rest) (d ∷ ds))))
  put_row step reply d ds a stands row =
      let within : notice.queue < length a.world.queues =
      subst (λ (qs : List (Lists Notice)). notice.queue < length qs) (sym stands.queues)
      (hand_has_queue c reached who notice rest full) in
      rw here
      (others_row c a step reply (λ hands. with_hand_in hands who (not_added (notice ∷ rest) (d ∷ ds)))
      (λ qs. slice_set qs notice.queue
      (after_each (slice_index_or qs notice.queue (new_queue notice.queue)) (notice ∷ rest) (d ∷ ds)))
      (with_world a (put_in a.world who (d ∷ ds))) stands
      (put_in_is a who notice.queue (notice ∷ rest) all_own within d ds (same_hand c a stands who ∙ full)) row)

  -- what a put of the hand's first notice may answer, it answers
  put_answer : (a : State) (reply : Reply) (b : State) → Stands c a
      → PutsInto (was_put object_of lists notice) lists.closed a who notice rest reply b
      → IsRow a (record { step = steps.Put who; reply = reply }) b
  put_answer a reply b stands puts = grind (arith, same_actors)

  pub added_row : (position : ℕ) → was_put object_of lists notice ≡ false → lists.closed ≡ false
      → position ≡ length (enqueued object_of lists)
      → IsRowOf c (steps.Put who) (replies.Added position)
      (core_with c (with_hand_in c.hands who rest) (slice_set c.queues notice.queue (with_parcel lists notice)))
  added_row position fresh open_yet is a stands =
      let step : Step = steps.Put who in
      let reply : Reply = replies.Added position in
      let b : State = with_world a (put_in a.world who (Added ∷ [])) in
      let row = put_answer a reply (ticked b) stands
      (rw (fresh, open_yet)
      (inl (
        ap replies.Added
            (is ∙ ap (λ (l : Lists Notice). length (enqueued object_of l))
            (here ∙ sym (queue_is c a notice.queue stands))),
        refl,
      ))) in
      subst
      (λ (hand : List Notice). row_to a step reply
      (core_with c (with_hand_in c.hands who hand) (slice_set c.queues notice.queue (with_parcel lists notice))))
      (rest_is_left rest)
      (subst
      (λ (l : Lists Notice). row_to a step reply
      (core_with c (with_hand_in c.hands who (not_added rest [])) (slice_set c.queues notice.queue l)))
      (one_stands (with_parcel lists notice) rest) (put_row step reply Added [] a stands row))

  -- what a put of all of them may answer, it answers
  puts_answer : (a : State) (reply : Reply) (b : State) → Stands c a → PutsAll a who (notice ∷ rest) reply b
      → IsRow a (record { step = steps.Puts who; reply = reply }) b
  puts_answer a reply b stands puts = grind (arith, same_actors)

  each_row : (before : ℕ) (done : List Done)
      → TellsBatch object_of (λ n. n.queue) lists (notice ∷ rest) (record { before = before; done = done })
      → IsRowOf c (steps.Puts who) (replies.Outs (record { before = before; done = done }))
      (core_with c (with_hand_in c.hands who (not_added (notice ∷ rest) done))
      (slice_set c.queues notice.queue (after_each lists (notice ∷ rest) done)))
  each_row before [] tells a stands = absurd tells.3
  each_row before (d ∷ ds) tells a stands =
      let outs : Outs = record { before = before; done = d ∷ ds } in
      let told = subst (λ (l : Lists Notice). TellsBatch object_of (λ (n : Notice). n.queue) l (notice ∷ rest) outs)
      (here ∙ sym (queue_is c a notice.queue stands)) tells in
      put_row (steps.Puts who) (replies.Outs outs) d ds a stands
      (puts_answer a (replies.Outs outs) (ticked (with_world a (put_in a.world who (d ∷ ds)))) stands
      (outs, all_for notice.queue rest all_own.1, told, (refl, refl)))

  -- and so it is a row, whatever became of them
  pub puts_does : (outs : Outs) (r : Lists Notice) → PutsEach lists (notice ∷ rest) outs r
      → IsRowOf c (steps.Puts who) (replies.Outs outs)
      (core_with c (with_hand_in c.hands who (not_added (notice ∷ rest) outs.done)) (slice_set c.queues notice.queue r))
  puts_does outs r puts = rw puts.after (each_row outs.before outs.done puts.tells)

  pub already_row : was_put object_of lists notice ≡ true → IsRowOf c (steps.Put who) replies.Already c
  already_row put a stands =
      still_row c a (steps.Put who) replies.Already stands
      (put_answer a replies.Already (ticked a) stands (rw put (refl, refl)))

  pub closed_row : was_put object_of lists notice ≡ false → lists.closed ≡ true
      → IsRowOf c (steps.Put who) replies.Closed c
  closed_row fresh closed a stands =
      still_row c a (steps.Put who) replies.Closed stands
      (put_answer a replies.Closed (ticked a) stands (rw (fresh, closed) (refl, refl)))

  pub no_memory_row : was_put object_of lists notice ≡ false → lists.closed ≡ false
      → IsRowOf c (steps.Put who) (replies.Refused NoMemory) c
  no_memory_row fresh open_yet a stands =
      (a, put_answer a (replies.Refused NoMemory) a stands (rw (fresh, open_yet) (inr (refl, refl))), stands)

  -- a put into the notice's own queue is refused for want of memory alone
  pub refused_put_row : (fault : Fault) → lists.queue ≡ notice.queue
      → RefusesPut object_of (λ n. n.queue) lists notice fault → IsRowOf c (steps.Put who) (replies.Refused fault) c
  refused_put_row WrongQueue own refuses = absurd (refuses (sym own))
  refused_put_row NoMemory own refuses = no_memory_row refuses.1 refuses.2
  refused_put_row fault own refuses = absurd refuses

  -- a notice that comes back is in the hand again, and the queue as it was
  as_before : (back : Notice) → back ≡ notice
      → c ≡ core_with c (taken_back (with_hand_in c.hands who rest) who (Some back))
      (slice_set c.queues notice.queue lists)
  as_before back same = grind (arith, put_back, queue_back)

  put_case : lists.queue ≡ notice.queue → (put : Result (Put Notice) (Fault × Notice))
      → AnswersPut object_of (λ n. n.queue) lists notice put
      → Does c (steps.Put who) (put_reply put)
      (core_with c (taken_back (with_hand_in c.hands who rest) who (left_by_put put))
      (slice_set c.queues notice.queue (after_put object_of (λ n. n.queue) lists notice put)))
  put_case own (Ok (one.Added position)) is = added_row position is.0.1 is.0.2 is.1
  put_case own (Ok (one.Already back)) is =
      subst (λ (d : Core). IsRowOf c (steps.Put who) replies.Already d) (as_before back is.2) (already_row is.1)
  put_case own (Ok (one.Closed back)) is =
      subst (λ (d : Core). IsRowOf c (steps.Put who) replies.Closed d) (as_before back is.3) (closed_row is.1 is.2)
  put_case own (Err refused) is =
      subst (λ (d : Core). IsRowOf c (steps.Put who) (replies.Refused refused.0) d) (as_before refused.1 is.1)
      (refused_put_row refused.0 own is.0)

  -- a put is a row, whatever the queue answers
  pub put_does : (reply : Result Reply Fault) (left : Option Notice) (r : Lists Notice)
      → lists.queue ≡ notice.queue → PutsOne lists notice reply left r
      → Does c (steps.Put who) reply
      (core_with c (taken_back (with_hand_in c.hands who rest) who left) (slice_set c.queues notice.queue r))
  put_does reply left r own puts = rw (puts.reply_is, puts.left_is, puts.after) (put_case own puts.put puts.answers)

-- a put leaves a queue its number
pub puts_number : (lists : Lists Notice) (hand : List Notice) (outs : Outs) (r : Lists Notice)
    → PutsEach lists hand outs r → r.queue ≡ lists.queue
puts_number lists hand outs r puts =
    ap (λ (l : Lists Notice). l.queue) (puts.after ∙ after_each_is lists hand outs.done)

same_number : (lists : Lists Notice) (notice : Notice) (put : Result (Put Notice) (Fault × Notice))
    → (after_put object_of (λ n. n.queue) lists notice put).queue ≡ lists.queue
same_number lists notice (Ok (one.Added position)) = refl
same_number lists notice (Ok (one.Already back)) = refl
same_number lists notice (Ok (one.Closed back)) = refl
same_number lists notice (Err refused) = refl

pub put_number : (lists : Lists Notice) (notice : Notice) (reply : Result Reply Fault) (left : Option Notice)
    (r : Lists Notice) → PutsOne lists notice reply left r → r.queue ≡ lists.queue
put_number lists notice reply left r puts =
    ap (λ (l : Lists Notice). l.queue) puts.after ∙ same_number lists notice puts.put

-- ---- polls and closes

-- the reply to a close, by whether the queue was open
abbrev pub close_reply : Bool → Reply
close_reply true = replies.Done
close_reply false = replies.Closed

-- a step that takes what stands first in a queue, so many at most, and tells it so
module _ (c : Core) (m q : ℕ) (lists : Lists Notice) (here : lists ≡ queue_in c q) (step : Step)
    (tell : List ℕ → Reply) (count : ℕ)
    (answer : (a : State) (reply : Reply) (b : State) → Stands c a
    → Polls a m q tell (take count lists.stands) reply b → IsRow a (record { step = step; reply = reply }) b)
  where
    took_row : (notice : Notice) (more rest : List Notice) → take count lists.stands ≡ notice ∷ more
        → lists.stands ≡ (notice ∷ more) ++ rest
        → IsRowOf c step (tell (map object_of (notice ∷ more)))
        (core_with c (with_hand_in c.hands (Mutator m) (notice ∷ more))
        (slice_set c.queues q (with_front_taken lists (notice ∷ more) rest)))
    took_row notice more rest some first a stands =
        let reply : Reply = tell (map object_of (notice ∷ more)) in
        let b : State = with_world a (took a.world m q (map object_of (notice ∷ more))) in
        let stood = ap (λ (l : Lists Notice). l.stands) (queue_is c a q stands ∙ sym here) ∙ first in
        rw here
        (others_row c a step reply (λ hands. with_hand_in hands (Mutator m) (notice ∷ more))
        (λ qs. slice_set qs q (with_front_taken (slice_index_or qs q (new_queue q)) (notice ∷ more) rest)) b stands
        (took_is a m q notice more rest stood) (answer a reply (ticked b) stands (rw some (refl, refl))))

    empty_row : take count lists.stands ≡ [] → lists.closed ≡ false → IsRowOf c step replies.Empty c
    empty_row none open_yet a stands =
        let shut : (queue_at a.world q).closed ≡ false =
        ap (λ (l : Lists Notice). l.closed) (queue_is c a q stands ∙ sym here) ∙ open_yet in
        still_row c a step replies.Empty stands
        (answer a replies.Empty (ticked a) stands (rw (none, shut) (refl, refl)))

    ended_row : take count lists.stands ≡ [] → lists.closed ≡ true → IsRowOf c step replies.Closed c
    ended_row none closed a stands =
        let shut : (queue_at a.world q).closed ≡ true =
        ap (λ (l : Lists Notice). l.closed) (queue_is c a q stands ∙ sym here) ∙ closed in
        still_row c a step replies.Closed stands
        (answer a replies.Closed (ticked a) stands (rw (none, shut) (refl, refl)))

-- so many at most as there is room for are one at least
fits_some : (max : ℕ) → fits max 0 ≡ true → 1 ≤ max
fits_some max some = grind arith

-- of one that stands, or of none, so many at most
none_taken : (count : ℕ) (notices : List Notice) → notices ≡ [] → take count notices ≡ []
none_taken zero notices none = refl
none_taken (suc count) notices none = rw none refl

some_taken : (count : ℕ) (notices : List Notice) → 1 ≤ count → 0 < length notices
    → (notice : Notice) × (more : List Notice) × (take count notices ≡ notice ∷ more)
some_taken zero notices some stand = let no : ⊥ = omega (arith, some) in absurd no
some_taken (suc count) [] some stand = let no : ⊥ = omega (arith, stand) in absurd no
some_taken (suc count) (notice ∷ rest) some stand = (notice, take count rest, refl)

module _ (c : Core) (m q : ℕ) (lists : Lists Notice) (accepted : calling_refusal c m q ≡ None)
    (here : lists ≡ queue_in c q) where
  as_it_was : (r : Lists Notice) → r ≡ lists → c ≡ core_with c c.hands (slice_set c.queues q r)
  as_it_was r same =
      sym (ap (λ (qs : List (Lists Notice)). core_with c c.hands qs) (queue_back c.queues q lists r here same))

  poll_answer : hand_in c.hands (Mutator m) ≡ [] → (a : State) (reply : Reply) (b : State) → Stands c a
      → Polls a m q one_taken (take 1 lists.stands) reply b
      → IsRow a (record { step = steps.Poll m q; reply = reply }) b
  poll_answer free a reply b stands polls = grind arith

  poll_case : hand_in c.hands (Mutator m) ≡ [] → (polled : Polled Notice) (r : Lists Notice)
      → AnswersPoll object_of lists polled r
      → IsRowOf c (steps.Poll m q) (poll_reply polled)
      (core_with c (received c.hands (Mutator m) (one_or_none (taken_by_poll polled))) (slice_set c.queues q r))
  poll_case free (Took notice) r is =
      subst
      (λ (l : Lists Notice). IsRowOf c (steps.Poll m q) (replies.Took notice.object)
      (core_with c (with_hand_in c.hands (Mutator m) (notice ∷ [])) (slice_set c.queues q l))) (sym is.1)
      (took_row c m q lists here (steps.Poll m q) one_taken 1 (poll_answer free) notice [] r.stands (rw is.0 refl) is.0)
  poll_case free Empty r is =
      subst (λ (d : Core). IsRowOf c (steps.Poll m q) replies.Empty d) (as_it_was r is.2)
      (empty_row c m q lists here (steps.Poll m q) one_taken 1 (poll_answer free) (none_taken 1 lists.stands is.0) is.1)
  poll_case free Ended r is =
      subst (λ (d : Core). IsRowOf c (steps.Poll m q) replies.Closed d) (as_it_was r is.2)
      (ended_row c m q lists here (steps.Poll m q) one_taken 1 (poll_answer free) (none_taken 1 lists.stands is.0) is.1)

  -- a poll is a row, whatever the queue answers
  pub poll_does : hand_in c.hands (Mutator m) ≡ [] → (reply : Reply) (taken : Option Notice) (r : Lists Notice)
      → PollsOne lists reply taken r
      → IsRowOf c (steps.Poll m q) reply
      (core_with c (received c.hands (Mutator m) (one_or_none taken)) (slice_set c.queues q r))
  poll_does free reply taken r polls = rw (polls.reply_is, polls.taken_is) (poll_case free polls.polled r polls.answers)

  module _ (max : ℕ) (free : hand_in c.hands (Mutator m) ≡ []) (some : fits max 0 ≡ true) where
    polls_answer : (a : State) (reply : Reply) (b : State) → Stands c a
        → Polls a m q replies.TookSome (take max lists.stands) reply b
        → IsRow a (record { step = steps.Polls m q max; reply = reply }) b
    polls_answer a reply b stands polls = grind arith

    as_both_were : (r : Lists Notice) (taken : List Notice) → r ≡ lists → taken ≡ []
        → c ≡ core_with c (with_hand_in c.hands (Mutator m) taken) (slice_set c.queues q r)
    as_both_were r taken same none =
        as_it_was r same
        ∙ ap (λ (hs : Hands). core_with c hs (slice_set c.queues q r))
        (sym (ap (with_hand_in c.hands (Mutator m)) none ∙ all_received c.hands (Mutator m) [] free))

    polls_case : (polled : PolledBatch) (r : Lists Notice) (taken : List Notice)
        → AnswersPolls object_of lists max [] polled r taken
        → IsRowOf c (steps.Polls m q max) (polls_reply polled)
        (core_with c (with_hand_in c.hands (Mutator m) taken) (slice_set c.queues q r))
    polls_case (several.Took numbers) r taken is =
        let front = some_taken max lists.stands (omega (arith, fits_some max some)) is.0 in
        let first : lists.stands ≡ (front.0 ∷ front.1) ++ drop max lists.stands =
        sym (take-append-drop max lists.stands) ∙ ap (λ (ns : List Notice). ns ++ drop max lists.stands) front.2 in
        rw (is.1, is.2, is.3)
        (subst
        (λ (ns : List Notice). IsRowOf c (steps.Polls m q max) (replies.TookSome (map object_of ns))
        (core_with c (with_hand_in c.hands (Mutator m) ns)
        (slice_set c.queues q (with_front_taken lists ns (drop max lists.stands))))) (sym front.2)
        (took_row c m q lists here (steps.Polls m q max) replies.TookSome max polls_answer front.0 front.1
        (drop max lists.stands) front.2 first))
    polls_case several.Empty r taken is =
        subst (λ (d : Core). IsRowOf c (steps.Polls m q max) replies.Empty d) (as_both_were r taken is.2 is.3)
        (empty_row c m q lists here (steps.Polls m q max) replies.TookSome max polls_answer
        (none_taken max lists.stands is.0) is.1)
    polls_case several.Closed r taken is =
        subst (λ (d : Core). IsRowOf c (steps.Polls m q max) replies.Closed d) (as_both_were r taken is.2 is.3)
        (ended_row c m q lists here (steps.Polls m q max) replies.TookSome max polls_answer
        (none_taken max lists.stands is.0) is.1)

    -- a poll of several is a row, whatever the queue answers
    pub polls_does : (polled : PolledBatch) (r : Lists Notice) (left : Hands)
        → PollsSome lists max c.hands m polled r left
        → IsRowOf c (steps.Polls m q max) (polls_reply polled) (core_with c left (slice_set c.queues q r))
    polls_does polled r left polls = rw polls.left_is (polls_case polled r polls.taken polls.answers)

  close_answer : (a : State) (reply : Reply) (b : State) → Stands c a → Closes a q lists.closed reply b
      → IsRow a (record { step = steps.Close m q; reply = reply }) b
  close_answer a reply b stands closes = grind arith

  pub close_row : lists.closed ≡ false
      → IsRowOf c (steps.Close m q) replies.Done
      (core_with c c.hands (slice_set c.queues q (record lists { closed = true })))
  close_row open_yet a stands =
      let b : State = with_world a (closed_queue a.world q) in
      rw here
      (others_row c a (steps.Close m q) replies.Done (λ hands. hands)
      (λ qs. slice_set qs q (let k : Lists Notice = slice_index_or qs q (new_queue q) in record k { closed = true })) b
      stands refl (close_answer a replies.Done (ticked b) stands (rw open_yet (refl, refl))))

  pub shut_row : lists.closed ≡ true → IsRowOf c (steps.Close m q) replies.Closed c
  shut_row closed a stands =
      still_row c a (steps.Close m q) replies.Closed stands
      (close_answer a replies.Closed (ticked a) stands (rw closed (refl, refl)))

  -- a close is a row, whether the queue was open or not
  pub close_does : (was_open : Bool) → was_open ≡ not lists.closed
      → IsRowOf c (steps.Close m q) (close_reply was_open)
      (core_with c c.hands (slice_set c.queues q (record lists { closed = true })))
  close_does true is = close_row (open_from lists.closed is)
  close_does false is =
      let shut = closed_from lists.closed is in
      subst (λ (d : Core). IsRowOf c (steps.Close m q) replies.Closed d)
      (as_it_was (record lists { closed = true }) (ap (λ closed. record lists { closed = closed }) (sym shut)))
      (shut_row shut)

-- a poll leaves a queue its number
polled_number : (lists r : Lists Notice) (polled : Polled Notice) → AnswersPoll object_of lists polled r
    → r.queue ≡ lists.queue
polled_number lists r (Took notice) is = ap (λ (l : Lists Notice). l.queue) is.1
polled_number lists r Empty is = ap (λ (l : Lists Notice). l.queue) is.2
polled_number lists r Ended is = ap (λ (l : Lists Notice). l.queue) is.2

pub poll_number : (lists : Lists Notice) (reply : Reply) (taken : Option Notice) (r : Lists Notice)
    → PollsOne lists reply taken r → r.queue ≡ lists.queue
poll_number lists reply taken r polls = polled_number lists r polls.polled polls.answers

some_number : (lists r : Lists Notice) (max : ℕ) (polled : PolledBatch) (taken : List Notice)
    → AnswersPolls object_of lists max [] polled r taken → r.queue ≡ lists.queue
some_number lists r max (several.Took numbers) taken is = ap (λ (l : Lists Notice). l.queue) is.2
some_number lists r max several.Empty taken is = ap (λ (l : Lists Notice). l.queue) is.2
some_number lists r max several.Closed taken is = ap (λ (l : Lists Notice). l.queue) is.2

pub polls_number : (lists : Lists Notice) (max : ℕ) (hands : Hands) (m : ℕ) (polled : PolledBatch)
    (r : Lists Notice) (left : Hands) → PollsSome lists max hands m polled r left → r.queue ≡ lists.queue
polls_number lists max hands m polled r left polls = some_number lists r max polled polls.taken polls.answers
