-- A step of a queue is a row, and what it leaves is sound.
use Rattle.ref_world.proofs.Common.{arith, ◌≡◌, ℕ, ◌<◌, Bool, true, not, List, [], ◌∷◌, length, Result, Ok, Option}
use Rattle.ref_world.proofs.Common.{Some, None, refl, sym, ap, subst, ◌∙◌, slice_index_or, slice_set, Lists, Notice}
use Rattle.ref_world.proofs.Common.{object_of}
use Rattle.ref_world.proofs.Common.{Actor, Mutator, Fault, Reply, Core, Hands, calling_refusal, emptying_refusal}
use Rattle.ref_world.proofs.Common.{filling_refusal, filling_some_refusal, hand_in, received, taken_back, with_hand_in}
use Rattle.ref_world.proofs.Common.{with_rest_in, IsSound, Step, core_queue_at, PutsOne, PutsEach, PollsOne, PollsSome}
use Rattle.ref_world.proofs.Common.{Does}
use Rattle.ref_base.specs.Outs.{Outs}
use Rattle.ref_base.specs.QueueBatches.{are_own, not_added}
use Rattle.ref_queue.specs.declared.queue.PolledBatch.{PolledBatch}
use Rattle.ref_world.specs.Cores.{one_or_none, queue_if_any}
use Rattle.ref_world.specs.QueueReplies.{polls_reply}
use Rattle.ref_world.proofs.HandRows.{free_from, free_for_some}
use Rattle.ref_world.proofs.HandSteps.{Done}
use Rattle.ref_world.proofs.QueueRows.{core_with, read_here, put_does, put_number, poll_does, poll_number, close_reply}
use Rattle.ref_world.proofs.QueueRows.{close_does, all_for, all_own, puts_does, puts_number, polls_does, polls_number}
use Rattle.ref_world.proofs.ReachedCores.{hand_has_queue}
use Rattle.ref_world.proofs.Refusals.{queue_within}
use Rattle.ref_world.proofs.SoundCores.{sound_queue_does}
use Rattle.ref_base.specs.declared.reply.Reply.TheVariants as replies
use Rattle.ref_base.specs.declared.step.Step.TheVariants as steps

-- where it changes one queue, which keeps its number
done : (old : Core) (step : Step) (reply : Result Reply Fault) (q : ℕ) (r : Lists Notice) (new : Core) → IsSound old
    → new.queues ≡ slice_set old.queues q r → r.queue ≡ q → Does old step reply new → Done old step reply new
done old step reply q r new sound is own does = (does, sound_queue_does old new step reply q r is own sound does)

-- the first notice that a hand holds is for this queue
first_is : (hand : List Notice) (q : ℕ) → queue_if_any hand ≡ Some q
    → (notice : Notice) × (rest : List Notice) × (hand ≡ notice ∷ rest) × (notice.queue ≡ q)
first_is [] q is = absurd cc
first_is (notice ∷ rest) q is = (notice, rest, refl, cc)

-- what is called stands behind a view: the world and the queue's number are seen so by who calls
module _ {c now : Core} (sound : IsSound c) (seen : c ≡ now) where
  -- what is read at the place of a queue that is there
  here : (q i : ℕ) (lists : Lists Notice) → q < length c.queues → i ≡ q → lists ≡ slice_index_or c.queues i lists
      → (lists ≡ core_queue_at c q) × (lists.queue ≡ q)
  here q i lists within named read = grind (arith, read_here)

  pub put_done : (who : Actor) (notice : Notice) (rest : List Notice) {lists : Lists Notice} {i : ℕ}
      → i ≡ notice.queue → emptying_refusal c.hands who ≡ None → hand_in c.hands who ≡ notice ∷ rest
      → lists ≡ slice_index_or c.queues i lists → {reply : Result Reply Fault} {left : Option Notice}
      {r : Lists Notice} → PutsOne lists notice reply left r
      → Done now (steps.Put who) reply
      (core_with c (taken_back (with_rest_in c.hands who) who left) (slice_set c.queues i r))
  put_done who notice rest {lists} {i} named accepted full read {reply} {left} {r} puts =
      let at = here notice.queue i lists (hand_has_queue c sound.reached who notice rest full) named read in
      rw (← seen, named, full)
      (done c (steps.Put who) reply notice.queue r
      (core_with c (taken_back (with_hand_in c.hands who rest) who left) (slice_set c.queues notice.queue r)) sound refl
      (put_number lists notice reply left r puts ∙ at.1)
      (put_does c sound.reached who notice rest lists accepted full at.0 reply left r at.1 puts))

  -- the queue that a hand's first notice is for is there
  pub puts_within : (who : Actor) (q : ℕ) → queue_if_any (hand_in c.hands who) ≡ Some q → q < length c.queues
  puts_within who q first =
      let is = first_is (hand_in c.hands who) q first in
      subst (λ r. r < length c.queues) is.3 (hand_has_queue c sound.reached who is.0 is.1 is.2)

  module _ (who : Actor) {q i : ℕ} (named : i ≡ q) (accepted : emptying_refusal c.hands who ≡ None)
      (first : queue_if_any (hand_in c.hands who) ≡ Some q) {lists : Lists Notice}
      (read : lists ≡ slice_index_or c.queues i lists) where
    hand_is : (notice : Notice) × (rest : List Notice) × (hand_in c.hands who ≡ notice ∷ rest) × (notice.queue ≡ q)
    hand_is = first_is (hand_in c.hands who) q first

    at_hand : (lists ≡ core_queue_at c hand_is.0.queue) × (lists.queue ≡ hand_is.0.queue)
    at_hand =
        here hand_is.0.queue i lists (hand_has_queue c sound.reached who hand_is.0 hand_is.1 hand_is.2)
        (named ∙ sym hand_is.3) read

    -- all that the hand holds is for the queue
    pub puts_own : are_own object_of (λ (n : Notice). n.queue) lists (hand_in c.hands who) ≡ true
    puts_own =
        rw (at_hand.1, hand_is.2)
        (all_for hand_is.0.queue (hand_is.0 ∷ hand_is.1)
        (all_own c sound.reached who hand_is.0 hand_is.1 lists accepted hand_is.2 at_hand.0))

    pub puts_done : {hands left : Hands} → hands ≡ c.hands → {outs : Outs} {r : Lists Notice}
        → PutsEach lists (hand_in hands who) outs r
        → left ≡ with_hand_in hands who (not_added (hand_in hands who) outs.done)
        → Done now (steps.Puts who) (Ok (replies.Outs outs)) (core_with c left (slice_set c.queues i r))
    puts_done {hands} {left} kept {outs} {r} puts is =
        let hand : List Notice = hand_is.0 ∷ hand_is.1 in
        let full : hand_in hands who ≡ hand = ap (λ (hs : Hands). hand_in hs who) kept ∙ hand_is.2 in
        let each : PutsEach lists hand outs r =
        subst (λ (ns : List Notice). PutsEach lists ns outs r) full puts in
        let left_is : left ≡ with_hand_in c.hands who (not_added hand outs.done) =
        is ∙ ap (λ (hs : Hands). with_hand_in hs who (not_added (hand_in hands who) outs.done)) kept
        ∙ ap (λ (ns : List Notice). with_hand_in c.hands who (not_added ns outs.done)) full in
        rw (← seen, named ∙ sym hand_is.3, left_is)
        (done c (steps.Puts who) (Ok (replies.Outs outs)) hand_is.0.queue r
        (core_with c (with_hand_in c.hands who (not_added hand outs.done)) (slice_set c.queues hand_is.0.queue r)) sound
        refl (puts_number lists hand outs r each ∙ at_hand.1)
        (puts_does c sound.reached who hand_is.0 hand_is.1 lists accepted hand_is.2 at_hand.0 outs r each))

  module _ (m : ℕ) {q queue : ℕ} (same : q ≡ queue) (accepted : calling_refusal now m queue ≡ None)
      {lists : Lists Notice} (read : lists ≡ slice_index_or c.queues q lists) where
    accepts : calling_refusal c m q ≡ None
    accepts = rw (seen, same) accepted

    there : (lists ≡ core_queue_at c q) × (lists.queue ≡ q)
    there = here q q lists (queue_within c sound.reached m q accepts) refl read

    pub poll_done : filling_refusal c.hands (Mutator m) ≡ None → {reply : Reply} {taken : Option Notice}
        {r : Lists Notice} → PollsOne lists reply taken r
        → Done now (steps.Poll m queue) (Ok reply)
        (core_with c (received c.hands (Mutator m) (one_or_none taken)) (slice_set c.queues q r))
    poll_done empty {reply} {taken} {r} polls =
        rw (← seen, ← same)
        (done c (steps.Poll m q) (Ok reply) q r
        (core_with c (received c.hands (Mutator m) (one_or_none taken)) (slice_set c.queues q r)) sound refl
        (poll_number lists reply taken r polls ∙ there.1)
        (poll_does c m q lists accepts there.0 (free_from c.hands (Mutator m) empty) reply taken r polls))

    pub polls_done : (max : ℕ) → filling_some_refusal c.hands (Mutator m) max ≡ None → {polled : PolledBatch}
        {r : Lists Notice} {left : Hands} → PollsSome lists max c.hands m polled r left
        → Done now (steps.Polls m queue max) (Ok (polls_reply polled)) (core_with c left (slice_set c.queues q r))
    polls_done max empty {polled} {r} {left} polls =
        let may = free_for_some c.hands (Mutator m) max empty in
        rw (← seen, ← same)
        (done c (steps.Polls m q max) (Ok (polls_reply polled)) q r (core_with c left (slice_set c.queues q r)) sound
        refl (polls_number lists max c.hands m polled r left polls ∙ there.1)
        (polls_does c m q lists accepts there.0 max (free_from c.hands (Mutator m) may.0) may.1 polled r left polls))

    pub close_done : {was_open : Bool} → was_open ≡ not lists.closed
        → Done now (steps.Close m queue) (Ok (close_reply was_open))
        (core_with c c.hands (slice_set c.queues q (record lists { closed = true })))
    close_done {was_open} is =
        let closed : Lists Notice = record lists { closed = true } in
        rw (← seen, ← same)
        (done c (steps.Close m q) (Ok (close_reply was_open)) q closed
        (core_with c c.hands (slice_set c.queues q closed)) sound refl there.1
        (close_does c m q lists accepts there.0 was_open is))
