-- What a queue answers to a step of the world, and what is then left for the hand (this project's profile).
use Rattle.std.specs.Prelude.{◌≡◌, ℕ, List, [], Option, Some, None, Result, Ok, Err}
use Rattle.ref_base.specs.Outs.{Outs}
use Rattle.ref_base.specs.QueueBatches.{TellsBatch, after_each}
use Rattle.ref_base.specs.QueueLists.{Lists}
use Rattle.ref_base.specs.Worlds.{Notice, object_of}
use Rattle.ref_base.specs.declared.fault.Fault.{Fault}
use Rattle.ref_base.specs.declared.reply.Reply.{Reply}
use Rattle.ref_base.specs.declared.reply.Reply.TheVariants as replies
use Rattle.ref_base.specs.declared.actor.Actor.TheVariants.{Mutator}
use Rattle.ref_queue.specs.QueueAnswers.{AnswersPut, after_put, AnswersPoll}
use Rattle.ref_queue.specs.QueueBatches.{AnswersPolls}
use Rattle.ref_queue.specs.declared.queue.Put.{Put}
use Rattle.ref_queue.specs.declared.queue.Put.TheVariants.{Added, Already, Closed}
use Rattle.ref_queue.specs.declared.queue.Polled.{Polled}
use Rattle.ref_queue.specs.declared.queue.Polled.TheVariants.{Took, Empty, Closed as Ended}
use Rattle.ref_queue.specs.declared.queue.PolledBatch.{PolledBatch}
use Rattle.ref_queue.specs.declared.queue.PolledBatch.TheVariants as polled
use Rattle.ref_world.specs.Cores.{Hands, with_hand_in}

-- the reply to a put
abbrev pub put_reply : Result (Put Notice) (Fault × Notice) → Result Reply Fault
put_reply (Ok (Added position)) = Ok (replies.Added position)
put_reply (Ok (Already back)) = Ok replies.Already
put_reply (Ok (Closed back)) = Ok replies.Closed
put_reply (Err refused) = Err refused.0

-- the notice that a put didn't take
abbrev pub left_by_put : Result (Put Notice) (Fault × Notice) → Option Notice
left_by_put (Ok (Added position)) = None
left_by_put (Ok (Already back)) = Some back
left_by_put (Ok (Closed back)) = Some back
left_by_put (Err refused) = Some refused.1

-- a put of a notice into a queue, with its reply and what is left
pub record PutsOne (q : Lists Notice) (notice : Notice) (reply : Result Reply Fault) (left : Option Notice)
    (r : Lists Notice) : Type 0 where
  pub put : Result (Put Notice) (Fault × Notice)
  pub answers : AnswersPut object_of (λ n. n.queue) q notice put
  pub after : r ≡ after_put object_of (λ n. n.queue) q notice put
  pub reply_is : reply ≡ put_reply put
  pub left_is : left ≡ left_by_put put

-- the reply to a poll
abbrev pub poll_reply : Polled Notice → Reply
poll_reply (Took notice) = replies.Took notice.object
poll_reply Empty = replies.Empty
poll_reply Ended = replies.Closed

-- the notice that a poll took
abbrev pub taken_by_poll : Polled Notice → Option Notice
taken_by_poll (Took notice) = Some notice
taken_by_poll Empty = None
taken_by_poll Ended = None

-- a poll of a queue, with its reply and what it took
pub record PollsOne (q : Lists Notice) (reply : Reply) (taken : Option Notice) (r : Lists Notice) : Type 0 where
  pub polled : Polled Notice
  pub answers : AnswersPoll object_of q polled r
  pub reply_is : reply ≡ poll_reply polled
  pub taken_is : taken ≡ taken_by_poll polled

-- ---- batches

-- a put of several notices into their queue, one after the other, with what becomes of each
pub record PutsEach (q : Lists Notice) (hand : List Notice) (outs : Outs) (r : Lists Notice) : Type 0 where
  pub tells : TellsBatch object_of (λ n. n.queue) q hand outs
  pub after : r ≡ after_each q hand outs.done

-- the reply to a poll of several
abbrev pub polls_reply : PolledBatch → Reply
polls_reply (polled.Took numbers) = replies.TookSome numbers
polls_reply polled.Empty = replies.Empty
polls_reply polled.Closed = replies.Closed

-- a poll of at most so many into a mutator's hand, which is empty, with what it answers and the hands after it
pub record PollsSome (q : Lists Notice) (max : ℕ) (hands : Hands) (m : ℕ) (answer : PolledBatch) (r : Lists Notice)
    (left : Hands) : Type 0 where
  pub taken : List Notice
  pub answers : AnswersPolls object_of q max [] answer r taken
  pub left_is : left ≡ with_hand_in hands (Mutator m) taken
