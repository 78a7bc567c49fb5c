-- What a reference queue answers to a batch that is put in, and what a poll of several takes (this project's profile).
use Rattle.std.specs.Prelude.{◌≡◌, ℕ, ◌<◌, true, false, List, [], ◌++◌, length, map, take, drop, Result, Ok, Err}
use Rattle.ref_base.specs.declared.fault.Fault.{Fault}
use Rattle.ref_base.specs.declared.fault.Fault.TheVariants.{WrongQueue}
use Rattle.ref_base.specs.Outs.{Outs}
use Rattle.ref_base.specs.QueueBatches.{not_added, after_each, are_own, TellsBatch}
use Rattle.ref_base.specs.QueueLists.{Lists}
use Rattle.ref_queue.specs.declared.queue.PolledBatch.{PolledBatch}
use Rattle.ref_queue.specs.declared.queue.PolledBatch.TheVariants as polled

-- ---- a put of a batch

module _ {T : Type 0} where
  -- when a put of a batch answers so
  abbrev pub AnswersBatch : (object_of queue_of : T → ℕ) → Lists T → List T → Result Outs Fault → Type 0
  AnswersBatch object_of queue_of q xs (Ok outs) = TellsBatch object_of queue_of q xs outs
  AnswersBatch object_of queue_of q xs (Err fault) =
      (fault ≡ WrongQueue) × (are_own object_of queue_of q xs ≡ false)

  -- the queue after that answer, and what is left in the batch
  abbrev pub after_batch : Lists T → List T → Result Outs Fault → Lists T
  after_batch q xs (Ok outs) = after_each q xs outs.done
  after_batch q xs (Err fault) = q

  abbrev pub left_by : List T → Result Outs Fault → List T
  left_by xs (Ok outs) = not_added xs outs.done
  left_by xs (Err fault) = xs

-- ---- a poll of several

module _ {T : Type 0} (object_of : T → ℕ) where
  -- the queue after the first n that stand were taken, or all
  abbrev pub with_some_taken : Lists T → ℕ → Lists T
  with_some_taken q n =
      record q { taken = q.taken ++ map object_of (take n q.stands); stands = drop n q.stands }

  -- when a poll of at most n of q into a batch answers so, and leaves queue r and batch ys
  abbrev pub AnswersPolls : Lists T → ℕ → List T → PolledBatch → Lists T → List T → Type 0
  AnswersPolls q n xs (polled.Took numbers) r ys =
      (0 < length q.stands) × (numbers ≡ map object_of (take n q.stands))
      × (r ≡ with_some_taken q n) × (ys ≡ xs ++ take n q.stands)
  AnswersPolls q n xs polled.Empty r ys = (q.stands ≡ []) × (q.closed ≡ false) × (r ≡ q) × (ys ≡ xs)
  AnswersPolls q n xs polled.Closed r ys = (q.stands ≡ []) × (q.closed ≡ true) × (r ≡ q) × (ys ≡ xs)
