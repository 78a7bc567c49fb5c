-- What the calls of a reference queue answer, and what they leave.
use Rattle.std.specs.Prelude.{◌≡◌, ℕ, Bool, true, false, List, [], ◌∷◌, ◌++◌, length, Result, Ok, Err}
use Rattle.ref_base.specs.declared.fault.Fault.{Fault}
use Rattle.ref_base.specs.declared.fault.Fault.TheVariants.{WrongQueue, NoMemory}
use Rattle.ref_queue.specs.declared.queue.Put.{Put}
use Rattle.ref_queue.specs.declared.queue.Put.TheVariants.{Added, Already, Closed}
use Rattle.ref_queue.specs.declared.queue.Polled.{Polled}
use Rattle.ref_queue.specs.declared.queue.Polled.TheVariants.{Took, Empty, Closed as Ended}
use Rattle.ref_base.specs.declared.out.Done.{Done}
use Rattle.ref_base.specs.declared.out.Done.TheVariants as done
use Rattle.ref_base.specs.Members.{has}
use Rattle.ref_base.specs.QueueBatches.{MayGoIn}
use Rattle.ref_base.specs.QueueLists.{Lists, enqueued, was_put, with_parcel, with_taken}

-- when this becomes of an item of number n, where these numbers came before and those came after it
abbrev pub Admits : List ℕ → Bool → ℕ → Done → List ℕ → Type 0
Admits came closed n done.Added after = (has came n ≡ false) × (closed ≡ false) × (after ≡ came ++ n ∷ [])
Admits came closed n done.Already after = (has came n ≡ true) × (after ≡ came)
Admits came closed n done.Closed after = (has came n ≡ false) × (closed ≡ true) × (after ≡ came)
Admits came closed n (done.Refused fault) after =
    (fault ≡ NoMemory) × (has came n ≡ false) × (closed ≡ false) × (after ≡ came)

module _ {T : Type 0} (object_of queue_of : T → ℕ) (q : Lists T) (x : T) where
  -- x is for this queue
  abbrev pub IsOwn : Type 0
  IsOwn = queue_of x ≡ q.queue

  -- when a put of x is refused with this fault
  abbrev pub RefusesPut : Fault → Type 0
  RefusesPut WrongQueue = ¬ IsOwn
  RefusesPut NoMemory = MayGoIn object_of queue_of q x
  RefusesPut _ = ⊥

  -- when a put of x gives this answer; but for no memory, exactly one answer fits
  abbrev pub AnswersPut : Result (Put T) (Fault × T) → Type 0
  AnswersPut (Ok (Added position)) = MayGoIn object_of queue_of q x × (position ≡ length (enqueued object_of q))
  AnswersPut (Ok (Already back)) = IsOwn × (was_put object_of q x ≡ true) × (back ≡ x)
  AnswersPut (Ok (Closed back)) = IsOwn × (was_put object_of q x ≡ false) × (q.closed ≡ true) × (back ≡ x)
  AnswersPut (Err refused) = RefusesPut refused.0 × (refused.1 ≡ x)

  -- the queue after that answer: x stands last where it was added, and else nothing changed
  abbrev pub after_put : Result (Put T) (Fault × T) → Lists T
  after_put (Ok (Added _)) = with_parcel q x
  after_put (Ok (Already _)) = q
  after_put (Ok (Closed _)) = q
  after_put (Err _) = q

module _ {T : Type 0} where
  -- P of the parcel, where a poll took one
  abbrev pub IfTook : Polled T → (T → Type 0) → Type 0
  IfTook (Took x) P = P x
  IfTook Empty P = Unit {0}
  IfTook Ended P = Unit {0}

  -- when a poll of q answers so and leaves r: the first that stands is taken, or nothing stands and nothing changed
  abbrev pub AnswersPoll : (T → ℕ) → Lists T → Polled T → Lists T → Type 0
  AnswersPoll object_of q (Took x) r = (q.stands ≡ x ∷ r.stands) × (r ≡ with_taken object_of q x r.stands)
  AnswersPoll object_of q Empty r = (q.stands ≡ []) × (q.closed ≡ false) × (r ≡ q)
  AnswersPoll object_of q Ended r = (q.stands ≡ []) × (q.closed ≡ true) × (r ≡ q)
