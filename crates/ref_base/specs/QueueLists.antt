-- What a reference queue is, as plain data: first in, first out, and it keeps the numbers of what was taken (this
-- project's profile; Java SE 17 `java.lang.ref` has the queue without its order and end).
use Rattle.std.specs.Prelude.{ℕ, zero, suc, ◌+◌, Bool, false, List, [], ◌∷◌, ◌++◌, map}
use Rattle.ref_base.specs.Members.{has}

-- a queue: its number, the numbers of what was taken from it, what stands in it, first first, and whether it is closed
pub record Lists (T : Type 0) : Type 0 where
  pub queue : ℕ
  pub taken : List ℕ
  pub stands : List T
  pub closed : Bool

module _ {T : Type 0} where
  -- the queue of a number, into which nothing was ever put
  abbrev pub new_queue : ℕ → Lists T
  new_queue q = record { queue = q; taken = []; stands = []; closed = false }

  -- queues into which nothing was ever put, as many as the second number says, numbered from the first on
  abbrev pub new_queues : ℕ → ℕ → List (Lists T)
  new_queues first zero = []
  new_queues first (suc count) = new_queue first ∷ new_queues (first + 1) count

  -- the queue with one more parcel, at the end
  abbrev pub with_parcel : Lists T → T → Lists T
  with_parcel q x = record q { stands = q.stands ++ x ∷ [] }

  module _ (object_of : T → ℕ) where
    -- the queue after x was taken, where rest still stands
    abbrev pub with_taken : Lists T → T → List T → Lists T
    with_taken q x rest = record q { taken = q.taken ++ object_of x ∷ []; stands = rest }

    -- the numbers of everything that was ever put in, in order
    abbrev pub enqueued : Lists T → List ℕ
    enqueued q = q.taken ++ map object_of q.stands

    -- whether the number of x was ever put in
    abbrev pub was_put : Lists T → T → Bool
    was_put q x = has (enqueued q) (object_of x)
