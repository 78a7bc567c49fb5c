-- What becomes of a batch that is put into a queue, item by item (this project's profile).
use Rattle.std.specs.Prelude.{◌≡◌, ℕ, ◌==◌, Bool, true, false, List, [], ◌∷◌, ◌++◌, length}
use Rattle.std.specs.List.{list_all}
use Rattle.ref_base.specs.declared.fault.Fault.TheVariants.{NoMemory}
use Rattle.ref_base.specs.declared.out.Done.{Done}
use Rattle.ref_base.specs.declared.out.Done.TheVariants.{Added, Already, Closed, Refused}
use Rattle.ref_base.specs.Outs.{Outs}
use Rattle.ref_base.specs.QueueLists.{Lists, enqueued, was_put, with_parcel}

module _ {T : Type 0} where
  -- the item, where it was added
  abbrev pub gone_in : T → Done → List T
  gone_in x Added = x ∷ []
  gone_in x Already = []
  gone_in x Closed = []
  gone_in x (Refused fault) = []

  -- what was added, in order
  abbrev pub added_among : List T → List Done → List T
  added_among xs [] = []
  added_among [] (d ∷ ds) = []
  added_among (x ∷ xs) (d ∷ ds) = gone_in x d ++ added_among xs ds

  -- the item, where it wasn't added
  abbrev pub come_back : T → Done → List T
  come_back x Added = []
  come_back x Already = x ∷ []
  come_back x Closed = x ∷ []
  come_back x (Refused fault) = x ∷ []

  -- what wasn't added, in order: what wasn't tried too
  abbrev pub not_added : List T → List Done → List T
  not_added [] ds = []
  not_added (x ∷ xs) [] = x ∷ xs
  not_added (x ∷ xs) (d ∷ ds) = come_back x d ++ not_added xs ds

  -- each item was tried; but where one was refused, it is the last that was
  abbrev pub EndsBatch : List T → List Done → Type 0
  EndsBatch [] [] = Unit {0}
  EndsBatch [] (d ∷ ds) = ⊥
  EndsBatch (x ∷ xs) [] = ⊥
  EndsBatch (x ∷ xs) (Refused fault ∷ ds) = ds ≡ []
  EndsBatch (x ∷ xs) (d ∷ ds) = EndsBatch xs ds

  -- the queue once that became of an item
  abbrev pub after_one : Lists T → T → Done → Lists T
  after_one q x Added = with_parcel q x
  after_one q x Already = q
  after_one q x Closed = q
  after_one q x (Refused fault) = q

  -- and of several, one after the other
  abbrev pub after_each : Lists T → List T → List Done → Lists T
  after_each q [] ds = q
  after_each q (x ∷ xs) [] = q
  after_each q (x ∷ xs) (d ∷ ds) = after_each (after_one q x d) xs ds

  module _ (object_of queue_of : T → ℕ) where
    -- x may go in: it is for this queue, its number was never put in, and the queue is open
    abbrev pub MayGoIn : Lists T → T → Type 0
    MayGoIn q x = (queue_of x ≡ q.queue) × (was_put object_of q x ≡ false) × (q.closed ≡ false)

    -- when this becomes of an item that is put into q: just as a put of it alone answers
    abbrev pub Becomes : Lists T → T → Done → Type 0
    Becomes q x Added = MayGoIn q x
    Becomes q x Already = was_put object_of q x ≡ true
    Becomes q x Closed = (was_put object_of q x ≡ false) × (q.closed ≡ true)
    Becomes q x (Refused fault) = (fault ≡ NoMemory) × MayGoIn q x

    -- and of several, one after the other
    abbrev pub Become : Lists T → List T → List Done → Type 0
    Become q xs [] = Unit {0}
    Become q [] (d ∷ ds) = ⊥
    Become q (x ∷ xs) (d ∷ ds) = Becomes q x d × Become (after_one q x d) xs ds

    -- whether each item is for this queue
    abbrev pub are_own : Lists T → List T → Bool
    are_own q xs = list_all (λ x. queue_of x == q.queue) xs

    -- when a put of a batch into its own queue tells that this became of it
    abbrev pub TellsBatch : Lists T → List T → Outs → Type 0
    TellsBatch q xs outs =
        (are_own q xs ≡ true) × (outs.before ≡ length (enqueued object_of q)) × Become q xs outs.done
        × EndsBatch xs outs.done
