-- What was called for a step that may want room: all soft references to softly reachable objects are cleared before a
-- program is told that no memory is left (Java SE 17 `java.lang.ref.SoftReference`; that a normal cycle comes before
-- the urgent one is this project's profile).
use Rattle.std.specs.Prelude.{◌≡◌, ◌≢◌, ℕ, ◌⊎◌, List, [], ◌∷◌, Option, Some, None, Result, Ok, Err}
use Rattle.ref_base.specs.HeapSteps.{HeldNotice}
use Rattle.ref_base.specs.declared.fault.Fault.TheVariants.{NoCell}
use Rattle.ref_base.specs.declared.plain_step.PlainStep.{PlainStep}
use Rattle.ref_base.specs.declared.reply.Reply.{Reply}
use Rattle.ref_base.specs.declared.urgency.Urgency.{Urgency}
use Rattle.ref_share.specs.Cycles.{Cycles}
use Rattle.ref_share.specs.HeapCalls.{Declined, Performs}
use Rattle.ref_share.specs.HeapSeats.{HeapView}
use Rattle.ref_share.specs.QueueSeats.{SharedQueue, QueueSeat}
use Rattle.ref_share.specs.declared.answers.ShareFault.{ShareFault}
use Rattle.ref_share.specs.declared.answers.ShareFault.TheVariants.{Refused}

-- the step is the heap's one call, and answers so
abbrev pub Does : PlainStep → HeapView → Result Reply ShareFault → HeapView → Type 0
Does step v (Ok reply) w = Performs v step (Ok reply) w
Does step v (Err (Refused fault)) w = Declined v step fault w
Does step v (Err fault) w = ⊥

-- the step is the heap's one call, and answers so, but that there is no answer where no cell was left
abbrev pub DoesUnlessFull : PlainStep → HeapView → Result (Option Reply) ShareFault → HeapView → Type 0
DoesUnlessFull step v (Ok (Some reply)) w = Does step v (Ok reply) w
DoesUnlessFull step v (Ok None) w = Declined v step NoCell w
DoesUnlessFull step v (Err fault) w = Does step v (Err fault) w × (fault ≢ Refused NoCell)

module _ {A : Type 0} (queues : List (SharedQueue A)) (worker now : ℕ) (step : PlainStep) where
  -- The step is done behind as many of these cycles as it takes, in this order: each comes where no cell was left for
  -- the step before it. Where a cycle stops, nothing comes behind it, and what it left of its notices is left.
  abbrev pub DoesAfter : List Urgency → HeapView → List QueueSeat → Result Reply ShareFault → List HeldNotice
      → HeapView → List QueueSeat → Type 0
  DoesAfter [] v seats result left w after = Does step v result w × (left ≡ []) × (after ≡ seats)
  DoesAfter (first ∷ more) v seats result left w after =
      (Does step v result w × (result ≢ Err (Refused NoCell)) × (left ≡ []) × (after ≡ seats))
      ⊎ (((u : HeapView) × (x : HeapView) × (between : List QueueSeat) × Declined v step NoCell u
      × Cycles queues worker now first u seats (Ok tt) [] x between × DoesAfter more x between result left w after)
      ⊎ ((u : HeapView) × (fault : ShareFault) × (result ≡ Err fault) × Declined v step NoCell u
      × Cycles queues worker now first u seats (Err fault) left w after))
