-- What was called for a step that may want room, put together from its calls.
use Rattle.ref_share.proofs.Common.{◌≡◌, List, [], ◌∷◌, Option, Some, None, ℕ, Result, Ok, Err, inl, inr, refl}
use Rattle.ref_share.proofs.Common.{subst, sym, HeldNotice}
use Rattle.ref_share.proofs.Common.{HeapView, QueueSeat, SharedQueue, Reply, ShareFault}
use Rattle.ref_base.specs.declared.plain_step.PlainStep.{PlainStep}
use Rattle.ref_base.specs.declared.urgency.Urgency.{Urgency}
use Rattle.ref_share.specs.Cycles.{Cycles}
use Rattle.ref_share.specs.WantsOfRoom.{DoesUnlessFull, DoesAfter}

module _ {A : Type 0} (queues : List (SharedQueue A)) (worker now : ℕ) (step : PlainStep) (all : List Urgency)
    (first : Urgency) (more : List Urgency) (is_first : all ≡ first ∷ more) where
  of_all : (v w : HeapView) (seats after : List QueueSeat) (result : Result Reply ShareFault) (left : List HeldNotice)
      → DoesAfter queues worker now step (first ∷ more) v seats result left w after
      → DoesAfter queues worker now step all v seats result left w after
  of_all v w seats after result left does =
      subst (λ (us : List Urgency). DoesAfter queues worker now step us v seats result left w after) (sym is_first) does

  -- it was done at once
  pub done_at_once : (v w : HeapView) (seats : List QueueSeat) (answer : Option Reply) (reply : Reply)
      (left : List HeldNotice) → left ≡ [] → answer ≡ Some reply → DoesUnlessFull step v (Ok answer) w
      → DoesAfter queues worker now step all v seats (Ok reply) left w seats
  done_at_once v w seats answer reply left none is does =
      of_all v w seats seats (Ok reply) left
      (inl (subst (λ (a : Option Reply). DoesUnlessFull step v (Ok a) w) is does, (λ same. cc), none, refl))

  -- it was refused, and not for want of a cell
  pub refused_at_once : (v w : HeapView) (seats : List QueueSeat) (fault : ShareFault) (left : List HeldNotice)
      → left ≡ [] → DoesUnlessFull step v (Err fault) w
      → DoesAfter queues worker now step all v seats (Err fault) left w seats
  refused_at_once v w seats fault left none does =
      of_all v w seats seats (Err fault) left (inl (does.0, (λ same. does.1 (cc)), none, refl))

  module _ (v u : HeapView) (seats : List QueueSeat) (answer : Option Reply) (none : answer ≡ None)
      (full : DoesUnlessFull step v (Ok answer) u) where
    -- a cycle came behind a want of a cell, and then the rest
    pub done_behind_a_cycle : (x w : HeapView) (between after : List QueueSeat) (result : Result Reply ShareFault)
        (left kept : List HeldNotice) → kept ≡ [] → Cycles queues worker now first u seats (Ok tt) kept x between
        → DoesAfter queues worker now step more x between result left w after
        → DoesAfter queues worker now step all v seats result left w after
    done_behind_a_cycle x w between after result left kept empty cycles rest =
        let want = subst (λ (a : Option Reply). DoesUnlessFull step v (Ok a) u) none full in
        let whole = subst (λ (ns : List HeldNotice). Cycles queues worker now first u seats (Ok tt) ns x between) empty
        cycles in
        of_all v w seats after result left (inr (inl (u, x, between, want, whole, rest)))

    -- or it stopped
    pub stopped_in_a_cycle : (w : HeapView) (after : List QueueSeat) (fault : ShareFault) (left : List HeldNotice)
        → Cycles queues worker now first u seats (Err fault) left w after
        → DoesAfter queues worker now step all v seats (Err fault) left w after
    stopped_in_a_cycle w after fault left cycles =
        let want = subst (λ (a : Option Reply). DoesUnlessFull step v (Ok a) u) none full in
        of_all v w seats after (Err fault) left (inr (inr (u, fault, refl, want, cycles)))
