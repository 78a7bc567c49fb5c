-- What the heap inside a world does at a step, as the world's calls ask it.
use Rattle.ref_world.proofs.Common.{◌≡◌, ℕ, List, ◌∷◌, [], ◌++◌, None, Some, refl, Notice, Actor, Mutator, Worker}
use Rattle.ref_world.proofs.Common.{Reply, Row, Core, Step, HeapDoes, IsRowOf, WorldHeap, drop_refusal, model_heap}
use Rattle.ref_world.proofs.Common.{hand_in, emptying_refusal, filling_refusal, filling_some_refusal}
use Rattle.ref_base.specs.HeapSteps.{NamedStep}
use Rattle.ref_base.specs.declared.heap_step.HoldName.{HoldName}
use Rattle.ref_world.specs.InsideHeaps.{asked_in, DoesAsked, DoesInside, DoesEach}
use Rattle.ref_world.proofs.HandRows.{own_hold}
use Rattle.ref_base.specs.declared.heap_step.HeapStep.TheVariants as heap
use Rattle.ref_base.specs.declared.step.Step.TheVariants as steps

-- what is called stands behind a view
module _ {c now : Core} (seen : c ≡ now) where
  -- what is asked is done
  asked_done : (step : Step) {asked : NamedStep} {reply told : Reply} {k : WorldHeap} → asked_in c step ≡ Some asked
      → reply ≡ told → HeapDoes c.heap asked told k → DoesAsked now.heap (asked_in now step) reply k
  asked_done step is tells does = rw (← seen, is, tells) does

  pub unhook_inside : (m s : ℕ) {reply : Reply} {k : WorldHeap} → drop_refusal (model_heap now.heap) m s ≡ None
      → filling_refusal c.hands (Mutator m) ≡ None → HeapDoes c.heap (heap.Unhook m s) reply k
      → DoesAsked now.heap (asked_in now (steps.Unhook m s)) reply k
  unhook_inside m s slot free does =
      asked_done (steps.Unhook m s) (rw (seen, slot, ← seen, free) refl) refl does

  pub hand_inside : (w : ℕ) {reply : Reply} {k : WorldHeap} → filling_refusal c.hands (Worker w) ≡ None
      → HeapDoes c.heap (heap.Hand w) reply k → DoesAsked now.heap (asked_in now (steps.Hand w)) reply k
  hand_inside w free does = asked_done (steps.Hand w) (rw free refl) refl does

  pub hands_inside : (w max : ℕ) {reply : Reply} {k : WorldHeap} → filling_some_refusal c.hands (Worker w) max ≡ None
      → HeapDoes c.heap (heap.Hands w max []) reply k
      → DoesAsked now.heap (asked_in now (steps.Hands w max)) reply k
  hands_inside w max free does = asked_done (steps.Hands w max) (rw free refl) refl does

  pub adopt_inside : (m d : ℕ) (notice : Notice) (rest : List Notice) (hold : HoldName) {reply told : Reply}
      {k : WorldHeap} → drop_refusal (model_heap now.heap) m d ≡ None → emptying_refusal c.hands (Mutator m) ≡ None
      → hand_in c.hands (Mutator m) ≡ notice ∷ rest → hold ≡ own_hold notice → reply ≡ told
      → HeapDoes c.heap (heap.Adopt m d hold) told k → DoesAsked now.heap (asked_in now (steps.Adopt m d)) reply k
  adopt_inside m d notice rest hold slot accepted full is tells does =
      asked_done (steps.Adopt m d) (rw (seen, slot, ← seen, accepted, full, is) refl) tells does

  pub release_inside : (who : Actor) (notice : Notice) (rest : List Notice) (hold : HoldName) {reply told : Reply}
      {k : WorldHeap} → emptying_refusal c.hands who ≡ None → hand_in c.hands who ≡ notice ∷ rest
      → hold ≡ own_hold notice → reply ≡ told → HeapDoes c.heap (heap.Release hold) told k
      → DoesAsked now.heap (asked_in now (steps.Release who)) reply k
  release_inside who notice rest hold accepted full is tells does =
      asked_done (steps.Release who) (rw (accepted, full, is) refl) tells does

-- rows go on by one more
pub each_more : (old mid new : Core) (rows : List Row) (step : Step) (reply : Reply) → DoesEach old rows mid
    → IsRowOf mid step reply new → DoesInside mid step reply new
    → DoesEach old (rows ++ record { step = step; reply = reply } ∷ []) new
each_more old mid new [] step reply each row does = (new, rw (← each) row, rw (← each) does, refl)
each_more old mid new (first ∷ rows) step reply each row does =
    (each.0, each.1, each.2, each_more each.0 mid new rows step reply each.3 row does)
