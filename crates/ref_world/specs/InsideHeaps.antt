-- What a step of a world has the heap inside do: so a world's heap moves just where the heap's own calls say so.
use Rattle.std.specs.Prelude.{◌≡◌, List, [], ◌∷◌, Option, Some, None}
use Rattle.ref_base.specs.HeapSteps.{NamedStep}
use Rattle.ref_base.specs.Refusals.{drop_refusal}
use Rattle.ref_base.specs.Worlds.{Notice}
use Rattle.ref_base.specs.declared.actor.Actor.TheVariants.{Mutator, Worker}
use Rattle.ref_base.specs.declared.fault.Fault.{Fault}
use Rattle.ref_base.specs.declared.heap_step.HoldName.{HoldName}
use Rattle.ref_base.specs.declared.heap_step.HeapStep.TheVariants as heap
use Rattle.ref_base.specs.declared.reply.Reply.{Reply}
use Rattle.ref_base.specs.declared.row.Row.{Row}
use Rattle.ref_base.specs.declared.step.Step.{Step}
use Rattle.ref_base.specs.declared.step.Step.TheVariants as steps
use Rattle.ref_clear.specs.ClearCalls.{HeapDoes}
use Rattle.ref_mark.specs.MarkCalls.{unless_refused}
use Rattle.ref_world.specs.Cores.{Core, hand_in, emptying_refusal, filling_refusal, filling_some_refusal}
use Rattle.ref_world.specs.Standing.{IsRowOf}
use Rattle.ref_world.specs.WorldHeaps.{WorldHeap, model_heap}

-- nothing is asked where the world refuses the step first
abbrev pub asked_unless : Option Fault → Option NamedStep → Option NamedStep
asked_unless refused asked = unless_refused refused (λ fault. None) asked

-- the step that spends the hold of a hand's first notice, which is of the world's own heap
abbrev pub spends_first : (HoldName → NamedStep) → List Notice → Option NamedStep
spends_first step [] = None
spends_first step (notice ∷ rest) = Some (step (record { heap_no = 0; object = notice.object }))

-- The step that is asked of the heap inside: none of it where a slot, a hand or a batch is refused before, and none at
-- the steps of queues. A batch is the hand's, which is empty.
abbrev pub asked_in : Core → Step → Option NamedStep
asked_in c (steps.Plain step) = Some (heap.Plain step)
asked_in c (steps.Unhook m s) =
    asked_unless (drop_refusal (model_heap c.heap) m s)
    (asked_unless (filling_refusal c.hands (Mutator m)) (Some (heap.Unhook m s)))
asked_in c (steps.Hand k) = asked_unless (filling_refusal c.hands (Worker k)) (Some (heap.Hand k))
asked_in c (steps.Hands k max) =
    asked_unless (filling_some_refusal c.hands (Worker k) max) (Some (heap.Hands k max []))
asked_in c (steps.Adopt m d) =
    asked_unless (drop_refusal (model_heap c.heap) m d)
    (asked_unless (emptying_refusal c.hands (Mutator m))
    (spends_first (λ hold. heap.Adopt m d hold) (hand_in c.hands (Mutator m))))
asked_in c (steps.Release who) =
    asked_unless (emptying_refusal c.hands who) (spends_first (λ hold. heap.Release hold) (hand_in c.hands who))
asked_in c step = None

-- the heap does what is asked of it, with this reply, and where nothing is asked it is as it was
abbrev pub DoesAsked : WorldHeap → Option NamedStep → Reply → WorldHeap → Type 0
DoesAsked old None reply new = new ≡ old
DoesAsked old (Some asked) reply new = HeapDoes old asked reply new

-- and so does the heap inside at this step
abbrev pub DoesInside : Core → Step → Reply → Core → Type 0
DoesInside old step reply new = DoesAsked old.heap (asked_in old step) reply new.heap

-- each of the rows is a row of its step, and the heap inside does what that asks, one after the other
abbrev pub DoesEach : Core → List Row → Core → Type 0
DoesEach old [] new = new ≡ old
DoesEach old (row ∷ rows) new =
    (mid : Core) × IsRowOf old row.step row.reply mid × DoesInside old row.step row.reply mid × DoesEach mid rows new
