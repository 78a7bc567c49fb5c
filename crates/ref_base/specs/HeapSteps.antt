-- What a step of the world asks of its heap, and what a row of the heap leaves in the hands (this project's profile).
use Rattle.std.specs.Prelude.{ℕ, if◌then◌else◌, List, [], ◌∷◌, Option, Some, None, is_some}
use Rattle.ref_base.specs.Members.{rest_of}
use Rattle.ref_base.specs.Worlds.{World, Notice, hand_of, with_hand}
use Rattle.ref_base.specs.Told.{told_object, told_notices, is_done}
use Rattle.ref_base.specs.declared.cause.Cause.{Cause}
use Rattle.ref_base.specs.declared.actor.Actor.{Actor}
use Rattle.ref_base.specs.declared.actor.Actor.TheVariants.{Mutator, Worker}
use Rattle.ref_base.specs.declared.heap_step.HoldName.{HoldName}
use Rattle.ref_base.specs.declared.heap_step.HeapStep.{HeapStep}
use Rattle.ref_base.specs.declared.heap_step.HeapStep.TheVariants as heap
use Rattle.ref_base.specs.declared.step.Step.{Step}
use Rattle.ref_base.specs.declared.step.Step.TheVariants as steps
use Rattle.ref_base.specs.declared.reply.Reply.{Reply}

-- a notice that is out: the hold of the reference that it reports, the queue that it is for, and why there is one
pub record HeldNotice : Type 0 where
  pub hold : HoldName
  pub queue : ℕ
  pub cause : Cause

-- a step of a heap that names the hold which it spends, and what is in the batch which it fills
abbrev pub NamedStep : Type 0
NamedStep = HeapStep HoldName (List HeldNotice)

-- the hold of what a notice reports, of the world's heap
abbrev pub hold_of : World → Notice → HoldName
hold_of w notice = record { heap_no = w.heap.no; object = notice.object }

-- the step that spends the hold of a hand's first notice: none where the hand is empty
abbrev pub spending : World → (HoldName → NamedStep) → List Notice → Option NamedStep
spending w step [] = None
spending w step (notice ∷ rest) = Some (step (hold_of w notice))

-- what a step of the world asks of its heap: the steps of queues ask nothing, and a batch is the hand's, which is empty
abbrev pub heap_step : World → Step → Option NamedStep
heap_step w (steps.Plain step) = Some (heap.Plain step)
heap_step w (steps.Unhook m s) = Some (heap.Unhook m s)
heap_step w (steps.Put who) = None
heap_step w (steps.Puts who) = None
heap_step w (steps.Poll m q) = None
heap_step w (steps.Polls m q max) = None
heap_step w (steps.Adopt m d) = spending w (λ hold. heap.Adopt m d hold) (hand_of w (Mutator m))
heap_step w (steps.Release who) = spending w (λ hold. heap.Release hold) (hand_of w who)
heap_step w (steps.Close m q) = None
heap_step w (steps.Hand k) = Some (heap.Hand k)
heap_step w (steps.Hands k max) = Some (heap.Hands k max [])

-- the hand, which was empty, with the notices that were given, if any were
abbrev pub taking : World → Actor → List Notice → World
taking w who [] = w
taking w who (notice ∷ rest) = with_hand w who (notice ∷ rest)

-- the hand without its first notice
abbrev pub with_rest : World → Actor → World
with_rest w who = with_hand w who (rest_of (hand_of w who))

-- what a row of the heap leaves in the hands: an unhook and a hand give notices, an adopt and a release spend one
abbrev pub handed : World → Step → Reply → World
handed w (steps.Unhook m s) reply = taking w (Mutator m) (told_notices reply)
handed w (steps.Hand k) reply = taking w (Worker k) (told_notices reply)
handed w (steps.Hands k max) reply = taking w (Worker k) (told_notices reply)
handed w (steps.Adopt m d) reply = if is_some (told_object reply) then with_rest w (Mutator m) else w
handed w (steps.Release who) reply = if is_done reply then with_rest w who else w
handed w step reply = w
