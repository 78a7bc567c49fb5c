-- What a step of the world asks of its heap is a row of the world, with what it leaves in the hands.
use Rattle.ref_world.proofs.Common.{◌≡◌, Bool, true, false, List, [], ◌∷◌, Some, Result, Ok, Err, refl}
use Rattle.ref_world.proofs.Common.{ap, subst, ◌∙◌, arith, told_notices, Notice, heap_refusal, refusal, State}
use Rattle.ref_world.proofs.Common.{with_world, IsRow, Actor, Mutator, Worker, Reply, Step, WorldHeap}
use Rattle.ref_world.proofs.Common.{HeapDoes, answer_in, after_in, HeapStands, received, Core, Hands, with_hand_in}
use Rattle.ref_world.proofs.Common.{with_rest_in, Stands, IsRowOf, Fault, answered, Does}
use Rattle.std.proofs.Common.{if◌then◌else◌}
use Rattle.std.specs.Prelude.{is_some}
use Rattle.ref_base.specs.HeapSteps.{NamedStep, heap_step, handed, taking, with_rest}
use Rattle.ref_base.specs.Worlds.{World, with_hand}
use Rattle.ref_base.specs.Told.{told_object, is_done}
use Rattle.ref_base.specs.declared.plain_step.PlainStep.{PlainStep}
use Rattle.ref_base.proofs.HeapRowLaws.{carried_row, row_others}
use Rattle.ref_clear.proofs.HeapLaws.{each_step, number_after}
use Rattle.ref_base.specs.declared.heap_step.HeapStep.TheVariants as heap
use Rattle.ref_base.specs.declared.step.Step.TheVariants as steps

-- ---- hands

abbrev pub hands_of : World → Hands
hands_of w = record { mutators = w.mutator_hands; workers = w.worker_hands }

-- those of the state are the core's
pub hands_are : (c : Core) (a : State) → Stands c a → hands_of a.world ≡ c.hands
hands_are c a stands = grind arith

-- what a row of the heap leaves in the hands
abbrev pub handed_in : Hands → Step → Reply → Hands
handed_in hands (steps.Unhook m s) reply = received hands (Mutator m) (told_notices reply)
handed_in hands (steps.Hand k) reply = received hands (Worker k) (told_notices reply)
handed_in hands (steps.Hands k max) reply = received hands (Worker k) (told_notices reply)
handed_in hands (steps.Adopt m d) reply =
    if is_some (told_object reply) then with_rest_in hands (Mutator m) else hands
handed_in hands (steps.Release who) reply = if is_done reply then with_rest_in hands who else hands
handed_in hands step reply = hands

-- nothing else is touched
abbrev with_hands_of : World → Hands → World
with_hands_of w hands = record w { mutator_hands = hands.mutators; worker_hands = hands.workers }

only-with : (w : World) (who : Actor) (hand : List Notice)
    → with_hand w who hand ≡ with_hands_of w (with_hand_in (hands_of w) who hand)
only-with w (Mutator m) hand = refl
only-with w (Worker k) hand = refl

only-taking : (w : World) (who : Actor) (given : List Notice)
    → taking w who given ≡ with_hands_of w (received (hands_of w) who given)
only-taking w who [] = refl
only-taking w who (notice ∷ rest) = only-with w who (notice ∷ rest)

only-rest : (w : World) (who : Actor) → with_rest w who ≡ with_hands_of w (with_rest_in (hands_of w) who)
only-rest w (Mutator m) = refl
only-rest w (Worker k) = refl

only-if : (told : Bool) (w : World) (who : Actor)
    → (if told then with_rest w who else w)
    ≡ with_hands_of w (if told then with_rest_in (hands_of w) who else hands_of w)
only-if true w who = only-rest w who
only-if false w who = refl

handed-only : (w : World) (step : Step) (reply : Reply)
    → handed w step reply ≡ with_hands_of w (handed_in (hands_of w) step reply)
handed-only w (steps.Unhook m s) reply = only-taking w (Mutator m) (told_notices reply)
handed-only w (steps.Hand k) reply = only-taking w (Worker k) (told_notices reply)
handed-only w (steps.Hands k max) reply = only-taking w (Worker k) (told_notices reply)
handed-only w (steps.Adopt m d) reply = only-if (is_some (told_object reply)) w (Mutator m)
handed-only w (steps.Release who) reply = only-if (is_done reply) w who
handed-only w step reply = refl

-- ---- rows

-- whatever is in the hands and queues, the heap stands for the state
pub heap_stands-with : (k : WorldHeap) (a : State) (hands : Hands) → HeapStands k a
    → HeapStands k (with_world a (with_hands_of a.world hands))
heap_stands-with k a hands stands = search

abbrev pub asked_core : Core → NamedStep → Hands → Core
asked_core c asked hands = record { heap = after_in c.heap asked; hands = hands; queues = c.queues }

abbrev pub row_to : State → Step → Reply → Core → Type 0
row_to a step reply new =
    (b : State) × IsRow a (record { step = step; reply = reply }) b × Stands new b

-- where the world refuses the step as its heap does, it is a row
pub asked_row : (c : Core) (a : State) (step : Step) (asked : NamedStep) → Stands c a
    → heap_step a.world step ≡ Some asked → refusal a step ≡ heap_refusal a asked
    → row_to a step (answer_in c.heap asked) (asked_core c asked (handed_in c.hands step (answer_in c.heap asked)))
asked_row c a step asked stands asks refuses =
    let reply : Reply = answer_in c.heap asked in
    let row = each_step c.heap asked a stands.heap in
    let d : State = row.0 in
    let others = row_others a d asked reply row.1 in
    let same_hands : hands_of d.world ≡ c.hands =
    ap (λ (hs : List (List Notice)). record { mutators = hs; workers = d.world.worker_hands })
    (others.mutators ∙ stands.mutator_hands)
    ∙ ap (λ (hs : List (List Notice)). record { mutators = c.hands.mutators; workers = hs })
    (others.workers ∙ stands.worker_hands) in
    let left : Hands = handed_in c.hands step reply in
    let is : handed d.world step reply ≡ with_hands_of d.world left =
    handed-only d.world step reply
    ∙ ap (λ (hs : Hands). with_hands_of d.world (handed_in hs step reply)) same_hands in
    let after : State = with_world d (with_hands_of d.world left) in (
      after,
      subst (λ (w : World). IsRow a (record { step = step; reply = reply }) (with_world d w)) is
          (carried_row a d asked step reply asks refuses row.1),
      record {
        heap = heap_stands-with (after_in c.heap asked) d left row.2;
        number = number_after c.heap a asked stands.heap ∙ stands.number;
        mutator_hands = refl;
        worker_hands = refl;
        queues = others.queues ∙ stands.queues;
      },
    )

-- a step that hands nothing over
pub plain_row : (c : Core) (step : PlainStep)
    → IsRowOf c (steps.Plain step) (answer_in c.heap (heap.Plain step)) (asked_core c (heap.Plain step) c.hands)
plain_row c step a stands = asked_row c a (steps.Plain step) (heap.Plain step) stands refl refl

-- ---- what is answered and left is what a row says

pub as_told : (c : Core) (step : Step) (asked : NamedStep) (hands : Hands) {reply told : Reply} {heap : WorldHeap}
    → reply ≡ told → HeapDoes c.heap asked told heap
    → IsRowOf c step (answer_in c.heap asked) (asked_core c asked hands)
    → IsRowOf c step reply (record { heap = heap; hands = hands; queues = c.queues })
as_told c step asked hands {reply} {told} {heap} tells does row = grind arith

pub does_answered : (c : Core) (step : Step) (result : Result Reply Fault) (left : Core)
    → IsRowOf c step (answered result) left → Does c step result left
does_answered c step (Ok reply) left row = row
does_answered c step (Err fault) left row = row
