-- A row of a heap, with what its step leaves in the hands, is a row of the world; and no row of a heap touches hands
-- and queues.
use Rattle.ref_base.proofs.Common.{arith, ◌≡◌, ℕ, true, List, [], ◌∷◌, Option, Some, None, refl, sym, subst, has}
use Rattle.ref_base.proofs.Common.{Notice, SameOthers, hand_of, NamedStep, hold_of, heap_step, State, is_actor}
use Rattle.ref_base.proofs.Common.{heap_refusal, refusal, with_handed, AcceptsAsking, IsHeapAnswer, IsHeapRow, IsAnswer}
use Rattle.ref_base.proofs.Common.{IsRow, Fault, Actor, Mutator, Worker, Step, Reply, eq-eqb}
use Rattle.ref_base.proofs.QueueLaws.{same}
use Rattle.ref_base.proofs.OutcomeParts.{heap_others}
use Rattle.ref_base.specs.declared.heap_step.HeapStep.TheVariants as heap
use Rattle.ref_base.specs.declared.step.Step.TheVariants as steps

-- ---- from a row of the heap to one of the world

carried_answer : (a c : State) (asked : NamedStep) (step : Step) (reply : Reply) (fault : Option Fault)
    → heap_step a.world step ≡ Some asked → IsHeapAnswer a fault asked reply c
    → IsAnswer a fault step reply (with_handed c step reply)
carried_answer a c asked step reply (Some fault) asks row = grind arith
carried_answer a c asked step reply None asks row =
    subst (λ (o : Option NamedStep). AcceptsAsking a o step reply (with_handed c step reply)) (sym asks) (c, row, refl)

-- where the world refuses a step as its heap does, the heap's row is one of the world, with the hands
pub carried_row : (a c : State) (asked : NamedStep) (step : Step) (reply : Reply) → heap_step a.world step ≡ Some asked
    → refusal a step ≡ heap_refusal a asked → IsHeapRow a asked reply c
    → IsRow a (record { step = step; reply = reply }) (with_handed c step reply)
carried_row a c asked step reply asks same row = search (same, carried_answer)

-- ---- where the world refuses as its heap does

-- an unhook into an empty hand
pub free_unhook : (a : State) (m s : ℕ) → hand_of a.world (Mutator m) ≡ []
    → refusal a (steps.Unhook m s) ≡ heap_refusal a (heap.Unhook m s)
free_unhook a m s free = grind arith

-- a hand into an empty hand
pub free_hand : (a : State) (k : ℕ) → hand_of a.world (Worker k) ≡ []
    → refusal a (steps.Hand k) ≡ heap_refusal a (heap.Hand k)
free_hand a k free = grind arith

-- an adopt of a notice whose hold is counted
pub full_adopt : (a : State) (m d : ℕ) (notice : Notice) (rest : List Notice)
    → hand_of a.world (Mutator m) ≡ notice ∷ rest → has a.world.heap.holds notice.object ≡ true
    → refusal a (steps.Adopt m d) ≡ heap_refusal a (heap.Adopt m d (hold_of a.world notice))
full_adopt a m d notice rest full held = grind (arith, eq-eqb)

-- and a release of one, by an actor that is there
pub full_release : (a : State) (who : Actor) (notice : Notice) (rest : List Notice)
    → is_actor a.world.heap who ≡ true → hand_of a.world who ≡ notice ∷ rest
    → has a.world.heap.holds notice.object ≡ true
    → refusal a (steps.Release who) ≡ heap_refusal a (heap.Release (hold_of a.world notice))
full_release a who notice rest there full held = grind (arith, eq-eqb)

-- ---- hands and queues

answer_others : (a b : State) (step : NamedStep) (reply : Reply) (fault : Option Fault)
    → heap_refusal a step ≡ fault → IsHeapAnswer a fault step reply b → SameOthers a.world b.world
answer_others a b step reply (Some fault) is row =
    subst (λ (s : State). SameOthers a.world s.world) (sym row.1) (same a.world)
answer_others a b step reply None is row = heap_others a b step reply row

-- no row of a heap touches hands and queues
pub row_others : (a b : State) (step : NamedStep) (reply : Reply) → IsHeapRow a step reply b
    → SameOthers a.world b.world
row_others a b step reply row = answer_others a b step reply (heap_refusal a step) refl row
