-- What the steps of a world ask of its heap, and what comes of it.
use Rattle.std.specs.Prelude.{Bool, true, false, List, [], ◌∷◌, Option, Some, None}
use Rattle.ref_base.specs.HeapSteps.{NamedStep}
use Rattle.ref_base.specs.Worlds.{Notice}
use Rattle.ref_base.specs.declared.actor.Actor.{Actor}
use Rattle.ref_base.specs.declared.heap_step.HeapStep.TheVariants as heap
use Rattle.ref_world.specs.Cores.{Hands, hand_in, with_hand_in}

-- whether a step of the heap may give one notice
abbrev pub may_give_notice : NamedStep → Bool
may_give_notice (heap.Unhook m s) = true
may_give_notice (heap.Hand k) = true
may_give_notice step = false

-- the hand, which was empty, with the notices that were given, if any were
abbrev pub received : Hands → Actor → List Notice → Hands
received hands who [] = hands
received hands who (notice ∷ rest) = with_hand_in hands who (notice ∷ rest)

-- the hand with the notice that came back, if one did, in front of the others
abbrev pub taken_back : Hands → Actor → Option Notice → Hands
taken_back hands who None = hands
taken_back hands who (Some notice) = with_hand_in hands who (notice ∷ hand_in hands who)
