-- In which phase a row of a heap is accepted.
use Rattle.ref_base.proofs.Common.{arith, ◌≡◌, true, false, [], None, refl, false≢true, NamedStep, State, joined}
use Rattle.ref_base.proofs.Common.{heap_refusal, is_in, Phase, Idle, Marking, Clearing, Sweeping, Moving}
use Rattle.ref_base.proofs.RowForms.{unless_passes}
use Rattle.ref_base.specs.declared.heap_step.HeapStep.TheVariants as heap
use Rattle.ref_base.specs.declared.plain_step.PlainStep.TheVariants as plain

is_phase : (p q : Phase) → is_in p q ≡ true → p ≡ q
is_phase Idle Idle h = refl
is_phase Marking Marking h = refl
is_phase Clearing Clearing h = refl
is_phase Sweeping Sweeping h = refl
is_phase Moving Moving h = refl
is_phase p q h = absurd (false≢true h)

-- the phase that the step is of, and what else it asks of the state
abbrev pub IsOfPhase : State → NamedStep → Type 0
IsOfPhase a (heap.Plain (plain.Begin now how)) = a.world.phase ≡ Idle
IsOfPhase a (heap.Plain (plain.Scan k)) = a.world.phase ≡ Marking
IsOfPhase a (heap.Plain plain.EndMark) = a.world.phase ≡ Marking
IsOfPhase a (heap.Plain (plain.ClearNext k)) = a.world.phase ≡ Clearing
IsOfPhase a (heap.Plain plain.EndClear) = (a.world.phase ≡ Clearing) × (joined a.found ≡ [])
IsOfPhase a (heap.Plain (plain.Sweep k)) = a.world.phase ≡ Sweeping
IsOfPhase a (heap.Plain plain.EndSweep) = (a.world.phase ≡ Sweeping) × (a.doomed ≡ [])
IsOfPhase a (heap.Plain plain.Select) = (a.world.phase ≡ Idle) × (a.moved ≡ false)
IsOfPhase a (heap.Plain (plain.MoveNext k)) = a.world.phase ≡ Moving
IsOfPhase a (heap.Plain plain.EndMove) = a.world.phase ≡ Moving
IsOfPhase a step = Unit {0}

pub of_phase : (a : State) (step : NamedStep) → heap_refusal a step ≡ None → IsOfPhase a step
of_phase a (heap.Plain (plain.Begin now how)) none =
    is_phase a.world.phase Idle (unless_passes (is_in a.world.phase Idle) _ _ none).0
of_phase a step none = grind (arith, is_phase, unless_passes)
