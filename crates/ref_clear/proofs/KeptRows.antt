-- What steps don't change: no step the configuration, one of marking not the pending references, and one in a sweep
-- that isn't one of its own not the doomed.
use Rattle.ref_clear.proofs.Common.{arith, ◌≡◌, Bool, true, false, Option, Some, None, refl, sym, ap, subst, ◌∙◌}
use Rattle.ref_clear.proofs.Common.{false≢true, World, NamedStep, State, is_in, heap_refusal, HeapAccepts, IsHeapRow}
use Rattle.ref_clear.proofs.Common.{Fault, Sweeping, Reply, is_of_marking, Clearing, ℕ, List, map, take, Pending}
use Rattle.ref_base.specs.CollectorRows.{IsHeapAnswer, HandsOn, one_handed, all_handed}
use Rattle.ref_base.specs.Refusals.{batch_of}
use Rattle.ref_base.specs.Worlds.{notice_from, pending_of}
use Rattle.ref_base.specs.declared.phase.Phase.{Phase}
use Rattle.ref_base.proofs.ReplayKeeps.{each_keeps}
use Rattle.ref_base.proofs.RowChanges.{pending_after, heap_tells}
use Rattle.ref_base.specs.declared.heap_step.HeapStep.TheVariants as heap
use Rattle.ref_base.specs.declared.plain_step.PlainStep.TheVariants as plain

-- ---- the steps of marking

-- the one state has the other's pending references and configuration
pub record Keeps (a b : State) : Type 0 where
  pub pending : b.world.pending ≡ a.world.pending
  pub config : b.world.heap.config ≡ a.world.heap.config

same_pending : (w : World) (step : NamedStep) (reply : Reply) → is_of_marking step ≡ true
    → pending_after w (Some step) reply ≡ w.pending
same_pending w (heap.Plain (plain.ClearNext k)) reply own = absurd (false≢true own)
same_pending w (heap.Hand k) reply own = absurd (false≢true own)
same_pending w (heap.Hands k max batch) reply own = absurd (false≢true own)
same_pending w step reply own = refl

answer_keeps : (a b : State) (step : NamedStep) (reply : Reply) (fault : Option Fault) → is_of_marking step ≡ true
    → IsHeapAnswer a fault step reply b → Keeps a b
answer_keeps a b step reply (Some fault) own row = search
answer_keeps a b step reply None own row = search (heap_tells a b step reply row, same_pending a.world step reply own)

pub row_keeps : (a b : State) (step : NamedStep) (reply : Reply) → is_of_marking step ≡ true
    → IsHeapRow a step reply b → Keeps a b
row_keeps a b step reply own row = answer_keeps a b step reply (heap_refusal a step) own row

-- ---- the steps that don't change what a sweep has still to do

-- all but a sweep, and the one that begins it
abbrev pub goes_on_sweeping : NamedStep → Bool
goes_on_sweeping (heap.Plain plain.EndClear) = false
goes_on_sweeping (heap.Plain (plain.Sweep w)) = false
goes_on_sweeping step = true

-- where the one state is in a sweep, the other is, with the same doomed
abbrev pub StillSweeps : State → State → Type 0
StillSweeps a b = is_in b.world.phase Sweeping ≡ true → (b.doomed ≡ a.doomed) × (is_in a.world.phase Sweeping ≡ true)

-- and it has the other's configuration
pub record SweepsOn (a b : State) : Type 0 where
  pub config : b.world.heap.config ≡ a.world.heap.config
  pub swept : StillSweeps a b

in_no_sweep : (a b : State) (phase : Phase) → b.world.phase ≡ phase → is_in phase Sweeping ≡ false → StillSweeps a b
in_no_sweep a b phase is other sweeping =
    absurd (false≢true (sym (ap (λ p. is_in p Sweeping) is ∙ other) ∙ sweeping))

-- what is handed on changes no phase
hand_sweeps : (a b : State) (k : ℕ) (answer reply : Reply) (ps : List Pending) → HandsOn a k answer ps reply b
    → StillSweeps a b
hand_sweeps a b k answer reply ps row =
    let same = each_keeps (λ (w : World). w.phase) (λ w k n. refl) a.world k (map (notice_from k) ps) in
    grind (arith, same)

accepted_sweeps : (a b : State) (step : NamedStep) (reply : Reply) → goes_on_sweeping step ≡ true
    → HeapAccepts a step reply b → StillSweeps a b
accepted_sweeps a b (heap.Plain (plain.Begin now how)) reply own row = grind arith
accepted_sweeps a b (heap.Plain plain.EndMark) reply own row =
    in_no_sweep a b Clearing (ap (λ (s : State). s.world.phase) row.after) refl
accepted_sweeps a b (heap.Plain plain.EndClear) reply own row = absurd (false≢true own)
accepted_sweeps a b (heap.Plain (plain.Sweep w)) reply own row = absurd (false≢true own)
accepted_sweeps a b (heap.Plain plain.EndSweep) reply own row = grind arith
accepted_sweeps a b (heap.Hand k) reply own row =
    let first = take 1 (pending_of a.world k) in hand_sweeps a b k (one_handed k first) reply first row
accepted_sweeps a b (heap.Hands k max batch) reply own row =
    let some = batch_of max (pending_of a.world k) in hand_sweeps a b k (all_handed k some) reply some row
accepted_sweeps a b step reply own row = grind arith

answer_sweeps : (a b : State) (step : NamedStep) (reply : Reply) (fault : Option Fault) → goes_on_sweeping step ≡ true
    → IsHeapAnswer a fault step reply b → SweepsOn a b
answer_sweeps a b step reply (Some fault) own row =
    subst (λ (s : State). SweepsOn a s) (sym row.1) (record { config = refl; swept = λ sweeping. (refl, sweeping) })
answer_sweeps a b step reply None own row = search (accepted_sweeps, heap_tells a b step reply row)

pub sweeps_on : (a b : State) (step : NamedStep) (reply : Reply) → goes_on_sweeping step ≡ true
    → IsHeapRow a step reply b → SweepsOn a b
sweeps_on a b step reply own row = answer_sweeps a b step reply (heap_refusal a step) own row
