-- What stays where a row of a heap leads.
use Rattle.ref_base.proofs.Common.{◌≡◌, ℕ, Bool, List, refl, ap, ◌∙◌, Graph, Policy, reference_at, registered_in, World}
use Rattle.ref_base.proofs.Common.{is_done, is_selected, told_cycle, NamedStep, State, Config, Phase, Reply, Notice}
use Rattle.ref_base.proofs.Common.{Lists, SameOthers, HeapAccepts}
use Rattle.ref_base.proofs.Outcomes.{outcome, IsNoEnd, heap_outcome}
use Rattle.ref_base.proofs.ReplayKeeps.{EndsNoPhase, stage_of, stage_pended, same_stage, told_keeps, done_keeps}
use Rattle.ref_base.specs.declared.heap_step.HeapStep.TheVariants as heap
use Rattle.ref_base.specs.declared.plain_step.PlainStep.TheVariants as plain
use Rattle.ref_base.specs.declared.reply.Reply.TheVariants as replies

-- ---- a row that ends no phase

pub outcome_stage : (a : State) (step : NamedStep) (reply : Reply) → EndsNoPhase step
    → stage_of (outcome a step reply).world ≡ stage_of a.world
outcome_stage a (heap.Plain (plain.ClearNext k)) (replies.Cleared n) no_end =
    stage_pended a.world k n (registered_in (reference_at a.world.heap n))
outcome_stage a (heap.Plain (plain.ClearNext k)) (replies.Kept n) no_end = refl
outcome_stage a (heap.Plain (plain.ClearNext k)) (replies.Skipped n) no_end = refl
outcome_stage a (heap.Plain (plain.Sweep k)) (replies.Swept count) no_end = refl
outcome_stage a step reply no_end = search (same_stage, refl)

pub outcome_phase : (a : State) (step : NamedStep) (reply : Reply) → EndsNoPhase step
    → (outcome a step reply).world.phase ≡ a.world.phase
outcome_phase a step reply no_end = ap (λ (w : World). w.phase) (outcome_stage a step reply no_end)

pub outcome_cycle : (a : State) (step : NamedStep) (reply : Reply) → EndsNoPhase step
    → (outcome a step reply).world.cycle ≡ a.world.cycle
outcome_cycle a step reply no_end = ap (λ (w : World). w.cycle) (outcome_stage a step reply no_end)

pub outcome_cleared : (a : State) (step : NamedStep) (reply : Reply) → EndsNoPhase step
    → (outcome a step reply).cleared ≡ a.cleared
outcome_cleared a (heap.Plain (plain.ClearNext k)) (replies.Cleared n) no_end = refl
outcome_cleared a (heap.Plain (plain.ClearNext k)) (replies.Kept n) no_end = refl
outcome_cleared a (heap.Plain (plain.ClearNext k)) (replies.Skipped n) no_end = refl
outcome_cleared a (heap.Plain (plain.ClearNext k)) reply no_end = refl
outcome_cleared a (heap.Plain (plain.Sweep k)) (replies.Swept count) no_end = refl
outcome_cleared a (heap.Plain (plain.Sweep k)) reply no_end = refl
outcome_cleared a (heap.Plain (plain.Begin now how)) reply no_end = absurd no_end
outcome_cleared a step reply no_end = refl

-- ---- what the end of a mark goes by

-- the phase, and what tells which objects are left
abbrev pub mark_of : State → Phase × Policy × List Graph × ℕ × List (List ℕ) × Bool
mark_of a = (a.world.phase, a.world.policy, a.moments, a.born, a.scanned, a.left)

-- that of this state in another world
abbrev pub mark_in : State → World → Phase × Policy × List Graph × ℕ × List (List ℕ) × Bool
mark_in a w = (w.phase, w.policy, a.moments, a.born, a.scanned, a.left)

-- ---- any row but a mark's end

-- the configuration and number of the heap, hands and queues
abbrev identity_in : World → Config × ℕ × List (List Notice) × List (List Notice) × List (Lists Notice)
identity_in w = (w.heap.config, w.heap.no, w.mutator_hands, w.worker_hands, w.queues)

outcome_identity : (a : State) (step : NamedStep) (reply : Reply) → IsNoEnd step
    → identity_in (outcome a step reply).world ≡ identity_in a.world
outcome_identity a (heap.Plain (plain.Begin now how)) reply no_end =
    told_keeps identity_in (told_cycle reply) _ a.world (λ n. refl)
outcome_identity a (heap.Plain plain.EndMark) reply no_end = absurd no_end
outcome_identity a (heap.Plain plain.EndClear) reply no_end = done_keeps identity_in (is_done reply) _ a.world refl
outcome_identity a (heap.Plain plain.EndSweep) reply no_end = done_keeps identity_in (is_done reply) _ a.world refl
outcome_identity a (heap.Plain plain.Select) reply no_end = done_keeps identity_in (is_selected reply) _ a.world refl
outcome_identity a (heap.Plain plain.EndMove) reply no_end = done_keeps identity_in (is_done reply) _ a.world refl
outcome_identity a step reply no_end = ap identity_in (outcome_stage a step reply tt)

-- ---- what a row of a heap leaves

heap_identity : (a b : State) (step : NamedStep) (reply : Reply) → HeapAccepts a step reply b
    → identity_in b.world ≡ identity_in a.world
heap_identity a b (heap.Plain plain.EndMark) reply row = ap (λ (s : State). identity_in s.world) row.after
heap_identity a b step reply row =
    ap (λ (s : State). identity_in s.world) (heap_outcome a b step reply tt row) ∙ outcome_identity a step reply tt

-- a row of the heap leaves hands and queues
pub heap_others : (a b : State) (step : NamedStep) (reply : Reply) → HeapAccepts a step reply b
    → SameOthers a.world b.world
heap_others a b step reply row =
    let same = heap_identity a b step reply row in
    record { mutators = ap (λ i. i.2) same; workers = ap (λ i. i.3) same; queues = ap (λ i. i.4) same }

-- and the configuration and number of the heap
pub heap_config : (a b : State) (step : NamedStep) (reply : Reply) → HeapAccepts a step reply b
    → b.world.heap.config ≡ a.world.heap.config
heap_config a b step reply row = ap (λ i. i.0) (heap_identity a b step reply row)

pub heap_number : (a b : State) (step : NamedStep) (reply : Reply) → HeapAccepts a step reply b
    → b.world.heap.no ≡ a.world.heap.no
heap_number a b step reply row = ap (λ i. i.1) (heap_identity a b step reply row)
