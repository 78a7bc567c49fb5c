-- The configuration of a heap is the same after each history.
use Rattle.std.proofs.Common.{arith}
use Rattle.std.proofs.Common.{◌≡◌, ℕ, List, refl, sym, ◌∙◌}
use Rattle.ref_base.specs.Collectors.{State, first_state_of}
use Rattle.ref_base.specs.CollectorRows.{IsHeapRow}
use Rattle.ref_base.specs.HeapSteps.{NamedStep}
use Rattle.ref_base.specs.declared.config.Config.{Config}
use Rattle.ref_base.specs.declared.reply.Reply.{Reply}
use Rattle.ref_base.proofs.HeapTurns.{heap_kind}
use Rattle.ref_base.proofs.OutcomeParts.{heap_config}
use Rattle.ref_base.proofs.RunLaws.{holds_over}
use Rattle.ref_clear.proofs.HeapLaws.{config_of}
use Rattle.ref_clear.specs.ClearHeaps.{ClearHeap}
use Rattle.ref_clear.specs.Standing.{HeapStands}
use Rattle.ref_world.specs.HeapReplies.{told_reply}
use Rattle.ref_share.specs.HeapSeats.{HeapEntry, IsHeapRun}
use Rattle.ref_share.proofs.HeapRuns.{IsCall}

-- a call leaves it
one_config : (a b : State) (step : NamedStep) (reply : Reply) → IsHeapRow a step reply b
    → b.world.heap.config ≡ a.world.heap.config
one_config a b step reply row = grind (arith, heap_kind, heap_config)

pub left_config : (config : Config) (number : ℕ) (calls : List HeapEntry) (last : State) (c : ClearHeap)
    → IsHeapRun config number calls last → HeapStands c last → c.mark.heap.config ≡ config
left_config config number calls last c run stands =
    sym (config_of c.mark last stands.mark)
    ∙ holds_over IsCall (λ a some b. b.world.heap.config ≡ a.world.heap.config) (λ a. refl)
    (λ a call b some c turn later. later ∙ one_config a b call.step (told_reply call.reply) turn.row)
    (first_state_of config number) calls last run
