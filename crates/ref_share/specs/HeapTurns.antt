-- What a heap does in one turn is a turn of its machine.
use Rattle.std.proofs.Common.{ℕ, sym, subst}
use Rattle.ref_base.specs.Collectors.{State}
use Rattle.ref_base.specs.CollectorRows.{IsHeapRow}
use Rattle.ref_base.specs.HeapSteps.{NamedStep}
use Rattle.ref_base.specs.declared.reply.Reply.{Reply}
use Rattle.ref_clear.specs.ClearHeaps.{ClearHeap}
use Rattle.ref_clear.specs.Standing.{HeapStands}
use Rattle.ref_clear.proofs.HeapLaws.{each_step, stands_number}
use Rattle.ref_world.specs.HeapReplies.{HeapAnswer}
use Rattle.ref_world.specs.HeapReplies.{GivesOut}
use Rattle.ref_share.specs.HeapMachines.{IsHeapTurn, Acts}

-- what it does is a row, from each state that it stands for to one that it then stands for
pub acts_as_a_row : (c d : ClearHeap) (step : NamedStep) (reply : HeapAnswer) → Acts c step reply d
    → (x : State) → HeapStands c x → (y : State) × IsHeapTurn x step reply y × HeapStands d y
acts_as_a_row c d step reply acts x stands =
    let row = each_step c step x stands in (
      row.0,
      record {
        row = subst (λ (r : Reply). IsHeapRow x step r row.0) (sym acts.does.answer) row.1;
        gives = subst (λ (no : ℕ). GivesOut no step reply) (sym (stands_number c x stands)) acts.gives;
      },
      subst (λ (k : ClearHeap). HeapStands k row.0) (sym acts.does.after) row.2,
    )
