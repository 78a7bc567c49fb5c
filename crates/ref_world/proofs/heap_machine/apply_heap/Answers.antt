use Rattle.ref_world.proofs.Common.{sym, subst, IsHeapRow, Reply, WorldHeap, HeapStands}
use Rattle.ref_clear.proofs.HeapLaws.{each_step}
use Rattle.ref_world.proofs.heap_machine.apply_heap.Goals as goal

pub returns-clause-row : goal.returns-clause-row
returns-clause-row g c a stands =
    let old : WorldHeap = c.args.heap.now in
    let row = each_step old c.args.step a stands in (
      row.0,
      subst (λ (r : Reply). IsHeapRow a c.args.step r row.0) (sym c.called.ensures.does.answer) row.1,
      subst (λ (k : WorldHeap). HeapStands k row.0) (sym c.called.ensures.does.after) row.2,
    )
