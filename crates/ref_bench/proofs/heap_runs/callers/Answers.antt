use Rattle.ref_bench.proofs.CallerLists.{seated_more}
use Rattle.ref_bench.proofs.heap_runs.callers.Goals as goal

pub loop-number-preserved : goal.loop-number-preserved
loop-number-preserved c = (
  c.split.ensures.seat.0,
  seated_more _ _ _ c.loop-number.invariant.1 c.new-caller.ensures c.in-Ok.ensures.items,
)
