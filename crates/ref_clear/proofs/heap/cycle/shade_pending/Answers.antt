use Rattle.ref_clear.proofs.ShadedLists.{chain_more, all_workers}
use Rattle.ref_clear.proofs.heap.cycle.shade_pending.Goals as goal

pub loop-worker-preserved : goal.loop-worker-preserved
loop-worker-preserved g c = search chain_more

pub returns : goal.returns
returns g c = search all_workers
