use Rattle.ref_clear.proofs.Common.{arith}
use Rattle.ref_clear.proofs.ChainedNotices.{worker_has_chain, pending_chain, pending_read}
use Rattle.ref_clear.proofs.heap.Heap.count_with.Goals as goal

pub index-requires : goal.index-requires
index-requires g c =
    let has_chain =
    worker_has_chain c.worker.inside.0 c.self.invariant c.self.view_is (rw c.worker.view_is c.requires) in
    omega (arith, has_chain, c.self.inside.pending.ok.0)

pub count_listed-requires : goal.count_listed-requires
count_listed-requires g c =
    rw c.objects.ensures
    (pending_chain c.worker.inside.0 c.self.invariant c.self.view_is (rw c.worker.view_is c.requires) c.index.ensures)

pub returns : goal.returns
returns g c =
    let read =
    pending_read c.worker.inside.0 c.self.invariant c.self.view_is (rw c.worker.view_is c.requires) c.index.ensures in
    rw (← c.self.view_is, ← c.worker.view_is, ← read) (rw c.objects.ensures at c.count_listed.ensures)
