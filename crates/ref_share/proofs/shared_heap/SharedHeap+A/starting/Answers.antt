use Rattle.ref_share.proofs.Common.{refl, IsHeapTurn}
use Rattle.ref_clear.specs.Standing.{HeapStands}
use Rattle.ref_share.proofs.Seats.{first_seat}
use Rattle.ref_share.proofs.shared_heap.SharedHeap+A.starting.Goals as goal

pub returns-in-Ok-clause-made : goal.returns-in-Ok-clause-made
returns-in-Ok-clause-made g c =
    let heap = c.in_ok-heap.heap in
    record {
      config_is = refl;
      number_is = refl;
      seat = first_seat HeapStands IsHeapTurn c.in-Ok.turn _ c.in-Ok.seat c.args.first heap c.in-Ok.ensures.ok.0
          c.in-Ok.ensures.ok.1 c.in_ok-heap.ensures.stands;
    }
