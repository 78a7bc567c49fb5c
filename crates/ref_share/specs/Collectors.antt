-- What a collector that ran in a thread of its own comes back as (this project's profile).
use Rattle.std.specs.Prelude.{◌≡◌, List, Result}
use Rattle.std.specs.contracts.alloc.Global.{the_row}
use Rattle.ref_base.specs.declared.fault.Fault.{Fault}
use Rattle.ref_share.specs.Cycles.{RunsCycles}
use Rattle.ref_share.specs.HeapSeats.{SharedHeap, IsHeapSeat, heap_view}
use Rattle.ref_share.specs.QueueSeats.{QueueSeat, SharedQueue}
use Rattle.ref_share.specs.Users.{AreSeated, AtEachPlace, HasClosed}
use Rattle.ref_share.specs.declared.collector.Collector.{Collector}
use Rattle.ref_share.specs.declared.collector.Own.{Own}

-- The collector made cycles until it was told to stop or one failed, which is how they ended, and then closed each of
-- its queues. What else it has is as it was.
abbrev pub HasRun : {A : Type 0} → Collector A → Result (Unit {0}) Fault → Collector A → Type 0
HasRun c ended d =
    (d ≡ record c {
      user = record c.user { seat = d.user.seat };
      queues = record c.queues { seats = d.queues.seats };
    })
    × ((between : List QueueSeat)
    × RunsCycles c.queues.queues c.worker (heap_view c.user.seat) c.queues.seats ended (heap_view d.user.seat) between
    × AtEachPlace HasClosed between d.queues.seats)

module _ (heap : SharedHeap the_row.Denot) (queues : List (SharedQueue the_row.Denot)) where
  -- what a collector has beside these is its own
  abbrev pub AreOwn : Own → Type 0
  AreOwn own = IsHeapSeat heap own.heap × AreSeated queues own.queues.items

  -- the collector of these
  abbrev pub collector_of : Own → Collector the_row.Denot
  collector_of own = record {
    alloc = own.alloc;
    user = record { heap = heap; seat = own.heap; mutator = own.mutator };
    queues = record { queues = queues; seats = own.queues.items };
    worker = own.worker;
  }

  -- the collector has run, and what was its own is so still
  abbrev pub HasReturned : Own → Result (Unit {0}) Fault → Own → Type 0
  HasReturned own ended left = AreOwn left × HasRun (collector_of own) ended (collector_of left)
