-- A shared heap or queue may be seen by several threads, and a seat of one may go to another. By the set `crossing` a
-- search proves that a closure which takes them along may go to a thread.
use denote.Ref.{NamedLft}
use denote.RattleType.{RattleType}
use denote.Param.Send.{IsSend, IsSync, sendable}
use Rattle.std.proofs.Crossing.{crosses}
use Rattle.std.proofs.MapsCrossing as maps
use Rattle.std.proofs.alloc.Global.TheSendSync.{the_send as global_send, the_sync as global_sync}
use Rattle.std.specs.contracts.alloc.Global.{the_row}
use Rattle.std.specs.contracts.impls.GlobalAllocator.TheImpl.{ghosts}
use Rattle.std.below.core.specs.contracts.clone.Clone+copy.TheImpl.{ghosts as clones}
use Rattle.ref_base.specs.contracts.batch.Batch.{the_row as batch_row}
use Rattle.ref_base.specs.contracts.heap_step.HeapStep.{the_row as heap_step}
use Rattle.ref_clear.specs.contracts.notice.Notice.{the_row as notice_row}
use Rattle.ref_objects.specs.contracts.hold.Hold.{the_row as hold_row}
use Rattle.ref_turn.proofs.turn.SeatOf.TheSendSync.{the_field_send as seat_send}
use Rattle.ref_turn.proofs.turn.Turn.TheSendSync.{the_field_sync as turn_sync}
use Rattle.ref_world.specs.contracts.heap_machine.HeapReply.{the_row as heap_reply}
use Rattle.std.below.core.proofs.sync.Sent.{Mutex-sync}
use Rattle.std.below.core.specs.contracts.sync.Mutex.{the_row as mutex_row}
use Rattle.std.below.core.specs.declared.cmp.Ord as ord
use Rattle.std.below.core.specs.declared.cmp.PartialEq as eq
use Rattle.std.below.core.specs.declared.cmp.PartialOrd as partial
use Rattle.std.below.std_collections.specs.contracts.btree_map.BTreeMap.{the_field as map_field}
use Rattle.ref_base.specs.contracts.numbers.ObjNo.{the_row as object_row}
use Rattle.ref_base.specs.contracts.numbers.QueueNo.{the_row as number_row}
use Rattle.ref_share.specs.contracts.clean_machine.CleanMachine.{the_row as clean_machine}
use Rattle.ref_share.specs.contracts.clean_machine.CleanMachineMachine.TheImpl as cleaners
use Rattle.ref_share.specs.contracts.clean_machine.CleanReply.{the_row as clean_reply}
use Rattle.ref_share.specs.contracts.clean_machine.CleanStep.{the_row as clean_step}
use Rattle.ref_share.specs.contracts.clean_user.CleanUser.{the_row as clean_user}
use Rattle.ref_share.specs.contracts.collector.Collected.{the_row as collected}
use Rattle.ref_share.specs.contracts.collector.Collector.{the_row as collector}
use Rattle.ref_share.specs.contracts.collector.Own.{the_row as own_row}
use Rattle.ref_share.specs.contracts.heap_user.HeapUser.{the_row as heap_user}
use Rattle.ref_share.specs.contracts.queue_user.QueueUser.{the_row as queue_user}
use Rattle.ref_share.specs.contracts.queue_users.QueueUsers.{the_row as queue_users}
use Rattle.ref_share.specs.contracts.heap_machine.HeapMachine.{the_row as heap_machine}
use Rattle.ref_share.specs.contracts.heap_machine.HeapMachineMachine.TheImpl as heaps
use Rattle.ref_share.specs.contracts.queue_machine.QueueMachine.{the_row as queue_machine}
use Rattle.ref_share.specs.contracts.queue_machine.QueueMachineMachine.TheImpl as queues
use Rattle.ref_share.specs.contracts.queue_machine.QueueReply.{the_row as queue_reply}
use Rattle.ref_share.specs.contracts.queue_machine.QueueStep.{the_row as queue_step}
use Rattle.ref_share.specs.contracts.shared.SeatFor.{the_field as seat_field}
use Rattle.ref_share.specs.contracts.shared.Shared.{the_field as shared_field}
use Rattle.ref_share.specs.contracts.task.Numbered.{the_row as task_row}
use Rattle.ref_share.specs.contracts.shared_heap.HeapFrame.{the_row as heap_frame}
use Rattle.ref_share.specs.contracts.shared_queue.QueueFrame.{the_row as queue_frame}
use Rattle.ref_share.specs.contracts.waiting.Stop.{the_row as stop_row}

abbrev batch : RattleType
batch = batch_row notice_row the_row ghosts

-- ---- a heap

abbrev pub heap_row : RattleType
heap_row =
    (shared_field (heap_machine the_row ghosts) the_row (heap_step hold_row batch) (heap_reply batch) heap_frame
    (heaps.ghosts the_row ghosts heaps.no_dict (clones the_row) heaps.no_dict) ghosts).row

abbrev pub heap_seat_row : RattleType
heap_seat_row =
    (seat_field (heap_machine the_row ghosts) (heap_step hold_row batch) (heap_reply batch) heap_frame).row

machine_send : IsSend (heap_machine the_row ghosts)
machine_send = search (crosses, sendable) depth 60 fits 20000

pub heap_sync : IsSync heap_row
heap_sync = search (machine_send, turn_sync, global_send, global_sync, crosses, sendable) depth 60 fits 20000

pub heap_seat_send : IsSend heap_seat_row
heap_seat_send = search (machine_send, seat_send, crosses, sendable) depth 60 fits 20000

-- ---- a queue

abbrev pub queue_row : RattleType
queue_row =
    (shared_field (queue_machine the_row ghosts) the_row (queue_step batch) (queue_reply batch) queue_frame
    (queues.ghosts the_row ghosts queues.no_dict (clones the_row) queues.no_dict) ghosts).row

abbrev pub queue_seat_row : RattleType
queue_seat_row = (seat_field (queue_machine the_row ghosts) (queue_step batch) (queue_reply batch) queue_frame).row

queue_machine_send : IsSend (queue_machine the_row ghosts)
queue_machine_send = search (crosses, sendable) depth 60 fits 20000

pub queue_sync : IsSync queue_row
queue_sync = search (queue_machine_send, turn_sync, global_send, global_sync, crosses, sendable) depth 60 fits 20000

pub queue_seat_send : IsSend queue_seat_row
queue_seat_send = search (queue_machine_send, seat_send, crosses, sendable) depth 60 fits 20000

-- ---- a cleaner of numbered tasks, which go to another thread by themselves

clean_machine_send : IsSend (clean_machine hold_row task_row the_row ghosts)
clean_machine_send = search (crosses, sendable) depth 60 fits 20000

abbrev pub cleaner_row : RattleType
cleaner_row =
    (shared_field (clean_machine hold_row task_row the_row ghosts) the_row (clean_step hold_row task_row)
    (clean_reply hold_row task_row) number_row
    (cleaners.ghosts hold_row task_row the_row ghosts cleaners.no_dict (clones the_row) cleaners.no_dict) ghosts).row

abbrev pub clean_seat_row : RattleType
clean_seat_row =
    (seat_field (clean_machine hold_row task_row the_row ghosts) (clean_step hold_row task_row)
    (clean_reply hold_row task_row) number_row).row

pub cleaner_sync : IsSync cleaner_row
cleaner_sync = search (clean_machine_send, turn_sync, global_send, global_sync, crosses, sendable) depth 60 fits 20000

pub clean_seat_send : IsSend clean_seat_row
clean_seat_send = search (clean_machine_send, seat_send, crosses, sendable) depth 60 fits 20000

-- ---- users, and a collector

pub heap_user_send : (κ : NamedLft) → IsSend (heap_user κ the_row ghosts (clones the_row))
heap_user_send κ = search (heap_sync, heap_seat_send, crosses, sendable) depth 60 fits 20000

pub queue_user_send : (κ : NamedLft) → IsSend (queue_user κ the_row ghosts (clones the_row))
queue_user_send κ = search (queue_sync, queue_seat_send, crosses, sendable) depth 60 fits 20000

pub queue_users_send : (κ : NamedLft) → IsSend (queue_users κ the_row ghosts (clones the_row))
queue_users_send κ = search (queue_sync, queue_seat_send, crosses, sendable) depth 60 fits 20000

pub clean_user_send : (κ : NamedLft) → IsSend (clean_user κ task_row the_row ghosts (clones the_row))
clean_user_send κ = search (cleaner_sync, clean_seat_send, crosses, sendable) depth 60 fits 20000

pub stop_sync : IsSync stop_row
stop_sync = search (crosses, sendable) depth 60 fits 20000

pub collector_send : (κ : NamedLft) → IsSend (collector κ the_row ghosts (clones the_row))
collector_send κ =
    search (heap_user_send, queue_users_send, global_send, crosses, sendable) depth 60 fits 20000

pub collected_send : (κ : NamedLft) → IsSend (collected κ)
collected_send κ =
    search (heap_user_send, queue_users_send, collector_send, global_send, crosses, sendable) depth 60 fits 20000

pub own_send : IsSend own_row
own_send = search (heap_seat_send, queue_seat_send, global_send, crosses, sendable) depth 60 fits 20000

-- ---- a table by numbers of objects, behind a lock

module _ (V : RattleType) (o : ord.Ghosts object_row.Denot) (e : eq.Ghosts object_row.Denot)
    (p : partial.Ghosts object_row.Denot) where
  pub table_sync : IsSend V → IsSync (mutex_row (map_field object_row V the_row o e p ghosts).row)
  table_sync send =
      Mutex-sync (map_field object_row V the_row o e p ghosts).row
      (maps.BTreeMap-send object_row V o e p (search sendable depth 20) send)

pub ruleset shared = (
  heap_sync,
  heap_seat_send,
  queue_sync,
  queue_seat_send,
  cleaner_sync,
  clean_seat_send,
  heap_user_send,
  queue_user_send,
  queue_users_send,
  clean_user_send,
  stop_sync,
  collector_send,
  collected_send,
  table_sync,
)

pub ruleset crossing = (shared, maps.crosses, crosses, sendable)
