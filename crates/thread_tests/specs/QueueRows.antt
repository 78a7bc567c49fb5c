-- How a shared queue lies in memory.
use denote.RattleType.{RattleType}
use Rattle.std.specs.declared.alloc.Allocator.{Ghosts}
use Rattle.std.below.core.specs.declared.clone.Clone.{Ghosts as Clones}
use Rattle.ref_base.specs.contracts.batch.Batch.{the_row as batch_row}
use Rattle.ref_clear.specs.contracts.notice.Notice.{the_row as notice_row}
use Rattle.ref_share.specs.contracts.queue_machine.QueueMachine.{the_row as machine_row}
use Rattle.ref_share.specs.contracts.queue_machine.QueueMachineMachine.TheImpl.{ghosts, no_dict}
use Rattle.ref_share.specs.contracts.queue_machine.QueueReply.{the_row as reply_row}
use Rattle.ref_share.specs.contracts.queue_machine.QueueStep.{the_row as step_row}
use Rattle.ref_share.specs.contracts.shared.Shared.{the_row}
use Rattle.ref_share.specs.contracts.shared_queue.QueueFrame.{the_row as frame_row}

abbrev pub queue_row : (A : RattleType) → Ghosts A.Denot → Clones A.Denot → RattleType
queue_row A alloc clone =
    the_row (machine_row A alloc) A (step_row (batch_row notice_row A alloc)) (reply_row (batch_row notice_row A alloc))
    frame_row (ghosts A alloc no_dict clone no_dict) alloc
