use denote.RattleType.{RattleType}
use denote.Ref.{NamedLft}
use denote.Param.Callables.{held_fn}
use denote.Param.Object.{Vt, ghosts_of}
use denote.Param.Send.{IsSend, IsSync, sendable}
use Rattle.std.proofs.Crossing.{crosses, dyn_box_send, dyn_box_send_over}
use Rattle.std.proofs.alloc.Global.TheSendSync.{the_send as global_send, the_sync as global_sync}
use Rattle.std.specs.contracts.alloc.Global.{the_row}
use Rattle.std.specs.contracts.impls.GlobalAllocator.TheImpl.{ghosts}
use Rattle.std.below.core.specs.contracts.clone.Clone+copy.TheImpl.{ghosts as clones}
use Rattle.ref_share.below.atomic_table.proofs.shared.Shared.TheSendSync.{the_sync as table_sync}
use Rattle.ref_share.below.ref_turn.proofs.turn.Turn.TheSendSync.{the_field_sync as turn_field_sync}
use Rattle.ref_base.proofs.numbers.QueueNo.TheSendSync.{the_sync as queue_number_sync}
use Rattle.ref_base.specs.contracts.numbers.QueueNo.{the_row as number_row}
use Rattle.ref_objects.proofs.hold.Hold.TheSendSync.{the_send as hold_send}
use Rattle.ref_objects.specs.contracts.hold.Hold.{the_row as hold_row}
use Rattle.ref_queue.proofs.clean_table.CleanTable.TheSendSync.{the_send as table_send}
use Rattle.ref_queue.specs.contracts.job.Job.{the_row as job_row}
use Rattle.ref_share.proofs.Crossing.{shared}
use Rattle.ref_share.proofs.clean_machine.CleanMachine.TheSendSync.{the_send as machine_send}
use Rattle.ref_share.specs.contracts.clean_machine.CleanMachine.{the_row as machine_row}
use Rattle.ref_share.specs.contracts.clean_machine.CleanMachineMachine.TheImpl.{ghosts as machine_ghosts, no_dict}
use Rattle.ref_share.specs.contracts.clean_machine.CleanReply.{the_row as reply_row}
use Rattle.ref_share.specs.contracts.clean_machine.CleanStep.{the_row as step_row}
use Rattle.ref_share.specs.contracts.shared.Shared.{the_row as shared_row}
use Rattle.thread_tests.specs.contracts.shares.cleaners.threads.Beside.{the_row as beside_row}
use Rattle.thread_tests.specs.contracts.shares.cleaners.threads.beside_loop.dyn-1.{Ghosts, slots}
use Rattle.thread_tests.proofs.shares.cleaners.threads.beside_loop.Goals as goal

-- a job, and a cleaner of such jobs, as they lie in memory
abbrev own_job : (r u f : RattleType) → Ghosts r u f → RattleType
own_job r u f d = job_row (Vt (slots r u f) d.0) (ghosts_of (slots r u f) d.0 d.1) (held_fn d.0)

abbrev cleaner_of : RattleType → RattleType
cleaner_of job =
    shared_row (machine_row hold_row job the_row ghosts) the_row (step_row hold_row job) (reply_row hold_row job)
    number_row (machine_ghosts hold_row job the_row ghosts no_dict (clones the_row) no_dict) ghosts

-- a shared cleaner may be seen by several threads: its jobs may move between them
cleaner_sync : (r u f : RattleType) (d : Ghosts r u f) → IsSync (cleaner_of (own_job r u f d))
cleaner_sync r u f d = search (
  dyn_box_send (Vt (slots r u f) d.0) (ghosts_of (slots r u f) d.0 d.1) d.2,
  dyn_box_send_over (Vt (slots r u f) d.0) (ghosts_of (slots r u f) d.0 d.1) d.2,
  global_send,
  global_sync,
  table_sync,
  turn_field_sync,
  queue_number_sync,
  hold_send,
  table_send,
  machine_send,
  crosses,
  sendable,
) depth 60 fits 20000

-- what a thread has beside its cleaner may go with it
beside_send : (κ : NamedLft) → IsSend (beside_row κ)
beside_send κ = search (shared, crosses, sendable) depth 60 fits 20000

pub join_given-requires-send-A : goal.join_given-requires-send-A
join_given-requires-send-A g c κs within =
    search (cleaner_sync g.row.R g.row.U g.row.G g.dyn-1, crosses, sendable) depth 60 fits 20000

pub join_given-requires-send-C : goal.join_given-requires-send-C
join_given-requires-send-C g c κs within = search (beside_send, crosses, sendable) depth 60 fits 20000
