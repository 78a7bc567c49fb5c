use denote.RattleType.{RattleType}
use denote.Ref.{NamedLft}
use denote.Param.Callables.{held_fn}
use denote.Param.Object.{Vt, ghosts_of}
use denote.Param.Send.{IsSend, IsSync, sendable}
use Rattle.std.proofs.Crossing.{crosses, dyn_box_send, dyn_box_send_over}
use Rattle.std.proofs.alloc.Global.TheSendSync.{the_send as global_send, the_sync as global_sync}
use Rattle.ref_base.proofs.numbers.QueueNo.TheSendSync.{the_sync as number_sync}
use Rattle.ref_objects.proofs.hold.Hold.TheSendSync.{the_send as hold_send}
use Rattle.ref_queue.proofs.clean_table.CleanTable.TheSendSync.{the_send as table_send}
use Rattle.ref_share.below.atomic_table.proofs.shared.Shared.TheSendSync.{the_sync as words_sync}
use Rattle.ref_share.below.ref_turn.proofs.turn.SeatOf.TheSendSync.{the_field_send as seat_send}
use Rattle.ref_share.below.ref_turn.proofs.turn.Turn.TheSendSync.{the_field_sync as turn_sync}
use Rattle.ref_share.proofs.Crossing.{shared}
use Rattle.ref_share.proofs.clean_machine.CleanMachine.TheSendSync.{the_send as machine_send}
use Rattle.refrun.specs.contracts.cleaning.Cleaning.{the_field as cleaning_field}
use Rattle.refrun.specs.contracts.cleaning.CleaningSeats.{the_field as seats_field}
use Rattle.refrun.specs.contracts.cleaning.CleaningStation.{the_field as station_field}
use Rattle.refrun.specs.contracts.threads.task.Task.{the_row as task_row}
use Rattle.refrun.specs.contracts.threads.making.made.dyn-1.{Ghosts, slots}
use Rattle.refrun.proofs.Crossing.{shared_sync, tally_sync}
use Rattle.refrun.proofs.threads.making.made.Goals as goal

module _ (e r : RattleType) (d : Ghosts e r) where
  cleaning_sync : IsSync (cleaning_field (Vt (slots e r) d.0) (ghosts_of (slots e r) d.0 d.1) (held_fn d.0)).row
  cleaning_sync =
      search (
        dyn_box_send (Vt (slots e r) d.0) (ghosts_of (slots e r) d.0 d.1) d.2,
        dyn_box_send_over (Vt (slots e r) d.0) (ghosts_of (slots e r) d.0 d.1) d.2,
        shared,
        global_send,
        global_sync,
        words_sync,
        turn_sync,
        number_sync,
        hold_send,
        table_send,
        machine_send,
        crosses,
        sendable,
      ) depth 60 fits 20000

  seats_send : IsSend (seats_field (Vt (slots e r) d.0) (ghosts_of (slots e r) d.0 d.1) (held_fn d.0)).row
  seats_send =
      search (
        dyn_box_send (Vt (slots e r) d.0) (ghosts_of (slots e r) d.0 d.1) d.2,
        dyn_box_send_over (Vt (slots e r) d.0) (ghosts_of (slots e r) d.0 d.1) d.2,
        shared,
        seat_send,
        global_send,
        hold_send,
        table_send,
        machine_send,
        crosses,
        sendable,
      ) depth 60 fits 20000

  station_send : (κ : NamedLft)
      → IsSend (station_field κ (Vt (slots e r) d.0) (ghosts_of (slots e r) d.0 d.1) (held_fn d.0)).row
  station_send κ =
      search (
        cleaning_sync,
        seats_send,
        global_send,
        dyn_box_send (Vt (slots e r) d.0) (ghosts_of (slots e r) d.0 d.1) d.2,
        dyn_box_send_over (Vt (slots e r) d.0) (ghosts_of (slots e r) d.0 d.1) d.2,
        crosses,
        sendable,
      ) depth 60 fits 20000

  task_send : (κ : NamedLft) → IsSend (task_row κ (Vt (slots e r) d.0) (ghosts_of (slots e r) d.0 d.1) (held_fn d.0))
  task_send κ = search (station_send, shared, crosses, sendable) depth 60 fits 20000

pub made_given-requires-send-C : goal.made_given-requires-send-C
made_given-requires-send-C g c κs within =
    search (task_send g.row.E g.row.R g.dyn-1, crosses, sendable) depth 60 fits 20000

pub made_given-requires-send-F : goal.made_given-requires-send-F
made_given-requires-send-F g c κs within =
    search (shared_sync, tally_sync, crosses, sendable) depth 60 fits 20000
