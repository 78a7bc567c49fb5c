-- The words of std and of the model that several proofs cite, passed on from one place. Declares nothing.
pub use Rattle.std.proofs.Common.{Bool, Err, IfErr, IfOk, List, None, Ok, Option, Result, Some, [], ap, arith, false}
pub use Rattle.std.proofs.Common.{get_or, inl, inr, length, length-append, map, refl, replicate, subst, suc, sym, true}
pub use Rattle.std.proofs.Common.{zero, ℕ, ◌++◌, ◌+◌, ◌<◌, ◌==◌, ◌∙◌, ◌∷◌, ◌≡◌, ◌≢◌, ◌≤◌, ◌⊎◌}
pub use Rattle.std.proofs.lemmas.Bool.{cases_Bool, eq-eqb, false≢true}
pub use Rattle.std.proofs.lemmas.List.{append-nil, append_assoc}
pub use Rattle.std.proofs.lemmas.Option.{slice_get-get_or, slice_get_within}
pub use Rattle.std.specs.List.{AllByRecursion, IsDistinct}
pub use Rattle.std.specs.Option.{IsSome}
pub use Rattle.std.specs.Prelude.{nat_eq, slice_get, slice_index_or, slice_set}
pub use Rattle.ref_base.specs.AgreeingWorlds.{is_waiting}
pub use Rattle.ref_base.specs.CollectorRows.{EndsMark, HandsOn, HeapAccepts, IsHeapRow, IsRow, doomed_at}
pub use Rattle.ref_base.specs.CollectorRows.{is_subsequence, referent_of, with_handed}
pub use Rattle.ref_base.specs.Collectors.{State, first_state_of, joined}
pub use Rattle.ref_base.specs.CountedHolds.{tally}
pub use Rattle.ref_base.specs.DoomedSets.{new_clears}
pub use Rattle.ref_base.specs.HeapSteps.{HeldNotice, NamedStep}
pub use Rattle.ref_base.specs.Heaps.{reference_at}
pub use Rattle.ref_base.specs.Members.{AreDistinct, has}
pub use Rattle.ref_base.specs.QueueLists.{new_queue}
pub use Rattle.ref_base.specs.Refusals.{heap_refusal}
pub use Rattle.ref_base.specs.Replay.{without_pending}
pub use Rattle.ref_base.specs.ScannedRows.{scanned_in_cycle}
pub use Rattle.ref_base.specs.Told.{told_notices}
pub use Rattle.ref_base.specs.WorkerOrder.{clearing_order}
pub use Rattle.ref_base.specs.Worlds.{Pending, World, graph_of, hand_of, pending_of}
pub use Rattle.ref_base.specs.declared.actor.Actor.TheVariants.{Mutator, Worker}
pub use Rattle.ref_base.specs.declared.cause.Cause.TheVariants.{Cycle}
pub use Rattle.ref_base.specs.declared.config.Config.{Config}
pub use Rattle.ref_base.specs.declared.fault.Fault.{Fault}
pub use Rattle.ref_base.specs.declared.fault.Fault.TheVariants.{BadQueue, TurnsSpent}
pub use Rattle.ref_base.specs.declared.heap_step.HoldName.{HoldName}
pub use Rattle.ref_base.specs.declared.reply.Reply.{Reply}
pub use Rattle.ref_base.specs.declared.row.Row.{Row}
pub use Rattle.ref_base.specs.declared.step.Step.{Step}
pub use Rattle.ref_turn.specs.History.{Leads, calls_by}
pub use Rattle.ref_turn.specs.Seats.{EndsAs, Extends, Longer, entry}
pub use Rattle.ref_turn.specs.Turns.{view}
pub use Rattle.ref_turn.specs.declared.history.Entry.{Entry}
pub use Rattle.ref_turn.specs.declared.history.Stage.TheVariants.{Idle}
pub use Rattle.ref_turn.specs.declared.history.View.{View}
pub use Rattle.ref_clear.specs.ClearHeaps.{ClearHeap}
pub use Rattle.ref_queue.specs.CleanTables.{new_registry}
pub use Rattle.ref_queue.specs.declared.queue.Put.{Put}
pub use Rattle.ref_world.specs.Cores.{as_notice}
pub use Rattle.ref_world.specs.HeapReplies.{GivesOut, HeapAnswer, told_reply}
pub use Rattle.ref_share.specs.CleanLoops.{HasGone, IsQuiet, PollsBy, Round, all_of, jobs_run, takes_in}
pub use Rattle.ref_share.specs.CleanSeats.{CleanEntry, CleanView, clean_view}
pub use Rattle.ref_share.specs.Cleanings.{CleansDead, TakesJob, makes_phantom}
pub use Rattle.ref_share.specs.Deliveries.{AreSeats, Delivers, GoesBack, PutsAt}
pub use Rattle.ref_share.specs.HeapCalls.{Releases}
pub use Rattle.ref_share.specs.HeapMachines.{Acts, IsHeapTurn}
pub use Rattle.ref_share.specs.HeapSeats.{HeapEntry, HeapView, IsHeapRun, IsHeapSeat, heap_view}
pub use Rattle.ref_share.specs.HeapTraces.{HeapMarkEnded, all_handed_on, gathered, handed_in, handed_of, heap_replayed}
pub use Rattle.ref_share.specs.HeapTraces.{notices_given, notices_of_hand, row_of, rows_of, world_step}
pub use Rattle.ref_share.specs.QueueCalls.{PollsUntil, PutsNotice, empty_polls}
pub use Rattle.ref_share.specs.QueueMachines.{IsQueueTurn}
pub use Rattle.ref_share.specs.QueueSeats.{IsQueueSeat, QueueEntry, QueueSeat, QueueView, SharedQueue, queue_view}
pub use Rattle.ref_share.specs.SeatCalls.{Called, Made}
pub use Rattle.ref_share.specs.StartedSeats.{IsSeatFrom}
pub use Rattle.ref_share.specs.WorkerCalls.{KeepsPace, Works, notices_put, references_of}
pub use Rattle.ref_share.specs.declared.answers.Delivery.TheVariants.{Added, Dropped, Nothing}
pub use Rattle.ref_share.specs.declared.answers.Polled.TheVariants.{Took}
pub use Rattle.ref_share.specs.declared.answers.ShareFault.{ShareFault}
pub use Rattle.ref_share.specs.declared.answers.ShareFault.TheVariants.{Busy, Notice}
pub use Rattle.ref_share.specs.QueueStates.{QueueAnswer, QueueCall}
