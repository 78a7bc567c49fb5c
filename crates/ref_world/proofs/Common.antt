-- The words of std and of the model that several proofs cite, passed on from one place. Declares nothing.
pub use Rattle.std.proofs.Common.{Bool, Err, List, None, Ok, Option, Result, Some, [], ap, arith, false, length, not}
pub use Rattle.std.proofs.Common.{refl, subst, suc, sym, take, true, vec_len, zero, ℕ, ◌++◌, ◌+◌, ◌<◌, ◌∙◌, ◌∷◌, ◌≡◌}
pub use Rattle.std.specs.Prelude.{slice_index_or, slice_set}
pub use Rattle.std.specs.Vec.{vec_capacity}
pub use Rattle.ref_base.specs.CollectorRows.{IsHeapRow, IsRow, with_world}
pub use Rattle.ref_base.specs.Collectors.{State, first_state}
pub use Rattle.ref_base.specs.Members.{has}
pub use Rattle.ref_base.specs.QueueLists.{Lists, enqueued, new_queue, new_queues}
pub use Rattle.ref_base.specs.Refusals.{drop_refusal, empty_hand_refusal, has_slot, heap_refusal, is_actor, refusal}
pub use Rattle.ref_base.specs.Refusals.{unless}
pub use Rattle.ref_base.specs.Told.{told_notices}
pub use Rattle.ref_base.specs.Worlds.{Notice, hand_of, object_of}
pub use Rattle.ref_base.specs.declared.actor.Actor.{Actor}
pub use Rattle.ref_base.specs.declared.actor.Actor.TheVariants.{Mutator, Worker}
pub use Rattle.ref_base.specs.declared.config.Config.{Config}
pub use Rattle.ref_base.specs.declared.fault.Fault.{Fault}
pub use Rattle.ref_base.specs.declared.fault.Fault.TheVariants.{NoSuchActor}
pub use Rattle.ref_base.specs.declared.reply.Reply.{Reply}
pub use Rattle.ref_base.specs.declared.row.Row.{Row}
pub use Rattle.ref_base.specs.declared.step.Step.{Step}
pub use Rattle.ref_mark.specs.MarkCalls.{unless_refused}
pub use Rattle.ref_clear.specs.ClearCalls.{HeapDoes, after_in, answer_in}
pub use Rattle.ref_clear.specs.Standing.{HeapStands}
pub use Rattle.ref_world.specs.AskedSteps.{received, taken_back}
pub use Rattle.ref_world.specs.Cores.{Core, Hands, calling_refusal, core_queue_at, emptying_refusal, filling_refusal}
pub use Rattle.ref_world.specs.Cores.{filling_some_refusal, hand_in, has_hand, with_hand_in, with_rest_in}
pub use Rattle.ref_world.specs.QueueReplies.{PollsOne, PollsSome, PutsEach, PutsOne}
pub use Rattle.ref_world.specs.Runs.{RunsFrom, steps_of}
pub use Rattle.ref_world.specs.Standing.{Does, IsReached, IsRowOf, IsSound, Stands, answered}
pub use Rattle.ref_world.specs.WorldHeaps.{WorldHeap, heap_no_of, model_heap}
