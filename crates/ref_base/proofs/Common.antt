-- The words of std and of the model that several proofs cite, passed on from one place. Declares nothing.
pub use Rattle.std.proofs.Common.{Bool, List, None, Option, Some, [], ap, append_assoc, arith, drop, false, get_or}
pub use Rattle.std.proofs.Common.{if◌then◌else◌, inl, inr, is_some, length, map, nat_eq, nat_lt, not, refl, subst, suc}
pub use Rattle.std.proofs.Common.{sym, take, true, zero, ℕ, ◌&&◌, ◌*◌, ◌++◌, ◌+◌, ◌-◌, ◌<◌, ◌==◌, ◌||◌, ◌∙◌, ◌∷◌, ◌≡◌}
pub use Rattle.std.proofs.Common.{◌≤◌, ◌⊎◌}
pub use Rattle.std.proofs.lemmas.Bool.{and_parts, and_right, cases_Bool, cases_eq, eq-eqb, eqb-true, false≢true}
pub use Rattle.std.proofs.lemmas.Bool.{ltb-true, ne_eqb, or_cases, or_from, or_left, or_right, true≢false}
pub use Rattle.std.proofs.lemmas.Grind.{common_steps}
pub use Rattle.std.proofs.lemmas.List.{append-nil, at_drop_more, get_or-set_other, get_or-set_same, length-map}
pub use Rattle.std.proofs.lemmas.List.{length-replicate, length-set, map-append, take-append-drop, take-append-le}
pub use Rattle.std.proofs.lemmas.Map.Keys.{IsDistinct-push}
pub use Rattle.std.specs.Cmp.{nat_eq_equiv}
pub use Rattle.std.specs.List.{AllByRecursion, position}
pub use Rattle.std.specs.Map.{lookup}
pub use Rattle.std.specs.Prelude.{replicate, slice_index_or, slice_set}
pub use Rattle.ref_base.specs.AgreeingWorlds.{Agrees, cleared_if, heap_under, is_waiting, objects_under, under}
pub use Rattle.ref_base.specs.ClearingOrder.{added_of, is_by}
pub use Rattle.ref_base.specs.CollectorRows.{Accepts, AcceptsAsking, AreFound, ClearsNext, Closes, EndsMark, EndsMove}
pub use Rattle.ref_base.specs.CollectorRows.{Gets, Gives, GivesAnewIf, HandsOn, HeapAccepts, Holds, IsAnswer, IsBut}
pub use Rattle.ref_base.specs.CollectorRows.{IsHeapAnswer, IsHeapRow, IsLeft, IsRow, IsRun, Loads, Moves, Polls, Puts}
pub use Rattle.ref_base.specs.CollectorRows.{PutsAll, all_handed, one_handed, one_taken}
pub use Rattle.ref_base.specs.CollectorRows.{PutsInto, QueuesAccept, Scans, Selects, Sweeps, Unhooks, begun_state}
pub use Rattle.ref_base.specs.CollectorRows.{doomed_at, emptied, field_in, field_of, is_subsequence, list_at, looked_at}
pub use Rattle.ref_base.specs.CollectorRows.{mark_ended, on_heap, reference_of, references_among, referent_got}
pub use Rattle.ref_base.specs.CollectorRows.{referent_of, shown, ticked, value_reply, with_handed, with_world, without}
pub use Rattle.ref_base.specs.Collectors.{State, first_state, first_state_of, joined}
pub use Rattle.ref_base.specs.CountedHolds.{AreCounted, holds_after, in_hands, in_queues, tally}
pub use Rattle.ref_base.specs.DoomedSets.{MayDoom, any_is, is_new_clear, new_clears, refers_into}
pub use Rattle.ref_base.specs.Graphs.{Graph, Object, Reference, is_there, numbers, object_at, plain_object, with_object}
pub use Rattle.ref_base.specs.HeapSteps.{HeldNotice, NamedStep, handed, heap_step, hold_of, spending, taking, with_rest}
pub use Rattle.ref_base.specs.Heaps.{Heap, changed_at, changed_in, changed_reference, cleared, cut, got, got_at, made}
pub use Rattle.ref_base.specs.Heaps.{new_reference, nulls, one_fewer, one_more, reference_at, reference_in}
pub use Rattle.ref_base.specs.Heaps.{registered_in, slot_at, stored, with_field, with_hold, with_reference, with_slot}
pub use Rattle.ref_base.specs.Heaps.{without_hold}
pub use Rattle.ref_base.specs.KeptPaths.{EverKept, IsKept, is_kept}
pub use Rattle.ref_base.specs.LeavingEdges.{FirstLeaves, meets}
pub use Rattle.ref_base.specs.LegalTraces.{IsLegal}
pub use Rattle.ref_base.specs.MarkEnds.{IsDead, MarkEnded, WasDoomed}
pub use Rattle.ref_base.specs.Members.{has, rest_of}
pub use Rattle.ref_base.specs.Paths.{Allowed, EndsPath, IsPath, allowed_referent, any_referent, if_any, is_soft}
pub use Rattle.ref_base.specs.Paths.{no_referents, present, soft_and_weak_referents, soft_referents, targets_at}
pub use Rattle.ref_base.specs.Paths.{targets_of}
pub use Rattle.ref_base.specs.Provenance.{IsProven}
pub use Rattle.ref_base.specs.QueueLists.{Lists, enqueued, new_queue, new_queues, was_put, with_parcel, with_taken}
pub use Rattle.ref_base.specs.QueueRows.{HandNotices, held_after, put_into, taken_from, was_closed, with_held}
pub use Rattle.ref_base.specs.QueueRows.{with_held_rest}
pub use Rattle.ref_base.specs.Refusals.{batch_of, fits, hands_refusal}
pub use Rattle.ref_base.specs.Refusals.{field_count, field_refusal, hand_refusal, has_slot, heap_refusal, held_refusal}
pub use Rattle.ref_base.specs.Refusals.{holds_refusal, is_actor, is_in, is_mutator, minting_refusal, object_refusal}
pub use Rattle.ref_base.specs.Refusals.{reference_refusal, refusal, unhook_refusal, unless, unless_full}
pub use Rattle.ref_base.specs.Replay.{handed_each, notices_of, standing, unhooked, without_notices}
pub use Rattle.ref_base.specs.Replay.{after, after_heap, after_queues, begun, closed_queue, handed_on, if_told}
pub use Rattle.ref_base.specs.Replay.{notice_of, pended, put_in, replayed, replayed_from, taken_out, took, with_phase}
pub use Rattle.ref_base.specs.Replay.{without_pending}
pub use Rattle.ref_base.specs.ScannedRows.{scanned_in_cycle}
pub use Rattle.ref_base.specs.Searches.{ArePathEnds, IsSearched, added_all, fields_of, phantom_referents}
pub use Rattle.ref_base.specs.Strengths.{HangsOnPhantom, HasStrength, IsRising}
pub use Rattle.ref_base.specs.Told.{is_done, is_selected, told_cycle, told_notices, told_object, told_taken, told_dones}
pub use Rattle.ref_base.specs.QueueBatches.{Become, Becomes, TellsBatch, added_among, after_each, after_one, not_added}
pub use Rattle.ref_base.specs.WorkerOrder.{cleared_in, clearing_order, if_registered, is_registered, registers}
pub use Rattle.ref_base.specs.Worlds.{Notice, Pending, SameOthers, World, first_world, graph_of, hand_of, object_of}
pub use Rattle.ref_base.specs.Worlds.{notice_from, pending_numbers, pending_of, queue_at, with_hand, with_heap}
pub use Rattle.ref_base.specs.Worlds.{with_pending}
pub use Rattle.ref_base.specs.Worlds.{with_queue}
pub use Rattle.ref_base.specs.declared.actor.Actor.{Actor}
pub use Rattle.ref_base.specs.declared.actor.Actor.TheVariants.{Mutator, Worker}
pub use Rattle.ref_base.specs.declared.cause.Cause.{Cause}
pub use Rattle.ref_base.specs.declared.cause.Cause.TheVariants.{Cycle, Own}
pub use Rattle.ref_base.specs.declared.config.Config.{Config}
pub use Rattle.ref_base.specs.declared.fault.Fault.{Fault}
pub use Rattle.ref_base.specs.declared.out.Done.{Done}
pub use Rattle.ref_base.specs.declared.fault.Fault.TheVariants.{BadField, GreyLeft, HandEmpty, NoMemory, NoSuchActor}
pub use Rattle.ref_base.specs.declared.fault.Fault.TheVariants.{NotAReference, WrongPhase}
pub use Rattle.ref_base.specs.declared.heap_step.HoldName.{HoldName}
pub use Rattle.ref_base.specs.declared.phase.Phase.{Phase}
pub use Rattle.ref_base.specs.declared.phase.Phase.TheVariants.{Clearing, Idle, Marking, Moving, Sweeping}
pub use Rattle.ref_base.specs.declared.policy.Policy.{Policy}
pub use Rattle.ref_base.specs.declared.reach.Reach.{Reach}
pub use Rattle.ref_base.specs.declared.reach.Reach.TheVariants.{Phantom, Soft, Strong, Unreachable}
pub use Rattle.ref_base.specs.declared.reply.Reply.{Reply}
pub use Rattle.ref_base.specs.declared.row.Row.{Row}
pub use Rattle.ref_base.specs.declared.step.Step.{Step}
pub use Rattle.ref_base.specs.declared.strength.Strength.{Strength}
pub use Rattle.ref_base.specs.declared.strength.Strength.TheVariants.{Weak}
pub use Rattle.ref_base.specs.declared.urgency.Urgency.{Urgency}
pub use Rattle.ref_base.specs.declared.urgency.Urgency.TheVariants.{Normal}
