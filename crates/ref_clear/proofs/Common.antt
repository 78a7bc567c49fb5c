-- The words of std and of the model that several proofs cite, passed on from one place. Declares nothing.
pub use Rattle.std.proofs.Common.{Bool, List, None, Option, Some, [], ap, arith, drop, false, get_or, inl, inr, is_some}
pub use Rattle.std.proofs.Common.{length, map, not, refl, replicate, rules, set, subst, suc, sym, take, true, zero, ℕ}
pub use Rattle.std.proofs.Common.{◌&&◌, ◌++◌, ◌+◌, ◌-◌, ◌<◌, ◌==◌, ◌∙◌, ◌∷◌, ◌≡◌, ◌≤◌, ◌⊎◌}
pub use Rattle.std.proofs.Math.ListN.{get_or-map}
pub use Rattle.std.proofs.lemmas.Bool.{and_parts, cases_Bool, eq-eqb, eqb-true, false_from_ne_true, false≢true}
pub use Rattle.std.proofs.lemmas.Bool.{or_cases, or_left, or_right, true≢false}
pub use Rattle.std.proofs.lemmas.List.{append_assoc, get_or_default, length-map, length-set, map-append, map-set}
pub use Rattle.std.proofs.lemmas.List.{take_all}
pub use Rattle.std.specs.Option.{IsSome, option_map, unwrap_or}
pub use Rattle.std.specs.Prelude.{slice_index_or, slice_set}
pub use Rattle.ref_base.specs.CollectorRows.{HeapAccepts, IsHeapRow, list_at, reference_of, referent_of, shown, ticked}
pub use Rattle.ref_base.specs.CollectorRows.{with_world, without}
pub use Rattle.ref_base.specs.Collectors.{State, joined}
pub use Rattle.ref_base.specs.DoomedSets.{refers_into}
pub use Rattle.ref_base.specs.Forgetting.{forgotten, heap_but}
pub use Rattle.ref_base.specs.Graphs.{Object, Reference, is_there, numbers, object_at}
pub use Rattle.ref_base.specs.HeapSteps.{NamedStep}
pub use Rattle.ref_base.specs.Heaps.{Heap, changed_in, changed_reference, cleared, cut, one_more, reference_at}
pub use Rattle.ref_base.specs.Heaps.{reference_in, registered_in, slot_at, with_changed, with_hold, with_reference}
pub use Rattle.ref_base.specs.KeptPaths.{is_kept}
pub use Rattle.ref_base.specs.Members.{AreDistinct, has, rest_of}
pub use Rattle.ref_base.specs.Paths.{Allowed, present, soft_and_weak_referents, targets_at, targets_of}
pub use Rattle.ref_base.specs.Refusals.{clear_refusal, has_slot, heap_refusal, holds_refusal, is_empty, is_in, unless}
pub use Rattle.ref_base.specs.Refusals.{work_refusal}
pub use Rattle.ref_base.specs.Strengths.{IsRising}
pub use Rattle.ref_base.specs.Worlds.{Pending, World, graph_of, pending_numbers}
pub use Rattle.ref_base.specs.declared.cause.Cause.TheVariants.{Cycle, Own}
pub use Rattle.ref_base.specs.declared.config.Config.{Config}
pub use Rattle.ref_base.specs.declared.fault.Fault.{Fault}
pub use Rattle.ref_base.specs.declared.fault.Fault.TheVariants.{WrongPhase}
pub use Rattle.ref_base.specs.declared.phase.Phase.TheVariants.{Clearing, Idle, Marking, Sweeping}
pub use Rattle.ref_base.specs.declared.reply.Reply.{Reply}
pub use Rattle.ref_base.specs.declared.urgency.Urgency.{Urgency}
pub use Rattle.ref_space.specs.Worklists.{Worklist, emptied_list, empty_worklist, with_more}
pub use Rattle.ref_space.specs.Tables.{Tag}
pub use Rattle.ref_objects.specs.Grounds.{Ground, IsWellFormed, cleared_in_at, mint_refusal, unmarked}
pub use Rattle.ref_mark.specs.Chains.{is_tagged, linked_last_of, listed, no_chain}
pub use Rattle.ref_mark.specs.CycleHeaps.{CycleHeap, barred, cut_at, cycle_begun, cycle_ended, cycle_in_phase, doomed}
pub use Rattle.ref_mark.specs.CycleHeaps.{grey_scanned}
pub use Rattle.ref_mark.specs.CycleHeaps.{is_black, is_doomed, is_in_cycle, is_past_mark, is_to_clear, is_white}
pub use Rattle.ref_mark.specs.CycleHeaps.{shaded_all, sweep_begun, with_cleared, with_found_taken, with_made}
pub use Rattle.ref_mark.specs.MarkCalls.{MarkerDoes, after_in_cycle, after_mint_in, answer_in_cycle, done_in}
pub use Rattle.ref_mark.specs.MarkCalls.{is_of_marking, mint_answer_in, refusal_in_cycle, unless_refused}
pub use Rattle.ref_mark.specs.MarkViews.{ground_of}
pub use Rattle.ref_mark.specs.Standing.{FactsBut, MarkStands, ReadsAs, shown_heap, unsaid}
pub use Rattle.ref_space.specs.Worklists.{first_in, listed_at}
pub use Rattle.ref_mark.specs.declared.chain.Chain.{Chain}
pub use Rattle.ref_clear.specs.ClearCalls.{HeapDoes, after_in, answer_in, answer_of_unhook, queue_in}
pub use Rattle.ref_clear.specs.ClearCalls.{refusal_in}
pub use Rattle.ref_clear.specs.ClearHeaps.{ClearHeap, begun_with, handed_from, heap_pended, holding, looked_from}
pub use Rattle.ref_clear.specs.ClearHeaps.{pending_at, swept_some, unhooked_from, with_mark, without_tags}
pub use Rattle.ref_clear.specs.ClearViews.{AreRegistered, AreSoundLists, IsSoundHeap, ListWhite, MaySweep, lists_in}
pub use Rattle.ref_clear.specs.ClearViews.{pending_by, pending_from, pending_in, pending_lists_of, pendings_in}
pub use Rattle.ref_clear.specs.ClearViews.{seen_heap, seen_lists}
pub use Rattle.ref_clear.specs.Standing.{ArePending, HeapStands}
