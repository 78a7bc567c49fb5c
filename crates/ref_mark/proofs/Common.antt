-- The words of std and of the model that several proofs cite, passed on from one place. Declares nothing.
pub use Rattle.std.proofs.Common.{Bool, List, None, Option, Some, [], ap, arith, drop, false, get_or, if◌then◌else◌}
pub use Rattle.std.proofs.Common.{inl, inr, is_some, length, map, nat_lt, not, refl, replicate, set, subst, suc, sym}
pub use Rattle.std.proofs.Common.{take, true, zero, ℕ, ◌&&◌, ◌*◌, ◌++◌, ◌+◌, ◌<◌, ◌==◌, ◌||◌, ◌∙◌, ◌∷◌, ◌≡◌, ◌≤◌, ◌⊎◌}
pub use Rattle.std.proofs.lemmas.Bool.{and_parts, and_right, cases_Bool, eq-eqb, false_from_ne_true, false≢true, ne_eqb}
pub use Rattle.std.proofs.lemmas.Bool.{or_left, or_parts, or_right, true≢false}
pub use Rattle.std.proofs.lemmas.List.{append-nil, append_assoc, drop_all, length-append, length-map, length-replicate}
pub use Rattle.std.proofs.lemmas.List.{length-set, take_all}
pub use Rattle.std.specs.Option.{option_map}
pub use Rattle.std.specs.Prelude.{slice_index_or, slice_set}
pub use Rattle.ref_base.specs.CollectorRows.{HeapAccepts, field_in, list_at, on_heap, reference_of, referent_got}
pub use Rattle.ref_base.specs.CollectorRows.{referent_of, shown, ticked, value_reply}
pub use Rattle.ref_base.specs.Collectors.{State, joined}
pub use Rattle.ref_base.specs.DoomedSets.{any_is, is_new_clear, refers_into}
pub use Rattle.ref_base.specs.Forgetting.{forgotten, heap_but}
pub use Rattle.ref_base.specs.Graphs.{Graph, Object, Reference, is_there, numbers, object_at, plain_object}
pub use Rattle.ref_base.specs.HeapSteps.{NamedStep}
pub use Rattle.ref_base.specs.Heaps.{Heap, changed_at, changed_in, cleared, got, got_at, made, new_reference, nulls}
pub use Rattle.ref_base.specs.Heaps.{one_fewer, one_more, reference_at, reference_in, slot_at, with_changed}
pub use Rattle.ref_base.specs.Heaps.{with_reference, with_slot}
pub use Rattle.ref_base.specs.KeptPaths.{EverKept, is_kept}
pub use Rattle.ref_base.specs.Members.{AreDistinct, has, rest_of}
pub use Rattle.ref_base.specs.Orderly.{IsOrderly}
pub use Rattle.ref_base.specs.Paths.{Allowed, allowed_referent, if_any, present, soft_and_weak_referents, targets_at}
pub use Rattle.ref_base.specs.Paths.{targets_of}
pub use Rattle.ref_base.specs.Refusals.{field_refusal, get_refusal, has_slot, has_slots, is_empty, is_in, new_refusal}
pub use Rattle.ref_base.specs.Refusals.{refer_refusal, reference_refusal, unless, work_refusal}
pub use Rattle.ref_base.specs.Strengths.{IsRising}
pub use Rattle.ref_base.specs.Worlds.{World, graph_of, pending_numbers, with_heap}
pub use Rattle.ref_base.specs.declared.config.Config.{Config}
pub use Rattle.ref_base.specs.declared.fault.Fault.{Fault}
pub use Rattle.ref_base.specs.declared.fault.Fault.TheVariants.{NoSuchActor}
pub use Rattle.ref_base.specs.declared.phase.Phase.{Phase}
pub use Rattle.ref_base.specs.declared.phase.Phase.TheVariants.{Clearing, Idle, Marking, Moving, Sweeping}
pub use Rattle.ref_base.specs.declared.policy.Policy.{Policy}
pub use Rattle.ref_base.specs.declared.strength.Strength.{Strength}
pub use Rattle.ref_base.specs.declared.urgency.Urgency.{Urgency}
pub use Rattle.ref_space.specs.Tables.{Tag, fields_in}
pub use Rattle.ref_objects.specs.declared.start.Start.{Start}
pub use Rattle.ref_objects.specs.Grounds.{Ground, IsInOrder, IsWellFormed, Space, all_marked, all_newly_marked}
pub use Rattle.ref_objects.specs.Grounds.{cleared_in_at, ground_with_heap, healed, least_from, link_at, look_of}
pub use Rattle.ref_objects.specs.Grounds.{brought, ground_brought, occupied}
pub use Rattle.ref_objects.specs.Grounds.{unmarked, with_cleared_tag, with_link, with_new_tag, without_tag}
pub use Rattle.ref_mark.specs.Chains.{AreChains, chain_first, chain_with, chain_without_first, is_tagged, linked_last}
pub use Rattle.ref_mark.specs.Chains.{linked_last_of, listed, lists_of, no_chain, walk}
pub use Rattle.ref_mark.specs.CycleHeaps.{CycleHeap, barred, cycle_begun, cycle_brought, cycle_in_phase, doomed}
pub use Rattle.ref_mark.specs.CycleHeaps.{first_cycle_heap}
pub use Rattle.ref_mark.specs.CycleHeaps.{grey_scanned, is_black, is_doomed, is_due, is_in_cycle, is_past_mark}
pub use Rattle.ref_mark.specs.CycleHeaps.{is_white, roots_of, shaded, shaded_all, shaded_if_any, undoomed, value_got}
pub use Rattle.ref_mark.specs.CycleHeaps.{whitened, with_cleared, with_found, with_got, with_made, young}
pub use Rattle.ref_mark.specs.MarkCalls.{done_in, refusal_in_cycle, unless_refused}
pub use Rattle.ref_mark.specs.MarkViews.{IsSoundMarker, MayFind, MayGrey, found_in, ground_of, seen_marker}
pub use Rattle.ref_mark.specs.Standing.{AreThere, Coloured, FactsBut, FoundBut, MarkStands, Reached, ReadsAs}
pub use Rattle.ref_mark.specs.Standing.{shown_heap, unsaid}
pub use Rattle.ref_space.specs.Worklists.{Worklist, first_in, listed_at}
pub use Rattle.ref_mark.specs.declared.chain.Chain.{Chain}
