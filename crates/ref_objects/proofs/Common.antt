-- The words of std and of the model that several proofs cite, passed on from one place. Declares nothing.
pub use Rattle.std.proofs.Common.{Bool, List, None, Option, Some, [], ap, arith, false, if◌then◌else◌, inl, inr, length}
pub use Rattle.std.proofs.Common.{map, nat_lt, not, refl, replicate, rules, subst, suc, sym, true, zero, ℕ, ◌&&◌, ◌*◌}
pub use Rattle.std.proofs.Common.{◌/◌, ◌%◌}
pub use Rattle.std.proofs.Common.{◌++◌, ◌+◌, ◌-◌, ◌<◌, ◌==◌, ◌^◌, ◌∙◌, ◌∷◌, ◌≡◌, ◌≤◌}
pub use Rattle.std.proofs.lemmas.Bool.{cases_Bool, eq-eqb, eqb-true, false≢true, le-ltb, lt-ltb}
pub use Rattle.std.proofs.lemmas.List.{length-map, length-replicate, length-set, map-append}
pub use Rattle.std.specs.Int.{from_bool}
pub use Rattle.std.specs.Option.{is_none, is_some, option_map}
pub use Rattle.std.specs.Prelude.{slice_index_or}
pub use Rattle.ref_base.specs.CollectorRows.{reference_of, referent_of}
pub use Rattle.ref_base.specs.DoomedSets.{refers_into}
pub use Rattle.ref_base.specs.Forgetting.{forgotten}
pub use Rattle.ref_base.specs.Graphs.{Object, Reference, is_there, numbers, object_at}
pub use Rattle.ref_base.specs.Heaps.{changed_at, cleared, nulls, one_fewer, one_more, reference_at, reference_in}
pub use Rattle.ref_base.specs.Heaps.{slot_at, with_changed, with_field, with_hold, with_reference, with_slot}
pub use Rattle.ref_base.specs.Heaps.{with_stamp, without_hold}
pub use Rattle.ref_base.specs.Limits.{is_within_limits}
pub use Rattle.ref_base.specs.Members.{has}
pub use Rattle.ref_base.specs.Paths.{if_any, present}
pub use Rattle.ref_base.specs.Strengths.{IsRising}
pub use Rattle.ref_space.specs.Tables.{AllUpTo, Table, Tabled, Tag, blanked_unless_marked, change_of, changed}
pub use Rattle.ref_space.specs.Tables.{changed_tabled, counted_in, fields_in, first_where, has_field, held_at, held_at}
pub use Rattle.ref_space.specs.Tables.{holds_in, holds_of, is_marked_in, is_unmarked_at, is_unmarked_in, less_held}
pub use Rattle.ref_space.specs.Tables.{made_entry, made_of, marked_of, may_hold, numbers_by, objects_of, on_object}
pub use Rattle.ref_space.specs.Tables.{slotted, slotted, table_blanked, table_freed, table_look, table_looked_at}
pub use Rattle.ref_space.specs.Tables.{table_begun, tabled_at, tabled_fields, tabled_fields, tabled_held}
pub use Rattle.ref_space.specs.Tables.{tabled_held, tabled_linked, tabled_reference, tabled_reference, tag_of, tags_of}
pub use Rattle.ref_space.specs.Tables.{unmarked_of, with_healed, with_marked, with_nothing_done, with_tabled}
pub use Rattle.ref_space.specs.Tables.{without_tabled}
pub use Rattle.ref_space.specs.declared.colour.Colour.{Colour}
pub use Rattle.ref_space.specs.declared.cell.Change.{Change}
pub use Rattle.ref_space.specs.declared.cell.Change.TheVariants.{ClearIn, ClearedIn, Cut, Link, Stamp}
pub use Rattle.ref_objects.specs.GroundViews.{IsSoundGround, IsSoundObjects, Stored, made_at, seen_ground, space_of}
pub use Rattle.ref_objects.specs.GroundViews.{AreSoundMoves, IsSoundMoves, with_slot_at, written}
pub use Rattle.ref_space.specs.Tables.{unhealed_of, without_number}
pub use Rattle.ref_objects.specs.Grounds.{Ground, IsClosed, IsSparedIfAny, NamesSpared, after_freeing, all_marked}
pub use Rattle.ref_objects.specs.Grounds.{all_newly_marked, changed_tag, ground_healed, ground_looked_at, ground_marked}
pub use Rattle.ref_objects.specs.Grounds.{ground_marked_if_any, ground_with_heap, is_spared, least_from, look_of}
pub use Rattle.ref_objects.specs.Grounds.{marks_begun}
pub use Rattle.ref_objects.specs.Grounds.{named_in, newly_marked, unmarked, with_condemned}
