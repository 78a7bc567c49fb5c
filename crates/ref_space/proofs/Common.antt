-- The words of std and of the model that several proofs cite, passed on from one place. Declares nothing.
pub use Rattle.std.proofs.Common.{Bool, List, None, Option, Some, [], ap, arith, drop, false, get_or, if◌then◌else◌}
pub use Rattle.std.proofs.Common.{inl, inr, length, map, nat_lt, not, refl, replicate, rules, set, subst, suc, sym}
pub use Rattle.std.proofs.Common.{take, true, vec_len, zero, ℕ, ◌%◌, ◌&&◌, ◌*◌, ◌++◌, ◌+◌, ◌-◌, ◌/◌, ◌<◌, ◌==◌, ◌^◌}
pub use Rattle.std.proofs.Common.{◌∙◌, ◌∷◌, ◌≡◌, ◌≤◌}
pub use Rattle.std.proofs.lemmas.Bool.{cases_Bool, eq-eqb, eqb-true, false≢true, le-ltb, lt-ltb}
pub use Rattle.std.proofs.lemmas.List.{append-nil, get_or-set_other, get_or-set_same, get_or_read, length-append}
pub use Rattle.std.proofs.lemmas.List.{length-map, length-replicate, length-set, length-take-le, length_push}
pub use Rattle.std.proofs.lemmas.List.{map-append}
pub use Rattle.std.proofs.lemmas.List.Edits.{map_over_more}
pub use Rattle.std.specs.Int.{from_bool}
pub use Rattle.std.specs.List.{filter}
pub use Rattle.std.specs.Option.{is_none, is_some, option_map}
pub use Rattle.std.specs.Prelude.{slice_index_or, slice_set}
pub use Rattle.std.specs.Vec.{vec_capacity}
pub use Rattle.ref_base.specs.CollectorRows.{referent_of}
pub use Rattle.ref_base.specs.Graphs.{Object, Reference, is_there, numbers, object_at}
pub use Rattle.ref_base.specs.Heaps.{changed_at, cleared, nulls, one_fewer, one_more, reference_in, with_field}
pub use Rattle.ref_base.specs.Members.{has}
pub use Rattle.ref_base.specs.Paths.{if_any, present}
pub use Rattle.ref_base.specs.Strengths.{IsRising}
pub use Rattle.ref_space.specs.ColouredWords.{place_by}
pub use Rattle.ref_space.specs.Naming.{Each, EachHeld, by_number, changed_of, leads_by, target_of, target_by}
pub use Rattle.ref_space.specs.Naming.{occupant_in}
pub use Rattle.ref_space.specs.Naming.{occupant_at, occupants_of, reference_by_number, tabled_of}
pub use Rattle.ref_space.specs.Pages.{Pages, Use, after_placing, next_cell, next_place, place_of, placing, taken_of}
pub use Rattle.ref_space.specs.Pages.{with_cell}
pub use Rattle.ref_space.specs.Places.{AllAbove, AreIndexed, IsPlaced, IsSoundNaming, IsSoundTable, NoneAbove}
pub use Rattle.ref_space.specs.Places.{Rises, at_place, before, blanked_cell, cell_at, cell_of_word, count_below}
pub use Rattle.ref_space.specs.Places.{first_entry, is_live, is_of, named_slots, named_tabled, place_if_live}
pub use Rattle.ref_space.specs.Places.{place_if_taken, place_in, place_of_word, seen_table, tabled_by, begun_cell}
pub use Rattle.ref_space.specs.Tables.{AllUpTo, IsOrderlyTable, IsUnnamed, NoneNames, Table, Tabled, anew_each}
pub use Rattle.ref_space.specs.Tables.{blanked_unless_marked, table_begun, change_of, changed, changed_if}
pub use Rattle.ref_space.specs.Tables.{changed_tabled}
pub use Rattle.ref_space.specs.Tables.{counted_in, field_held, field_in_cell, fields_in, first_where, has_field}
pub use Rattle.ref_space.specs.Tables.{held_at, held_at, holds_in, holds_of, is_marked_in, is_unmarked_in, less_held}
pub use Rattle.ref_space.specs.Tables.{made_entry, marked_each, marked_of, may_hold, numbers_by, object_in, objects_of}
pub use Rattle.ref_space.specs.Tables.{on_object, slotted, slotted, table_blanked, table_freed, table_look}
pub use Rattle.ref_space.specs.Tables.{table_looked_at, tabled_at, tabled_fields, tabled_fields}
pub use Rattle.ref_space.specs.Tables.{tabled_held, tabled_held, tabled_if, tabled_linked, tabled_reference}
pub use Rattle.ref_space.specs.Tables.{tabled_reference, unmarked_of, values_in, with_marked, with_tabled}
pub use Rattle.ref_space.specs.Tables.{without_tabled}
pub use Rattle.ref_space.specs.declared.cell.Change.{Change}
pub use Rattle.ref_space.specs.declared.cell.Change.TheVariants.{ClearIn}
pub use Rattle.ref_space.specs.declared.index.Entry.{Entry}
