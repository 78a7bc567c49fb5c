-- A scan of an object of the table, as a scan of that of the heap.
use Rattle.ref_objects.proofs.Common.{◌≡◌, ◌≤◌, ℕ, Bool, refl, sym, subst, ◌∙◌, ap, List, Option}
use Rattle.ref_objects.proofs.Common.{IsRising}
use Rattle.ref_objects.proofs.Common.{Stored, seen_ground, IsSoundObjects, ground_healed, all_marked}
use Rattle.ref_objects.proofs.Common.{object_at, tabled_at, objects_of, numbers, refers_into, Reference, Table}
use Rattle.ref_base.proofs.NewClears.{refers_into-same}
use Rattle.ref_space.proofs.ScanLemmas.{round-scanned}
use Rattle.ref_space.specs.Tables.{is_unmarked_at, marked_each, anew_each, table_scanned, with_healed, scanned_values}
use Rattle.ref_space.specs.Tables.{MayList, object_in}
use Rattle.ref_space.specs.Worklists.{Worklist}
use Rattle.ref_space.specs.Tables.{RoundView}
use Rattle.ref_space.proofs.TabledLemmas.{map-changed, object_at-objects_of}
use Rattle.ref_objects.specs.Grounds.{ground_scanned, is_unmarked, MayGrow, all_newly_marked}
use Rattle.ref_objects.proofs.MarkLemmas.{is_unmarked-tabled}
use Rattle.ref_objects.proofs.MarkedLemmas.{seen_healed}
use Rattle.ref_objects.proofs.SlotLemmas.{marked_each-seen, marked_each-sound, anew_each-seen, rising_marked_each}
use Rattle.ref_objects.proofs.SoundLemmas.{healed_sound}
use Rattle.std.proofs.lemmas.List.{length-map}

-- a list that may grow has room for what the table marks
pub may_list : (s : Stored) (l : Worklist) → MayGrow (seen_ground s) l → MayList s.table l
may_list s l may = record {
  room = subst (λ count. count ≤ l.room) (length-map s.table.tabled (λ k. k.object)) may.room;
  marked = may.marked;
}

module _ (keeps : Reference → Bool) {s : Stored} (sound : IsSoundObjects s)
    (rising : IsRising (numbers (objects_of s.table.tabled))) (n : ℕ) where
  abbrev held : List (Option ℕ)
  held = scanned_values keeps (object_in (tabled_at s.table.tabled n))

  rising_then : IsRising (numbers (objects_of (marked_each s.table held).tabled))
  rising_then = rising_marked_each s.table held rising

  -- what is marked is what the object of the heap has
  held_seen : held ≡ scanned_values keeps (object_at (seen_ground s).heap.objects n)
  held_seen = ap (scanned_values keeps) (sym (object_at-objects_of s.table.tabled n))

  pub scanned_sound : IsSoundObjects (record s { table = table_scanned keeps s.table n })
  scanned_sound = healed_sound (marked_each-sound held sound rising) rising_then n

  pub scanned_seen : seen_ground (record s { table = table_scanned keeps s.table n })
      ≡ ground_scanned keeps (seen_ground s) n
  scanned_seen =
      seen_healed (marked_each-sound held sound rising).ground rising_then n
      ∙ ap (λ g. ground_healed g n) (marked_each-seen held sound rising)
      ∙ ap (λ vs. ground_healed (all_marked (seen_ground s) vs) n) held_seen

  pub listed_seen : anew_each s.table held
      ≡ all_newly_marked (seen_ground s) (scanned_values keeps (object_at (seen_ground s).heap.objects n))
  listed_seen = anew_each-seen held sound rising ∙ ap (all_newly_marked (seen_ground s)) held_seen

  rising_after : IsRising (numbers (objects_of (table_scanned keeps s.table n).tabled))
  rising_after =
      let marked : Table = marked_each s.table held in
      rw (map-changed (λ k. k.object) (with_healed marked.round.number) (λ k. refl) marked.tabled n) rising_then

  -- what is asked of a reference then
  pub refers_seen : (after : Table) → after ≡ table_scanned keeps s.table n → (r : Option Reference)
      → refers_into (is_unmarked_at s.table.round.number after.tabled) r
      ≡ refers_into (is_unmarked (seen_ground (record s { table = after }))) r
  refers_seen after is = refers_into-same _ _ (λ m.
      ap (λ (r : RoundView). is_unmarked_at r.number after.tabled m)
      (sym (ap (λ (t : Table). t.round) is ∙ round-scanned keeps s.table n))
      ∙ sym (is_unmarked-tabled after.round.number after.tabled m
      (subst (λ (t : Table). IsRising (numbers (objects_of t.tabled))) (sym is) rising_after)))
