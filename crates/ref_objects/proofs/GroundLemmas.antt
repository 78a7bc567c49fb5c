-- What the fields of a heap's objects say as a heap, and what keeps them sound.
use Rattle.ref_objects.proofs.Common.{◌≡◌, ℕ, ◌+◌, ◌-◌, ◌^◌, ◌<◌, ◌≤◌, Bool, true, false, ◌==◌, nat_lt, refl}
use Rattle.ref_objects.proofs.Common.{if◌then◌else◌, ap, arith, List, [], ◌∷◌, ◌++◌, length, Option, Some, None}
use Rattle.ref_objects.proofs.Common.{is_some, length-set, length-map, map-append, has, Object, Reference, numbers}
use Rattle.ref_objects.proofs.Common.{IsRising, one_more, Tabled, tabled_at, objects_of, holds_of, holds_in, on_object}
use Rattle.ref_objects.proofs.Common.{less_held, changed, changed_tabled, made_entry, with_tabled, AllUpTo, least_from}
use Rattle.ref_objects.proofs.Common.{seen_ground, IsSoundGround, one_fewer, tags_of, marked_of, from_bool}
use Rattle.ref_objects.proofs.Common.{with_changed, changed_at, with_reference, cleared, with_hold, without_hold}
use Rattle.ref_objects.proofs.Common.{tag_of, Tag, ground_with_heap, after_freeing, changed_tag, Stored, made_at}
use Rattle.ref_objects.proofs.Common.{written, Change, Cut, Stamp, ClearedIn, ClearIn, Link, with_stamp}
use Rattle.ref_space.specs.Tables.{more_held}
use Rattle.ref_base.specs.Refusals.{object_refusal}
use Rattle.ref_base.specs.declared.fault.Fault.TheVariants.{NoCell}
use Rattle.ref_objects.specs.GroundViews.{heap_of}
use Rattle.ref_space.specs.Tables.{is_marked, is_healed}
use Rattle.ref_objects.proofs.Common.{unhealed_of, not, eq-eqb}
use Rattle.ref_space.proofs.PushLemmas.{made_marked}
use Rattle.ref_space.proofs.TabledLemmas.{objects_of-changed, map-changed, objects_of-without}
use Rattle.ref_objects.proofs.NumberLemmas.{has-numbers_by, numbers_by-more, least_from-below}
use Rattle.ref_space.proofs.CountLemmas.{length-changed, length-without, numbers_by-changed, numbers_by-made}
use Rattle.ref_space.proofs.CountLemmas.{numbers_by-without, numbers_by-fewer, numbers_by-last}
use Rattle.ref_space.proofs.MarkCounts.{marked_of-without}
use Rattle.ref_objects.proofs.MarkLemmas.{is_unmarked-tabled}
use Rattle.ref_objects.proofs.TagLemmas.{tags_of-without, tags_of-changed}
use Rattle.ref_objects.proofs.HealedLemmas.{unhealed_of-without}
use Rattle.ref_space.specs.Tables as table
use Rattle.ref_space.specs.Tables.{left_of}

-- ---- what is read

-- above the last number there is no hold
pub least_from-past : (ks : List Tabled) (last n : ℕ) → AllUpTo last (numbers (objects_of ks)) → last < n
    → least_from (holds_of ks) n ≡ None
least_from-past [] last n given past = refl
least_from-past (k ∷ ks) last n given past = grind (arith, least_from-below, least_from-past ks last n given.1 past)

-- ---- a new object

-- so many null fields and this reference are an object that the slot at a place holds
abbrev pub with_made_at : Stored → ℕ → ℕ → Option Reference → Stored
with_made_at s place k r = record s {
  table = with_tabled s.table place (made_entry s.table.round.number s.next k r s.condemning);
  next = s.next + 1;
}

-- the new object stands last among the marked, where it is marked
marked_of-made : (q : ℕ) (ks : List Tabled) (k : Tabled) (last : ℕ) → AllUpTo last (numbers (objects_of ks))
    → last < k.object.no → (b : Bool) → is_marked q k ≡ b
    → marked_of q (ks ++ k ∷ []) ≡ (if b then one_more (marked_of q ks) k.object.no else marked_of q ks)
marked_of-made q ks k last given above true is =
    numbers_by-last (λ k. from_bool (is_marked q k)) ks k last given above (ap from_bool is)
marked_of-made q ks k last given above false is =
    numbers_by-made (λ k. from_bool (is_marked q k)) ks k (ap from_bool is)

-- and is healed
unhealed_of-made : (q : ℕ) (ks : List Tabled) (n count : ℕ) (r : Option Reference) (marked : Bool)
    → unhealed_of q (ks ++ made_entry q n count r marked ∷ []) ≡ unhealed_of q ks
unhealed_of-made q ks n count r marked =
    numbers_by-made (λ k. from_bool (not (is_healed q k))) ks (made_entry q n count r marked)
    (ap (λ b. from_bool (not b)) (eq-eqb q q refl))

module _ {s : Stored} (sound : IsSoundGround s) where
  pub no_cell : (k : ℕ) → k ≤ 8 → s.next < 2 ^ 32 → (length s.table.tabled == s.table.room) ≡ true
      → object_refusal (heap_of s) s.next k ≡ Some NoCell
  no_cell k few below full = grind (arith, length-map)

  pub has_cell : (k : ℕ) → k ≤ 8 → s.next < 2 ^ 32 → length s.table.tabled < s.table.room
      → object_refusal (heap_of s) s.next k ≡ None
  has_cell k few below spare = grind (arith, length-map)

  pub sound_made : (place k : ℕ) (r : Option Reference) → s.next < 2 ^ 32
      → IsSoundGround (with_made_at s place k r)
  sound_made place k r below = grind (arith, length-set, numbers_by-made)

  pub seen_made : (place k : ℕ) (r : Option Reference)
      → left_of (with_tabled s.table place (made_entry s.table.round.number s.next k r s.condemning)) ≡ left_of s.table
      → AllUpTo s.table.last (numbers (objects_of s.table.tabled))
      → 1 ≤ s.table.round.number → seen_ground (with_made_at s place k r) ≡ made_at (seen_ground s) place k r
  seen_made place k r left given begun =
      search (
        left,
        map-append,
        numbers_by-made,
        marked_of-made s.table.round.number s.table.tabled
            (made_entry s.table.round.number s.next k r s.condemning) s.table.last given sound.given s.condemning
            (made_marked s.table.round.number s.next k r s.condemning begun),
        unhealed_of-made s.table.round.number s.table.tabled s.next k r s.condemning,
      )

  -- ---- an object changed

  pub sound_changed : (n : ℕ) (f : Tabled → Tabled) → ((k : Tabled) → (f k).object.no ≡ k.object.no)
      → ((k : Tabled) → (f k).holds ≡ k.holds) → IsSoundGround (record s { table = changed s.table n f })
  sound_changed n f keeps leaves = search numbers_by-changed

  pub seen_changed : (n : ℕ) (f : Object → Object) → ((o : Object) → (f o).no ≡ o.no)
      → seen_ground (record s { table = changed s.table n (on_object f) })
      ≡ ground_with_heap (seen_ground s) (with_changed (heap_of s) n f)
  seen_changed n f keeps = grind (arith, objects_of-changed, numbers_by-changed, map-changed)

  -- a change of an object's tag alone
  seen_tagged : (n : ℕ) (f : Tabled → Tabled) (g : Tag → Tag) → ((k : Tabled) → (f k).object ≡ k.object)
      → ((k : Tabled) → (f k).holds ≡ k.holds) → ((k : Tabled) → (f k).marked_in ≡ k.marked_in)
      → ((k : Tabled) → (f k).healed_in ≡ k.healed_in) → ((k : Tabled) → tag_of (f k) ≡ g (tag_of k))
      → seen_ground (record s { table = changed s.table n f })
      ≡ record (seen_ground s) { tags = changed_tag (tags_of s.table.tabled) n g }
  seen_tagged n f g object holds marked healed is =
      grind (arith, map-changed, numbers_by-changed, tags_of-changed s.table.tabled n f g is)

  -- an object's reference is cleared, in this cycle
  seen_cleared : (n cycle : ℕ)
      → seen_ground (record s { table = changed s.table n (table.change_of (ClearIn cycle)) })
      ≡ written (seen_ground s) n (ClearIn cycle)
  seen_cleared n cycle =
      grind (
        arith,
        objects_of-cleared,
        numbers_by-changed,
        tags_of-changed s.table.tabled n (table.change_of (ClearIn cycle)) (λ t. record t { cleared_in = cycle })
            (λ k. refl),
      )
    where
      objects_of-cleared : (ks : List Tabled)
          → objects_of (changed_tabled ks n (table.change_of (ClearIn cycle)))
          ≡ changed_at (objects_of ks) n (with_reference cleared)
      objects_of-cleared [] = refl
      objects_of-cleared (k ∷ ks) = grind (arith, objects_of-cleared ks)

  -- what is written of it
  pub seen_written : (n : ℕ) (change : Change)
      → seen_ground (record s { table = changed s.table n (table.change_of change) })
      ≡ written (seen_ground s) n change
  seen_written n Cut = seen_changed n (with_reference cleared) (λ o. refl)
  seen_written n (Stamp stamp) = seen_changed n (with_reference (with_stamp stamp)) (λ o. refl)
  seen_written n (ClearIn cycle) = seen_cleared n cycle
  seen_written n (ClearedIn cycle) = search seen_tagged
  seen_written n (Link to) = search seen_tagged

-- ---- holds

-- an object is held exactly where its number is among the holds
pub has-holds_of : (ks : List Tabled) (n : ℕ) → IsRising (numbers (objects_of ks))
    → has (holds_of ks) n ≡ nat_lt 0 (holds_in (tabled_at ks n))
has-holds_of = has-numbers_by (λ k. k.holds)

-- one hold more of an object is one more among the holds
holds_of-added : (ks : List Tabled) (n : ℕ) → IsRising (numbers (objects_of ks)) → is_some (tabled_at ks n) ≡ true
    → holds_of (changed_tabled ks n more_held) ≡ one_more (holds_of ks) n
holds_of-added ks n rising there =
    numbers_by-more (λ k. k.holds) more_held (λ k. refl) ks n rising there (λ k is. omega arith)

-- and one less of one that is held is one fewer
holds_of-dropped : (ks : List Tabled) (n : ℕ) → 0 < holds_in (tabled_at ks n)
    → holds_of (changed_tabled ks n less_held) ≡ one_fewer (holds_of ks) n
holds_of-dropped ks n held = grind (arith, numbers_by-fewer)

module _ {s : Stored} (sound : IsSoundGround s) (n : ℕ) where
  pub sound_added : is_some (tabled_at s.table.tabled n) ≡ true
      → IsSoundGround (record s { table = changed s.table n more_held; holds = s.holds + 1 })
  sound_added there = grind (arith, length-changed)

  pub sound_dropped : 0 < holds_in (tabled_at s.table.tabled n)
      → IsSoundGround (record s { table = changed s.table n less_held; holds = s.holds - 1 })
  sound_dropped held = grind (arith, length-changed)

  -- ---- an object goes

  -- of one that nobody holds no hold is counted
  pub sound_freed : holds_in (tabled_at s.table.tabled n) ≡ 0
      → IsSoundGround (record s { table = table.table_freed s.table n })
  sound_freed none = grind (arith, length-without)

  module _ (rising : IsRising (numbers (objects_of s.table.tabled))) where
    pub seen_added : is_some (tabled_at s.table.tabled n) ≡ true
        → seen_ground (record s { table = changed s.table n more_held; holds = s.holds + 1 })
        ≡ ground_with_heap (seen_ground s) (with_hold (heap_of s) n)
    seen_added there = search (map-changed, holds_of-added, numbers_by-changed)

    pub seen_dropped : 0 < holds_in (tabled_at s.table.tabled n)
        → seen_ground (record s { table = changed s.table n less_held; holds = s.holds - 1 })
        ≡ ground_with_heap (seen_ground s) (without_hold (heap_of s) n)
    seen_dropped held = search (map-changed, holds_of-dropped, numbers_by-changed)

    -- a condemned object goes
    pub seen_freed : s.condemning ≡ true → left_of (table.table_freed s.table n) ≡ left_of s.table
        → holds_in (tabled_at s.table.tabled n) ≡ 0
        → seen_ground (record s { table = table.table_freed s.table n }) ≡ after_freeing (seen_ground s) n
    seen_freed goes left none =
        grind (
          arith,
          left,
          is_unmarked-tabled,
          objects_of-without,
          numbers_by-without,
          marked_of-without,
          tags_of-without,
          unhealed_of-without,
        )
