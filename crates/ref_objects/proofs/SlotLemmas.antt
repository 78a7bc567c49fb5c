-- What the calls of a table that name an object by its slot read, change and mark, as the heap has it.
use Rattle.ref_objects.proofs.Common.{◌≡◌, ℕ, ◌+◌, ◌*◌, ◌^◌, ◌<◌, ◌≤◌, true, false, refl, sym, ◌∙◌, ap, arith}
use Rattle.ref_objects.proofs.Common.{if◌then◌else◌, List, [], ◌∷◌, ◌++◌, Option, Some, None, inl, inr, cases_Bool}
use Rattle.ref_objects.proofs.Common.{false≢true, eq-eqb, eqb-true, holds_of, is_none, is_some, option_map}
use Rattle.ref_objects.proofs.Common.{slice_index_or, has, present, Object, object_at, numbers, IsRising, Tabled, Table}
use Rattle.ref_objects.proofs.Common.{tabled_at, objects_of, has_field, on_object, with_field, changed, with_marked}
use Rattle.ref_objects.proofs.Common.{AllUpTo, change_of, Change, is_unmarked_in, seen_ground, Stored, Ground}
use Rattle.ref_objects.proofs.Common.{IsSparedIfAny, is_spared, named_in, ground_with_heap, all_marked}
use Rattle.ref_objects.proofs.Common.{all_newly_marked, written, referent_of, reference_of, refers_into, slot_at}
use Rattle.ref_objects.proofs.Common.{with_slot, ground_marked_if_any, newly_marked, IsSoundObjects}
use Rattle.ref_objects.proofs.Common.{held_at, slotted, tabled_held, made_of, is_unmarked_at, tabled_reference, if_any}
use Rattle.ref_base.specs.CollectorRows.{field_in}
use Rattle.ref_base.specs.Heaps.{changed_in, stored}
use Rattle.ref_base.specs.Refusals.{field_refusal, unless}
use Rattle.ref_base.specs.declared.fault.Fault.TheVariants.{BadField}
use Rattle.ref_base.proofs.HasLaws.{has-append, has-left}
use Rattle.ref_base.proofs.NewClears.{refers_into-same}
use Rattle.ref_objects.specs.Grounds.{is_unmarked}
use Rattle.ref_space.specs.Tables.{tabled_if, changed_if, changed_held, field_held}
use Rattle.ref_space.specs.Tables.{marked_if, anew_if, marked_each, anew_each, NoneNames}
use Rattle.ref_space.specs.Tables.{IsUnnamed, field_in_cell, values_in}
use Rattle.ref_space.specs.declared.kept.NewReference.{NewReference}
use Rattle.ref_space.proofs.TabledLemmas.{object_at-objects_of, is_there-objects_of, map-changed}
use Rattle.ref_space.proofs.ChangeLemmas.{changed-past}
use Rattle.ref_objects.proofs.MarkLemmas.{is_unmarked-tabled}
use Rattle.ref_objects.proofs.MarkedLemmas.{seen_marked}
use Rattle.ref_space.proofs.TableReads.{fields-tabled, reference-tabled, has_field-tabled}
use Rattle.ref_objects.proofs.GroundLemmas.{seen_changed}
use Rattle.ref_objects.proofs.GroundLemmas.{with_made_at, seen_written}
use Rattle.ref_space.proofs.CountLemmas.{IsRising-tail}
use Rattle.ref_objects.proofs.SparedLemmas.{spared_slot, spared_field, spared_referent}
use Rattle.ref_objects.proofs.SoundLemmas.{slot_sound, slot_spared, field_sound, written_sound, made_sound}
use Rattle.ref_objects.proofs.SoundLemmas.{brought_sound, marked_sound}
use Rattle.ref_objects.proofs.Common.{made_entry, with_slot_at, with_tabled}
use Rattle.ref_objects.proofs.MoveLemmas.{seen_brought}
use Rattle.ref_objects.specs.Grounds.{ground_brought}
use Rattle.ref_space.specs.Tables.{brought as table_brought, left_of, with_read, without_if_any}
use Rattle.ref_space.specs.Tables.{referent_held, table_got, word_name}
use Rattle.ref_space.specs.declared.word_name.WordName.{WordName}

-- the table as a load leaves it, and as a store does
abbrev pub table_loaded : Table → Option WordName → ℕ → ℕ → ℕ → Table
table_loaded t word into from i =
    if has_field (tabled_held t from) i
    then slotted (table_brought (with_read t word) (field_held (tabled_held t from) i)) into
    (field_held (tabled_held t from) i)
    else t

abbrev table_stored : Table → ℕ → ℕ → ℕ → Table
table_stored t into i from = changed_held t into (on_object (with_field i (held_at t from)))

-- another word is the one that was read last: nothing is seen of that
pub read_sound : {s : Stored} → IsSoundObjects s → (word : Option WordName)
    → IsSoundObjects (record s { table = with_read s.table word })
read_sound sound word = record {
  ground = record {
    within = sound.ground.within;
    room = sound.ground.room;
    slot_count = sound.ground.slot_count;
    counted = sound.ground.counted;
    given = sound.ground.given;
    bounded = sound.ground.bounded;
  };
  moves = sound.moves;
  closed = sound.closed;
}

module _ {s : Stored} (sound : IsSoundObjects s) where
  -- what is seen of the fields
  abbrev was : Ground
  was = seen_ground s

  -- ---- what is read

  -- of the object that a slot holds, if any
  pub reference-held : (value : Option ℕ)
      → tabled_reference (tabled_if s.table.tabled value) ≡ reference_of was.heap value
  reference-held None = refl
  reference-held (Some n) = reference-tabled s.table.tabled n

  pub field-held : (value : Option ℕ) (i : ℕ)
      → field_held (tabled_if s.table.tabled value) i ≡ field_in was.heap value i
  field-held None i = refl
  field-held (Some n) i = grind (arith, object_at-objects_of)

  -- a field that isn't there is refused
  pub refusal-held : (value : Option ℕ) (i : ℕ) → is_none value ≡ false
      → field_refusal was.heap value i ≡ unless (has_field (tabled_if s.table.tabled value) i) BadField None
  refusal-held None i some = absurd (false≢true (sym some))
  refusal-held (Some n) i some = ap (λ b. unless b BadField None) (sym (has_field-tabled s.table.tabled n i))

  -- what a slot of a mutator holds, and what a call that names a field of its object is refused
  module _ {g : Ground} (view : was ≡ g) (m a place : ℕ) (at : place ≡ 16 * m + a) where
    pub held-slot : held_at s.table place ≡ slot_at g.heap m a
    held-slot = grind arith

    pub field-slot : (i : ℕ) → field_held (tabled_held s.table place) i ≡ field_in g.heap (slot_at g.heap m a) i
    field-slot i = grind (arith, field-held (held_at s.table place) i)

    pub refusal-slot : (i : ℕ) → is_none (held_at s.table place) ≡ false
        → field_refusal g.heap (slot_at g.heap m a) i
        ≡ unless (has_field (tabled_held s.table place) i) BadField None
    refusal-slot i some = grind (arith, refusal-held (held_at s.table place) i some)

  -- whether it refers to what isn't marked
  pub unmarked-held : IsRising (numbers (objects_of s.table.tabled)) → (value : Option ℕ)
      → refers_into (is_unmarked_at s.table.round.number s.table.tabled) (tabled_reference
      (tabled_if s.table.tabled value))
      ≡ refers_into (is_unmarked was) (reference_of was.heap value)
  unmarked-held rising value = search (refers_into-same, is_unmarked-tabled, reference-held)

  -- a spared object is there
  pub spared_there : {g : Ground} → was ≡ g → (n : ℕ) → is_spared g n ≡ true
      → (if is_some (tabled_at s.table.tabled n) then Some n else None) ≡ Some n
  spared_there view n spared = grind (arith, is_there-objects_of)

  -- ---- what is written

  -- the slot holds an object, which has moved if it was still to
  put_sound : (word : Option WordName) (place : ℕ) (value : Option ℕ) → IsSparedIfAny was value
      → left_of (table_brought (with_read s.table word) value) ≡ without_if_any (left_of s.table) value
      → IsSoundObjects (record s { table = slotted (table_brought (with_read s.table word) value) place value })
  put_sound word place value spared left =
      slot_sound (brought_sound (read_sound sound word) value refl left) place value
      (seen_brought (record s { table = with_read s.table word }) value
      (table_brought (with_read s.table word) value) refl left) spared

  seen_put : (word : Option WordName) (place : ℕ) (value : Option ℕ)
      → left_of (table_brought (with_read s.table word) value) ≡ without_if_any (left_of s.table) value
      → seen_ground (record s { table = slotted (table_brought (with_read s.table word) value) place value })
      ≡ with_slot_at (ground_brought was value) place value
  seen_put word place value left =
      ap (λ g. with_slot_at g place value)
      (seen_brought (record s { table = with_read s.table word }) value
      (table_brought (with_read s.table word) value) refl left)

  -- the slot holds the field of an object that another holds, if there is such a field
  module _ (word : Option WordName) (into from i : ℕ)
      (left : left_of (table_loaded s.table word into from i)
      ≡ without_if_any (left_of s.table) (field_held (tabled_held s.table from) i)) where
    pub loaded_sound : IsSoundObjects (record s { table = table_loaded s.table word into from i })
    loaded_sound =
        elim (cases_Bool (has_field (tabled_held s.table from) i)) [
          | inl there ↦
              simp there
              (put_sound word into (field_held (tabled_held s.table from) i) (spared_held (held_at s.table from))
              (simp there at left))
          | inr past ↦ simp past sound
        ]
      where
        spared_held : (value : Option ℕ) → IsSparedIfAny was (field_held (tabled_if s.table.tabled value) i)
        spared_held None = tt
        spared_held (Some n) =
            spared_field was sound.closed n i _ (ap (λ fs. slice_index_or fs i None) (fields-tabled s.table.tabled n))

  -- and is as it was where there is none
  module _ {g : Ground} (view : was ≡ g) (m into from i place object : ℕ) (place_at : place ≡ 16 * m + into)
      (object_at : object ≡ 16 * m + from) (word : Option WordName) where
    pub seen_loaded : left_of (table_loaded s.table word place object i)
        ≡ without_if_any (left_of s.table) (field_held (tabled_held s.table object) i)
        → has_field (tabled_held s.table object) i ≡ true
        → seen_ground (record s { table = table_loaded s.table word place object i })
        ≡ ground_with_heap (ground_brought g (field_in g.heap (slot_at g.heap m from) i))
        (with_slot g.heap m into (field_in g.heap (slot_at g.heap m from) i))
    seen_loaded left there =
        simp there (seen_put word place (field_held (tabled_held s.table object) i) (simp there at left))
        ∙ ap (λ (h : Ground). with_slot_at (ground_brought h (field_held (tabled_held s.table object) i)) place
        (field_held (tabled_held s.table object) i)) view
        ∙ ap (λ w. with_slot_at (ground_brought g w) place w) (field-slot view m from object object_at i)
        ∙ ap (λ p. with_slot_at (ground_brought g (field_in g.heap (slot_at g.heap m from) i)) p
        (field_in g.heap (slot_at g.heap m from) i)) place_at

    pub seen_unloaded : has_field (tabled_held s.table object) i ≡ false
        → seen_ground (record s { table = table_loaded s.table word place object i }) ≡ g
    seen_unloaded past = simp past view

  -- the slot holds the referent of a reference that another holds
  module _ (into from : ℕ)
      (left : left_of (table_got s.table into from)
      ≡ without_if_any (left_of s.table) (referent_held s.table from)) where
    pub got_sound : IsSoundObjects (record s { table = table_got s.table into from })
    got_sound =
        put_sound (word_name (held_at s.table from) None) into (referent_held s.table from)
        (spared_held (held_at s.table from)) left
      where
        spared_held : (value : Option ℕ)
            → IsSparedIfAny was (referent_of (tabled_reference (tabled_if s.table.tabled value)))
        spared_held None = tt
        spared_held (Some n) = spared_referent was sound.closed n _ (ap referent_of (sym (reference-held (Some n))))

    pub seen_got : {g : Ground} → was ≡ g → (value : Option ℕ) → referent_held s.table from ≡ value
        → seen_ground (record s { table = table_got s.table into from })
        ≡ with_slot_at (ground_brought g value) into value
    seen_got {g} view value is =
        seen_put (word_name (held_at s.table from) None) into (referent_held s.table from) left
        ∙ ap (λ (h : Ground). with_slot_at (ground_brought h (referent_held s.table from)) into
        (referent_held s.table from)) view
        ∙ ap (λ w. with_slot_at (ground_brought g w) into w) is

  -- what a get is told to answer is that referent
  pub got_value : {g : Ground} → was ≡ g → (from : ℕ) (value : Option ℕ) → is_some value ≡ true
      → ((n : ℕ) → value ≡ Some n → referent_of (reference_of g.heap (slice_index_or g.heap.slots from None)) ≡ Some n)
      → referent_held s.table from ≡ value
  got_value view from None some read = absurd (false≢true some)
  got_value view from (Some n) some read =
      ap referent_of (reference-held (held_at s.table from))
      ∙ ap (λ (h : Ground). referent_of (reference_of h.heap (slice_index_or h.heap.slots from None))) view
      ∙ read n refl

  -- a field of the object that a slot holds is written
  changed_sound : (value : Option ℕ) (i from : ℕ)
      → IsSoundObjects (record s {
        table = changed_if s.table value (on_object (with_field i (held_at s.table from)));
      })
  changed_sound None i from = sound
  changed_sound (Some n) i from = field_sound sound n i (held_at s.table from) refl (slot_spared sound refl from refl)

  pub stored_sound : (into i from : ℕ) → IsSoundObjects (record s { table = table_stored s.table into i from })
  stored_sound into i from = changed_sound (held_at s.table into) i from

  seen_if : (value : Option ℕ) (f : Object → Object) → ((o : Object) → (f o).no ≡ o.no)
      → seen_ground (record s { table = changed_if s.table value (on_object f) })
      ≡ ground_with_heap was (changed_in was.heap value f)
  seen_if None f keeps = refl
  seen_if (Some n) f keeps = seen_changed sound.ground n f keeps

  module _ {g : Ground} (view : was ≡ g) (m into i from object value : ℕ) (object_at : object ≡ 16 * m + into)
      (value_at : value ≡ 16 * m + from) where
    pub seen_stored : seen_ground (record s { table = table_stored s.table object i value })
        ≡ ground_with_heap g (stored g.heap m into i from)
    seen_stored =
        grind (
          arith,
          seen_if (held_at s.table object) (with_field i (held_at s.table value)) (λ o. refl),
          held-slot view m into object object_at,
          held-slot view m from value value_at,
        )

  -- something else is written of it
  module _ (place n : ℕ) (change : Change) {g : Ground} (view : was ≡ g)
      (own : slice_index_or g.heap.slots place None ≡ Some n) where
    own_change : changed_held s.table place (change_of change) ≡ changed s.table n (change_of change)
    own_change = grind arith

    pub written_in_sound : IsSoundObjects (record s { table = changed_held s.table place (change_of change) })
    written_in_sound = rw own_change (written_sound sound n change)

    pub seen_written_in : seen_ground (record s { table = changed_held s.table place (change_of change) })
        ≡ written g n change
    seen_written_in = rw (own_change, ← view) (seen_written sound.ground n change)

  -- an object is made, which refers to what a slot holds if it is a reference
  pub new_sound : (place k : ℕ) (r : Option NewReference) → s.next < 2 ^ 32
      → left_of (with_tabled s.table place
      (made_entry s.table.round.number s.next k (option_map (made_of s.table.slots) r) s.condemning))
      ≡ left_of s.table
      → AllUpTo s.table.last (numbers (objects_of s.table.tabled)) → 1 ≤ s.table.round.number
      → IsSoundObjects (with_made_at s place k (option_map (made_of s.table.slots) r))
  new_sound place k r below left given begun =
      made_sound sound place k (option_map (made_of s.table.slots) r) below left given begun refl (spared_new r)
    where
      spared_new : (r : Option NewReference)
          → IsSparedIfAny was (referent_of (option_map (made_of s.table.slots) r))
      spared_new None = tt
      spared_new (Some r) = spared_slot was sound.closed r.from _ refl

-- a field that isn't there isn't written
changed_if-past : (t : Table) (value : Option ℕ) (i : ℕ) (what : Option ℕ)
    → has_field (tabled_if t.tabled value) i ≡ false → changed_if t value (on_object (with_field i what)) ≡ t
changed_if-past t None i what past = refl
changed_if-past t (Some n) i what past = changed-past t n i what past

pub changed_held-past : (t : Table) (into i : ℕ) (what : Option ℕ) → has_field (tabled_held t into) i ≡ false
    → changed_held t into (on_object (with_field i what)) ≡ t
changed_held-past t into i what past = changed_if-past t (held_at t into) i what past

-- what a load answers tells whether there was such a field
pub field_in_cell-some : (k : Option Tabled) (i : ℕ) (value : Option ℕ) → Some value ≡ field_in_cell k i
    → (has_field k i ≡ true) × (value ≡ field_held k i)
field_in_cell-some k i value is = grind arith

pub field_in_cell-none : (k : Option Tabled) (i : ℕ) → None ≡ field_in_cell k i → has_field k i ≡ false
field_in_cell-none k i is = grind arith

-- ---- marks

-- marks leave the numbers
rising_marked : (t : Table) (value : Option ℕ) → IsRising (numbers (objects_of t.tabled))
    → IsRising (numbers (objects_of (marked_if t value).tabled))
rising_marked t None rising = rising
rising_marked t (Some n) rising =
    grind (arith, map-changed (λ k. k.object) (with_marked t.round.number) (λ k. refl) t.tabled n)

module _ {s : Stored} (sound : IsSoundObjects s) (rising : IsRising (numbers (objects_of s.table.tabled))) where
  -- of what a slot or a field holds
  pub anew_if-seen : (value : Option ℕ) → anew_if s.table value ≡ newly_marked (seen_ground s) value
  anew_if-seen None = refl
  anew_if-seen (Some n) = grind (arith, is_unmarked-tabled)

  pub marked_if-seen : (value : Option ℕ)
      → seen_ground (record s { table = marked_if s.table value }) ≡ ground_marked_if_any (seen_ground s) value
  marked_if-seen None = refl
  marked_if-seen (Some n) = seen_marked sound.ground rising n

  pub marked_if-sound : (value : Option ℕ) → IsSoundObjects (record s { table = marked_if s.table value })
  marked_if-sound None = sound
  marked_if-sound (Some n) = marked_sound sound rising n

-- of several
pub marked_each-sound : (values : List (Option ℕ)) {s : Stored} → IsSoundObjects s
    → IsRising (numbers (objects_of s.table.tabled)) → IsSoundObjects (record s { table = marked_each s.table values })
marked_each-sound [] sound rising = sound
marked_each-sound (v ∷ vs) {s} sound rising =
    marked_each-sound vs (marked_if-sound sound rising v) (rising_marked s.table v rising)

pub rising_marked_each : (t : Table) (values : List (Option ℕ)) → IsRising (numbers (objects_of t.tabled))
    → IsRising (numbers (objects_of (marked_each t values).tabled))
rising_marked_each t [] rising = rising
rising_marked_each t (v ∷ vs) rising = rising_marked_each (marked_if t v) vs (rising_marked t v rising)

pub marked_each-seen : (values : List (Option ℕ)) {s : Stored} → IsSoundObjects s
    → IsRising (numbers (objects_of s.table.tabled))
    → seen_ground (record s { table = marked_each s.table values }) ≡ all_marked (seen_ground s) values
marked_each-seen [] sound rising = refl
marked_each-seen (v ∷ vs) {s} sound rising =
    marked_each-seen vs (marked_if-sound sound rising v) (rising_marked s.table v rising)
    ∙ ap (λ g. all_marked g vs) (marked_if-seen sound rising v)

pub anew_each-seen : (values : List (Option ℕ)) {s : Stored} → IsSoundObjects s
    → IsRising (numbers (objects_of s.table.tabled))
    → anew_each s.table values ≡ all_newly_marked (seen_ground s) values
anew_each-seen [] sound rising = refl
anew_each-seen (v ∷ vs) {s} sound rising =
    grind (
      arith,
      anew_if-seen sound rising v,
      marked_if-seen sound rising v,
      anew_each-seen vs (marked_if-sound sound rising v) (rising_marked s.table v rising),
    )

-- ---- what is condemned

-- numbers that rise from one on don't have it again
absent_above : (os : List Object) (n m : ℕ) → n ≤ m → IsRising (m ∷ numbers os) → object_at os n ≡ None
absent_above [] n m order rising = refl
absent_above (o ∷ os) n m order rising = grind (arith, absent_above os n o.no)

-- an object that names nothing by its fields or its referent has nothing in it
none_in : (referent : Option ℕ) (fields : List (Option ℕ)) (n : ℕ) → has (present fields ++ if_any referent) n ≡ false
    → has (present (referent ∷ fields)) n ≡ false
none_in None fields n none = grind (arith, has-append)
none_in (Some m) fields n none = grind (arith, has-append)

-- what no object names, none of the table's does
none_names : (ks : List Tabled) (n : ℕ) → IsRising (numbers (objects_of ks))
    → ((m : ℕ) → has (named_in (object_at (objects_of ks) m)) n ≡ false) → NoneNames ks n
none_names [] n rising none = tt
none_names (k ∷ ks) n rising none = (own, none_names ks n (IsRising-tail k.object.no _ rising) others)
  where
    own : has (present (values_in k)) n ≡ false
    own =
        none_in (referent_of k.object.reference) k.object.fields n
        (let here = none k.object.no in let same = eq-eqb k.object.no k.object.no refl in grind arith)

    others : (m : ℕ) → has (named_in (object_at (objects_of ks) m)) n ≡ false
    others m = let here = none m in grind (arith, eqb-true, absent_above (objects_of ks) m k.object.no)

-- nothing names what is condemned
pub condemned_unnamed : {s : Stored} → IsSoundObjects s → IsRising (numbers (objects_of s.table.tabled))
    → s.condemning ≡ true → (n : ℕ) → is_unmarked_in s.table.round.number (tabled_at s.table.tabled n) ≡ true
    → IsUnnamed s.table n
condemned_unnamed {s} sound rising condemned n unmarked = record {
  slots =
      unless_named (present s.table.slots)
      (λ named. sound.closed.rooted n (has-left (present s.table.slots) (holds_of s.table.tabled) n named));
  objects =
      none_names s.table.tabled n rising
      (λ m. unless_named (named_in (object_at (objects_of s.table.tabled) m)) (sound.closed.named m n));
}
  where
    unspared : is_spared (seen_ground s) n ≡ false
    unspared = grind (arith, is_unmarked-tabled)

    unless_named : (ns : List ℕ) → (has ns n ≡ true → is_spared (seen_ground s) n ≡ true) → has ns n ≡ false
    unless_named ns spared = grind (arith, unspared)
