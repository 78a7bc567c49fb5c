-- What a get leaves: a soft reference is stamped, and the slot holds what was got.
use Rattle.ref_objects.proofs.Common.{arith, ◌≡◌, ℕ, Bool, Ground, ap, referent_of, slice_index_or, sym, ◌∙◌, true}
use Rattle.ref_objects.proofs.Common.{false, refl, List, [], ◌∷◌, Option, Some, None, false≢true, is_some, Object}
use Rattle.ref_objects.proofs.Common.{Reference, object_at, changed_at, with_changed, with_reference, with_stamp}
use Rattle.ref_objects.proofs.Common.{reference_in, reference_at, with_slot, slot_at, reference_of}
use Rattle.ref_base.specs.Heaps.{Heap, got}
use Rattle.ref_base.specs.Paths.{is_soft}
use Rattle.ref_base.specs.Heaps.{got_at}
use Rattle.ref_base.specs.CollectorRows.{referent_got}
use Rattle.ref_objects.specs.Grounds.{read_as, renewed}
use Rattle.ref_objects.proofs.Common.{Tabled, Table, tabled_at, tabled_reference, changed, change_of, held_at}
use Rattle.ref_objects.proofs.Common.{subst, with_slot_at, ground_with_heap, Stored, IsSoundObjects, seen_ground}
use Rattle.ref_objects.proofs.Common.{slotted, tabled_held, ◌*◌, ◌+◌}
use Rattle.ref_objects.specs.Grounds.{ground_brought}
use Rattle.ref_objects.proofs.SlotLemmas.{read_sound, reference-held, got_sound, seen_got, got_value}
use Rattle.ref_objects.proofs.SlotLemmas.{written_in_sound, seen_written_in}
use Rattle.ref_objects.proofs.SoundLemmas.{slot_sound}
use Rattle.std.proofs.lemmas.Option.{none-some}
use Rattle.ref_space.specs.Naming.{IsReferentRead}
use Rattle.ref_space.specs.Tables.{changed_tabled, changed_if, changed_held, tabled_if, left_of, without_if_any}
use Rattle.ref_space.specs.Tables.{with_read}
use Rattle.ref_space.specs.Tables.{referent_held, table_got}
use Rattle.ref_space.specs.declared.word_name.WordName.{WordName}
use Rattle.ref_space.specs.declared.cell.Change.TheVariants.{Stamp}

-- changes that do the same to the object's reference are the same
changed_alike : (os : List Object) (n : ℕ) (f h : Reference → Reference) (r : Reference)
    → reference_in (object_at os n) ≡ Some r → f r ≡ h r
    → changed_at os n (with_reference f) ≡ changed_at os n (with_reference h)
changed_alike [] n f h r found alike = refl
changed_alike (o ∷ os) n f h r found alike = grind (arith, changed_alike os n f h r)

-- and one that leaves it as it was leaves all
changed_same : (os : List Object) (n : ℕ) (f : Reference → Reference) (r : Reference)
    → reference_in (object_at os n) ≡ Some r → f r ≡ r → changed_at os n (with_reference f) ≡ os
changed_same [] n f r found same_reference = refl
changed_same (o ∷ os) n f r found same_reference = grind (arith, changed_same os n f r)

-- a stamp at the clock renews a soft reference
stamped_renewed : (h : Heap) (n : ℕ) (r : Reference) (value : Option ℕ) → reference_at h n ≡ Some r
    → is_soft r.strength ≡ true → is_some value ≡ true
    → with_changed h n (with_reference (with_stamp h.clock)) ≡ renewed h n value
stamped_renewed h n r None found soft some = absurd (false≢true some)
stamped_renewed h n r (Some value) found soft some = grind (arith, changed_alike)

-- another reference isn't renewed
unstamped_renewed : (h : Heap) (n : ℕ) (r : Reference) (value : Option ℕ) → reference_at h n ≡ Some r
    → is_soft r.strength ≡ false → h ≡ renewed h n value
unstamped_renewed h n r None found other = refl
unstamped_renewed h n r (Some value) found other = grind (arith, changed_same)

-- then the slot holds it
got_renewed : (h : Heap) (m d s n : ℕ) (value : Option ℕ) → slot_at h m s ≡ Some n
    → with_slot (renewed h n value) m d value ≡ got h m d s value
got_renewed h m d s n None held = refl
got_renewed h m d s n (Some value) held = grind arith

got_unstamped : (h : Heap) (m d s n : ℕ) (r : Reference) (value : Option ℕ) → slot_at h m s ≡ Some n
    → reference_at h n ≡ Some r → is_soft r.strength ≡ false → with_slot h m d value ≡ got h m d s value
got_unstamped h m d s n r value held found other =
    ap (λ k. with_slot k m d value) (unstamped_renewed h n r value found other) ∙ got_renewed h m d s n value held

-- it refers to what it did
changed_referent : (os : List Object) (n : ℕ) (f : Reference → Reference)
    → ((r : Reference) → (f r).referent ≡ r.referent)
    → referent_of (reference_in (object_at (changed_at os n (with_reference f)) n))
    ≡ referent_of (reference_in (object_at os n))
changed_referent [] n f keeps = refl
changed_referent (o ∷ os) n f keeps = grind (arith, changed_referent os n f keeps)

renewed_referent : (h : Heap) (n : ℕ) (value : Option ℕ)
    → referent_of (reference_at (renewed h n value) n) ≡ referent_of (reference_at h n)
renewed_referent h n None = refl
renewed_referent h n (Some value) = changed_referent h.objects n (got_at h.clock) (λ r. grind arith)

renewed_slots : (h : Heap) (n : ℕ) (value : Option ℕ) → (renewed h n value).slots ≡ h.slots
renewed_slots h n None = refl
renewed_slots h n (Some value) = refl

-- an object that a get answers is the referent
read_some : (g : Ground) (hide : Bool) (value : Option ℕ) (n : ℕ) → read_as g hide value ≡ Some n → value ≡ Some n
read_some g hide None n is = is
read_some g hide (Some m) n is = grind arith

got_referent : (g : Ground) (hide : Bool) (r : Reference) (n : ℕ)
    → read_as g hide (referent_got (Some r)) ≡ Some n → r.referent ≡ Some n
got_referent g hide r n is = grind (arith, read_some g hide (referent_got (Some r)) n is)

got_refers : (g : Ground) (hide : Bool) (r : Reference) (k n : ℕ) (value : Option ℕ)
    → reference_at g.heap k ≡ Some r → value ≡ read_as g hide (referent_got (Some r)) → value ≡ Some n
    → referent_of (reference_at g.heap k) ≡ Some n
got_refers g hide r k n value reads answers is = ap referent_of reads ∙ got_referent g hide r n (sym answers ∙ is)

-- so once it is renewed the slot that was read still holds a reference to it
still_refers : (h : Heap) (k n place : ℕ) (value : Option ℕ) → slice_index_or h.slots place None ≡ Some k
    → referent_of (reference_at h k) ≡ Some n
    → referent_of (reference_of (renewed h k value) (slice_index_or (renewed h k value).slots place None)) ≡ Some n
still_refers h k n place value held refers =
    rw (renewed_slots h k value, held) (renewed_referent h k value ∙ refers)

-- ---- a word that was read of a reference stays so once that is stamped

abbrev referent_if : Table → Option ℕ → Option ℕ
referent_if t value = referent_of (tabled_reference (tabled_if t.tabled value))

stamped_referent : (ks : List Tabled) (n clock : ℕ)
    → referent_of (tabled_reference (tabled_at (changed_tabled ks n (change_of (Stamp clock))) n))
    ≡ referent_of (tabled_reference (tabled_at ks n))
stamped_referent [] n clock = refl
stamped_referent (k ∷ ks) n clock = grind (arith, stamped_referent ks n clock)

stamped_read : (t : Table) (place clock : ℕ) (word value : Option ℕ) → held_at t place ≡ value
    → IsReferentRead t place word → IsReferentRead (changed_if t value (change_of (Stamp clock))) place word
stamped_read t place clock word None held read = read
stamped_read t place clock word (Some n) held read = record {
  led = read.led;
  held = read.held ∙ ap (referent_if t) held ∙ sym (stamped_referent t.tabled n clock)
      ∙ ap (referent_if (changed t n (change_of (Stamp clock)))) (sym held);
  read = ap (λ s. changed s n (change_of (Stamp clock))) read.read;
}

pub still_read : (t : Table) (place clock : ℕ) (word : Option ℕ) → IsReferentRead t place word
    → IsReferentRead (changed_held t place (change_of (Stamp clock))) place word
still_read t place clock word read = stamped_read t place clock word (held_at t place) refl read

-- ---- a get, once the reference was read: the table is as it was, but for the word that was read last

has_number : (h : Heap) (r : Reference) (value : Option ℕ) → reference_of h value ≡ Some r
    → (n : ℕ) × (value ≡ Some n) × (reference_at h n ≡ Some r)
has_number h r None reads = absurd (none-some r reads)
has_number h r (Some n) reads = (n, refl, reads)

got_nothing : (g : Ground) (m d s place : ℕ) (value : Option ℕ) → is_some value ≡ false → place ≡ 16 * m + d
    → with_slot_at g place None ≡ ground_with_heap (ground_brought g value) (got g.heap m d s value)
got_nothing g m d s place None none at = ap (λ p. with_slot_at g p None) at
got_nothing g m d s place (Some n) none at = absurd (false≢true (sym none))

got_soft : (g : Ground) (m d s place n : ℕ) (value : Option ℕ) → place ≡ 16 * m + d → slot_at g.heap m s ≡ Some n
    → with_slot_at (ground_brought (ground_with_heap g (renewed g.heap n value)) value) place value
    ≡ ground_with_heap (ground_brought g value) (got g.heap m d s value)
got_soft g m d s place n value at held = grind (arith, got_renewed)

got_other : (g : Ground) (m d s place n : ℕ) (r : Reference) (value : Option ℕ) → place ≡ 16 * m + d
    → slot_at g.heap m s ≡ Some n → reference_at g.heap n ≡ Some r → is_soft r.strength ≡ false
    → with_slot_at (ground_brought g value) place value
    ≡ ground_with_heap (ground_brought g value) (got g.heap m d s value)
got_other g m d s place n r value at held found other = grind (arith, got_unstamped)

module _ {s : Stored} (sound : IsSoundObjects s) {word : Option WordName} {t : Table}
    (read : t ≡ with_read s.table word) where
  abbrev pub was : Ground
  was = seen_ground s

  read_still : IsSoundObjects (record s { table = t })
  read_still = subst (λ (r : Table). IsSoundObjects (record s { table = r })) (sym read) (read_sound sound word)

  seen_read : seen_ground (record s { table = t }) ≡ was
  seen_read = ap (λ (r : Table). seen_ground (record s { table = r })) read

  -- nothing is got
  pub emptied_sound : (place : ℕ) {u : Table} → u ≡ slotted t place None → IsSoundObjects (record s { table = u })
  emptied_sound place is =
      subst (λ (r : Table). IsSoundObjects (record s { table = r })) (sym is)
      (slot_sound read_still place None refl tt)

  pub seen_emptied : (m d a place : ℕ) (value : Option ℕ) {u : Table} → u ≡ slotted t place None
      → is_some value ≡ false → place ≡ 16 * m + d
      → seen_ground (record s { table = u }) ≡ ground_with_heap (ground_brought was value) (got was.heap m d a value)
  seen_emptied m d a place value is none at =
      ap (λ (r : Table). seen_ground (record s { table = r })) is
      ∙ ap (λ (g : Ground). with_slot_at g place None) seen_read ∙ got_nothing was m d a place value none at

  -- the referent is
  module _ (from : ℕ) {r : Reference} (reads : Some r ≡ tabled_reference (tabled_held s.table from)) where
    found : (n : ℕ) × (slice_index_or was.heap.slots from None ≡ Some n) × (reference_at was.heap n ≡ Some r)
    found =
        has_number was.heap r (held_at s.table from) (sym (reference-held sound (held_at s.table from)) ∙ sym reads)

    abbrev stamped : Table
    stamped = changed_held t from (change_of (Stamp s.clock))

    stamped_sound : IsSoundObjects (record s { table = stamped })
    stamped_sound = written_in_sound read_still from found.0 (Stamp s.clock) seen_read found.1

    pub other_sound : (into : ℕ) {u : Table} → u ≡ table_got t into from
        → left_of u ≡ without_if_any (left_of t) (referent_held t from) → IsSoundObjects (record s { table = u })
    other_sound into is left =
        subst (λ (r : Table). IsSoundObjects (record s { table = r })) (sym is)
        (got_sound read_still into from (ap left_of (sym is) ∙ left))

    pub soft_sound : (into : ℕ) {u : Table} → u ≡ table_got stamped into from
        → left_of u ≡ without_if_any (left_of stamped) (referent_held stamped from)
        → IsSoundObjects (record s { table = u })
    soft_sound into is left =
        subst (λ (r : Table). IsSoundObjects (record s { table = r })) (sym is)
        (got_sound stamped_sound into from (ap left_of (sym is) ∙ left))

    module _ (hide : Bool) (value : Option ℕ)
        (answers : value ≡ read_as (seen_ground (record s { table = t })) hide (referent_got (Some r)))
        (m a : ℕ) (from_at : from ≡ 16 * m + a) where
      pub got_answer : value ≡ read_as was hide (referent_got (reference_of was.heap (slot_at was.heap m a)))
      got_answer =
          answers ∙ ap (λ g. read_as g hide (referent_got (Some r))) seen_read
          ∙ ap (λ o. read_as was hide (referent_got o))
          (reads ∙ reference-held sound (held_at s.table from)
          ∙ ap (λ p. reference_of was.heap (slice_index_or was.heap.slots p None)) from_at)

      held : slot_at was.heap m a ≡ Some found.0
      held = ap (λ p. slice_index_or was.heap.slots p None) (sym from_at) ∙ found.1

      refers : (n : ℕ) → value ≡ Some n → referent_of (reference_at was.heap found.0) ≡ Some n
      refers n is =
          got_refers was hide r found.0 n value found.2
          (answers ∙ ap (λ g. read_as g hide (referent_got (Some r))) seen_read) is

      module _ (some : is_some value ≡ true) (d into : ℕ) (into_at : into ≡ 16 * m + d) where
        pub seen_other : is_soft r.strength ≡ false → {u : Table} → u ≡ table_got t into from
            → left_of u ≡ without_if_any (left_of t) (referent_held t from)
            → seen_ground (record s { table = u })
            ≡ ground_with_heap (ground_brought was value) (got was.heap m d a value)
        seen_other other is left =
            ap (λ (r : Table). seen_ground (record s { table = r })) is
            ∙ seen_got read_still into from (ap left_of (sym is) ∙ left) seen_read value
            (got_value read_still seen_read from value some
            (λ n is. ap (λ v. referent_of (reference_of was.heap v)) found.1 ∙ refers n is))
            ∙ got_other was m d a into found.0 r value into_at held found.2 other

        pub seen_soft : is_soft r.strength ≡ true → {u : Table} → u ≡ table_got stamped into from
            → left_of u ≡ without_if_any (left_of stamped) (referent_held stamped from)
            → seen_ground (record s { table = u })
            ≡ ground_with_heap (ground_brought was value) (got was.heap m d a value)
        seen_soft soft is left =
            ap (λ (r : Table). seen_ground (record s { table = r })) is
            ∙ seen_got stamped_sound into from (ap left_of (sym is) ∙ left) renewed_view value
            (got_value stamped_sound renewed_view from value some
            (λ n is. still_refers was.heap found.0 n from value found.1 (refers n is)))
            ∙ got_soft was m d a into found.0 value into_at held
          where
            renewed_view : seen_ground (record s { table = stamped })
                ≡ ground_with_heap was (renewed was.heap found.0 value)
            renewed_view =
                seen_written_in read_still from found.0 (Stamp s.clock) seen_read found.1
                ∙ ap (ground_with_heap was) (stamped_renewed was.heap found.0 r value found.2 soft some)
