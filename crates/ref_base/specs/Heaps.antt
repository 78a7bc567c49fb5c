-- What mutators see of a heap, as plain data, and the changes that their calls make to it (package `java.lang.ref` of
-- Java SE 17 for what the calls of a reference do; slots, holds and the clock: this project's profile).
use Rattle.std.specs.Prelude.{ℕ, ◌+◌, ◌*◌, ◌==◌, if◌then◌else◌, nat_lt, List, [], ◌∷◌, ◌++◌, replicate, Option, Some}
use Rattle.std.specs.Prelude.{None, slice_index_or, slice_set}
use Rattle.ref_base.specs.Members.{without_first}
use Rattle.ref_base.specs.Graphs.{Object, Reference, object_at}
use Rattle.ref_base.specs.Paths.{is_soft}
use Rattle.ref_base.specs.declared.config.Config.{Config}
use Rattle.ref_base.specs.declared.strength.Strength.{Strength}

-- A heap: its configuration and number; the objects in order of number; slot s of mutator m, at 16 * m + s of the
-- slots; one number for each hold that is out, in order; and the clock.
pub record Heap : Type 0 where
  pub config : Config
  pub no : ℕ
  pub objects : List Object
  pub slots : List (Option ℕ)
  pub holds : List ℕ
  pub clock : ℕ

-- at first there is no object, and each slot is empty
abbrev pub first_heap : Config → ℕ → Heap
first_heap config number = record {
  config = config;
  no = number;
  objects = [];
  slots = replicate (16 * config.mutators) None;
  holds = [];
  clock = 0;
}

-- ---- what is read

abbrev pub slot_at : Heap → ℕ → ℕ → Option ℕ
slot_at h m s = slice_index_or h.slots (16 * m + s) None

abbrev pub reference_in : Option Object → Option Reference
reference_in None = None
reference_in (Some o) = o.reference

-- the reference that the object of this number is, if it is one
abbrev pub reference_at : Heap → ℕ → Option Reference
reference_at h n = reference_in (object_at h.objects n)

-- the queue that the reference is registered with, if any
abbrev pub registered_in : Option Reference → Option ℕ
registered_in None = None
registered_in (Some r) = r.queue

-- ---- slots and holds

abbrev pub with_slot : Heap → ℕ → ℕ → Option ℕ → Heap
with_slot h m s value = record h { slots = slice_set h.slots (16 * m + s) value }

-- one hold more of n, in order
abbrev pub one_more : List ℕ → ℕ → List ℕ
one_more [] n = n ∷ []
one_more (m ∷ ms) n = if nat_lt m n then m ∷ one_more ms n else n ∷ m ∷ ms

-- one hold fewer of n, where there is one
abbrev pub one_fewer : List ℕ → ℕ → List ℕ
one_fewer ns n = without_first (λ m. m) ns n

abbrev pub with_hold : Heap → ℕ → Heap
with_hold h n = record h { holds = one_more h.holds n }

abbrev pub without_hold : Heap → ℕ → Heap
without_hold h n = record h { holds = one_fewer h.holds n }

-- ---- objects

-- the objects with the one of number n changed
abbrev pub changed_at : List Object → ℕ → (Object → Object) → List Object
changed_at [] n f = []
changed_at (o ∷ os) n f = if o.no == n then f o ∷ os else o ∷ changed_at os n f

abbrev pub with_changed : Heap → ℕ → (Object → Object) → Heap
with_changed h n f = record h { objects = changed_at h.objects n f }

-- the object in the slot is changed, if there is one
abbrev pub changed_in : Heap → Option ℕ → (Object → Object) → Heap
changed_in h None f = h
changed_in h (Some n) f = with_changed h n f

-- the field holds the value
abbrev pub with_field : ℕ → Option ℕ → Object → Object
with_field i value o = record o { fields = slice_set o.fields i value }

abbrev pub changed_reference : (Reference → Reference) → Option Reference → Option Reference
changed_reference f None = None
changed_reference f (Some r) = Some (f r)

-- the object with its reference changed, if it is one
abbrev pub with_reference : (Reference → Reference) → Object → Object
with_reference f o = record o { reference = changed_reference f o.reference }

-- the reference is cleared
abbrev pub cleared : Reference → Reference
cleared r = record r { referent = None }

-- the clock at which the reference was made or last got
abbrev pub with_stamp : ℕ → Reference → Reference
with_stamp stamp r = record r { stamp = stamp }

-- the reference, if soft, was got at this clock
abbrev pub got_at : ℕ → Reference → Reference
got_at clock r = if is_soft r.strength then with_stamp clock r else r

-- ---- what calls change

abbrev pub with_clock : Heap → ℕ → Heap
with_clock h now = record h { clock = now }

-- k fields, all of them null
abbrev pub nulls : ℕ → List (Option ℕ)
nulls k = replicate k None

-- a reference made now: its stamp is the clock if it is soft, and else 0
abbrev pub reference_made : Heap → Strength → Option ℕ → Option ℕ → Reference
reference_made h strength referent queue = record {
  strength = strength;
  referent = referent;
  stamp = if is_soft strength then h.clock else 0;
  queue = queue;
}

-- an object of so many null fields that is a reference made now
abbrev pub new_reference : Heap → ℕ → Strength → Option ℕ → Option ℕ → ℕ → Object
new_reference h n strength referent queue k =
    record { no = n; fields = nulls k; reference = Some (reference_made h strength referent queue) }

-- the object is there, and the slot holds it
abbrev pub made : Heap → ℕ → ℕ → Object → Heap
made h m s o = with_slot (record h { objects = h.objects ++ o ∷ [] }) m s (Some o.no)

-- the field of the object in slot s holds what slot v holds
abbrev pub stored : Heap → ℕ → ℕ → ℕ → ℕ → Heap
stored h m s i v = changed_in h (slot_at h m s) (with_field i (slot_at h m v))

-- slot d holds what was got, which renews the stamp of a soft reference
abbrev pub got : Heap → ℕ → ℕ → ℕ → Option ℕ → Heap
got h m d s None = with_slot h m d None
got h m d s (Some n) = with_slot (changed_in h (slot_at h m s) (with_reference (got_at h.clock))) m d (Some n)

-- the reference in the slot is cleared
abbrev pub cut : Heap → ℕ → ℕ → Heap
cut h m s = changed_in h (slot_at h m s) (with_reference cleared)
