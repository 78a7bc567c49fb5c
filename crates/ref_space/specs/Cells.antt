-- What a cell has of the object that lies there, as its fields tell it.
use Rattle.std.specs.Prelude.{ℕ, Bool, if◌then◌else◌, List, Option, Some, None}
use Rattle.ref_base.specs.Graphs.{Reference}
use Rattle.ref_base.specs.declared.strength.Strength.{Strength}
use Rattle.ref_base.specs.declared.strength.Strength.TheVariants as strengths
use Rattle.ref_space.specs.declared.kind.Kind.{Kind}
use Rattle.ref_space.specs.declared.kind.Kind.TheVariants.{Free, Plain, Soft, Weak, Phantom}
use Rattle.ref_space.specs.Tables.{Tabled}

-- the kind of an object that is a reference of this strength, or none
abbrev pub kind_of : Option Strength → Kind
kind_of None = Plain
kind_of (Some strengths.Soft) = Soft
kind_of (Some strengths.Weak) = Weak
kind_of (Some strengths.Phantom) = Phantom

-- how strong the reference is that lies there, if one does
abbrev pub strength_of : Kind → Option Strength
strength_of Free = None
strength_of Plain = None
strength_of Soft = Some strengths.Soft
strength_of Weak = Some strengths.Weak
strength_of Phantom = Some strengths.Phantom

-- the number of the object that lies there, if one does
abbrev pub number_by_kind : Kind → ℕ → Option ℕ
number_by_kind Free n = None
number_by_kind Plain n = Some n
number_by_kind Soft n = Some n
number_by_kind Weak n = Some n
number_by_kind Phantom n = Some n

-- the queue that a reference is registered with, if it is
abbrev pub queue_if : Bool → ℕ → Option ℕ
queue_if registered queue = if registered then Some queue else None

-- what lies there as a reference, if it is one
abbrev pub reference_by : Option Strength → Option ℕ → ℕ → Option ℕ → Option Reference
reference_by None referent stamp queue = None
reference_by (Some strength) referent stamp queue =
    Some (record { strength = strength; referent = referent; stamp = stamp; queue = queue })

-- what a cell holds: an object, or nothing where it has no number
abbrev pub tabled_in : Option ℕ → List (Option ℕ) → Option Reference → ℕ → ℕ → ℕ → ℕ → ℕ → Option Tabled
tabled_in None fields reference holds marked_in healed_in link cleared_in = None
tabled_in (Some n) fields reference holds marked_in healed_in link cleared_in = Some (record {
  object = record { no = n; fields = fields; reference = reference };
  holds = holds;
  marked_in = marked_in;
  healed_in = healed_in;
  link = link;
  cleared_in = cleared_in;
})
