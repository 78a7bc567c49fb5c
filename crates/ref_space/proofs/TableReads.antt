-- What is read of a table's objects as of a graph's, and what holds and changes leave of them.
use Rattle.ref_space.proofs.Common.{◌≡◌, ℕ, ◌≤◌, Bool, true, false, nat_lt, refl, sym, if◌then◌else◌, ap, arith, List}
use Rattle.ref_space.proofs.Common.{[], ◌∷◌, length, Option, Some, None, le-ltb, false≢true, object_at, numbers, Tabled}
use Rattle.ref_space.proofs.Common.{tabled_at, objects_of, holds_of, object_in, holds_in, has_field, changed_tabled}
use Rattle.ref_space.proofs.Common.{reference_in, numbers_by, fields_in, Change, tabled_fields, tabled_reference}
use Rattle.ref_space.specs.Tables.{more_held}
use Rattle.ref_base.specs.Refusals.{field_count}
use Rattle.ref_space.proofs.TabledLemmas.{object_at-objects_of}
use Rattle.ref_space.proofs.CountLemmas.{length-without}
use Rattle.ref_space.specs.Tables as table

-- ---- what is read

pub fields-tabled : (ks : List Tabled) (n : ℕ)
    → tabled_fields (tabled_at ks n) ≡ fields_in (object_at (objects_of ks) n)
fields-tabled ks n = rw (object_at-objects_of ks n) refl

has_field-object : (k : Option Tabled) (i : ℕ) → has_field k i ≡ nat_lt i (field_count (object_in k))
has_field-object None i = sym (le-ltb i 0 (omega arith))
has_field-object (Some k) i = refl

pub has_field-tabled : (ks : List Tabled) (n i : ℕ)
    → has_field (tabled_at ks n) i ≡ nat_lt i (field_count (object_at (objects_of ks) n))
has_field-tabled ks n i = rw (object_at-objects_of ks n) (has_field-object (tabled_at ks n) i)

pub reference-tabled : (ks : List Tabled) (n : ℕ)
    → tabled_reference (tabled_at ks n) ≡ reference_in (object_at (objects_of ks) n)
reference-tabled ks n = ap reference_in (sym (object_at-objects_of ks n))

-- each number is one of an object
pub numbers-all : (ks : List Tabled) → numbers_by (λ k. 1) ks ≡ numbers (objects_of ks)
numbers-all [] = refl
numbers-all (k ∷ ks) = ap (λ ns. k.object.no ∷ ns) (numbers-all ks)

-- ---- an object changed

pub change_holds : (change : Change) (k : Tabled) → (table.change_of change k).holds ≡ k.holds
change_holds change k = grind arith

-- ---- holds

-- no object is held oftener than there are holds
pub holds_in-le : (ks : List Tabled) (n : ℕ) → holds_in (tabled_at ks n) ≤ length (holds_of ks)
holds_in-le ks n = omega (arith, length-without (λ k. k.holds) ks n)

-- one hold more where the object may be held, and else none
pub held_keeps : (r : ℕ) (if_marked : Bool) (k : Tabled)
    → (table.more_held_if r if_marked k).object.no ≡ k.object.no
held_keeps r if_marked k = grind arith

pub held_leaves : (r : ℕ) (if_marked : Bool) (k : Tabled)
    → (table.more_held_if r if_marked k).marked_in ≡ k.marked_in
held_leaves r if_marked k = grind arith

pub changed-held : (r : ℕ) (ks : List Tabled) (n : ℕ) (if_marked b : Bool)
    → table.may_hold r if_marked (tabled_at ks n) ≡ b
    → changed_tabled ks n (table.more_held_if r if_marked) ≡ (if b then changed_tabled ks n more_held else ks)
changed-held r [] n if_marked true may = absurd (false≢true may)
changed-held r [] n if_marked false not = refl
changed-held r (k ∷ ks) n if_marked b may = grind (arith, changed-held r ks n if_marked b)

pub held_object : (r : ℕ) (if_marked : Bool) (k : Tabled) → (table.more_held_if r if_marked k).object ≡ k.object
held_object r if_marked k = grind arith
