-- What the table's objects say as the list of a world's objects.
use Rattle.ref_space.proofs.Common.{◌≡◌, ℕ, ◌≤◌, refl, ◌∙◌, ap, List, [], ◌∷◌, map, Option, Some, None, arith}
use Rattle.ref_space.proofs.Common.{is_some, Object, object_at, is_there, numbers, IsRising, Tabled, tabled_at}
use Rattle.ref_space.proofs.Common.{objects_of, object_in, on_object, changed_tabled, without_tabled, changed_at}
use Rattle.ref_base.specs.CollectorRows.{without as without_numbers}

-- ---- the objects

-- a look-up among the objects is that of the table
pub object_at-objects_of : (ks : List Tabled) (n : ℕ) → object_at (objects_of ks) n ≡ object_in (tabled_at ks n)
object_at-objects_of [] n = refl
object_at-objects_of (k ∷ ks) n = grind (arith, object_at-objects_of ks n)

pub is_some-object_in : (k : Option Tabled) → is_some (object_in k) ≡ is_some k
is_some-object_in None = refl
is_some-object_in (Some k) = refl

pub is_there-objects_of : (ks : List Tabled) (n : ℕ) → is_there (objects_of ks) n ≡ is_some (tabled_at ks n)
is_there-objects_of ks n = ap is_some (object_at-objects_of ks n) ∙ is_some-object_in (tabled_at ks n)

-- a change of an object is a change among the objects
pub objects_of-changed : (ks : List Tabled) (n : ℕ) (f : Object → Object)
    → objects_of (changed_tabled ks n (on_object f)) ≡ changed_at (objects_of ks) n f
objects_of-changed [] n f = refl
objects_of-changed (k ∷ ks) n f = grind (arith, objects_of-changed ks n f)

-- a change that keeps what is told of each object, as the object itself, is none of what is told
module _ {X : Type 0} (told : Tabled → X) (f : Tabled → Tabled) (keeps : (k : Tabled) → told (f k) ≡ told k) where
  pub map-changed : (ks : List Tabled) (n : ℕ) → map told (changed_tabled ks n f) ≡ map told ks
  map-changed [] n = refl
  map-changed (k ∷ ks) n = grind (arith, map-changed ks n)

  pub map-each : (ks : List Tabled) → map told (map f ks) ≡ map told ks
  map-each [] = refl
  map-each (k ∷ ks) = rw (keeps k) (ap (λ xs. told k ∷ xs) (map-each ks))

-- numbers that rise from one on don't have it again
without_numbers-above : (os : List Object) (n m : ℕ) → n ≤ m → IsRising (m ∷ numbers os)
    → without_numbers (n ∷ []) os ≡ os
without_numbers-above [] n m order rising = refl
without_numbers-above (o ∷ os) n m order rising = grind (arith, without_numbers-above os n o.no)

-- an object that goes is gone from among the objects
pub objects_of-without : (ks : List Tabled) (n : ℕ) → IsRising (numbers (objects_of ks))
    → objects_of (without_tabled ks n) ≡ without_numbers (n ∷ []) (objects_of ks)
objects_of-without [] n rising = refl
objects_of-without (k ∷ ks) n rising = grind (arith, without_numbers-above, objects_of-without ks n)
