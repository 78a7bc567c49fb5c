-- Where a path leaves what lives (this project's profile).
use Rattle.std.specs.Prelude.{◌≡◌, ℕ, Bool, true, false, ◌||◌, List, [], ◌∷◌, Some, ◌⊎◌}
use Rattle.ref_base.specs.Members.{has}
use Rattle.ref_base.specs.Graphs.{Object, Reference, object_at}
use Rattle.ref_base.specs.Paths.{soft_and_weak_referents}
use Rattle.ref_base.specs.DoomedSets.{new_clears}
use Rattle.ref_base.specs.Heaps.{reference_in}

-- whether one of the numbers is among the doomed
abbrev pub meets : List ℕ → List ℕ → Bool
meets d [] = false
meets d (n ∷ ns) = has d n || meets d ns

-- on the path that ends at n, read backwards, the step between these two is the first from outside the doomed to one
-- of them
abbrev pub FirstLeaves : List ℕ → ℕ → List ℕ → ℕ → ℕ → Type 0
FirstLeaves d n [] outer inner = ⊥
FirstLeaves d n (m ∷ before) outer inner =
    ((has d n ≡ true) × (meets d (m ∷ before) ≡ false) × (outer ≡ m) × (inner ≡ n)) ⊎
    FirstLeaves d m before outer inner

-- the step from the one object to the other is by the referent of a soft or weak reference that is a new clear
abbrev pub LeavesBy : List Object → List ℕ → ℕ → ℕ → Type 0
LeavesBy os d outer inner =
    (r : Reference) × (reference_in (object_at os outer) ≡ Some r) × (soft_and_weak_referents r ≡ true)
    × (r.referent ≡ Some inner) × (has (new_clears os d) outer ≡ true)
