-- Paths through an object graph (Java SE 17, package `java.lang.ref`: an object is reachable where a path leads to it).
use Rattle.std.specs.Prelude.{◌≡◌, ℕ, Bool, true, false, if◌then◌else◌, List, [], ◌∷◌, ◌++◌, Option, Some, None}
use Rattle.ref_base.specs.Members.{has}
use Rattle.ref_base.specs.Graphs.{Graph, Object, Reference, object_at, is_there}
use Rattle.ref_base.specs.declared.strength.Strength.{Strength}
use Rattle.ref_base.specs.declared.strength.Strength.TheVariants.{Soft, Weak, Phantom}

-- which references a path may go through to their referents
abbrev pub Allowed : Type 0
Allowed = Reference → Bool

abbrev pub is_soft : Strength → Bool
is_soft Soft = true
is_soft Weak = false
is_soft Phantom = false

abbrev pub is_weak : Strength → Bool
is_weak Soft = false
is_weak Weak = true
is_weak Phantom = false

abbrev pub is_phantom : Strength → Bool
is_phantom Soft = false
is_phantom Weak = false
is_phantom Phantom = true

-- a path goes over strong fields alone
abbrev pub no_referents : Allowed
no_referents r = false

-- a path goes over strong fields and the referents of soft references
abbrev pub soft_referents : Allowed
soft_referents r = is_soft r.strength

-- a path goes over strong fields and the referents of soft and weak references
abbrev pub soft_and_weak_referents : Allowed
soft_and_weak_referents r = if is_soft r.strength then true else is_weak r.strength

-- a path goes over strong fields and the referents of all references
abbrev pub any_referent : Allowed
any_referent r = true

-- the numbers that some fields or slots hold
abbrev pub present : List (Option ℕ) → List ℕ
present [] = []
present (Some n ∷ held) = n ∷ present held
present (None ∷ held) = present held

-- the one number that may be there, as a list
abbrev pub if_any : Option ℕ → List ℕ
if_any (Some n) = n ∷ []
if_any None = []

-- the referent of a reference that a path may go through
abbrev pub allowed_referent : Allowed → Option Reference → List ℕ
allowed_referent allow None = []
allowed_referent allow (Some r) = if allow r then if_any r.referent else []

-- where a path may go on to from an object: its fields, then its referent
abbrev pub targets_of : Allowed → Option Object → List ℕ
targets_of allow None = []
targets_of allow (Some o) = present o.fields ++ allowed_referent allow o.reference

-- where a path may go on to from the object of number m
abbrev pub targets_at : Allowed → List Object → ℕ → List ℕ
targets_at allow os m = targets_of allow (object_at os m)

-- a path that ends at n, read backwards: it begins at a root, and each object is a target of the one before
abbrev pub IsPath : Allowed → Graph → ℕ → List ℕ → Type 0
IsPath allow g n [] = (is_there g.objects n ≡ true) × (has g.roots n ≡ true)
IsPath allow g n (m ∷ before) =
    (is_there g.objects n ≡ true) × (has (targets_at allow g.objects m) n ≡ true) × IsPath allow g m before

-- some path ends at n
abbrev pub EndsPath : Allowed → Graph → ℕ → Type 0
EndsPath allow g n = (before : List ℕ) × IsPath allow g n before
