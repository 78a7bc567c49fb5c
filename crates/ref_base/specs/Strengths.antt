-- How strongly an object is reachable (Java SE 17, package `java.lang.ref`; 'phantom' is this project's profile).
use Rattle.std.specs.Prelude.{◌≡◌, ℕ, true, ◌<◌, List, [], ◌∷◌, map, Option, Some, None}
use Rattle.std.specs.List.{AllByRecursion}
use Rattle.ref_base.specs.Graphs.{Graph, Object, Reference, object_at, numbers}
use Rattle.ref_base.specs.Paths.{EndsPath, no_referents, soft_referents, soft_and_weak_referents, is_phantom}
use Rattle.ref_base.specs.declared.reach.Reach.{Reach}
use Rattle.ref_base.specs.declared.reach.Reach.TheVariants.{Strong, Soft, Weak, Phantom, Unreachable}
use Rattle.ref_base.specs.declared.reach.ObjectReach.{ObjectReach}

-- there is a reference, which is a phantom one to n
abbrev pub IsPhantomReferenceTo : ℕ → Option Reference → Type 0
IsPhantomReferenceTo n None = ⊥
IsPhantomReferenceTo n (Some r) = (is_phantom r.strength ≡ true) × (r.referent ≡ Some n)

-- there is an object, which is a phantom reference to n
abbrev pub IsPhantomObjectTo : ℕ → Option Object → Type 0
IsPhantomObjectTo n None = ⊥
IsPhantomObjectTo n (Some o) = IsPhantomReferenceTo n o.reference

-- n is the referent of a phantom reference that is itself reachable by strong, soft and weak steps
abbrev pub HangsOnPhantom : Graph → ℕ → Type 0
HangsOnPhantom g n =
    (m : ℕ) × EndsPath soft_and_weak_referents g m × IsPhantomObjectTo n (object_at g.objects m)

-- n is so strongly reachable: strong where a path leads to it that goes through no reference; else soft where one does
-- that goes through soft references; else weak where one does that goes through soft and weak ones; else phantom
-- where it is the referent of a phantom reference that is strong, soft or weak; else unreachable
abbrev pub HasStrength : Graph → ℕ → Reach → Type 0
HasStrength g n Strong = EndsPath no_referents g n
HasStrength g n Soft = ¬ (EndsPath no_referents g n) × EndsPath soft_referents g n
HasStrength g n Weak = ¬ (EndsPath soft_referents g n) × EndsPath soft_and_weak_referents g n
HasStrength g n Phantom = ¬ (EndsPath soft_and_weak_referents g n) × HangsOnPhantom g n
HasStrength g n Unreachable = ¬ (EndsPath soft_and_weak_referents g n) × ¬ (HangsOnPhantom g n)

-- each number is greater than the one before
abbrev pub IsRising : List ℕ → Type 0
IsRising [] = Unit {0}
IsRising (n ∷ []) = Unit {0}
IsRising (n ∷ m ∷ ms) = (n < m) × IsRising (m ∷ ms)

-- the strengths of all objects, by number
pub record AreStrengths (g : Graph) (listed : List ObjectReach) : Type 0 where
  pub all : map (λ l. l.object) listed ≡ numbers g.objects
  pub by_number : IsRising (map (λ l. l.object) listed)
  pub each : AllByRecursion (λ l. HasStrength g l.object l.reach) listed
