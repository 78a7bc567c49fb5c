-- What a mark's end dooms, and which references it clears (Java SE 17, package `java.lang.ref`: the references to what
-- is no longer reachable so are cleared at one instant; which objects are doomed is this project's profile).
use Rattle.std.specs.Prelude.{◌≡◌, ℕ, Bool, true, false, not, ◌&&◌, if◌then◌else◌, nat_lt, List, [], ◌∷◌, Option, Some}
use Rattle.std.specs.Prelude.{None}
use Rattle.ref_base.specs.Members.{has}
use Rattle.ref_base.specs.Graphs.{Graph, Object, Reference, is_there}
use Rattle.ref_base.specs.Paths.{targets_at}
use Rattle.ref_base.specs.KeptPaths.{is_kept, IsKept, EverKept}
use Rattle.ref_base.specs.declared.policy.Policy.{Policy}

-- the numbers of the objects that were made before the cycle began and that no row of the cycle scanned
abbrev pub unscanned : List Object → ℕ → List ℕ → List ℕ
unscanned [] born scanned = []
unscanned (o ∷ os) born scanned =
    if nat_lt o.no born && not (has scanned o.no) then o.no ∷ unscanned os born scanned else unscanned os born scanned

-- A mark that ends at graph g may doom the objects d: no kept path leads to one of them; each object is among them to
-- which none ever led in this mark; and no object outside them leads into them by a strong field or as a kept soft
-- reference.
pub record MayDoom (p : Policy) (g : Graph) (moments : List Graph) (d : List ℕ) : Type 0 where
  pub none_kept : (n : ℕ) → has d n ≡ true → ¬ (IsKept p g n)
  pub never_kept : (n : ℕ) → is_there g.objects n ≡ true → ¬ (EverKept p moments n) → has d n ≡ true
  pub closed :
      (m n : ℕ) → is_there g.objects m ≡ true → has d m ≡ false → has (targets_at (is_kept p) g.objects m) n ≡ true
      → has d n ≡ false

-- whether there is a number, and it passes the test
abbrev pub any_is : (ℕ → Bool) → Option ℕ → Bool
any_is test None = false
any_is test (Some n) = test n

-- whether this is a reference, it has a referent, and that passes the test
abbrev pub refers_into : (ℕ → Bool) → Option Reference → Bool
refers_into test None = false
refers_into test (Some r) = any_is test r.referent

-- whether the object is a reference outside the doomed whose referent is doomed
abbrev pub is_new_clear : List ℕ → Object → Bool
is_new_clear d o = not (has d o.no) && refers_into (has d) o.reference

-- the numbers of these
abbrev pub new_clears : List Object → List ℕ → List ℕ
new_clears [] d = []
new_clears (o ∷ os) d =
    if is_new_clear d o then o.no ∷ new_clears os d else new_clears os d
