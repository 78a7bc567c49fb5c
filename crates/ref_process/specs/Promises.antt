-- What a runtime promises of its marks.
use Rattle.std.specs.Prelude.{◌≡◌, ℕ, Bool, true}
use Rattle.ref_base.specs.Graphs.{Graph, is_there}
use Rattle.ref_base.specs.KeptPaths.{is_kept}
use Rattle.ref_base.specs.Members.{has}
use Rattle.ref_base.specs.Paths.{targets_at}
use Rattle.ref_base.specs.declared.policy.Policy.{Policy}

-- What is marked has the roots of a graph, and where it has an object it has those that its strong fields name, and the
-- referent of a soft reference that is kept.
pub record MarksKept (p : Policy) (g : Graph) (marked : ℕ → Bool) : Type 0 where
  pub roots : (n : ℕ) → is_there g.objects n ≡ true → has g.roots n ≡ true → marked n ≡ true
  pub closed :
      (m n : ℕ) → is_there g.objects n ≡ true → marked m ≡ true
      → has (targets_at (is_kept p) g.objects m) n ≡ true → marked n ≡ true
