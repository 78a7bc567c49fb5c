-- That numbers are given once (this project's profile).
use Rattle.std.specs.Prelude.{◌≡◌, ℕ, true, ◌<◌}
use Rattle.ref_base.specs.Members.{has}
use Rattle.ref_base.specs.Graphs.{is_there, numbers}
use Rattle.ref_base.specs.Strengths.{IsRising}
use Rattle.ref_base.specs.Paths.{any_referent, targets_at}
use Rattle.ref_base.specs.Worlds.{graph_of}
use Rattle.ref_base.specs.Collectors.{State}

-- The objects stand in order of number, and each number that is named is below the next that is given: of an object, of
-- a root, of a field or referent, of what is doomed and of what a mark's end cleared.
pub record HasOldNumbers (a : State) : Type 0 where
  pub rising : IsRising (numbers a.world.heap.objects)
  pub objects : (n : ℕ) → is_there a.world.heap.objects n ≡ true → n < a.next
  pub roots : (n : ℕ) → has (graph_of a.world).roots n ≡ true → n < a.next
  pub targets : (m n : ℕ) → has (targets_at any_referent a.world.heap.objects m) n ≡ true → n < a.next
  pub doomed : (n : ℕ) → has a.doomed n ≡ true → n < a.next
  pub cleared : (n : ℕ) → has a.cleared n ≡ true → n < a.next
