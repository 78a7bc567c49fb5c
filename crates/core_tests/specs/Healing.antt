-- What holds of a marker between any two calls of a story, so that its cycles may end.
use Rattle.std.specs.Prelude.{◌≡◌, ℕ, true, []}
use Rattle.ref_base.specs.Members.{has}
use Rattle.ref_mark.specs.CycleHeaps.{CycleHeap, is_past_mark}

-- what is unhealed and was reached is still to be scanned; and once a mark has ended, nothing is
pub record IsHealing (k : CycleHeap) : Type 0 where
  pub reached : (n : ℕ) → has k.space.unhealed n ≡ true → has k.marked n ≡ true → has k.grey n ≡ true
  pub ended : is_past_mark k.phase ≡ true → k.grey ≡ []
