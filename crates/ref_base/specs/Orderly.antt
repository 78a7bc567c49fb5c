-- What holds of a heap at all times (this project's profile).
use Rattle.std.specs.Prelude.{◌≡◌, ℕ, ◌*◌, ◌<◌, true, length}
use Rattle.ref_base.specs.Graphs.{is_there, numbers}
use Rattle.ref_base.specs.Strengths.{IsRising}
use Rattle.ref_base.specs.Heaps.{Heap}

-- the objects stand in order of number, each has a number below the next that is given, and each mutator has 16 slots
pub record IsOrderly (h : Heap) (next : ℕ) : Type 0 where
  pub rising : IsRising (numbers h.objects)
  pub below : (n : ℕ) → is_there h.objects n ≡ true → n < next
  pub slots : length h.slots ≡ 16 * h.config.mutators
