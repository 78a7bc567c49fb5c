use Rattle.std.specs.Prelude.{◌≡◌, ◌-◌, length, drop}
use Rattle.std.specs.List.{list_any}
use Rattle.ref_judge.specs.declared.worker.Found.{Found}
use Rattle.ref_judge.proofs.worker.Worker.has_cleared.Given as goal

abbrev pub invariant-loop-place : goal.invariant-loop-place
invariant-loop-place g l =
    list_any (λ (f : Found). f.is_cleared) (drop l.place l.fn.self.found)
    ≡ list_any (λ (f : Found). f.is_cleared) (drop l.fn.self.at l.fn.self.found)

abbrev pub decreases-loop-place : goal.decreases-loop-place
decreases-loop-place g l = length l.fn.self.found - l.place
